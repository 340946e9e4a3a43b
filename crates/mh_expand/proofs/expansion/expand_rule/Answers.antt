use Rattle.std.proofs.Common.{◌≡◌, ◌++◌, List, flat_map, sym, ap, ◌∙◌, arith}
use Rattle.std.proofs.lemmas.Result.{IfOk-weaker, IfErr-weaker}
use Rattle.mh_expand.specs.Terms.{Term, arguments}
use Rattle.mh_expand.specs.Expansion.{IsFirstFaultIn, IsMemoryOr, right_side}
use Rattle.mh_expand.specs.code.SharedTerms.{terms_of, term_at, terms_at}
use Rattle.mh_expand.specs.code.InstanceSearch.{IsInstanceSearch, FindsAlternatives}
use Rattle.mh_expand.proofs.SharedTerms.{node_arguments}
use Rattle.mh_expand.proofs.expansion.expand_rule.Goals as goal

pub expand_alternatives-requires-clause-formals : goal.expand_alternatives-requires-clause-formals
expand_alternatives-requires-clause-formals c = rw (c.as_slice.ensures, c.in_ok-formals.ensures) (λ k d l. omega (arith, c.at-node.ensures.below k d l, c.requires.number))

pub returns-clause-ok : goal.returns-clause-ok
returns-clause-ok c =
    let j = c.args.joined.now in
    let ts = terms_of c.args.terms.now.nodes.keys in
    let t = term_at ts c.args.number in
    let same : arguments t ≡ terms_at ts c.as_slice.result.now = node_arguments ts c.args.number c.at-node.result.now c.at-node.ensures.means ∙ ap (terms_at ts) (sym (c.as_slice.ensures ∙ c.in_ok-formals.ensures)) in
    IfOk-weaker c.expand_alternatives.result (λ ps. (before : List Term) (x : Term) → arguments x ≡ terms_at ts c.as_slice.result.now → IsInstanceSearch j before ts c.args.found.now.keys → FindsAlternatives j before ts (terms_of c.expand_alternatives.new.terms.nodes.keys) c.args.found.now.keys c.expand_alternatives.new.found.keys x c.args.alternatives.now ps) _ (λ ps went before s. went before t same s) c.expand_alternatives.ensures.ok

pub returns-clause-err : goal.returns-clause-err
returns-clause-err c =
    let j = c.args.joined.now in
    let ts = terms_of c.args.terms.now.nodes.keys in
    let t = term_at ts c.args.number in
    let same : arguments t ≡ terms_at ts c.as_slice.result.now = node_arguments ts c.args.number c.at-node.result.now c.at-node.ensures.means ∙ ap (terms_at ts) (sym (c.as_slice.ensures ∙ c.in_ok-formals.ensures)) in
    IfErr-weaker c.expand_alternatives.result (λ fault. (before : List Term) (x : Term) → arguments x ≡ terms_at ts c.as_slice.result.now → IsInstanceSearch j before ts c.args.found.now.keys → IsMemoryOr (IsFirstFaultIn j (before ++ flat_map (right_side x) c.args.alternatives.now)) fault) _ (λ fault failed before s. failed before t same s) c.expand_alternatives.ensures.err
