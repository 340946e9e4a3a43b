use Rattle.std.proofs.Common.{◌≡◌, ◌<◌, ◌++◌, Some, length, flat_map, get_or, sym, ap, subst, ◌∙◌}
use Rattle.std.specs.Option.{option_map}
use Rattle.mh_rules.specs.declared.joined.JoinedRule.{JoinedRule}
use Rattle.mh_expand.specs.Terms.{Term, arguments}
use Rattle.mh_expand.specs.Expansion.{IsFirstFaultIn, IsMemoryOr, rule_at, rule_of, alternatives_of, producers_of, right_side, IsOnErrorRank}
use Rattle.mh_expand.specs.code.SharedTerms.{terms_of, term_at}
use Rattle.mh_expand.specs.code.InstanceSearch.{IsExpandable, FindsInstance}
use Rattle.mh_expand.proofs.SharedTerms.{slice_get-term_at, node_head}
use Rattle.mh_expand.proofs.FindsTerms.{rule_exists, alternatives_of_rule}
use Rattle.mh_expand.proofs.expansion.expand_instance.Goals as goal

pub rule_of-rule-requires : goal.rule_of-rule-requires
rule_of-rule-requires c =
    let ts = terms_of c.args.terms.now.nodes.keys in
    let number = get_or c.as_slice.result.now c.args.place 0 in
    let head = node_head ts number c.at-node.result.now c.at-node.ensures.means in
    let fit : IsExpandable c.args.joined.now (term_at ts number) = rw c.as_slice.ensures.keys c.requires.fit in
    rule_exists c.args.joined.now c.at-node.result.now.head (length (arguments (term_at ts number))) (rw head at fit.instance) (rw head at fit.right_arity)

pub name_of-requires-clause-short : goal.name_of-requires-clause-short
name_of-requires-clause-short c =
    let fit : IsExpandable c.args.joined.now (term_at (terms_of c.args.terms.now.nodes.keys) (get_or c.as_slice.result.now c.args.place 0)) = rw c.as_slice.ensures.keys c.requires.fit in
    fit.short_name

pub expand_rule-requires-clause-number : goal.expand_rule-requires-clause-number
expand_rule-requires-clause-number c = rw c.as_slice.ensures.keys (c.requires.below c.args.place 0 c.requires.place)

pub returns-in-Err-clause-err : goal.returns-in-Err-clause-err
returns-in-Err-clause-err c = λ before s.
    let j = c.args.joined.now in
    let ts = terms_of c.args.terms.now.nodes.keys in
    let number = get_or c.as_slice.result.now c.args.place 0 in
    let t = term_at ts number in
    let rule : rule_of j t ≡ Some c.rule_of-rule.result.now = ap (rule_at j) (node_head ts number c.at-node.result.now c.at-node.ensures.means) ∙ c.rule_of-rule.ensures in
    let whole : before ++ producers_of j t ≡ before ++ flat_map (right_side t) c.as_slice-alternatives.result.now = ap (λ l. before ++ flat_map (right_side t) l) (alternatives_of_rule j t c.rule_of-rule.result.now rule ∙ sym c.as_slice-alternatives.ensures) in
    let family : Term → Type 0 = λ x. IsMemoryOr (IsFirstFaultIn j (before ++ producers_of j x)) c.in-Err.fault in
    subst family (ap (λ ks. term_at ts (get_or ks c.args.place 0)) c.as_slice.ensures.keys) (rw whole (c.in-Err.ensures.err before s))

pub returns-in-Ok-clause-ok : goal.returns-in-Ok-clause-ok
returns-in-Ok-clause-ok c = λ before s.
    let j = c.args.joined.now in
    let ts = terms_of c.args.terms.now.nodes.keys in
    let number = get_or c.as_slice.result.now c.args.place 0 in
    let t = term_at ts number in
    let l : number < length ts = rw c.as_slice.ensures.keys (c.requires.below c.args.place 0 c.requires.place) in
    let rule : rule_of j t ≡ Some c.rule_of-rule.result.now = ap (rule_at j) (node_head ts number c.at-node.result.now c.at-node.ensures.means) ∙ c.rule_of-rule.ensures in
    let alternatives : c.as_slice-alternatives.result.now ≡ alternatives_of j t = c.as_slice-alternatives.ensures ∙ sym (alternatives_of_rule j t c.rule_of-rule.result.now rule) in
    let w = rw alternatives at (c.in-Ok.ensures.ok before s) in
    let rank : IsOnErrorRank j.on_error t c.rank_of.result = rw c.rank_of.ensures (c.requires.ranks.each number t (slice_get-term_at ts number l)) in
    let family : Term → Type 0 = λ x. FindsInstance j before ts (terms_of c.expand_rule.new.terms.nodes.keys) c.args.found.now.keys c.expand_rule.new.found.keys x (record { name = c.in_ok-name.name; inlined = c.rule_of-rule.result.now.inlined; on_error = c.rank_of.result; productions = c.in-Ok.productions }) in
    subst family (ap (λ ks. term_at ts (get_or ks c.args.place 0)) c.as_slice.ensures.keys) (record {
      terms_found = w.terms_found;
      is_instance = record {
        name = c.in_ok-name.ensures;
        inlined = ap (option_map (λ (q : JoinedRule). q.inlined)) rule;
        on_error = rank;
        productions = w.are_productions;
      };
    })
