use Rattle.std.proofs.Common.{◌≡◌, refl, sym, ap, ◌∙◌}
use Rattle.std.proofs.lemmas.List.{nil_from_length}
use Rattle.mh_rules.specs.declared.joined.Head.TheVariants.{Token}
use Rattle.mh_expand.specs.Terms.{Atom, apply_all}
use Rattle.mh_expand.specs.code.SharedTerms.{terms_of, term_at, terms_at, node_term}
use Rattle.mh_expand.proofs.SharedTerms.{node_count, node_head, term_at-slice_get}
use Rattle.mh_expand.proofs.AreFound.{FindsTerm-token}
use Rattle.mh_expand.proofs.search.find.Goals as goal
use Rattle.mh_expand.proofs.search.find.Goals.{in_default-via-in-Token+else-is_empty, in_default-via-in_default}

pub find_instance-requires-clause-rule : goal.find_instance-requires-clause-rule
find_instance-requires-clause-rule c = node_head (terms_of c.args.terms.now.nodes.keys) c.args.number c.at-node.result.now c.at-node.ensures.means ∙ c.in-Rule.is

pub wrong_count-requires-clause-count : goal.wrong_count-requires-clause-count
wrong_count-requires-clause-count c = λ f.
    let ts = terms_of c.args.terms.now.nodes.keys in
    let count = node_count ts c.args.number c.at-node.result.now c.at-node.ensures.means in
    let head = node_head ts c.args.number c.at-node.result.now c.at-node.ensures.means in
    elim c.in_default.branch [
      | in_default-via-in-Token+else-is_empty w ↦ (let g = rw (head ∙ w.in-Token.is) at f in
          let e = nil_from_length c.at-node.result.now.args (sym count ∙ g) in
          let u = w.if-is_empty.ensures.1 e in cc)
      | in_default-via-in_default w ↦ (let g = rw (head ∙ w.in_default.is) at f in g)
    ]

pub returns-in-Token-clause-ok : goal.returns-in-Token-clause-ok
returns-in-Token-clause-ok c = λ before s.
    let ts = terms_of c.args.terms.now.nodes.keys in
    let node = c.at-node.result.now in
    let same : term_at ts c.args.number ≡ Atom (Token c.in-Token.token) =
    term_at-slice_get ts c.args.number (node_term ts node) c.at-node.ensures.means
    ∙ ap (λ ns. apply_all (Atom node.head) (terms_at ts ns)) (c.if-is_empty.ensures.0 refl)
    ∙ ap Atom c.in-Token.is in
    rw same (FindsTerm-token c.args.joined.now before ts c.args.found.now.keys c.in-Token.token s)

pub returns-in_default-clause-err : goal.returns-in_default-clause-err
returns-in_default-clause-err c = λ before s. c.wrong_count.ensures before
