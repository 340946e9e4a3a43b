use Rattle.std.proofs.Common.{◌≡◌, [], Some, length, refl, sym, ap, ◌∙◌}
use Rattle.std.specs.Option.{option_map, unwrap_or}
use Rattle.std.specs.List.{slice_get}
use Rattle.mh_rules.specs.declared.joined.JoinedRule.{JoinedRule}
use Rattle.mh_expand.specs.Terms.{arguments}
use Rattle.mh_expand.specs.code.SharedTerms.{terms_of, term_at}
use Rattle.mh_expand.proofs.SharedTerms.{node_count}
use Rattle.mh_expand.proofs.search.find_instance.Goals as goal
use Rattle.mh_expand.proofs.search.find_instance.Goals.{in_default-via-in-Some+else-takes, in_default-via-in_default}

pub add_instance-requires-clause-fits : goal.add_instance-requires-clause-fits
add_instance-requires-clause-fits c =
    let ts = terms_of c.args.terms.now.nodes.keys in
    let count = node_count ts c.args.number c.at.result.now c.at.ensures.means in
    let e : slice_get c.args.joined.now.rules c.args.rule ≡ Some c.in-Some.rule.now = sym c.in-Some.ensures.value in
    rw c.requires.rule (ap (option_map (λ (q : JoinedRule). q.formals)) e ∙ ap Some (c.if-takes.ensures.0 refl ∙ c.len-count.ensures ∙ sym count))

pub wrong_count-requires-clause-count : goal.wrong_count-requires-clause-count
wrong_count-requires-clause-count c = λ f.
    let ts = terms_of c.args.terms.now.nodes.keys in
    let count = node_count ts c.args.number c.at.result.now c.at.ensures.means in
    let g : option_map (λ (q : JoinedRule). q.formals) (slice_get c.args.joined.now.rules c.args.rule) ≡ Some (length (arguments (term_at ts c.args.number))) = rw c.requires.rule at f in
    elim c.in_default.branch [
      | in_default-via-in-Some+else-takes w ↦ (let a : Some w.in-Some.rule.now.formals ≡ Some (length (arguments (term_at ts c.args.number))) = ap (option_map (λ (q : JoinedRule). q.formals)) w.in-Some.ensures.value ∙ g in
          let b : w.in-Some.rule.now.formals ≡ length (arguments (term_at ts c.args.number)) = cc in
          (let f = w.if-takes.ensures.1 (b ∙ count ∙ sym c.len-count.ensures) in cc))
      | in_default-via-in_default w ↦ (let a = ap (option_map (λ (q : JoinedRule). q.formals)) w.in_default.ensures.value ∙ g in cc)
    ]

pub returns-in_default-clause-err : goal.returns-in_default-clause-err
returns-in_default-clause-err c = λ before s. c.wrong_count.ensures before

pub add_instance-requires-clause-instance : goal.add_instance-requires-clause-instance
add_instance-requires-clause-instance c = rw c.requires.rule tt

pub add_instance-requires-clause-rule : goal.add_instance-requires-clause-rule
add_instance-requires-clause-rule c =
    let e : slice_get c.args.joined.now.rules c.args.rule ≡ Some c.in-Some.rule.now = sym c.in-Some.ensures.value in
    rw c.requires.rule (sym (ap (λ o. unwrap_or (option_map (λ (q : JoinedRule). q.name) o) []) e))
