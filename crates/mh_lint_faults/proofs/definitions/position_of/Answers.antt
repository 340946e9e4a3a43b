use Rattle.std.proofs.Common.{◌≡◌, ◌<◌, ap, arith, get_or, inl, inr, length, refl, subst, sym, true, false, Some, ◌∙◌}
use Rattle.std.specs.Prelude.{slice_get}
use Rattle.std.proofs.lemmas.Option.{same_Some, slice_get_read, slice_get_within}
use Rattle.mh_grammar.proofs.Lists.{below_next}
use Rattle.mh_join_names.specs.code.SymbolTables.{meanings_in}
use Rattle.mh_rules.specs.declared.joined.JoinedRule.{JoinedRule}
use Rattle.mh_lint_faults.specs.FaultLines.{IsDefinition, IsNamePart}
use Rattle.mh_lint_faults.specs.FaultLines as faults
use Rattle.mh_lint_faults.proofs.IsDefinedAt.{at_rule, undefined}
use Rattle.mh_lint_faults.proofs.NumberTests.{no_number}
use Rattle.mh_lint_faults.proofs.definitions.position_of.Goals as goal
use Rattle.mh_lint_faults.proofs.definitions.position_of.Goals.{then-begins_with_name+in_ok-at+in_default, else-begins_with_name}

pub returns-in-Some : goal.returns-in-Some
returns-in-Some c = λ found split.
    let rules = c.args.joined.now.rules in
    let is : c.rule-item.result ≡ get_or rules c.loop-number.number c.rule-item.result = c.rule-item.is ∙ ap (λ xs. get_or xs c.loop-number.number c.rule-item.result) c.as_slice-rule-items.ensures in
    let lt : c.loop-number.number < length rules = (let a = c.loop-number-test.true in let b = ap length c.as_slice-rule-items.ensures in omega (arith, a, b)) in
    let named : IsNamePart c.rule-item.result.name c.args.printed.now = rw c.as_slice.ensures at (c.begins_with_name.ensures.0 c.if-begins_with_name.true) in
    at_rule (meanings_in c.args.names.now) found c.args.joined.now c.args.printed.now c.loop-number.number c.in-Some.at (record { rule = c.rule-item.result; of_joined = slice_get_read rules (length rules) c.loop-number.number c.rule-item.result refl lt is; named = named }) (c.loop-number.invariant found split) (rw c.in-Some.is at (c.in_ok-at.ensures found split))

pub loop-number-preserved : goal.loop-number-preserved
loop-number-preserved c = λ found split file n before x lt named def. elim (below_next n c.loop-number.number lt) [
  | inl less ↦ c.loop-number.invariant found split file n before x less named def
  | inr same ↦ (
      let rules = c.args.joined.now.rules in
      let is : c.rule-item.result ≡ get_or rules c.loop-number.number c.rule-item.result = c.rule-item.is ∙ ap (λ xs. get_or xs c.loop-number.number c.rule-item.result) c.as_slice-rule-items.ensures in
      let within : c.loop-number.number < length rules = (let a = c.loop-number-test.true in let b = ap length c.as_slice-rule-items.ensures in omega (arith, a, b)) in
      let here : slice_get rules n ≡ Some c.rule-item.result = ap (λ k. slice_get rules k) same ∙ slice_get_read rules (length rules) c.loop-number.number c.rule-item.result refl within is in
      let one : named.rule ≡ c.rule-item.result = same_Some _ _ (sym named.of_joined ∙ here) in
      let part : IsNamePart c.rule-item.result.name c.args.printed.now = subst (λ (r : JoinedRule). IsNamePart r.name c.args.printed.now) one named.named in
      let number_def : IsDefinition (meanings_in c.args.names.now) found file before x c.loop-number.number = subst (λ k. IsDefinition (meanings_in c.args.names.now) found file before x k) same def in
      elim c.if-begins_with_name.branch [
        | then-begins_with_name+in_ok-at+in_default w ↦ undefined (meanings_in c.args.names.now) found c.loop-number.number (rw (no_number w.in_ok-at.field-0 w.in_default.not-Some) at (w.in_ok-at.ensures found split)) file before x number_def
        | else-begins_with_name w ↦ (let yes' : c.begins_with_name.result ≡ true = c.begins_with_name.ensures.1 (rw c.as_slice.ensures part) in let both : true ≡ false = sym yes' ∙ w.if-begins_with_name.false in cc)
      ])
]

pub returns : goal.returns
returns c = λ found split.
    let rules = c.args.joined.now.rules in
    faults.IsRulePosition.of_all (λ file number before x named def.
    (let within = slice_get_within rules number named.rule named.of_joined in
    let lt : number < c.loop-number.number = (let a = c.loop-number-test.false in let b = ap length c.as_slice-rule-items.ensures in omega (arith, a, b, within)) in
    c.loop-number.invariant found split file number before x lt named def))
