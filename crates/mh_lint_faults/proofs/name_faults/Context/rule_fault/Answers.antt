use Rattle.std.proofs.Common.{◌≡◌, ◌||◌, ◌&&◌, Bool, None, Some, ap, refl, sym, ◌∙◌}
use Rattle.std.specs.Prelude.{not, slice_get}
use Rattle.std.specs.List.{list_any}
use Rattle.std.proofs.lemmas.Result.{on_ok_weaker}
use Rattle.mh_join_names.specs.Names.{is_public, same}
use Rattle.mh_join_names.specs.code.SymbolTables.{is_public_in, meanings_in}
use Rattle.mh_lint_faults.specs.NameFaults.{rules_in}
use Rattle.mh_lint_faults.specs.code.MentionContexts.{has_lent}
use Rattle.mh_lint_faults.proofs.NumberTests.{no_number}
use Rattle.mh_lint_faults.proofs.RuleFaults.{rule_fault_found, rule_next, rule_past}
use Rattle.mh_lint_faults.proofs.name_faults.Context.rule_fault.Goals as goal

pub returns-in_default-clause-context : goal.returns-in_default-clause-context
returns-in_default-clause-context c = λ before x e h.
    let rules = c.args.file.now.module.now.rules in
    let none : slice_get rules (rules_in before) ≡ None = ap (slice_get rules) (sym h.rules) ∙ sym (rw (no_number c.get.result c.in_default.not-Some) at c.get.ensures.value) in
    rule_past c.args.names.now.starts.keys c.args.file.now.module.now before x c.args.self.now _ e none h refl refl refl refl (λ y. ap (list_any (same y)) c.new.ensures.empty) c.in_ok-self.ensures

pub returns-clause-fault : goal.returns-clause-fault
returns-clause-fault c = λ before h.
    let m = c.args.file.now.module.now in
    let starts = c.args.names.now.starts.keys in
    let r = c.in-Some.rule.now in
    let at : slice_get m.rules (rules_in before) ≡ Some r = ap (slice_get m.rules) (sym h.rules) ∙ sym c.in-Some.ensures.value in
    let public : is_public_in c.args.names.now c.args.file.now.public r.name ≡ is_public starts m.rules r.name = ap (λ b. list_any (same r.name) starts || b) (c.requires.public r.name) in
    rw at (rule_fault_found (meanings_in c.args.names.now) m (rules_in before) r (is_public_in c.args.names.now c.args.file.now.public r.name) (has_lent c.args.self.now.own r.name) c.rule_fault.result public (h.own r.name) c.rule_fault.ensures.fault)

pub returns-clause-context : goal.returns-clause-context
returns-clause-context c = λ before x e h.
    let m = c.args.file.now.module.now in
    let starts = c.args.names.now.starts.keys in
    let r = c.in-Some.rule.now in
    let at : slice_get m.rules (rules_in before) ≡ Some r = ap (slice_get m.rules) (sym h.rules) ∙ sym c.in-Some.ensures.value in
    let public : is_public_in c.args.names.now c.args.file.now.public r.name ≡ is_public starts m.rules r.name = ap (λ b. list_any (same r.name) starts || b) (c.requires.public r.name) in
    on_ok_weaker c.rule_fault.result
    (λ own. rule_next starts m before x c.args.self.now _ r e at h refl refl refl (λ y. ap (list_any (same y)) c.new.ensures.empty) (rw c.as_slice.ensures at c.in_ok-self-2.ensures)
    (λ y. own y ∙ ap (λ b. has_lent c.args.self.now.own y || (not b && same y r.name)) public))
    c.rule_fault.ensures.own
