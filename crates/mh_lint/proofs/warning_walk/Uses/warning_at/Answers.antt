use Rattle.std.proofs.Common.{◌≡◌, ◌<◌, ℕ, Bool, List, Some, length, ap, arith, inl, inr, refl, subst, sym}
use Rattle.std.specs.List.{position}
use Rattle.std.proofs.lemmas.Result.{IfOk-weaker, on_ok_weaker}
use Rattle.mh_join_names.specs.Names.{same}
use Rattle.mh_join_names.specs.Faults.{text_of}
use Rattle.mh_join_names.specs.code.SymbolTables.{meanings_in}
use Rattle.mh_lint_faults.specs.FaultLines.{rule_at}
use Rattle.mh_lint_states.specs.code.Marks.{Marks}
use Rattle.mh_lint.proofs.IsBefore.{level_warned, on_error_after, on_error_warned, other_warned, prec_after, prec_warned, rule_after, rule_warned, same_after, token_after, token_warned}
use Rattle.mh_lint.proofs.UsedTokens.{slice_written}
use Rattle.mh_lint.proofs.WarningKinds.{is_prec_of, kind, other_kind}
use Rattle.mh_lint.proofs.warning_walk.Uses.warning_at.Goals as goal

pub returns-in-Token-clause-warning : goal.returns-in-Token-clause-warning
returns-in-Token-clause-warning c = λ cc before h.
    token_warned cc c.args.files.now c.args.file.now.number c.args.file.now.module.now before c.args.mention.now c.args.self.now h c.in-Token.is c.token_warning.result
    (rw (c.text_of-name.ensures, c.deref_mut.ensures.value) at c.token_warning.ensures.warning)

pub returns-in-Token-clause-uses : goal.returns-in-Token-clause-uses
returns-in-Token-clause-uses c = λ cc before h.
    let old = c.args.self.now.tokens.items in
    let new = c.token_warning.new.flags in
    let len : length old ≡ c.args.self.now.tokens.len = (let o = c.args.self.now.tokens.ok in omega (arith, o.0)) in
    let Is = λ (n : ℕ). (position (same (text_of c.args.mention.now.name)) c.args.files.now.names.tokens.keys ≡ Some n) × (n < length old) in
    let marks : Marks Is old new = rw (c.text_of-name.ensures, c.deref_mut.ensures.value) at c.token_warning.ensures.flags in
    token_after cc c.args.files.now c.args.file.now.number c.args.file.now.module.now before c.args.mention.now c.args.self.now h c.in-Token.is _ (record { levels = refl; declarations = refl; declarations_before = refl }) refl refl refl
    (subst (λ (ys : List Bool). Marks Is old ys) (sym (slice_written c.args.self.now.tokens.len old new marks.len len)) marks)

pub returns-in-Rule-clause-warning : goal.returns-in-Rule-clause-warning
returns-in-Rule-clause-warning c = λ cc before h.
    rule_warned cc c.args.files.now c.args.file.now.number c.args.file.now.module.now before c.args.mention.now c.args.self.now h c.in-Rule.is c.rule_warning.result
    (rw c.deref_mut-in-Rule.ensures.value at c.rule_warning.ensures.warning)

pub returns-in-Rule-clause-uses : goal.returns-in-Rule-clause-uses
returns-in-Rule-clause-uses c = λ cc before h.
    let old = c.args.self.now.rules.items in
    let new = c.rule_warning.new.flags in
    let len : length old ≡ c.args.self.now.rules.len = (let o = c.args.self.now.rules.ok in omega (arith, o.0)) in
    let Is = λ (n : ℕ). (rule_at (meanings_in c.args.files.now.names) c.args.file.now.number c.args.file.now.module.now c.args.mention.now ≡ Some n) × (n < length old) in
    let marks : Marks Is old new = rw c.deref_mut-in-Rule.ensures.value at c.rule_warning.ensures.flags in
    rule_after cc c.args.files.now c.args.file.now.number c.args.file.now.module.now before c.args.mention.now c.args.self.now h c.in-Rule.is _ (record { levels = refl; declarations = refl; declarations_before = refl }) refl refl refl
    (subst (λ (ys : List Bool). Marks Is old ys) (sym (slice_written c.args.self.now.rules.len old new marks.len len)) marks)

pub returns-in-Level : goal.returns-in-Level
returns-in-Level c = record {
  warning = λ cc before h. level_warned cc c.args.files.now c.args.file.now.number c.args.file.now.module.now before c.args.mention.now c.args.self.now h c.in-Level.rank c.in-Level.is c.level_warning.result c.level_warning.ensures;
  uses = λ cc before h. same_after cc c.args.files.now c.args.file.now.number c.args.file.now.module.now before c.args.mention.now c.args.self.now h 2 (ap kind c.in-Level.is) (inl refl);
}

pub returns-in-Prec-clause-warning : goal.returns-in-Prec-clause-warning
returns-in-Prec-clause-warning c = λ cc before h.
    IfOk-weaker c.prec_warning.result _ _ (λ found is. prec_warned cc c.args.files.now c.args.file.now.number c.args.file.now.module.now before c.args.mention.now c.args.self.now h (is_prec_of c.args.mention.now.role c.in-Prec.is) found is) c.prec_warning.ensures.warning

pub returns-in-Prec-clause-uses : goal.returns-in-Prec-clause-uses
returns-in-Prec-clause-uses c = λ cc before h.
    on_ok_weaker c.prec_warning.result (λ puts. prec_after cc c.args.files.now c.args.file.now.number c.args.file.now.module.now before c.args.mention.now c.args.self.now h (is_prec_of c.args.mention.now.role c.in-Prec.is) _ (record { levels = refl; declarations = refl; declarations_before = refl }) refl refl refl puts) c.prec_warning.ensures.own

pub returns-in-OnError-clause-warning : goal.returns-in-OnError-clause-warning
returns-in-OnError-clause-warning c = λ cc before h.
    IfOk-weaker c.on_error_warning.result _ _ (λ found is. on_error_warned cc c.args.files.now c.args.file.now.number c.args.file.now.module.now before c.args.mention.now c.args.self.now h c.in-OnError.rank c.in-OnError.item c.in-OnError.is found is) c.on_error_warning.ensures.warning

pub returns-in-OnError-clause-uses : goal.returns-in-OnError-clause-uses
returns-in-OnError-clause-uses c = λ cc before h.
    on_ok_weaker c.on_error_warning.result (λ puts. on_error_after cc c.args.files.now c.args.file.now.number c.args.file.now.module.now before c.args.mention.now c.args.self.now h c.in-OnError.rank c.in-OnError.item c.in-OnError.is _ (record { levels = refl; declarations = refl; declarations_before = refl }) refl refl refl puts) c.on_error_warning.ensures.actuals

pub returns-in_default-clause-warning : goal.returns-in_default-clause-warning
returns-in_default-clause-warning c = λ cc before h.
    other_warned cc c.args.files.now c.args.file.now.number c.args.file.now.module.now before c.args.mention.now c.args.self.now h (other_kind c.args.mention.now.role c.in_default.not-Token c.in_default.not-Rule c.in_default.not-Level c.in_default.not-Prec c.in_default.not-GroupPrec c.in_default.not-OnError)

pub returns-in_default-clause-uses : goal.returns-in_default-clause-uses
returns-in_default-clause-uses c = λ cc before h.
    same_after cc c.args.files.now c.args.file.now.number c.args.file.now.module.now before c.args.mention.now c.args.self.now h 5 (other_kind c.args.mention.now.role c.in_default.not-Token c.in_default.not-Rule c.in_default.not-Level c.in_default.not-Prec c.in_default.not-GroupPrec c.in_default.not-OnError) (inr refl)
