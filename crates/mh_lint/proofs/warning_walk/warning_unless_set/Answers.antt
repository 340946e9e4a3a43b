use Rattle.std.proofs.Common.{◌++◌, Some, ap, refl, ◌∙◌}
use Rattle.std.specs.List.{slice_get}
use Rattle.mh_lint.proofs.FlagTexts.{no_number, no_text, not_unset, unset_flag, unset_text}
use Rattle.mh_lint.proofs.warning_walk.warning_unless_set.Goals as goal

pub returns-in_default-clause-flags : goal.returns-in_default-clause-flags
returns-in_default-clause-flags c = rw c.in_default.is (no_number c.args.flags.now)

pub returns-then-is_unset-clause-warning : goal.returns-then-is_unset-clause-warning
returns-then-is_unset-clause-warning c =
    rw c.in-Some.is (ap Some c.with_name.ensures ∙ unset_text (slice_get c.args.flags.now c.in-Some.number) (c.args.words.now ++ c.args.name.now) (c.if-is_unset.ensures.0 refl))

pub returns-then-is_unset-clause-flags : goal.returns-then-is_unset-clause-flags
returns-then-is_unset-clause-flags c = rw c.in-Some.is (unset_flag c.args.flags.now c.in-Some.number (c.if-is_unset.ensures.0 refl))

pub returns-clause-warning : goal.returns-clause-warning
returns-clause-warning c = rw c.in-Some.is (no_text (slice_get c.args.flags.now c.in-Some.number) (c.args.words.now ++ c.args.name.now) (λ e. (let bad = c.if-is_unset.ensures.1 e in cc)))

pub returns-clause-flags : goal.returns-clause-flags
returns-clause-flags c = rw c.in-Some.is (not_unset c.args.flags.now c.in-Some.number (λ e. (let bad = c.if-is_unset.ensures.1 e in cc)))
