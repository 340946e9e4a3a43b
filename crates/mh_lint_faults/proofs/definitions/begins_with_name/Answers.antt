use Rattle.std.proofs.Common.{length, refl, sym, ◌∙◌}
use Rattle.std.proofs.lemmas.Option.{slice_get_past, slice_get_read}
use Rattle.mh_lint_faults.proofs.NameParts.{not_part, part_alone, part_before}
use Rattle.mh_lint_faults.proofs.definitions.begins_with_name.Goals as goal

pub returns-then-not-starts_with : goal.returns-then-not-starts_with
returns-then-not-starts_with c = not_part c.args.printed.now c.args.name.now (sym c.starts_with.ensures.value ∙ c.if-not-starts_with.true)

pub returns-in-Some : goal.returns-in-Some
returns-in-Some c =
    let found = c.in-Some.ensures.lookup in
    part_before c.args.printed.now c.args.name.now c.in-Some.byte.now (sym c.starts_with.ensures.value ∙ c.if-not-starts_with.false)
    (slice_get_read c.args.printed.now (length c.args.printed.now) (length c.args.name.now) c.in-Some.byte.now refl (found.3).0 found.1)

pub returns-in-None : goal.returns-in-None
returns-in-None c =
    let past = c.in-None.ensures.lookup in
    part_alone c.args.printed.now c.args.name.now (sym c.starts_with.ensures.value ∙ c.if-not-starts_with.false) (slice_get_past c.args.printed.now (length c.args.name.now) past.3)
