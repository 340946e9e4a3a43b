use Rattle.std.proofs.Common.{[], arith, refl, rules, subst, sym, ap, ap₂, ◌∙◌}
use Rattle.std.specs.List.{All}
use Rattle.mh_opts.specs.declared.jobs.Job.{Job}
use Rattle.mh_opts.specs.declared.jobs.Job.TheVariants.{Interpret, Session, CompileErrors, CompareErrors, EchoErrors, UpdateErrors, RebaseErrors, CheckErrors}
use Rattle.mh_top_drive.proofs.OpenedModes.{shelf_counts_of_mode}
use Rattle.mh_top_plans.specs.Plan.{plan_behavior}
use Rattle.mh_top_plans.specs.Files.{files_of_job}
use Rattle.mh_top_plans.specs.code.Modes.{WritesFinal}
use Rattle.mh_top_plans.proofs.OpenedAndRan.{of_job, of_plan, opened_followed, opened_read, opened_some, still_followed, still_read}
use Rattle.mh_top.proofs.modes.run_mode.Goals as goal

-- ---- Modes that read no file, or keep what they read.

pub returns-in-Interpret-clause-ran : goal.returns-in-Interpret-clause-ran
returns-in-Interpret-clause-ran g c = of_job (g.F.Shelf.files c.args.shelf.now) c.args.prepared.now Interpret c.in-Interpret.is _ _ _ _ c.interpret.result c.interpret.ensures.ran

pub returns-in-Interpret-clause-counts : goal.returns-in-Interpret-clause-counts
returns-in-Interpret-clause-counts g c = c.interpret.ensures.counts

pub returns-in-Interpret-clause-kept : goal.returns-in-Interpret-clause-kept
returns-in-Interpret-clause-kept g c = c.interpret.ensures.kept

pub returns-in-Interpret-clause-read : goal.returns-in-Interpret-clause-read
returns-in-Interpret-clause-read g c = c.interpret.ensures.read

pub returns-in-InterpretError-clause-ran : goal.returns-in-InterpretError-clause-ran
returns-in-InterpretError-clause-ran g c = of_plan (g.F.Shelf.files c.args.shelf.now) c.args.prepared.now _ c.in-InterpretError.is _ _ _ _ c.explain.result _ refl c.explain.ensures.ran

pub returns-in-InterpretError-clause-counts : goal.returns-in-InterpretError-clause-counts
returns-in-InterpretError-clause-counts g c = c.explain.ensures.counts

pub returns-in-InterpretError-clause-kept : goal.returns-in-InterpretError-clause-kept
returns-in-InterpretError-clause-kept g c = refl

pub returns-in-InterpretError-clause-read : goal.returns-in-InterpretError-clause-read
returns-in-InterpretError-clause-read g c = shelf_counts_of_mode plan_behavior _ _ _ _ _ _ c.explain.result c.explain.ensures.ran

pub explain-requires : goal.explain-requires
explain-requires g c = (search rules, record { few = c.requires.fits.few; consistent = c.requires.consistent; may_read = c.requires.may_read; may_write = c.requires.may_write })

pub returns-in-Session-clause-ran : goal.returns-in-Session-clause-ran
returns-in-Session-clause-ran g c = of_job (g.F.Shelf.files c.args.shelf.now) c.args.prepared.now Session c.in-Session.is _ _ _ _ c.run_session.result (still_followed _ _ _ _ _ _ c.run_session.result c.run_session.ensures.ran)

pub returns-in-Session-clause-counts : goal.returns-in-Session-clause-counts
returns-in-Session-clause-counts g c = c.run_session.ensures.counts

pub returns-in-Session-clause-kept : goal.returns-in-Session-clause-kept
returns-in-Session-clause-kept g c = refl

pub returns-in-Session-clause-read : goal.returns-in-Session-clause-read
returns-in-Session-clause-read g c = still_read _ _ _ _ _ _ c.run_session.result c.run_session.ensures.ran

pub run_session-requires : goal.run_session-requires
run_session-requires g c = (search rules, record { few = c.requires.fits.few; consistent = c.requires.consistent; may_read = c.requires.may_read; may_write = c.requires.may_write })

-- ---- Modes that write only at their end.

pub returns-in-ShowAutomaton-clause-ran : goal.returns-in-ShowAutomaton-clause-ran
returns-in-ShowAutomaton-clause-ran g c = of_plan (g.F.Shelf.files c.args.shelf.now) c.args.prepared.now _ c.in-ShowAutomaton.is _ _ _ _ c.write_at_end.result _ refl c.write_at_end.ensures.ran

pub returns-in-ShowAutomaton-clause-counts : goal.returns-in-ShowAutomaton-clause-counts
returns-in-ShowAutomaton-clause-counts g c = c.write_at_end.ensures.counts

pub returns-in-ShowAutomaton-clause-kept : goal.returns-in-ShowAutomaton-clause-kept
returns-in-ShowAutomaton-clause-kept g c = refl

pub returns-in-ShowAutomaton-clause-read : goal.returns-in-ShowAutomaton-clause-read
returns-in-ShowAutomaton-clause-read g c = shelf_counts_of_mode plan_behavior _ _ _ _ _ _ c.write_at_end.result c.write_at_end.ensures.ran

pub returns-in-WriteTables-clause-ran : goal.returns-in-WriteTables-clause-ran
returns-in-WriteTables-clause-ran g c = of_plan (g.F.Shelf.files c.args.shelf.now) c.args.prepared.now _ c.in-WriteTables.is _ _ _ _ c.write_at_end-in-WriteTables.result _ refl c.write_at_end-in-WriteTables.ensures.ran

pub returns-in-WriteTables-clause-counts : goal.returns-in-WriteTables-clause-counts
returns-in-WriteTables-clause-counts g c = c.write_at_end-in-WriteTables.ensures.counts

pub returns-in-WriteTables-clause-kept : goal.returns-in-WriteTables-clause-kept
returns-in-WriteTables-clause-kept g c = refl

pub returns-in-WriteTables-clause-read : goal.returns-in-WriteTables-clause-read
returns-in-WriteTables-clause-read g c = shelf_counts_of_mode plan_behavior _ _ _ _ _ _ c.write_at_end-in-WriteTables.result c.write_at_end-in-WriteTables.ensures.ran

pub returns-in-ListErrors-clause-ran : goal.returns-in-ListErrors-clause-ran
returns-in-ListErrors-clause-ran g c = of_plan (g.F.Shelf.files c.args.shelf.now) c.args.prepared.now _ c.in-ListErrors.is _ _ _ _ c.write_at_end-in-ListErrors.result _ refl c.write_at_end-in-ListErrors.ensures.ran

pub returns-in-ListErrors-clause-counts : goal.returns-in-ListErrors-clause-counts
returns-in-ListErrors-clause-counts g c = c.write_at_end-in-ListErrors.ensures.counts

pub returns-in-ListErrors-clause-kept : goal.returns-in-ListErrors-clause-kept
returns-in-ListErrors-clause-kept g c = refl

pub returns-in-ListErrors-clause-read : goal.returns-in-ListErrors-clause-read
returns-in-ListErrors-clause-read g c = shelf_counts_of_mode plan_behavior _ _ _ _ _ _ c.write_at_end-in-ListErrors.result c.write_at_end-in-ListErrors.ensures.ran

pub returns-in-Sample-clause-ran : goal.returns-in-Sample-clause-ran
returns-in-Sample-clause-ran g c = of_plan (g.F.Shelf.files c.args.shelf.now) c.args.prepared.now _ c.in-Sample.is _ _ _ _ c.write_at_end-in-Sample.result _ refl c.write_at_end-in-Sample.ensures.ran

pub returns-in-Sample-clause-counts : goal.returns-in-Sample-clause-counts
returns-in-Sample-clause-counts g c = c.write_at_end-in-Sample.ensures.counts

pub returns-in-Sample-clause-kept : goal.returns-in-Sample-clause-kept
returns-in-Sample-clause-kept g c = refl

pub returns-in-Sample-clause-read : goal.returns-in-Sample-clause-read
returns-in-Sample-clause-read g c = shelf_counts_of_mode plan_behavior _ _ _ _ _ _ c.write_at_end-in-Sample.result c.write_at_end-in-Sample.ensures.ran

pub returns-in-ShortestSentences-clause-ran : goal.returns-in-ShortestSentences-clause-ran
returns-in-ShortestSentences-clause-ran g c = of_plan (g.F.Shelf.files c.args.shelf.now) c.args.prepared.now _ c.in-ShortestSentences.is _ _ _ _ c.write_at_end-in-ShortestSentences.result _ refl c.write_at_end-in-ShortestSentences.ensures.ran

pub returns-in-ShortestSentences-clause-counts : goal.returns-in-ShortestSentences-clause-counts
returns-in-ShortestSentences-clause-counts g c = c.write_at_end-in-ShortestSentences.ensures.counts

pub returns-in-ShortestSentences-clause-kept : goal.returns-in-ShortestSentences-clause-kept
returns-in-ShortestSentences-clause-kept g c = refl

pub returns-in-ShortestSentences-clause-read : goal.returns-in-ShortestSentences-clause-read
returns-in-ShortestSentences-clause-read g c = shelf_counts_of_mode plan_behavior _ _ _ _ _ _ c.write_at_end-in-ShortestSentences.result c.write_at_end-in-ShortestSentences.ensures.ran

pub returns-in-RandomSentence-clause-ran : goal.returns-in-RandomSentence-clause-ran
returns-in-RandomSentence-clause-ran g c = of_plan (g.F.Shelf.files c.args.shelf.now) c.args.prepared.now _ c.in-RandomSentence.is _ _ _ _ c.write_at_end-in-RandomSentence.result _ refl c.write_at_end-in-RandomSentence.ensures.ran

pub returns-in-RandomSentence-clause-counts : goal.returns-in-RandomSentence-clause-counts
returns-in-RandomSentence-clause-counts g c = c.write_at_end-in-RandomSentence.ensures.counts

pub returns-in-RandomSentence-clause-kept : goal.returns-in-RandomSentence-clause-kept
returns-in-RandomSentence-clause-kept g c = refl

pub returns-in-RandomSentence-clause-read : goal.returns-in-RandomSentence-clause-read
returns-in-RandomSentence-clause-read g c = shelf_counts_of_mode plan_behavior _ _ _ _ _ _ c.write_at_end-in-RandomSentence.result c.write_at_end-in-RandomSentence.ensures.ran

pub returns-in-Explain-clause-ran : goal.returns-in-Explain-clause-ran
returns-in-Explain-clause-ran g c = of_plan (g.F.Shelf.files c.args.shelf.now) c.args.prepared.now _ c.in-Explain.is _ _ _ _ c.write_at_end-in-Explain.result _ refl c.write_at_end-in-Explain.ensures.ran

pub returns-in-Explain-clause-counts : goal.returns-in-Explain-clause-counts
returns-in-Explain-clause-counts g c = c.write_at_end-in-Explain.ensures.counts

pub returns-in-Explain-clause-kept : goal.returns-in-Explain-clause-kept
returns-in-Explain-clause-kept g c = refl

pub returns-in-Explain-clause-read : goal.returns-in-Explain-clause-read
returns-in-Explain-clause-read g c = shelf_counts_of_mode plan_behavior _ _ _ _ _ _ c.write_at_end-in-Explain.result c.write_at_end-in-Explain.ensures.ran

-- ---- Modes that write a text made from messages files.

pub returns-in-CompileErrors-clause-ran : goal.returns-in-CompileErrors-clause-ran
returns-in-CompileErrors-clause-ran g c =
    of_job (g.F.Shelf.files c.args.shelf.now) c.args.prepared.now (CompileErrors c.as_slice.result.now) (c.in-CompileErrors.is ∙ ap CompileErrors (sym c.as_slice.ensures)) _ _ _ _ c.write_made.result
    (opened_followed WritesFinal _ _ _ _ _ _ c.write_made.result c.text_from_file-made.result c.text_from_file-made.ensures.opens c.write_made.ensures.ran)

pub returns-in-CompileErrors-clause-counts : goal.returns-in-CompileErrors-clause-counts
returns-in-CompileErrors-clause-counts g c = c.write_made.ensures.counts

pub returns-in-CompileErrors-clause-kept : goal.returns-in-CompileErrors-clause-kept
returns-in-CompileErrors-clause-kept g c = c.text_from_file-made.ensures.kept

pub returns-in-CompileErrors-clause-read : goal.returns-in-CompileErrors-clause-read
returns-in-CompileErrors-clause-read g c = opened_read WritesFinal _ _ c.text_from_file-made.result _ _ _ _ _ _ c.write_made.result c.text_from_file-made.ensures.opens c.text_from_file-made.ensures.counts c.write_made.ensures.ran

pub write_made-requires : goal.write_made-requires
write_made-requires g c = record { some = opened_some WritesFinal _ _ c.text_from_file-made.result c.text_from_file-made.ensures.opens; may_read = c.requires.may_read; may_write = c.requires.may_write }

pub returns-in-CompareErrors-clause-ran : goal.returns-in-CompareErrors-clause-ran
returns-in-CompareErrors-clause-ran g c =
    of_job (g.F.Shelf.files c.args.shelf.now) c.args.prepared.now (CompareErrors c.as_slice-in-CompareErrors.result.now c.as_slice-in-CompareErrors-2.result.now) (c.in-CompareErrors.is ∙ ap₂ CompareErrors (sym c.as_slice-in-CompareErrors.ensures) (sym c.as_slice-in-CompareErrors-2.ensures)) _ _ _ _ c.write_made-in-CompareErrors.result
    (opened_followed WritesFinal _ _ _ _ _ _ c.write_made-in-CompareErrors.result c.compare_errors-made.result c.compare_errors-made.ensures.opens c.write_made-in-CompareErrors.ensures.ran)

pub returns-in-CompareErrors-clause-counts : goal.returns-in-CompareErrors-clause-counts
returns-in-CompareErrors-clause-counts g c = c.write_made-in-CompareErrors.ensures.counts

pub returns-in-CompareErrors-clause-kept : goal.returns-in-CompareErrors-clause-kept
returns-in-CompareErrors-clause-kept g c = c.compare_errors-made.ensures.kept

pub returns-in-CompareErrors-clause-read : goal.returns-in-CompareErrors-clause-read
returns-in-CompareErrors-clause-read g c = opened_read WritesFinal _ _ c.compare_errors-made.result _ _ _ _ _ _ c.write_made-in-CompareErrors.result c.compare_errors-made.ensures.opens c.compare_errors-made.ensures.counts c.write_made-in-CompareErrors.ensures.ran

pub write_made-requires-in-CompareErrors : goal.write_made-requires-in-CompareErrors
write_made-requires-in-CompareErrors g c = record { some = opened_some WritesFinal _ _ c.compare_errors-made.result c.compare_errors-made.ensures.opens; may_read = c.requires.may_read; may_write = c.requires.may_write }

pub returns-in-EchoErrors-clause-ran : goal.returns-in-EchoErrors-clause-ran
returns-in-EchoErrors-clause-ran g c =
    of_job (g.F.Shelf.files c.args.shelf.now) c.args.prepared.now (EchoErrors c.as_slice-in-EchoErrors.result.now) (c.in-EchoErrors.is ∙ ap EchoErrors (sym c.as_slice-in-EchoErrors.ensures)) _ _ _ _ c.write_made-in-EchoErrors.result
    (opened_followed WritesFinal _ _ _ _ _ _ c.write_made-in-EchoErrors.result c.text_from_file-made-in-EchoErrors.result c.text_from_file-made-in-EchoErrors.ensures.opens c.write_made-in-EchoErrors.ensures.ran)

pub returns-in-EchoErrors-clause-counts : goal.returns-in-EchoErrors-clause-counts
returns-in-EchoErrors-clause-counts g c = c.write_made-in-EchoErrors.ensures.counts

pub returns-in-EchoErrors-clause-kept : goal.returns-in-EchoErrors-clause-kept
returns-in-EchoErrors-clause-kept g c = c.text_from_file-made-in-EchoErrors.ensures.kept

pub returns-in-EchoErrors-clause-read : goal.returns-in-EchoErrors-clause-read
returns-in-EchoErrors-clause-read g c = opened_read WritesFinal _ _ c.text_from_file-made-in-EchoErrors.result _ _ _ _ _ _ c.write_made-in-EchoErrors.result c.text_from_file-made-in-EchoErrors.ensures.opens c.text_from_file-made-in-EchoErrors.ensures.counts c.write_made-in-EchoErrors.ensures.ran

pub write_made-requires-in-EchoErrors : goal.write_made-requires-in-EchoErrors
write_made-requires-in-EchoErrors g c = record { some = opened_some WritesFinal _ _ c.text_from_file-made-in-EchoErrors.result c.text_from_file-made-in-EchoErrors.ensures.opens; may_read = c.requires.may_read; may_write = c.requires.may_write }

pub returns-in-UpdateErrors-clause-ran : goal.returns-in-UpdateErrors-clause-ran
returns-in-UpdateErrors-clause-ran g c =
    of_job (g.F.Shelf.files c.args.shelf.now) c.args.prepared.now (UpdateErrors c.as_slice-in-UpdateErrors.result.now) (c.in-UpdateErrors.is ∙ ap UpdateErrors (sym c.as_slice-in-UpdateErrors.ensures)) _ _ _ _ c.write_made-in-UpdateErrors.result
    (opened_followed WritesFinal _ _ _ _ _ _ c.write_made-in-UpdateErrors.result c.text_from_file-made-in-UpdateErrors.result c.text_from_file-made-in-UpdateErrors.ensures.opens c.write_made-in-UpdateErrors.ensures.ran)

pub returns-in-UpdateErrors-clause-counts : goal.returns-in-UpdateErrors-clause-counts
returns-in-UpdateErrors-clause-counts g c = c.write_made-in-UpdateErrors.ensures.counts

pub returns-in-UpdateErrors-clause-kept : goal.returns-in-UpdateErrors-clause-kept
returns-in-UpdateErrors-clause-kept g c = c.text_from_file-made-in-UpdateErrors.ensures.kept

pub returns-in-UpdateErrors-clause-read : goal.returns-in-UpdateErrors-clause-read
returns-in-UpdateErrors-clause-read g c = opened_read WritesFinal _ _ c.text_from_file-made-in-UpdateErrors.result _ _ _ _ _ _ c.write_made-in-UpdateErrors.result c.text_from_file-made-in-UpdateErrors.ensures.opens c.text_from_file-made-in-UpdateErrors.ensures.counts c.write_made-in-UpdateErrors.ensures.ran

pub write_made-requires-in-UpdateErrors : goal.write_made-requires-in-UpdateErrors
write_made-requires-in-UpdateErrors g c = record { some = opened_some WritesFinal _ _ c.text_from_file-made-in-UpdateErrors.result c.text_from_file-made-in-UpdateErrors.ensures.opens; may_read = c.requires.may_read; may_write = c.requires.may_write }

-- ---- The mode that rebases a messages file.

pub returns-in-RebaseErrors-clause-ran : goal.returns-in-RebaseErrors-clause-ran
returns-in-RebaseErrors-clause-ran g c =
    of_job (g.F.Shelf.files c.args.shelf.now) c.args.prepared.now (RebaseErrors c.as_slice-in-RebaseErrors.result.now) (c.in-RebaseErrors.is ∙ ap RebaseErrors (sym c.as_slice-in-RebaseErrors.ensures)) _ _ _ _ c.rebase_errors.result c.rebase_errors.ensures.ran

pub returns-in-RebaseErrors-clause-counts : goal.returns-in-RebaseErrors-clause-counts
returns-in-RebaseErrors-clause-counts g c = c.rebase_errors.ensures.counts

pub returns-in-RebaseErrors-clause-kept : goal.returns-in-RebaseErrors-clause-kept
returns-in-RebaseErrors-clause-kept g c = c.rebase_errors.ensures.kept

pub returns-in-RebaseErrors-clause-read : goal.returns-in-RebaseErrors-clause-read
returns-in-RebaseErrors-clause-read g c = c.rebase_errors.ensures.read

-- ---- The mode that examines a messages file.

pub returns-in-CheckErrors-clause-ran : goal.returns-in-CheckErrors-clause-ran
returns-in-CheckErrors-clause-ran g c =
    of_job (g.F.Shelf.files c.args.shelf.now) c.args.prepared.now (CheckErrors c.as_slice-in-CheckErrors.result.now) (c.in-CheckErrors.is ∙ ap CheckErrors (sym c.as_slice-in-CheckErrors.ensures)) _ _ _ _ c.check_errors.result c.check_errors.ensures.ran

pub returns-in-CheckErrors-clause-counts : goal.returns-in-CheckErrors-clause-counts
returns-in-CheckErrors-clause-counts g c = c.check_errors.ensures.counts

pub returns-in-CheckErrors-clause-kept : goal.returns-in-CheckErrors-clause-kept
returns-in-CheckErrors-clause-kept g c = c.check_errors.ensures.kept

pub returns-in-CheckErrors-clause-read : goal.returns-in-CheckErrors-clause-read
returns-in-CheckErrors-clause-read g c = c.check_errors.ensures.read

-- ---- The shelf may be asked for the messages files of the mode.

pub text_from_file-made-requires : goal.text_from_file-made-requires
text_from_file-made-requires g c =
    let is = c.in-CompileErrors.is ∙ ap CompileErrors (sym c.as_slice.ensures) in
    let asked = subst (λ (job : Job). All (g.F.Shelf.MayAsk c.args.shelf.now) (files_of_job job c.args.prepared.now.order)) is c.requires.asked in
    (search rules, (c.requires.fits.few, (c.requires.consistent, asked 0 [] (omega arith))))

pub compare_errors-made-requires : goal.compare_errors-made-requires
compare_errors-made-requires g c =
    let is = c.in-CompareErrors.is ∙ ap₂ CompareErrors (sym c.as_slice-in-CompareErrors.ensures) (sym c.as_slice-in-CompareErrors-2.ensures) in
    let asked = subst (λ (job : Job). All (g.F.Shelf.MayAsk c.args.shelf.now) (files_of_job job c.args.prepared.now.order)) is c.requires.asked in
    (search rules, (c.requires.fits.few, (c.requires.consistent, (asked 0 [] (omega arith), asked 1 [] (omega arith)))))

pub text_from_file-made-requires-in-EchoErrors : goal.text_from_file-made-requires-in-EchoErrors
text_from_file-made-requires-in-EchoErrors g c =
    let is = c.in-EchoErrors.is ∙ ap EchoErrors (sym c.as_slice-in-EchoErrors.ensures) in
    let asked = subst (λ (job : Job). All (g.F.Shelf.MayAsk c.args.shelf.now) (files_of_job job c.args.prepared.now.order)) is c.requires.asked in
    (search rules, (c.requires.fits.few, (c.requires.consistent, asked 0 [] (omega arith))))

pub text_from_file-made-requires-in-UpdateErrors : goal.text_from_file-made-requires-in-UpdateErrors
text_from_file-made-requires-in-UpdateErrors g c =
    let is = c.in-UpdateErrors.is ∙ ap UpdateErrors (sym c.as_slice-in-UpdateErrors.ensures) in
    let asked = subst (λ (job : Job). All (g.F.Shelf.MayAsk c.args.shelf.now) (files_of_job job c.args.prepared.now.order)) is c.requires.asked in
    (search rules, (c.requires.fits.few, (c.requires.consistent, asked 0 [] (omega arith))))

pub rebase_errors-requires : goal.rebase_errors-requires
rebase_errors-requires g c =
    let is = c.in-RebaseErrors.is ∙ ap RebaseErrors (sym c.as_slice-in-RebaseErrors.ensures) in
    let asked = subst (λ (job : Job). All (g.F.Shelf.MayAsk c.args.shelf.now) (files_of_job job c.args.prepared.now.order)) is c.requires.asked in
    (search rules, record { few = c.requires.fits.few; consistent = c.requires.consistent; asked = asked 0 [] (omega arith); may_read = c.requires.may_read; may_write = c.requires.may_write })

pub check_errors-requires : goal.check_errors-requires
check_errors-requires g c =
    let is = c.in-CheckErrors.is ∙ ap CheckErrors (sym c.as_slice-in-CheckErrors.ensures) in
    let asked = subst (λ (job : Job). All (g.F.Shelf.MayAsk c.args.shelf.now) (files_of_job job c.args.prepared.now.order)) is c.requires.asked in
    (search rules, record { few = c.requires.fits.few; consistent = c.requires.consistent; asked = asked 0 [] (omega arith); may_read = c.requires.may_read; may_write = c.requires.may_write })

-- ---- The mode that examines grammar files has no grammar.

pub unreachable-requires : goal.unreachable-requires
unreachable-requires g c = c.requires.job c.in-Check.is
