use Rattle.std.proofs.Common.{◌≡◌, Option, Some, ap, sym, ◌∙◌}
use Rattle.mh_grammar.specs.Text.{Text}
use Rattle.mh_opts.specs.declared.jobs.Job.TheVariants.{Interpret}
use Rattle.mh_top_plans.specs.Files.{IsNextFileOfJob}
use Rattle.mh_top_plans.proofs.MessagesFileLines.{messages_stop, named_turn}
use Rattle.mh_top_modes.proofs.judging.messages_for.Goals as goal

pub returns-in-Err-clause-messages : goal.returns-in-Err-clause-messages
returns-in-Err-clause-messages g c =
    let p = c.args.prepared.now in
    let files = g.F.Shelf.files c.args.shelf.now in
    let file : Text = c.as_slice.result.now in
    let same : p.order.messages ≡ Some file = c.in-Some.is ∙ ap Some (sym c.as_slice.ensures) in
    messages_stop p files p.order.messages file (IsNextFileOfJob Interpret files p) same (named_turn p files p.order.messages file same) c.in-Err.stop c.in-Err.ensures.messages
