use Rattle.std.proofs.Common.{subst, sym}
use Rattle.mh_run.specs.Trace.{TraceOf}
use Rattle.mh_run.specs.Verdicts.{ending_for}
use Rattle.mh_run.proofs.RunsObserved.{TraceOf-observed}
use Rattle.mh_run.proofs.tracing.trace.Goals as goal

pub returns : goal.returns
returns c =
    subst (TraceOf c.args.table.now c.args.start c.args.sentence.now (ending_for c.in_ok-verdict.verdict)) (sym c.since.view_is)
    (TraceOf-observed c.args.table.now c.args.start c.args.sentence.now _ (ending_for c.in_ok-verdict.verdict) (rw c.new.ensures.items at c.in_ok-verdict.ensures))
