use Rattle.std.proofs.Common.{Ok, true}
use Rattle.mh_lint_findings.specs.Lines.{lines_of}
use Rattle.mh_top_check.proofs.Examinations.{allows_table, range, tokens}
use Rattle.mh_top_check.proofs.Opened.{found_runs, stop_runs}
use Rattle.mh_top_check.proofs.checking.check_files.Goals as goal
use Rattle.mh_top_check.proofs.checking.check_files.Goals.{in-Ok, in-Err}
use Rattle.mh_top_check.specs.Examination.{faulty}
use Rattle.mh_top_check.specs.code.Findings.{FindsIn, IsAcceptedBy}
use Rattle.mh_top_check.specs.declared.checking.Found.{Found}
use Rattle.mh_top_drive.specs.declared.front.OrderAndGrammar.{OrderAndGrammar}

pub examine_at_width-requires : goal.examine_at_width-requires
examine_at_width-requires g c =
    let named = c.args.named.now in
    let files = c.in-Accepted.files in
    let front : OrderAndGrammar = record { order = c.args.order; grammar = c.in-Accepted.grammar } in
    let examined = rw c.in-Accepted.is at c.in_ok-findings.ensures.examined in
    let is : IsAcceptedBy named files front = record { short = c.requires.short; ready = rw c.in-Accepted.is at c.in_ok-findings.ensures.ready; stages = examined.0; are_stages = examined.1 } in
    record { tokens = tokens named files front is; range = range named files front is; front = allows_table named files front is c.requires.limits; tables = c.requires.tables; accepted = is }

pub returns-in-Faulty-clause-ran : goal.returns-in-Faulty-clause-ran
returns-in-Faulty-clause-ran g c =
    let found : Found = record { are_faults = true; findings = c.in-Faulty.findings } in
    let is : FindsIn (g.F.Shelf.files c.args.shelf.now) c.args.order c.args.named.now (Ok found) = (
      faulty (lines_of c.in-Faulty.findings.items) (rw c.in-Faulty.is at c.in_ok-findings.ensures.examined),
      record { short = c.requires.short; within = rw c.in-Faulty.is at c.in_ok-findings.ensures.within },
    ) in
    found_runs (g.F.Shelf.files c.args.shelf.now) c.args.order c.args.named.now _ _ _ _ found c.write_at_end.result is c.write_at_end.ensures.ran

pub returns-after-examine_at_width-clause-ran : goal.returns-after-examine_at_width-clause-ran
returns-after-examine_at_width-clause-ran g c =
    elim c.match-examine_at_width.branch [
      | in-Ok w ↦ rw (w.input-is, w.out-is, w.ran-is) (found_runs (g.F.Shelf.files c.args.shelf.now) c.args.order c.args.named.now _ _ _ _ w.in-Ok.found w.write_at_end-ran.result w.in-Ok.ensures.found w.write_at_end-ran.ensures.ran)
      | in-Err w ↦ rw (w.input-is, w.out-is, w.ran-is) (stop_runs (g.F.Shelf.files c.args.shelf.now) c.args.order c.args.named.now _ (g.I.Source.left c.args.input.now) _ (g.O.Sink.written c.args.out.now) w.in-Err.stop w.in-Err.ensures.found)
    ]
