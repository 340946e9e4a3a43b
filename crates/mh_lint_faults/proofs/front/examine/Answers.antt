use Rattle.std.proofs.lemmas.Result.{IfOk-weaker}
use Rattle.mh_lint_faults.specs.code.ReadFiles.{AreAllRead}
use Rattle.mh_lint_faults.specs.declared.front.Examined.TheVariants.{Faulty}
use Rattle.mh_lint_faults.proofs.FaultsWithin.{examined_within}
use Rattle.mh_lint_faults.proofs.FilesRead.{no_finding, some_finding}
use Rattle.mh_lint_faults.proofs.ReportsAt.{modules_ready, syntax_examined}
use Rattle.mh_lint_faults.proofs.SplitFiles.{has_places}
use Rattle.mh_lint_faults.proofs.front.examine.Goals as goal

pub examine_read-requires-clause-places : goal.examine_read-requires-clause-places
examine_read-requires-clause-places c = let all : AreAllRead c.args.files.now c.in_ok-read.read = c.in_ok-read.ensures.spelled (no_finding c.read_files.new.findings c.is_empty.result c.is_empty.ensures c.if-not-is_empty.false) in has_places all.found c.in_ok-read.read all.split

pub examine_read-requires-clause-ready : goal.examine_read-requires-clause-ready
examine_read-requires-clause-ready c = let all : AreAllRead c.args.files.now c.in_ok-read.read = c.in_ok-read.ensures.spelled (no_finding c.read_files.new.findings c.is_empty.result c.is_empty.ensures c.if-not-is_empty.false) in modules_ready c.args.files.now c.in_ok-read.read all

pub returns-then-not-is_empty-clause-examined : goal.returns-then-not-is_empty-clause-examined
returns-then-not-is_empty-clause-examined c = syntax_examined c.args.files.now c.args.prelude c.in_ok-read.read c.read_files.new.findings c.in_ok-read.ensures (some_finding c.read_files.new.findings c.is_empty.result c.is_empty.ensures c.if-not-is_empty.true)

pub returns-then-not-is_empty-clause-within : goal.returns-then-not-is_empty-clause-within
returns-then-not-is_empty-clause-within c = examined_within c.args.files.now c.args.prelude (Faulty c.read_files.new.findings) (syntax_examined c.args.files.now c.args.prelude c.in_ok-read.read c.read_files.new.findings c.in_ok-read.ensures (some_finding c.read_files.new.findings c.is_empty.result c.is_empty.ensures c.if-not-is_empty.true))

pub returns-clause-examined : goal.returns-clause-examined
returns-clause-examined c =
    let all : AreAllRead c.args.files.now c.in_ok-read.read = c.in_ok-read.ensures.spelled (no_finding c.read_files.new.findings c.is_empty.result c.is_empty.ensures c.if-not-is_empty.false) in
    IfOk-weaker c.examine_read.result _ _ (λ e examined. examined c.args.files.now all.found all.are_read all.split) c.examine_read.ensures.examined

pub returns-clause-within : goal.returns-clause-within
returns-clause-within c =
    let all : AreAllRead c.args.files.now c.in_ok-read.read = c.in_ok-read.ensures.spelled (no_finding c.read_files.new.findings c.is_empty.result c.is_empty.ensures c.if-not-is_empty.false) in
    IfOk-weaker c.examine_read.result _ _ (λ e examined. examined_within c.args.files.now c.args.prelude e (examined c.args.files.now all.found all.are_read all.split)) c.examine_read.ensures.examined
