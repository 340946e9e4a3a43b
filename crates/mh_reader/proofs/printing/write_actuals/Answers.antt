use Rattle.mh_reader_parser.specs.code.Pieces.{actual_pieces}
use Rattle.mh_reader.proofs.PrintedText.{Writes-next}
use Rattle.mh_reader.proofs.printing.write_actuals.Goals as goal

pub loop-actual-preserved : goal.loop-actual-preserved
loop-actual-preserved c = Writes-next actual_pieces c.args.actuals.now _ _ _ _ _ c.loop-actual-test.true c.actual-item.is c.loop-actual.invariant c.in_ok-write_actual.ensures
