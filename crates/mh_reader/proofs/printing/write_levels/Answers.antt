use Rattle.mh_reader.specs.code.Printed.{level_pieces}
use Rattle.mh_reader.proofs.PrintedText.{Writes-next}
use Rattle.mh_reader.proofs.printing.write_levels.Goals as goal

pub loop-level-preserved : goal.loop-level-preserved
loop-level-preserved c = Writes-next level_pieces c.args.levels.now _ _ _ _ _ c.loop-level-test.true c.level-item.is c.loop-level.invariant c.in_ok-write_level.ensures
