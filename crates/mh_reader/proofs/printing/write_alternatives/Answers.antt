use Rattle.mh_reader.specs.code.Printed.{alternative_pieces}
use Rattle.mh_reader.proofs.PrintedText.{Writes-next}
use Rattle.mh_reader.proofs.printing.write_alternatives.Goals as goal

pub loop-alternative-preserved : goal.loop-alternative-preserved
loop-alternative-preserved c = Writes-next alternative_pieces c.args.alternatives.now _ _ _ _ _ c.loop-alternative-test.true c.alternative-item.is c.loop-alternative.invariant c.in_ok-write_alternative.ensures
