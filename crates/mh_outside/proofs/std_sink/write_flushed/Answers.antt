use Rattle.mh_outside.proofs.PassesOn.{prefix_written}
use Rattle.mh_outside.proofs.std_sink.write_flushed.Goals as goal

pub returns-then-is_err-clause-passed : goal.returns-then-is_err-clause-passed
returns-then-is_err-clause-passed g c = prefix_written _ _ _ _ _ c.in-Ok.ensures.bytes c.flush.ensures.bytes
