use Rattle.mh_msgfile.proofs.HasBlocks.{loose_if_paired, lacks_message_if_unpaired}
use Rattle.mh_msgfile.proofs.loose.read_loose.Goals as goal

pub returns-in-None-clause-file : goal.returns-in-None-clause-file
returns-in-None-clause-file c = loose_if_paired c.args.bytes.now c.in_ok-found.found c.in_ok-found.ensures.blocks c.in-None.is

pub returns-in-Some-clause-file : goal.returns-in-Some-clause-file
returns-in-Some-clause-file c = lacks_message_if_unpaired c.args.bytes.now c.in_ok-found.found c.in-Some.line c.in_ok-found.ensures.blocks c.in-Some.is
