use Rattle.std.proofs.Common.{◌+◌, arith}
use Rattle.std.specs.HashMap.{get}
use Rattle.mh_join_names.specs.Names.{same, levels_in}
use Rattle.mh_join_names.proofs.Lists.{InsertsNew-enum_more}
use Rattle.mh_join_parts.proofs.levels.put_levels.Goals as goal

pub loop-at-preserved : goal.loop-at-preserved
loop-at-preserved c = InsertsNew-enum_more (levels_in (λ a. get same c.args.aliases.now a)) c.args.levels.now c.loop-at.levels c.add_declarations.new.levels 1 c.args.files.now c.loop-at.at (c.loop-at.at + 1) c.index-files-at.result c.loop-at-test.true c.index-files-at.is (omega arith) c.loop-at.invariant (rw c.as_slice.ensures at c.in_ok-add_declarations.ensures)
