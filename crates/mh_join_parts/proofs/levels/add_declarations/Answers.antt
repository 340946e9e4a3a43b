use Rattle.std.proofs.Common.{arith}
use Rattle.std.specs.HashMap.{get}
use Rattle.mh_join_names.specs.Names.{same, levels_by}
use Rattle.mh_join_names.proofs.Lists.{InsertsNew-enum_more}
use Rattle.mh_join_parts.proofs.levels.add_declarations.Goals as goal

pub loop-rank-preserved : goal.loop-rank-preserved
loop-rank-preserved c = InsertsNew-enum_more (levels_by (λ a. get same c.args.aliases.now a) c.args.file) c.args.levels.now c.loop-rank.levels c.add_declaration.new.levels 0 c.args.declared.now c.loop-rank.rank c.loop-rank.rank c.index-declared-rank.result c.loop-rank-test.true c.index-declared-rank.is (omega arith) c.loop-rank.invariant c.in_ok-add_declaration.ensures
