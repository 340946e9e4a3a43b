use Rattle.mh_tables_core.proofs.TreesMatchStack.{TreesMatchRun-start}
use Rattle.mh_tables_core.proofs.table.Table.trees_spell.Goals as goal

pub returns : goal.returns
returns c = TreesMatchRun-start c.args.self.now c.facts.ensures
