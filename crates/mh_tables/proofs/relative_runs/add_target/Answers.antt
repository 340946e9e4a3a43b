use Rattle.mh_tables.proofs.FirstLoop.{target_added}
use Rattle.mh_tables.proofs.relative_runs.add_target.Goals as goal

pub returns : goal.returns
returns c = target_added c.args.table.now c.args.from c.args.edge.now.target c.args.targets.now.items c.push.new.self.items (c.args.edge.now.symbol, c.requires.edge) c.in_ok-push.ensures.items
