use Rattle.mh_rules.specs.declared.modules.Module.{Module}
use Rattle.std.specs.List.{flat_map}
use Rattle.mh_join_names.specs.Names.{given_cost}
use Rattle.mh_join_names.proofs.Lists.{InsertsNew-more}
use Rattle.mh_join_parts.proofs.costs.put_costs.Goals as goal

pub loop-file-preserved : goal.loop-file-preserved
loop-file-preserved c = InsertsNew-more (λ (m : Module). flat_map given_cost m.tokens) c.args.costs.now c.loop-file.costs c.add_costs.new.costs c.args.files.now c.loop-file.file-index c.file-item.result c.loop-file-test.true c.file-item.is c.loop-file.invariant (rw c.as_slice.ensures at c.in_ok-add_costs.ensures)
