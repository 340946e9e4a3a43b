use Rattle.mh_rules.specs.declared.modules.Module.{Module}
use Rattle.std.specs.List.{flat_map}
use Rattle.mh_join_names.specs.Names.{alias_of}
use Rattle.mh_join_names.proofs.Lists.{InsertsNew-more}
use Rattle.mh_join_parts.proofs.aliases.put_aliases.Goals as goal

pub loop-file-preserved : goal.loop-file-preserved
loop-file-preserved c = InsertsNew-more (λ (m : Module). flat_map alias_of m.tokens) c.args.aliases.now c.loop-file.aliases c.add_aliases.new.aliases c.args.files.now c.loop-file.file-index c.file-item.result c.loop-file-test.true c.file-item.is c.loop-file.invariant (rw c.as_slice.ensures at c.in_ok-add_aliases.ensures)
