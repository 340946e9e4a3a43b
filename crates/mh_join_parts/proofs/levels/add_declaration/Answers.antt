use Rattle.std.specs.HashMap.{get}
use Rattle.mh_rules.specs.declared.modules.Ref.{Ref}
use Rattle.mh_join_names.specs.Names.{same, with_level, name_by, level_in}
use Rattle.mh_join_names.proofs.Lists.{InsertsNew-more}
use Rattle.mh_join_parts.proofs.levels.add_declaration.Goals as goal

pub loop-reference-preserved : goal.loop-reference-preserved
loop-reference-preserved c = InsertsNew-more (λ (r : Ref). with_level (level_in c.args.file c.args.rank c.args.declared.now.assoc) (name_by (λ a. get same c.args.aliases.now a) r)) c.args.levels.now c.loop-reference.levels c.add_level.new.levels c.as_slice-reference-items.result.now c.loop-reference.reference-index c.reference-item.result c.loop-reference-test.true c.reference-item.is c.loop-reference.invariant c.in_ok-add_level.ensures
