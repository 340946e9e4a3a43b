use Rattle.std.specs.List.{flat_map}
use Rattle.mh_join_names.specs.Names.{files, definitions_in, prelude_definitions}
use Rattle.mh_join_names.specs.code.SymbolTables.{meanings_in}
use Rattle.mh_join_parts.proofs.AddsAlternatives.{AddsAlternatives-append}
use Rattle.mh_join_parts.proofs.building.add_all.Goals as goal

pub returns : goal.returns
returns c = AddsAlternatives-append (meanings_in c.args.names.now) (flat_map (definitions_in c.args.names.now.starts.keys) (files c.args.modules.now)) (prelude_definitions c.args.from_prelude.now) c.args.joined.now c.add_files.new.joined c.add_prelude.new.joined c.in_ok-add_files.ensures c.in_ok-add_prelude.ensures
