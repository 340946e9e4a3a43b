use Rattle.std.proofs.Common.{◌≡◌, drop}
use Rattle.std.specs.List.{flat_map}
use Rattle.mh_rules.specs.declared.modules.Ref.{Ref}
use Rattle.mh_join_names.specs.Names.{name_by, level_in}
use Rattle.mh_join_names.specs.Faults.{other_level}
use Rattle.mh_join_names.specs.code.SymbolTables.{meanings_in}
use Rattle.mh_join_faults.proofs.duplicates.check_declaration.Given as goal

abbrev pub invariant-loop-reference : goal.invariant-loop-reference
invariant-loop-reference l = flat_map (λ (r : Ref). other_level (meanings_in l.names) (level_in l.file l.rank l.declared.assoc) (name_by (meanings_in l.names).aliased r)) (drop l.reference-index l.reference-items) ≡ flat_map (λ (r : Ref). other_level (meanings_in l.names) (level_in l.file l.rank l.declared.assoc) (name_by (meanings_in l.names).aliased r)) l.reference-items
