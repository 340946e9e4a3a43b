use Rattle.std.proofs.Common.{◌≡◌, [], ◌++◌, Some, None, map, take}
use Rattle.mh_join_names.specs.code.SymbolTables.{meanings_in}
use Rattle.mh_join_parts.proofs.building.put_starts.Given as goal

abbrev pub invariant-loop-name : goal.invariant-loop-name
invariant-loop-name l = map Some l.starts ≡ [] ++ map ((meanings_in l.names).numbers.rule None) (take l.name-index l.name-items)
