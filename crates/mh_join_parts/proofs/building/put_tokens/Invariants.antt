use Rattle.std.proofs.Common.{◌≡◌, map, take}
use Rattle.mh_join_names.specs.Joining.{token_info}
use Rattle.mh_join_names.specs.code.SymbolTables.{meanings_in}
use Rattle.mh_join_parts.proofs.building.put_tokens.Given as goal

abbrev pub invariant-loop-name : goal.invariant-loop-name
invariant-loop-name l = l.tokens ≡ map (token_info (meanings_in l.names)) (take l.name-index l.name-items)
