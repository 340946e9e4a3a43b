use Rattle.std.proofs.Common.{take}
use Rattle.std.specs.List.{flat_map}
use Rattle.mh_join_names.specs.Names.{alias_of}
use Rattle.mh_join_names.specs.code.Insertions.{InsertsNew}
use Rattle.mh_join_parts.proofs.aliases.add_aliases.Given as goal

abbrev pub invariant-loop-token : goal.invariant-loop-token
invariant-loop-token l = InsertsNew l.initial.aliases (flat_map alias_of (take l.token-index l.tokens)) l.aliases
