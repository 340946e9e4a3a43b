use Rattle.std.proofs.Common.{take}
use Rattle.std.specs.List.{flat_map}
use Rattle.mh_join_names.specs.Names.{alias_of}
use Rattle.mh_join_names.specs.code.Insertions.{InsertsNew}
use Rattle.mh_join_parts.proofs.aliases.put_aliases.Given as goal

abbrev pub invariant-loop-file : goal.invariant-loop-file
invariant-loop-file l = InsertsNew l.initial.aliases (flat_map (λ m. flat_map alias_of m.tokens) (take l.file-index l.files)) l.aliases
