use Rattle.std.proofs.Common.{take}
use Rattle.std.specs.List.{flat_map}
use Rattle.mh_join_names.specs.Faults.{kinds_in}
use Rattle.mh_join_names.specs.code.Insertions.{InsertsNew}
use Rattle.mh_join_parts.proofs.kinds.put_kinds.Given as goal

abbrev pub invariant-loop-file : goal.invariant-loop-file
invariant-loop-file l = InsertsNew l.initial.kinds (flat_map kinds_in (take l.file-index l.files)) l.kinds
