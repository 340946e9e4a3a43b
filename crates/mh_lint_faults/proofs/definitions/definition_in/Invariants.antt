use Rattle.std.proofs.Common.{◌≡◌, Some, take}
use Rattle.std.specs.List.{Contains}
use Rattle.mh_join_names.specs.code.SymbolTables.{meanings_in}
use Rattle.mh_reader_places.specs.declared.mentions.Mention.{Mention}
use Rattle.mh_lint_faults.specs.FaultLines.{rule_at}
use Rattle.mh_lint_faults.proofs.definitions.definition_in.Given as goal

abbrev pub invariant-loop-mention : goal.invariant-loop-mention
invariant-loop-mention l = (x : Mention) → Contains (take l.mention-index l.mentions) x → rule_at (meanings_in l.names) l.file.number l.file.module.now x ≡ Some l.number → ⊥
