use Rattle.std.proofs.Common.{ℕ, ◌<◌, List}
use Rattle.mh_join_names.specs.code.SymbolTables.{meanings_in}
use Rattle.mh_reader_places.specs.declared.mentions.Mention.{Mention}
use Rattle.mh_reader_places.specs.declared.reading.PlacedModule.{PlacedModule}
use Rattle.mh_lint_faults.specs.FaultLines.{IsDefinition, IsRuleNamed}
use Rattle.mh_lint_faults.specs.code.ReadFiles.{IsSplit}
use Rattle.mh_lint_faults.proofs.definitions.position_of.Given as goal

abbrev pub invariant-loop-number : goal.invariant-loop-number
invariant-loop-number l = (found : List PlacedModule) → IsSplit found l.read → (file n : ℕ) (before : List Mention) (x : Mention) → n < l.number → IsRuleNamed l.joined l.printed n → IsDefinition (meanings_in l.names) found file before x n → ⊥
