use Rattle.std.proofs.Common.{List}
use Rattle.mh_join_names.specs.code.SymbolTables.{meanings_in}
use Rattle.mh_reader_places.specs.declared.reading.PlacedModule.{PlacedModule}
use Rattle.mh_lint_faults.specs.code.ReadFiles.{IsSplit}
use Rattle.mh_lint_faults.proofs.FirstMentions.{NoneIn}
use Rattle.mh_lint_faults.proofs.IsDefinedAt.{Defines}
use Rattle.mh_lint_faults.proofs.definitions.first_definition.Given as goal

abbrev pub invariant-loop-at : goal.invariant-loop-at
invariant-loop-at l = (found : List PlacedModule) → IsSplit found l.read → NoneIn found (Defines (meanings_in l.names) l.number) l.at
