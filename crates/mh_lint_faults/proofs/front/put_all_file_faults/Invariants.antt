use Rattle.std.proofs.Common.{◌≡◌, ◌++◌, List, drop, flat_map}
use Rattle.std.specs.List.{enumerate_from}
use Rattle.mh_join_names.specs.code.SymbolTables.{meanings_in}
use Rattle.mh_lint_findings.specs.Lines.{lines_of}
use Rattle.mh_lint_faults.specs.FaultLines.{name_lines}
use Rattle.mh_lint_faults.specs.code.ReadFiles.{IsSplit}
use Rattle.mh_reader_places.specs.declared.reading.PlacedModule.{PlacedModule}
use Rattle.mh_lint_faults.proofs.front.put_all_file_faults.Given as goal

abbrev pub invariant-loop-at : goal.invariant-loop-at
invariant-loop-at l = (found : List PlacedModule) → IsSplit found l.read → lines_of l.findings.items ++ flat_map (name_lines (meanings_in l.names)) (enumerate_from l.at (drop l.at found)) ≡ lines_of l.fn.findings.items ++ flat_map (name_lines (meanings_in l.names)) (enumerate_from 0 found)
