-- The files that were read, and their syntax faults.
use Rattle.std.specs.Prelude.{◌≡◌, ◌++◌, ℕ, List, [], ◌∷◌, length, map, codes}
use Rattle.std.specs.List.{enumerate_from}
use Rattle.mh_rules.specs.Ready.{AreModulesReady, IsModuleReady}
use Rattle.mh_reader_parser.specs.Faults.{IsSyntaxPlace}
use Rattle.mh_reader_places.specs.Places.{ReadsPlaced}
use Rattle.mh_reader_places.specs.declared.reading.PlacedModule.{PlacedModule}
use Rattle.mh_lint_findings.specs.Lines.{Line, line, lines_of}
use Rattle.mh_lint_findings.specs.LinesInOrder.{AreInOrder}
use Rattle.mh_lint_findings.specs.declared.findings.Finding.{Finding}
use Rattle.mh_lint_findings.specs.declared.findings.GrammarFile.{GrammarFile}
use Rattle.mh_lint_findings.specs.declared.findings.Position.TheVariants.{InFile}
use Rattle.mh_lint_faults.specs.Stages.{AreRead, modules_of}
use Rattle.mh_lint_faults.specs.FaultLines.{AreSyntaxLines}
use Rattle.mh_lint_faults.specs.declared.reading.ReadFiles.{ReadFiles}

-- The modules with their places, as separate lists.
pub record IsSplit (found : List PlacedModule) (read : ReadFiles) : Type 0 where
  pub modules : read.modules.items ≡ modules_of found
  pub mentions : read.mentions.items ≡ map (λ (p : PlacedModule). p.mentions) found
  pub bad_costs : read.bad_costs.items ≡ map (λ (p : PlacedModule). p.bad_costs) found

-- Each module has its mentions and its attributes.
pub record HasPlaces (read : ReadFiles) : Type 0 where
  pub mentions : length read.mentions.items ≡ length read.modules.items
  pub bad_costs : length read.bad_costs.items ≡ length read.modules.items

-- The module of a file is added, or its first syntax fault.
pub data ReadsFile (number : ℕ) (file : GrammarFile) (old : ReadFiles) (before : List Finding) (new : ReadFiles) (after : List Finding) : Type 0 where
  spelled : (placed : PlacedModule) → ReadsPlaced file.bytes placed → IsModuleReady placed.module → ((found : List PlacedModule) → IsSplit found old → IsSplit (found ++ placed ∷ []) new) → after ≡ before → ReadsFile number file old before new after
  faulty : (start : ℕ) → IsSyntaxPlace file.bytes start → lines_of after ≡ lines_of before ++ line (InFile number start) (codes "syntax error") ∷ [] → ReadsFile number file old before new after

-- All files of a list are read.
pub record AreAllRead (files : List GrammarFile) (read : ReadFiles) : Type 0 where
  pub found : List PlacedModule
  pub are_read : AreRead files found
  pub ready : AreModulesReady (modules_of found)
  pub split : IsSplit found read

-- The findings are the first syntax faults of the files. If there is none, all files are read.
pub record AreFilesRead (files : List GrammarFile) (read : ReadFiles) (findings : List Finding) : Type 0 where
  pub lines : AreInOrder AreSyntaxLines (enumerate_from 0 files) (lines_of findings)
  pub spelled : findings ≡ [] → AreAllRead files read
