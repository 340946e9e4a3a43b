-- The lines for the warnings on an accepted grammar (this project's own).
use Rattle.std.specs.Prelude.{◌≡◌, ◌<◌, ◌≤◌, ◌++◌, ℕ, List, [], ◌∷◌, map, codes, Some, slice_get}
use Rattle.std.specs.List.{enumerate_from}
use Rattle.mh_grammar.specs.Text.{Text}
use Rattle.mh_join_names.specs.Faults.{Meanings}
use Rattle.mh_reader_places.specs.declared.mentions.Mention.{Mention}
use Rattle.mh_reader_places.specs.declared.reading.PlacedModule.{PlacedModule}
use Rattle.mh_lint_findings.specs.Lines.{Line, line}
use Rattle.mh_lint_findings.specs.LinesInOrder.{AreInOrder}
use Rattle.mh_lint_findings.specs.declared.findings.Position.TheVariants.{InFile, OfFile}
use Rattle.mh_lint_states.specs.AutomatonLines.{AreAutomatonLines}
use Rattle.mh_lint_faults.specs.Stages.{Stages}
use Rattle.mh_lint.specs.Built.{Built}
use Rattle.mh_lint.specs.MentionWarnings.{IsWarning}

-- ---- Warnings with places.

abbrev pub cost_line : ℕ → ℕ → Line
cost_line file start = line (InFile file start) (codes "attribute without a cost")

-- The first of the positions, if there is one, is not before this one.
abbrev pub IsNoneBefore : List ℕ → ℕ → Type 0
IsNoneBefore [] start = Unit {0}
IsNoneBefore (cost ∷ costs) start = start ≤ cost

-- The lines of a file in the order of places: the warnings at its mentions, and its attributes that should give a cost.
-- The mentions `before` come first; `costs` are the positions of the attributes that are left.
pub data AreFileLines (s : Stages) (b : Built) (w : Meanings) (file : ℕ) : List Mention → List Mention → List ℕ → List Line → Type 0 where
  ended : {before : List Mention} {costs : List ℕ} → AreFileLines s b w file before [] costs (map (cost_line file) costs)
  attribute : {before xs : List Mention} {x : Mention} {start : ℕ} {costs : List ℕ} {lines : List Line} → start < x.start
      → AreFileLines s b w file before (x ∷ xs) costs lines → AreFileLines s b w file before (x ∷ xs) (start ∷ costs) (cost_line file start ∷ lines)
  warned : {before xs : List Mention} {x : Mention} {costs : List ℕ} {lines : List Line} (text : Text) → IsNoneBefore costs x.start → IsWarning s b w file before x text
      → AreFileLines s b w file (before ++ x ∷ []) xs costs lines → AreFileLines s b w file before (x ∷ xs) costs (line (InFile file x.start) text ∷ lines)
  clear : {before xs : List Mention} {x : Mention} {costs : List ℕ} {lines : List Line} → IsNoneBefore costs x.start → ((text : Text) → IsWarning s b w file before x text → ⊥)
      → AreFileLines s b w file (before ++ x ∷ []) xs costs lines → AreFileLines s b w file before (x ∷ xs) costs lines

-- The lines of file number e.0, counted from 0.
abbrev pub AreLinesOfFile : Stages → Built → Meanings → ℕ × PlacedModule → List Line → Type 0
AreLinesOfFile s b w e lines = AreFileLines s b w e.0 [] e.1.mentions e.1.bad_costs lines

-- ---- Warnings on whole files.

-- An earlier file has the name of file n.
pub record IsNamedBefore (names : List Text) (n : ℕ) : Type 0 where
  pub earlier : ℕ
  pub name : Text
  pub before : earlier < n
  pub first : slice_get names earlier ≡ Some name
  pub again : slice_get names n ≡ Some name

-- The line for file number e.0, if an earlier file has its name.
pub data AreNameLines (names : List Text) (e : ℕ × Text) : List Line → Type 0 where
  new : (IsNamedBefore names e.0 → ⊥) → AreNameLines names e []
  again : IsNamedBefore names e.0 → AreNameLines names e (line (OfFile e.0) (codes "file named twice") ∷ [])

-- ---- All warnings.

-- The warnings on an accepted grammar: those with places, in the order of files and places; then those on whole files;
-- then those on the automaton.
pub record AreWarningLines (names : List Text) (s : Stages) (b : Built) (w : Meanings) (lines : List Line) : Type 0 where
  pub placed : List Line
  pub of_files : List Line
  pub of_automaton : List Line
  pub are_placed : AreInOrder (AreLinesOfFile s b w) (enumerate_from 0 s.found) placed
  pub are_of_files : AreInOrder (AreNameLines names) (enumerate_from 0 names) of_files
  pub are_of_automaton : AreAutomatonLines s.grammar b.automaton b.table b.conflicts of_automaton
  pub is : lines ≡ placed ++ of_files ++ of_automaton
