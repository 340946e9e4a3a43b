-- The lines for warnings are within the files.
use Rattle.std.proofs.Common.{◌≡◌, ℕ, suc, ◌+◌, ◌≤◌, List, [], ◌∷◌, ◌++◌, Some, length, map, refl, sym, subst, arith}
use Rattle.std.specs.List.{All, Contains, enumerate_from, slice_get}
use Rattle.std.proofs.lemmas.List.Elements.{All-append, All-cons, All-head, All-nil, All-tail}
use Rattle.mh_grammar.proofs.Lists.{contains_here, contains_there}
use Rattle.mh_grammar.specs.Text.{Text}
use Rattle.mh_grammar.specs.declared.types.Grammar.{Grammar}
use Rattle.mh_items_kernels.specs.KernelTypes.{Automaton}
use Rattle.mh_tables_core.specs.Table.{TableData}
use Rattle.mh_resolve_cells.specs.declared.conflicts.Conflict.{Conflict}
use Rattle.mh_join_names.specs.Faults.{Meanings}
use Rattle.mh_reader_places.specs.declared.mentions.Mention.{Mention}
use Rattle.mh_reader_places.specs.declared.reading.PlacedModule.{PlacedModule}
use Rattle.mh_lint_findings.specs.Lines.{Line, lines_of}
use Rattle.mh_lint_findings.specs.LinesInOrder.{AreInOrder}
use Rattle.mh_lint_findings.specs.LinesInOrder as order
use Rattle.mh_lint_findings.specs.Positions.{IsPositionWithin}
use Rattle.mh_lint_findings.specs.declared.findings.Finding.{Finding}
use Rattle.mh_lint_findings.specs.declared.findings.GrammarFile.{GrammarFile}
use Rattle.mh_lint_faults.specs.Stages.{AreRead, Stages}
use Rattle.mh_lint_faults.proofs.PositionsWithin.{cost_within, mention_within}
use Rattle.mh_lint_states.specs.AutomatonLines.{AreAutomatonLines, AreConflictLines, AreProductionLines, ordinary}
use Rattle.mh_lint_states.specs.AutomatonLines as automaton
use Rattle.mh_lint.specs.Built.{Built}
use Rattle.mh_lint.specs.Warnings.{AreFileLines, AreLinesOfFile, AreNameLines, AreWarningLines, cost_line}
use Rattle.mh_lint.specs.Warnings as lines

module _ (files : List GrammarFile) where
  abbrev IsLineWithin : Line → Type 0
  IsLineWithin x = IsPositionWithin files x.at

  abbrev AreWithin : List Line → Type 0
  AreWithin ls = All IsLineWithin ls

  -- Lines in order, if those of each item are within the files.
  in_order_within : {A : Type 0} (Of : A → List Line → Type 0) → ((x : A) (ls : List Line) → Of x ls → AreWithin ls) → (xs : List A) (ls : List Line) → AreInOrder Of xs ls → AreWithin ls
  in_order_within Of each [] ls order.AreInOrder.none = All-nil IsLineWithin
  in_order_within Of each (x ∷ xs) ls (order.AreInOrder.more {lines = here} {rest = later} is others e) = subst AreWithin (sym e) (All-append IsLineWithin here later (each x here is) (in_order_within Of each xs later others))

  -- ---- The lines of files.

  costs_within : (n : ℕ) (f : GrammarFile) (costs : List ℕ) → slice_get files n ≡ Some f → ((start : ℕ) → Contains costs start → start ≤ length f.bytes) → AreWithin (map (cost_line n) costs)
  costs_within n f [] at h = All-nil IsLineWithin
  costs_within n f (start ∷ costs) at h = All-cons IsLineWithin _ _ (f, at, h start (contains_here start costs)) (costs_within n f costs at (λ c there. h c (contains_there start costs c there)))

  file_within : (s : Stages) (b : Built) (w : Meanings) (n : ℕ) (f : GrammarFile) (before xs : List Mention) (costs : List ℕ) (ls : List Line) → slice_get files n ≡ Some f
      → ((x : Mention) → Contains xs x → x.start ≤ length f.bytes) → ((start : ℕ) → Contains costs start → start ≤ length f.bytes) → AreFileLines s b w n before xs costs ls → AreWithin ls
  file_within s b w n f before [] costs ls at ms cs lines.AreFileLines.ended = costs_within n f costs at cs
  file_within s b w n f before (x ∷ xs) (start ∷ costs) ls at ms cs (lines.AreFileLines.attribute {lines = rest} l p) =
      All-cons IsLineWithin _ _ (f, at, cs start (contains_here start costs)) (file_within s b w n f before (x ∷ xs) costs rest at ms (λ c there. cs c (contains_there start costs c there)) p)
  file_within s b w n f before (x ∷ xs) costs ls at ms cs (lines.AreFileLines.warned {lines = rest} t none is p) =
      All-cons IsLineWithin _ _ (f, at, ms x (contains_here x xs)) (file_within s b w n f (before ++ x ∷ []) xs costs rest at (λ y c. ms y (contains_there x xs y c)) cs p)
  file_within s b w n f before (x ∷ xs) costs ls at ms cs (lines.AreFileLines.clear {lines = rest} none never p) =
      file_within s b w n f (before ++ x ∷ []) xs costs rest at (λ y c. ms y (contains_there x xs y c)) cs p

  -- The files from number n on.
  abbrev AreFilesFrom : ℕ → List GrammarFile → Type 0
  AreFilesFrom n rest = (k : ℕ) (f : GrammarFile) → slice_get rest k ≡ Some f → slice_get files (n + k) ≡ Some f

  files_within : (s : Stages) (b : Built) (w : Meanings) (n : ℕ) (rest : List GrammarFile) (found : List PlacedModule) (ls : List Line) → AreFilesFrom n rest → AreRead rest found → AreInOrder (AreLinesOfFile s b w) (enumerate_from n found) ls → AreWithin ls
  files_within s b w n rest [] ls h reads order.AreInOrder.none = All-nil IsLineWithin
  files_within s b w n [] (p ∷ found) ls h reads is = absurd reads
  files_within s b w n (f ∷ rest) (p ∷ found) ls h reads (order.AreInOrder.more {lines = here} {rest = later} is others e) =
      subst AreWithin (sym e) (All-append IsLineWithin here later
      (file_within s b w n f [] p.mentions p.bad_costs here (let zero : n + 0 ≡ n = omega arith in subst (λ m. slice_get files m ≡ Some f) zero (h 0 f refl)) (λ x c. mention_within f.bytes p reads.0 x c) (λ c there. cost_within f.bytes p reads.0 c there) is)
      (files_within s b w (n + 1) rest found later (λ k g at. (let same : n + suc k ≡ n + 1 + k = omega arith in subst (λ m. slice_get files m ≡ Some g) same (h (suc k) g at))) reads.1 others))

  -- ---- Lines without a place.

  name_within : (names : List Text) (e : ℕ × Text) (ls : List Line) → AreNameLines names e ls → AreWithin ls
  name_within names e ls (lines.AreNameLines.new first) = All-nil IsLineWithin
  name_within names e ls (lines.AreNameLines.again is) = All-cons IsLineWithin _ [] tt (All-nil IsLineWithin)

  production_within : (g : Grammar) (t : TableData) (p : ℕ) (ls : List Line) → AreProductionLines g t p ls → AreWithin ls
  production_within g t p ls (automaton.AreProductionLines.reduced is) = All-nil IsLineWithin
  production_within g t p ls (automaton.AreProductionLines.never_reduced never) = All-cons IsLineWithin _ [] tt (All-nil IsLineWithin)

  conflict_within : (g : Grammar) (a : Automaton) (c : Conflict) (ls : List Line) → AreConflictLines g a c ls → AreWithin ls
  conflict_within g a c ls (automaton.AreConflictLines.solved is) = All-nil IsLineWithin
  conflict_within g a c ls (automaton.AreConflictLines.unsolved kind is text) = All-cons IsLineWithin _ [] tt (All-nil IsLineWithin)
  conflict_within g a c ls (automaton.AreConflictLines.stream is) = All-cons IsLineWithin _ [] tt (All-nil IsLineWithin)

  automaton_within : (g : Grammar) (a : Automaton) (t : TableData) (conflicts : List Conflict) (ls : List Line) → AreAutomatonLines g a t conflicts ls → AreWithin ls
  automaton_within g a t conflicts ls h =
      subst AreWithin (sym h.is) (All-append IsLineWithin h.unreduced h.of_conflicts
      (in_order_within (AreProductionLines g t) (production_within g t) (ordinary g) h.unreduced h.are_unreduced)
      (in_order_within (AreConflictLines g a) (conflict_within g a) conflicts h.of_conflicts h.are_conflicts))

  -- ---- All lines.

  all_files : AreFilesFrom 0 files
  all_files k f e = let same : k ≡ 0 + k = omega arith in subst (λ m. slice_get files m ≡ Some f) same e

  lines_within : (names : List Text) (s : Stages) (b : Built) (w : Meanings) (ls : List Line) → AreRead files s.found → AreWarningLines names s b w ls → AreWithin ls
  lines_within names s b w ls reads h =
      subst AreWithin (sym h.is) (All-append IsLineWithin (h.placed ++ h.of_files) h.of_automaton
      (All-append IsLineWithin h.placed h.of_files
      (files_within s b w 0 files s.found h.placed all_files reads h.are_placed)
      (in_order_within (AreNameLines names) (name_within names) (enumerate_from 0 names) h.of_files h.are_of_files))
      (automaton_within s.grammar b.automaton b.table b.conflicts h.of_automaton h.are_of_automaton))

  findings_within : (found : List Finding) → AreWithin (lines_of found) → All (λ (f : Finding). IsPositionWithin files f.at) found
  findings_within [] h = All-nil _
  findings_within (f ∷ fs) h = All-cons (λ (g : Finding). IsPositionWithin files g.at) f fs (All-head IsLineWithin _ (lines_of fs) h) (findings_within fs (All-tail IsLineWithin _ (lines_of fs) h))

  pub warnings_within : (names : List Text) (s : Stages) (b : Built) (w : Meanings) (found : List Finding) → AreRead files s.found → AreWarningLines names s b w (lines_of found) → All (λ (f : Finding). IsPositionWithin files f.at) found
  warnings_within names s b w found reads h = findings_within found (lines_within names s b w (lines_of found) reads h)
