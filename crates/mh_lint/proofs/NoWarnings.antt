-- An accepted grammar has no line exactly if no warning of any kind is to be given.
use Rattle.std.proofs.Common.{◌≡◌, ◌↔◌, ℕ, zero, suc, ◌+◌, List, [], ◌∷◌, ◌++◌, map, Some, refl, sym, ap, ap₂, ◌∙◌, subst, arith, append_assoc}
use Rattle.std.specs.Prelude.{slice_get}
use Rattle.std.specs.List.{All, AllByRecursion, enumerate_from}
use Rattle.std.proofs.lemmas.List.{append-nil}
use Rattle.std.proofs.lemmas.List.Elements.{All-cons, All-head, All-nil, All-tail}
use Rattle.mh_grammar.proofs.Lists.{nil_parts}
use Rattle.mh_grammar.specs.declared.types.Grammar.{Grammar}
use Rattle.mh_grammar.specs.Text.{Text}
use Rattle.mh_items_kernels.specs.KernelTypes.{Automaton}
use Rattle.mh_tables_core.specs.Table.{TableData}
use Rattle.mh_join_names.specs.Faults.{Meanings}
use Rattle.mh_reader_places.specs.declared.mentions.Mention.{Mention}
use Rattle.mh_reader_places.specs.declared.reading.PlacedModule.{PlacedModule}
use Rattle.mh_resolve_cells.specs.declared.conflicts.Conflict.{Conflict}
use Rattle.mh_resolve_cells.specs.declared.kinds.ConflictKind.TheVariants.{Solved}
use Rattle.mh_lint_findings.specs.Lines.{Line}
use Rattle.mh_lint_findings.specs.LinesInOrder.{AreInOrder}
use Rattle.mh_lint_findings.specs.LinesInOrder as order
use Rattle.mh_lint_states.specs.AutomatonLines.{AreAutomatonLines, AreConflictLines, AreProductionLines, ordinary}
use Rattle.mh_lint_states.specs.AutomatonLines as states
use Rattle.mh_lint_states.specs.Reductions.{IsReduced}
use Rattle.mh_lint_faults.specs.Stages.{Stages}
use Rattle.mh_lint.specs.Built.{Built}
use Rattle.mh_lint.specs.MentionWarnings.{IsWarning}
use Rattle.mh_lint.specs.NoWarnings.{HasNoWarning}
use Rattle.mh_lint.specs.Warnings.{AreFileLines, AreLinesOfFile, AreNameLines, AreWarningLines, IsNamedBefore, cost_line}
use Rattle.mh_lint.specs.Warnings as lines

-- ---- Lines of the items of a list.

module _ {A : Type 0} (Of : A → List Line → Type 0) where
  -- If a list has no line, no item has.
  each_empty : (xs : List A) (ls : List Line) → AreInOrder Of xs ls → ls ≡ [] → AllByRecursion (λ x. Of x []) xs
  each_empty [] ls order.AreInOrder.none e = tt
  each_empty (x ∷ xs) ls (order.AreInOrder.more {lines = first} {rest = rest} is others all) e =
      let parts = nil_parts first rest (sym all ∙ e) in
      (subst (Of x) parts.0 is, each_empty xs rest others parts.1)

  -- If no item has a line, the list has none.
  all_empty : (Clean : A → Type 0) → ((x : A) (ls : List Line) → Clean x → Of x ls → ls ≡ []) → (xs : List A) (ls : List Line) → AllByRecursion Clean xs → AreInOrder Of xs ls → ls ≡ []
  all_empty Clean silent [] ls all order.AreInOrder.none = refl
  all_empty Clean silent (x ∷ xs) ls all (order.AreInOrder.more {lines = first} {rest = rest} is others e) =
      e ∙ ap₂ (λ (l r : List Line). l ++ r) (silent x first all.0 is) (all_empty Clean silent xs rest all.1 others)

-- What is true of each numbered item is true of the item at each index.
module _ {A : Type 0} (P : ℕ → A → Type 0) where
  numbered_at : (n : ℕ) (xs : List A) → AllByRecursion (λ (e : ℕ × A). P e.0 e.1) (enumerate_from n xs) → (k : ℕ) (x : A) → slice_get xs k ≡ Some x → P (n + k) x
  numbered_at n [] all k x at = absurd cc
  numbered_at n (y ∷ ys) all zero x at =
      let one : y ≡ x = cc in
      subst (λ z. P (n + 0) z) one (let here : P n y = all.0 in subst (λ m. P m y) (let e : n ≡ n + 0 = omega arith in e) here)
  numbered_at n (y ∷ ys) all (suc k) x at =
      subst (λ m. P m x) (let e : (n + 1) + k ≡ n + suc k = omega arith in e) (numbered_at (n + 1) ys all.1 k x at)

  all_numbered : (n : ℕ) (xs : List A) → ((k : ℕ) (x : A) → slice_get xs k ≡ Some x → P (n + k) x) → AllByRecursion (λ (e : ℕ × A). P e.0 e.1) (enumerate_from n xs)
  all_numbered n [] each = tt
  all_numbered n (y ∷ ys) each = (
    subst (λ m. P m y) (let e : n + 0 ≡ n = omega arith in e) (each 0 y refl),
    all_numbered (n + 1) ys (λ k x at. subst (λ m. P m x) (let e : n + suc k ≡ (n + 1) + k = omega arith in e) (each (suc k) x at)),
  )

from_zero : {A : Type 0} (P : ℕ → A → Type 0) (xs : List A) → AllByRecursion (λ (e : ℕ × A). P e.0 e.1) (enumerate_from 0 xs) → (k : ℕ) (x : A) → slice_get xs k ≡ Some x → P k x
from_zero P xs all k x at = subst (λ m. P m x) (let e : 0 + k ≡ k = omega arith in e) (numbered_at P 0 xs all k x at)

to_zero : {A : Type 0} (P : ℕ → A → Type 0) (xs : List A) → ((k : ℕ) (x : A) → slice_get xs k ≡ Some x → P k x) → AllByRecursion (λ (e : ℕ × A). P e.0 e.1) (enumerate_from 0 xs)
to_zero P xs each = all_numbered P 0 xs (λ k x at. subst (λ m. P m x) (let e : k ≡ 0 + k = omega arith in e) (each k x at))

-- ---- The lines of a file.

no_costs : (file : ℕ) (costs : List ℕ) → map (cost_line file) costs ≡ [] → costs ≡ []
no_costs file [] e = refl
no_costs file (c ∷ cs) e = absurd cc

module _ (s : Stages) (b : Built) (w : Meanings) (file : ℕ) where
  -- No mention after `before` among these has a warning.
  abbrev HasNone : List Mention → List Mention → Type 0
  HasNone before xs = (earlier : List Mention) (x : Mention) (later : List Mention) (text : Text) → xs ≡ earlier ++ x ∷ later → IsWarning s b w file (before ++ earlier) x text → ⊥

  none_after : (before xs : List Mention) (x : Mention) → ((text : Text) → IsWarning s b w file before x text → ⊥) → HasNone (before ++ x ∷ []) xs → HasNone before (x ∷ xs)
  none_after before xs x clear rest [] y later text split is =
      let one : x ≡ y = cc in
      clear text (subst (λ z. IsWarning s b w file before z text) (sym one) (subst (λ l. IsWarning s b w file l y text) (append-nil before) is))
  none_after before xs x clear rest (z ∷ earlier) y later text split is =
      let one : x ≡ z = cc in
      let more : xs ≡ earlier ++ y ∷ later = cc in
      rest earlier y later text more (subst (λ l. IsWarning s b w file l y text) (sym (append_assoc before (x ∷ []) earlier)) (subst (λ m. IsWarning s b w file (before ++ m ∷ earlier) y text) (sym one) is))

  file_clean : (before xs : List Mention) (costs : List ℕ) (ls : List Line) → AreFileLines s b w file before xs costs ls → ls ≡ [] → (costs ≡ []) × HasNone before xs
  file_clean before xs costs ls lines.AreFileLines.ended e = (no_costs file costs e, λ earlier x later text split is. absurd (let never = (nil_parts earlier (x ∷ later) (sym split)).1 in cc))
  file_clean before xs costs ls (lines.AreFileLines.attribute first rest) e = absurd cc
  file_clean before xs costs ls (lines.AreFileLines.warned text first is rest) e = absurd cc
  file_clean before xs costs ls (lines.AreFileLines.clear {xs = after} {x = x} first none rest) e =
      let clean = file_clean (before ++ x ∷ []) after costs ls rest e in (clean.0, none_after before after x none clean.1)

  later_none : (before xs : List Mention) (x : Mention) → HasNone before (x ∷ xs) → HasNone (before ++ x ∷ []) xs
  later_none before xs x none earlier y later text split is =
      none (x ∷ earlier) y later text (ap (λ (l : List Mention). x ∷ l) split) (subst (λ l. IsWarning s b w file l y text) (append_assoc before (x ∷ []) earlier) is)

  file_empty : (before xs : List Mention) (costs : List ℕ) (ls : List Line) → costs ≡ [] → HasNone before xs → AreFileLines s b w file before xs costs ls → ls ≡ []
  file_empty before xs costs ls e none lines.AreFileLines.ended = ap (map (cost_line file)) e
  file_empty before xs costs ls e none (lines.AreFileLines.attribute first rest) = absurd cc
  file_empty before xs costs ls e none (lines.AreFileLines.warned {xs = after} {x = x} text first is rest) =
      absurd (none [] x after text refl (subst (λ l. IsWarning s b w file l x text) (sym (append-nil before)) is))
  file_empty before xs costs ls e none (lines.AreFileLines.clear {xs = after} {x = x} first clear rest) =
      file_empty (before ++ x ∷ []) after costs ls e (later_none before after x none) rest

-- Each attribute of the file gives its cost, and no mention has a warning.
abbrev IsCleanFile : Stages → Built → Meanings → ℕ → PlacedModule → Type 0
IsCleanFile s b w file p = (p.bad_costs ≡ []) × HasNone s b w file [] p.mentions

-- ---- The lines on whole files and on the automaton.

name_clean : (names : List Text) (e : ℕ × Text) (ls : List Line) → AreNameLines names e ls → ls ≡ [] → IsNamedBefore names e.0 → ⊥
name_clean names e ls (lines.AreNameLines.new none) nothing is = none is
name_clean names e ls (lines.AreNameLines.again so) nothing is = absurd cc

name_empty : (names : List Text) (e : ℕ × Text) (ls : List Line) → (IsNamedBefore names e.0 → ⊥) → AreNameLines names e ls → ls ≡ []
name_empty names e ls never (lines.AreNameLines.new none) = refl
name_empty names e ls never (lines.AreNameLines.again is) = absurd (never is)

module _ (g : Grammar) (a : Automaton) (t : TableData) where
  production_clean : (p : ℕ) (ls : List Line) → AreProductionLines g t p ls → ls ≡ [] → IsReduced t p
  production_clean p ls (states.AreProductionLines.reduced is) nothing = is
  production_clean p ls (states.AreProductionLines.never_reduced never) nothing = absurd cc

  production_empty : (p : ℕ) (ls : List Line) → IsReduced t p → AreProductionLines g t p ls → ls ≡ []
  production_empty p ls is (states.AreProductionLines.reduced so) = refl
  production_empty p ls is (states.AreProductionLines.never_reduced never) = absurd (never is)

  conflict_clean : (c : Conflict) (ls : List Line) → AreConflictLines g a c ls → ls ≡ [] → c.kind ≡ Solved
  conflict_clean c ls (states.AreConflictLines.solved is) nothing = is
  conflict_clean c ls (states.AreConflictLines.unsolved kind is text) nothing = absurd cc
  conflict_clean c ls (states.AreConflictLines.stream is) nothing = absurd cc

  conflict_empty : (c : Conflict) (ls : List Line) → c.kind ≡ Solved → AreConflictLines g a c ls → ls ≡ []
  conflict_empty c ls solved (states.AreConflictLines.solved is) = refl
  conflict_empty c ls solved (states.AreConflictLines.unsolved kind is text) = absurd cc
  conflict_empty c ls solved (states.AreConflictLines.stream is) = absurd cc

each : {A : Type 0} (P Q : A → Type 0) → ((x : A) → P x → Q x) → (xs : List A) → AllByRecursion P xs → All Q xs
each P Q on [] all = All-nil Q
each P Q on (x ∷ xs) all = All-cons Q x xs (on x all.0) (each P Q on xs all.1)

by_recursion : {A : Type 0} (P : A → Type 0) (xs : List A) → All P xs → AllByRecursion P xs
by_recursion P [] all = tt
by_recursion P (x ∷ xs) all = (All-head P x xs all, by_recursion P xs (All-tail P x xs all))

-- ---- All lines.

module _ (names : List Text) (s : Stages) (b : Built) (w : Meanings) (ls : List Line) (are : AreWarningLines names s b w ls) where
  clean_if_empty : ls ≡ [] → HasNoWarning names s b w
  clean_if_empty e =
      let of_automaton = are.are_of_automaton in
      let parts = nil_parts (are.placed ++ are.of_files) are.of_automaton (sym are.is ∙ e) in
      let of_names = nil_parts are.placed are.of_files parts.0 in
      let halves = nil_parts of_automaton.unreduced of_automaton.of_conflicts (sym of_automaton.is ∙ parts.1) in
      let files = from_zero (λ k p. AreFileLines s b w k [] p.mentions p.bad_costs []) s.found (each_empty (AreLinesOfFile s b w) (enumerate_from 0 s.found) are.placed are.are_placed of_names.0) in
      let named = from_zero (λ k name. AreNameLines names (k, name) []) names (each_empty (AreNameLines names) (enumerate_from 0 names) are.of_files are.are_of_files of_names.1) in
      let productions = each_empty (AreProductionLines s.grammar b.table) (ordinary s.grammar) of_automaton.unreduced of_automaton.are_unreduced halves.0 in
      let conflicts = each_empty (AreConflictLines s.grammar b.automaton) b.conflicts of_automaton.of_conflicts of_automaton.are_conflicts halves.1 in
      record {
        mentions = λ file before x text of is. (file_clean s b w file [] of.placed.mentions of.placed.bad_costs [] (files file of.placed of.of_files) refl).1 before x of.after text of.split is;
        costs = λ file placed at. (file_clean s b w file [] placed.mentions placed.bad_costs [] (files file placed at) refl).0;
        once_named = λ n is. name_clean names (n, is.name) [] (named n is.name is.again) refl is;
        reduced = each (λ p. AreProductionLines s.grammar b.table p []) (IsReduced b.table) (λ p lines. production_clean s.grammar b.automaton b.table p [] lines refl) (ordinary s.grammar) productions;
        decided = each (λ c. AreConflictLines s.grammar b.automaton c []) (λ (c : Conflict). c.kind ≡ Solved) (λ c lines. conflict_clean s.grammar b.automaton b.table c [] lines refl) b.conflicts conflicts;
      }

  empty_if_clean : HasNoWarning names s b w → ls ≡ []
  empty_if_clean clean =
      let of_automaton = are.are_of_automaton in
      let placed : are.placed ≡ [] = all_empty (AreLinesOfFile s b w) (λ (e : ℕ × PlacedModule). IsCleanFile s b w e.0 e.1) (λ e lines clear is. file_empty s b w e.0 [] e.1.mentions e.1.bad_costs lines clear.0 clear.1 is)
      (enumerate_from 0 s.found) are.placed (to_zero (IsCleanFile s b w) s.found (clean_file clean)) are.are_placed in
      let of_files : are.of_files ≡ [] = all_empty (AreNameLines names) (λ (e : ℕ × Text). IsNamedBefore names e.0 → ⊥) (name_empty names) (enumerate_from 0 names) are.of_files (to_zero (λ k name. IsNamedBefore names k → ⊥) names (λ k name at. clean.once_named k)) are.are_of_files in
      let unreduced : of_automaton.unreduced ≡ [] = all_empty (AreProductionLines s.grammar b.table) (IsReduced b.table) (production_empty s.grammar b.automaton b.table) (ordinary s.grammar) of_automaton.unreduced (by_recursion (IsReduced b.table) (ordinary s.grammar) clean.reduced) of_automaton.are_unreduced in
      let conflicts : of_automaton.of_conflicts ≡ [] = all_empty (AreConflictLines s.grammar b.automaton) (λ (c : Conflict). c.kind ≡ Solved) (conflict_empty s.grammar b.automaton b.table) b.conflicts of_automaton.of_conflicts (by_recursion (λ (c : Conflict). c.kind ≡ Solved) b.conflicts clean.decided) of_automaton.are_conflicts in
      let automaton : are.of_automaton ≡ [] = of_automaton.is ∙ ap₂ (λ (l r : List Line). l ++ r) unreduced conflicts in
      are.is ∙ ap₂ (λ (l r : List Line). l ++ r) (ap₂ (λ (l r : List Line). l ++ r) placed of_files) automaton
    where
      clean_file : HasNoWarning names s b w → (k : ℕ) (p : PlacedModule) → slice_get s.found k ≡ Some p → IsCleanFile s b w k p
      clean_file clear k p at = (
        clear.costs k p at,
        λ earlier x later text split is. clear.mentions k earlier x text (record { placed = p; after = later; of_files = at; split = split }) is,
      )

  pub no_lines_exactly : (ls ≡ []) ↔ HasNoWarning names s b w
  no_lines_exactly = (clean_if_empty, empty_if_clean)
