-- Proves, as a double negation, that the conflicts of an automaton have explanations.
use Rattle.std.proofs.Common.{ℕ, ◌<◌, ◌≤◌, inl, inr, List, [], ◌∷◌, ◌++◌, Option, Some, None, map, length, refl, subst, arith}
use Rattle.std.specs.Prelude.{codes}
use Rattle.std.specs.List.{AllByRecursion, Contains}
use Rattle.std.proofs.lemmas.Bool.{cases_lt}
use Rattle.mh_grammar.specs.declared.types.Grammar.{Grammar}
use Rattle.mh_grammar.specs.declared.types.Look.{Look}
use Rattle.mh_grammar.specs.declared.types.Look.TheVariants.{Token, End}
use Rattle.mh_grammar.specs.Edges.{IsRising}
use Rattle.mh_grammar.specs.Plain.{plain_of, production_count, rhs_of, IsInRange}
use Rattle.mh_grammar.specs.Text.{Text}
use Rattle.mh_grammar.proofs.Lists.{contains_map, map_contains}
use Rattle.mh_grammar.specs.NotLacking.{NotLacking}
use Rattle.mh_grammar.proofs.NotLacking.{given, chain, decided, select}
use Rattle.mh_canon.proofs.ItemsOfGrammar.{place_in, places, places_rising}
use Rattle.mh_canon.proofs.MovedKernels.{close_in, kernel_in}
use Rattle.mh_items_kernels.specs.KernelTypes.{Automaton, KernelItem}
use Rattle.mh_items_kernels.specs.Automaton.{IsAutomaton, closure_of, edges_at, kernel_at, kernel_of}
use Rattle.mh_items_kernels.specs.Kernels.{IsItemBefore}
use Rattle.mh_report_notation.specs.Warnings.{conflict_line}
use Rattle.mh_resolve_cells.specs.Conflicts.{IsConflictOf}
use Rattle.mh_resolve_cells.specs.States.{core_item_of, shift_on}
use Rattle.mh_resolve_cells.specs.declared.conflicts.Conflict.{Conflict}
use Rattle.mh_resolve_cells.specs.declared.kinds.ConflictKind.{ConflictKind}
use Rattle.mh_resolve_cells.specs.declared.kinds.ConflictKind.TheVariants.{Solved, Unsolved, Stream}
use Rattle.mh_tables_core.specs.declared.parts.Place.{Place}
use Rattle.mh_tables_core.specs.Table.{TableData}
use Rattle.mh_tables_core.specs.Facts.{Facts}
use Rattle.mh_tables_core.specs.Failing.{SentenceAtMost, cost_of_word, max_sentence_cost}
use Rattle.mh_tables_core.specs.Run.{run_move_of}
use Rattle.mh_explain.specs.declared.first_sentence.FoundSentence.{FoundSentence}
use Rattle.mh_explain.specs.declared.first_sentence.FoundSentence.TheVariants.{NoSentence, TooLong, First}
use Rattle.mh_explain.specs.FirstSentences.{ComesWith, IsFoundWith, IsShownWith}
use Rattle.mh_explain.specs.StateActions.{AreActionLines, AreItems, IsPlaceBefore, IsReductionItem, IsShiftItem, reduction_lines, shift_lines, taken_line}
use Rattle.mh_explain.specs.Explanations.{AreEndLines, AreExplanations, AreNextLines, ExplainsConflict, IsExplanation, found_line, next_token}
use Rattle.mh_top_outcomes.proofs.FirstSentence.{First as FirstExample, some_first}
use Rattle.mh_top_outcomes.proofs.LeastExample.{Least, least_number}

-- ---- The items of a closure that have a property, without their looks.

places_after : (i : KernelItem) (xs : List KernelItem) → AllByRecursion (IsItemBefore i) xs → AllByRecursion (IsPlaceBefore (core_item_of i)) (map core_item_of xs)
places_after i [] all = tt
places_after i (x ∷ xs) all = (all.0, places_after i xs all.1)

rising_places : (xs : List KernelItem) → IsRising IsItemBefore xs → IsRising IsPlaceBefore (map core_item_of xs)
rising_places [] rise = tt
rising_places (x ∷ xs) rise = (places_after x xs rise.0, rising_places xs rise.1)

module _ (g : Grammar) (Is : Place → Type 0) (within : (x : Place) → Is x → (x.production < production_count (plain_of g)) × (x.dot ≤ length (rhs_of (plain_of g) x.production))) where
  abbrev all_places : List KernelItem
  all_places = places (plain_of g) 0 (production_count (plain_of g))

  listed : (x : Place) → Is x → Contains all_places (record { production = x.production; dot = x.dot; looks = [] })
  listed x is = let h = within x is in place_in (plain_of g) 0 (production_count (plain_of g)) x.production x.dot (omega arith) (let l = h.0 in omega (arith, l)) h.1

  some_items : NotLacking ((xs : List Place) × AreItems Is xs)
  some_items = chain (select IsItemBefore (λ item. Is (core_item_of item)) all_places) (λ s. given (
    map core_item_of s.xs,
    record {
      rising = rising_places s.xs (s.rising (places_rising (plain_of g) 0 (production_count (plain_of g))));
      exact = λ x. (
        (λ c. let m = map_contains core_item_of s.xs x c in subst Is m.2 (s.each m.0 m.1)),
        (λ is. contains_map core_item_of s.xs (record { production = x.production; dot = x.dot; looks = [] }) (s.all (record { production = x.production; dot = x.dot; looks = [] }) (listed x is) is)),
      );
    },
  ))

-- ---- The first sentence that comes to a state.

module _ (t : TableData) (f : Facts t) (s : ℕ) (Shown : ℕ → Type 0) where
  abbrev ComesHere : ℕ → List ℕ → Type 0
  ComesHere start w = (z : ℕ) × ComesWith t s Shown start w z

  abbrev ComesCheaply : Type 0
  ComesCheaply = (start : ℕ) × (w : List ℕ) × (z : ℕ) × ComesWith t s Shown start w z × (cost_of_word t w ≤ max_sentence_cost)

  abbrev IsFound : Type 0
  IsFound = (found : FoundSentence) × IsFoundWith t s Shown found

  tokens_before : (xs ys : List ℕ) → AllByRecursion (λ z. z < t.grammar.tokens) (xs ++ ys) → AllByRecursion (λ z. z < t.grammar.tokens) xs
  tokens_before [] ys all = tt
  tokens_before (x ∷ xs) ys all = (all.0, tokens_before xs ys all.1)

  no_dearer : (i : ℕ) (u : List ℕ) (j : ℕ) (v : List ℕ) → SentenceAtMost t i u j v → cost_of_word t u ≤ cost_of_word t v
  no_dearer i u j v (inl l) = omega (arith, l)
  no_dearer i u j v (inr r) = let e = r.0 in omega (arith, e)

  with_first : (x : FirstExample t ComesHere) → cost_of_word t x.tokens ≤ max_sentence_cost → Least (λ z. ComesWith t s Shown x.start x.tokens z) → IsFound
  with_first x cheap z = (
    First (cost_of_word t x.tokens) (record { start = x.start; tokens = x.tokens }) z.number,
    (record { comes = z.holds; first = λ i w y c. x.first i w (y, c); lowest = λ y c. z.first y c }, refl, cheap),
  )

  cheap_found : ComesCheaply → NotLacking IsFound
  cheap_found (start, w, z, comes, cheap) =
      chain (some_first t f ComesHere (λ i v h. tokens_before v (h.0 ∷ []) h.1.comes.sentence.tokens) start w (z, comes)) (λ x.
      let low = no_dearer x.start x.tokens start w (x.first start w (z, comes)) in
      chain (least_number (λ y. ComesWith t s Shown x.start x.tokens y) x.holds.0 x.holds.1) (λ y. given (with_first x (omega (arith, low, cheap)) y)))

  dear_found : (start : ℕ) (w : List ℕ) (z : ℕ) → ComesWith t s Shown start w z → (ComesCheaply → ⊥) → IsFound
  dear_found start w z comes none = (
    TooLong,
    record {
      some = (start, w, z, comes);
      all_too_long = λ i v y c. elim (cases_lt max_sentence_cost (cost_of_word t v)) [ inl lt ↦ lt | inr le ↦ absurd (none (i, v, y, c, le)) ];
    },
  )

  some_found : NotLacking IsFound
  some_found = chain (decided ((start : ℕ) × (w : List ℕ) × (z : ℕ) × ComesWith t s Shown start w z)) (λ d. elim d [
    | inl (start, w, z, comes) ↦ chain (decided ComesCheaply) (λ c. elim c [ inl cheap ↦ cheap_found cheap | inr none ↦ given (dear_found start w z comes none) ])
    | inr none ↦ given (NoSentence, λ start w z comes. none (start, w, z, comes))
  ])

-- ---- Each conflict, and each list of conflicts, has an explanation.

module _ (g : Grammar) (a : Automaton) (t : TableData) (f : Facts t) (range : IsInRange (plain_of g)) (automaton : IsAutomaton (plain_of g) a) where
  module _ (s : ℕ) (known : s < length a.kernels) where
    in_range : (p d : ℕ) (look : Look) → closure_of (plain_of g) a s p d look → (p < production_count (plain_of g)) × (d ≤ length (rhs_of (plain_of g) p))
    in_range p d look c = let h = close_in (plain_of g) range (kernel_of a s) (kernel_in (plain_of g) range (kernel_at a s) (automaton.each s known)) p d look c in (h.0, h.1)

    shift_within : (look : Look) (x : Place) → IsShiftItem g (closure_of (plain_of g) a s) look x → (x.production < production_count (plain_of g)) × (x.dot ≤ length (rhs_of (plain_of g) x.production))
    shift_within (Token z) x ((look, c), is) = in_range x.production x.dot look c
    shift_within End x is = absurd is

    reduction_within : (look : Look) (x : Place) → IsReductionItem g (closure_of (plain_of g) a s) look x → (x.production < production_count (plain_of g)) × (x.dot ≤ length (rhs_of (plain_of g) x.production))
    reduction_within look x (c, is) = in_range x.production x.dot look c

    some_actions : (look : Look) → NotLacking ((text : Text) × AreActionLines g a s look text)
    some_actions look =
        chain (some_items g (IsShiftItem g (closure_of (plain_of g) a s) look) (shift_within look)) (λ shifts.
        chain (some_items g (IsReductionItem g (closure_of (plain_of g) a s) look) (reduction_within look)) (λ reductions. given (
          shift_lines g (shift_on (edges_at a s) look) shifts.0 ++ reduction_lines g reductions.0,
          record { shifts = shifts.0; are_shifts = shifts.1; reductions = reductions.0; are_reductions = reductions.1; is = refl },
        )))

    some_end : (look : Look) → NotLacking ((text : Text) × AreEndLines g a s look text)
    some_end (Token z) = given ([], refl)
    some_end End = some_actions End

    some_next : (next : Option ℕ) → NotLacking ((text : Text) × AreNextLines g a t s next text)
    some_next None = given ([], refl)
    some_next (Some z) = chain (some_actions (Token z)) (λ x. given (x.0 ++ taken_line g (run_move_of t s (z ∷ [])), (x.0, x.1, refl)))

    some_conflict : (look : Look) (kind : ConflictKind) → NotLacking ((text : Text) × ExplainsConflict g a t s look kind text)
    some_conflict look kind =
        chain (some_found t f s (IsShownWith t s look)) (λ found. chain (some_end look) (λ ends. chain (some_next (next_token look found.0)) (λ nexts. given (
          conflict_line g s look kind ++ found_line g found.0 ++ ends.0 ++ nexts.0 ++ codes "\n",
          record { found = found.0; is_found = found.1; at_end = ends.0; are_at_end = ends.1; at_next = nexts.0; are_at_next = nexts.1; is = refl },
        ))))

    some_explanation : (look : Look) (kind : ConflictKind) → NotLacking ((text : Text) × IsExplanation g a t s look kind text)
    some_explanation look Solved = given ([], refl)
    some_explanation look Unsolved = some_conflict look Unsolved
    some_explanation look Stream = some_conflict look Stream

  pub some_explanations : (cs : List Conflict) → AllByRecursion (IsConflictOf g a) cs → NotLacking ((text : Text) × AreExplanations g a t cs text)
  some_explanations [] all = given ([], refl)
  some_explanations (c ∷ cs) all = chain (some_explanation c.state all.0.0 c.look c.kind) (λ x. chain (some_explanations cs all.1) (λ y. given (x.0 ++ y.0, (x.0, y.0, x.1, y.1, refl))))
