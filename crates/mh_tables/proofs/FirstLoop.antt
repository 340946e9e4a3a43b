-- Lemmas on the search for the first relative run that makes more than `MAX_REDUCTIONS` reductions (that loops), for
-- each loop of the search. A relative run makes reductions from a start state alone, or above a state as long as this
-- state is not removed.
use Rattle.std.proofs.Common.{◌≡◌, ℕ, zero, suc, ◌+◌, ◌<◌, ◌≤◌, ◌⊎◌, inl, inr, List, [], ◌∷◌, ◌++◌, length, get_or, Some, None, Option, Bool, true, false, cond, refl, ap, sym, arith, ◌∙◌, below_more}
use Rattle.std.proofs.lemmas.Bool.{cases_lt, cases_eq}
use Rattle.std.proofs.lemmas.List.{get_or_default}
use Rattle.std.proofs.lemmas.List.Elements.{All-push, Contains-push, Contains-append_left}
use Rattle.std.proofs.lemmas.List.Sorted.{All-permutation, Contains-permutation, IsNonDecreasingBy-from_sort}
use Rattle.std.specs.List.{slice_get, All, Contains}
use Rattle.std.specs.List.Sorted.{IsPermutation, IsSorted}
use Rattle.std.specs.Ordering.{nat_cmp}
use Rattle.mh_grammar.specs.declared.types.Symbol.{Symbol}
use Rattle.mh_grammar.specs.declared.edges.Edge.{Edge}
use Rattle.mh_tables_core.specs.Table.{TableData, state_at, edge_of}
use Rattle.mh_grammar.specs.Edges.{find_edge, same_symbol}
use Rattle.mh_tables_core.specs.Facts.{Facts}
use Rattle.mh_tables_core.specs.Run.{reductions}
use Rattle.mh_grammar.proofs.EdgeOrder.{edge_found}
use Rattle.mh_tables_core.proofs.Reductions.{reductions_none, reductions_split, reductions_before}
use Rattle.mh_tables_core.specs.Halting.{IsBeginning, IsLook, RunLoops, NeverLoops, IsOptionBefore, IsFirstLoop, AlwaysHalts, look_list, beginning}
use Rattle.mh_tables_core.proofs.SymbolsInRange.{edge_source}
use Rattle.mh_tables.specs.code.Relative.{IsFirstLoopingLook, IsFirstLoopingState, NoneLoopsAbove, AddsTarget, AreTargets, NoneLoops}

pub first_look_is : (t : TableData) (below : Option ℕ) (s z : ℕ) → z < t.grammar.tokens → (RunLoops t below s None → ⊥) → ((y : ℕ) → y < z → RunLoops t below s (Some y) → ⊥) → RunLoops t below s (Some z) → IsFirstLoopingLook t below s (Some z)
first_look_is t below s z lt none tokens loops = record { known = lt; loops = loops; no_earlier_look = earlier }
  where
    earlier : (look' : Option ℕ) → IsOptionBefore look' (Some z) → IsLook t look' → RunLoops t below s look' → ⊥
    earlier None b l h = none h
    earlier (Some y) b l h = tokens y b h

pub tokens_more : (t : TableData) (below : Option ℕ) (s z : ℕ) → ((y : ℕ) → y < z → RunLoops t below s (Some y) → ⊥) → (RunLoops t below s (Some z) → ⊥) → (y : ℕ) → y < z + 1 → RunLoops t below s (Some y) → ⊥
tokens_more t below s z tokens here = below_more _ z tokens here

pub never_loops : (t : TableData) (below : Option ℕ) (s z : ℕ) → t.grammar.tokens ≤ z → (RunLoops t below s None → ⊥) → ((y : ℕ) → y < z → RunLoops t below s (Some y) → ⊥) → NeverLoops t below s
never_loops t below s z le none tokens None l h = none h
never_loops t below s z le none tokens (Some y) l h = tokens y (omega (arith, l)) h

-- The list has an edge to the state u.
abbrev pub HasEdgeTo : List Edge → ℕ → Type 0
HasEdgeTo es u = (k : ℕ) × (e : Edge) × (k < length es) × (slice_get es k ≡ Some e) × (e.target ≡ u)

here_or : (e : Edge) (es : List Edge) (x : Symbol) (u : ℕ) (b : Bool) → cond b (Some e.target) (find_edge es x) ≡ Some u → (find_edge es x ≡ Some u → HasEdgeTo es u) → HasEdgeTo (e ∷ es) u
here_or e es x u true h rest = (0, e, omega arith, refl, cc)
here_or e es x u false h rest = let r = rest h in (suc r.0, r.1, (let l = r.2 in omega arith), r.3, r.4)

-- If an edge on the symbol x is found and leads to u, the list has an edge to u.
pub HasEdgeTo-found : (es : List Edge) (x : Symbol) (u : ℕ) → find_edge es x ≡ Some u → HasEdgeTo es u
HasEdgeTo-found [] x u h = cc
HasEdgeTo-found (e ∷ es) x u h = here_or e es x u (same_symbol e.symbol x) h (HasEdgeTo-found es x u)

-- An edge in the list of a state's edges is the edge of the state on its symbol.
pub edge_is : (t : TableData) (f : Facts t) (r : ℕ) (es : List Edge) (k : ℕ) (e : Edge) → es ≡ (state_at t r).edges → slice_get es k ≡ Some e → edge_of t r e.symbol ≡ Some e.target
unfolding edge_of
edge_is t f r es k e is at = rw (← is) (edge_found es k e (rw is (f.ranges.order r)) at)

pub target_added : (t : TableData) (r u : ℕ) (old new : List ℕ) → IsBeginning t (Some r) u → new ≡ old ++ u ∷ [] → AddsTarget t r u old new
target_added t r u old new begins is = record {
  each = λ h. rw is (All-push (IsBeginning t (Some r)) old u h begins);
  kept = λ v there. rw is (Contains-append_left old (u ∷ []) v there);
  added_or_halts = inl (rw is (Contains-push old u));
}

-- The list of targets is complete after all edges were visited and the list was sorted.
pub targets_are : (t : TableData) (f : Facts t) (r n : ℕ) (es : List Edge) (added targets : List ℕ) → es ≡ (state_at t r).edges → length es ≤ n → All (IsBeginning t (Some r)) added
    → ((k : ℕ) (e : Edge) → k < n → slice_get es k ≡ Some e → Contains added e.target ⊎ NeverLoops t (Some r) e.target) → IsPermutation added targets → IsSorted nat_cmp targets → AreTargets t r targets
unfolding edge_of
targets_are t f r n es added targets is past each all moved sorted =
    let begins : All (IsBeginning t (Some r)) targets = All-permutation (IsBeginning t (Some r)) added targets moved each in
    record {
      each = begins;
      all = λ u b. (
          let found = HasEdgeTo-found es b.0 u (rw is b.1) in
          let inside = found.2 in
          elim (all found.0 found.1 (omega arith) found.3) [
            | inl there ↦ inl (Contains-permutation added targets u moved (rw found.4 at there))
            | inr clear ↦ inr (rw found.4 at clear)
          ]);
      known = λ k d lt. let b = begins k d lt in f.each_target r b.0 (get_or targets k d) b.1;
      order = IsNonDecreasingBy-from_sort (λ x. x) targets sorted;
    }

-- The invariant holds after one more edge was visited.
pub targets_more : (t : TableData) (r n : ℕ) (es : List Edge) (old new : List ℕ) (e : Edge) → slice_get es n ≡ Some e → AddsTarget t r e.target old new → ((k : ℕ) (d : Edge) → k < n → slice_get es k ≡ Some d → Contains old d.target ⊎ NeverLoops t (Some r) d.target)
    → (k : ℕ) (d : Edge) → k < n + 1 → slice_get es k ≡ Some d → Contains new d.target ⊎ NeverLoops t (Some r) d.target
targets_more t r n es old new e at adds before k d l is = elim (cases_eq k n) [
  | inl same ↦ (
      let one : Some d ≡ Some e = sym is ∙ ap (slice_get es) same ∙ at in
      let edge : d ≡ e = cc in
      rw edge adds.added_or_halts)
  | inr other ↦ elim (before k d (omega arith) is) [ inl c ↦ inl (adds.kept d.target c) | inr clear ↦ inr clear ]
]

pub first_looping_alone : (t : TableData) (s : ℕ) (look : Option ℕ) → s < length t.grammar.starts → ((s' : ℕ) → s' < s → NeverLoops t None s') → IsFirstLoopingLook t None s look → IsFirstLoopingState t None s look
first_looping_alone t s look lt before found = record { begins = lt; first = found; no_earlier_state = λ s' l b. before s' l }

pub none_loops_alone_more : (t : TableData) (s : ℕ) → ((s' : ℕ) → s' < s → NeverLoops t None s') → NeverLoops t None s → (s' : ℕ) → s' < s + 1 → NeverLoops t None s'
none_loops_alone_more t s before here = below_more (λ k. NeverLoops t None k) s before here

-- If the target s at index i begins a relative run above r that loops, and no target before i does, then s is the first
-- state that does.
pub first_looping_above : (t : TableData) (r : ℕ) (targets : List ℕ) (i s : ℕ) (look : Option ℕ) → AreTargets t r targets → i < length targets → s ≡ get_or targets i 0 → ((k : ℕ) → k < i → NeverLoops t (Some r) (get_or targets k 0))
    → IsFirstLoopingLook t (Some r) s look → IsFirstLoopingState t (Some r) s look
first_looping_above t r targets i s look h lt is before found = record {
  begins = rw is (h.each i 0 lt);
  first = found;
  no_earlier_state = earlier;
}
  where
    earlier : (s' : ℕ) → s' < s → IsBeginning t (Some r) s' → NeverLoops t (Some r) s'
    earlier s' less b =
        elim (h.all s' b) [
          | inl there ↦ (
              let read : get_or targets there.0 0 ≡ s' = get_or_default targets there.0 0 s' there.1 ∙ there.2 in
              elim (cases_lt there.0 i) [
                | inl lower ↦ rw read at (before there.0 lower)
                | inr upper ↦ absurd (let o : get_or targets i 0 ≤ get_or targets there.0 0 = h.order i there.0 0 upper there.1 in omega arith)
              ])
          | inr clear ↦ clear
        ]

pub none_loops_above_more : (t : TableData) (r : ℕ) (targets : List ℕ) (i s : ℕ) → s ≡ get_or targets i 0 → ((k : ℕ) → k < i → NeverLoops t (Some r) (get_or targets k 0)) → NeverLoops t (Some r) s → (k : ℕ) → k < i + 1 → NeverLoops t (Some r) (get_or targets k 0)
none_loops_above_more t r targets i s is before here = below_more (λ k. NeverLoops t (Some r) (get_or targets k 0)) i before (rw is at here)

pub none_loops_above_all : (t : TableData) (r : ℕ) (targets : List ℕ) (i : ℕ) → AreTargets t r targets → length targets ≤ i → ((k : ℕ) → k < i → NeverLoops t (Some r) (get_or targets k 0)) → NoneLoopsAbove t (Some r)
none_loops_above_all t r targets i h le before s b =
    elim (h.all s b) [
      | inl there ↦ (
          let read : get_or targets there.0 0 ≡ s = get_or_default targets there.0 0 s there.1 ∙ there.2 in
          rw read at (before there.0 (let l = there.1 in omega arith)))
      | inr clear ↦ clear
    ]

pub loops_alone : (t : TableData) (s : ℕ) (look : Option ℕ) → IsFirstLoopingState t None s look → IsFirstLoop t None s look
loops_alone t s look h = record {
  begins = h.begins;
  known = h.first.known;
  loops = h.first.loops;
  no_lower = none_lower;
  no_earlier_state = h.no_earlier_state;
  no_earlier_look = h.first.no_earlier_look;
}
  where
    none_lower : (b : Option ℕ) (s' : ℕ) → IsOptionBefore b None → IsBeginning t b s' → NeverLoops t b s'
    none_lower None s' before begins = absurd before
    none_lower (Some r) s' before begins = absurd before

pub loops_above : (t : TableData) (r s : ℕ) (look : Option ℕ) → NoneLoopsAbove t None → ((r' : ℕ) → r' < r → NoneLoopsAbove t (Some r')) → IsFirstLoopingState t (Some r) s look → IsFirstLoop t (Some r) s look
loops_above t r s look alone lower h = record {
  begins = h.begins;
  known = h.first.known;
  loops = h.first.loops;
  no_lower = clear_lower;
  no_earlier_state = h.no_earlier_state;
  no_earlier_look = h.first.no_earlier_look;
}
  where
    clear_lower : (b : Option ℕ) (s' : ℕ) → IsOptionBefore b (Some r) → IsBeginning t b s' → NeverLoops t b s'
    clear_lower None s' before begins = alone s' begins
    clear_lower (Some r') s' before begins = lower r' before s' begins

pub lower_more : (t : TableData) (r : ℕ) → ((r' : ℕ) → r' < r → NoneLoopsAbove t (Some r')) → NoneLoopsAbove t (Some r) → (r' : ℕ) → r' < r + 1 → NoneLoopsAbove t (Some r')
lower_more t r before here = below_more (λ k. NoneLoopsAbove t (Some k)) r before here

pub none_loops : (t : TableData) (n : ℕ) → length t.states ≤ n → NoneLoopsAbove t None → ((r' : ℕ) → r' < n → NoneLoopsAbove t (Some r')) → NoneLoops t
none_loops t n le alone lower None s b = alone s b
none_loops t n le alone lower (Some r) s b = lower r (let l = edge_source t r s b.0 b.1 in omega arith) s b

-- A run that makes n reductions makes every smaller number of reductions.
makes_fewer : (t : TableData) (left : List ℕ) (k n : ℕ) (from new : List ℕ) → k ≤ n → reductions t left n from ≡ Some new → (mid : List ℕ) × (reductions t left k from ≡ Some mid)
makes_fewer t left zero n from new le e = (from, reductions_none t left from)
makes_fewer t left (suc k) zero from new le e = absurd (omega arith)
makes_fewer t left (suc k) (suc n) from new le e =
    let split = reductions_split t left from new n e in
    let rest = makes_fewer t left k n split.0 new (omega arith) split.2 in
    (rest.0, reductions_before t left from split.0 rest.0 k split.1 rest.1)

-- If no relative run makes `MAX_REDUCTIONS` + 1 reductions, none makes more.
pub halts_if_none_loops : (t : TableData) → NoneLoops t → AlwaysHalts t
halts_if_none_loops t none below s look n begins known made =
    elim (cases_lt n 10001) [ inl lt ↦ omega arith | inr le ↦ absurd (none below s begins look known (makes_fewer t (look_list look) 10001 n (beginning below s) made.0 le made.1)) ]

-- A table with a relative run that loops does not pass the halting test.
pub not_halting_if_loops : (t : TableData) (below : Option ℕ) (s : ℕ) (look : Option ℕ) → IsFirstLoop t below s look → AlwaysHalts t → ⊥
not_halting_if_loops t below s look h halts = let few : 10001 ≤ 10000 = halts below s look 10001 h.begins h.known h.loops in omega arith
