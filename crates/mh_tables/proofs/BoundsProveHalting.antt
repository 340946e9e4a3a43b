-- Proves that relative runs above a state begin with the run of the upper state alone, and then end or continue above
-- an edge; so bounds that are high enough for each passage bound these runs.
use Rattle.std.proofs.Common.{◌≡◌, ℕ, zero, suc, ◌+◌, ◌-◌, ◌<◌, ◌≤◌, ◌⊎◌, inl, inr, List, [], ◌∷◌, length, take, Some, None, Option, refl, sym, ap, arith, ◌∙◌, below_more, get_or, take_all}
use Rattle.std.specs.List.{slice_index, All}
use Rattle.std.proofs.lemmas.Bool.{cases_lt}
use Rattle.std.proofs.lemmas.List.{length_push}
use Rattle.std.proofs.lemmas.List.Elements.{All-contains, All-more}
use Rattle.mh_grammar.specs.declared.types.Symbol.{Symbol}
use Rattle.mh_grammar.specs.declared.types.Symbol.TheVariants.{N}
use Rattle.mh_grammar.specs.Plain.{rhs_of, lhs_of}
use Rattle.mh_tables.specs.declared.bounds.Passage.{Passage}
use Rattle.mh_tables_core.specs.Table.{TableData, edge_of}
use Rattle.mh_tables_core.specs.Facts.{Facts}
use Rattle.mh_tables_core.specs.Run.{RunMove, Accepts, Asks, Refuses, Shifts, Reduces, run_move_of, top_of, reduce, reduction, reductions, reduced_by}
use Rattle.mh_tables_core.specs.Halting.{IsLook, MakesReductions, look_list}
use Rattle.mh_tables.specs.code.Passages.{symbol_index, HasContinuation, EndsAlone, PassesAlone, KeepsPassages, HasPassage, HasNoUsefulBound, IsEmptyFirst, IsCoveredOn, IsCoveredFrom, IsCovered, AreAllPassages, IsBoundHighEnough, BoundsProveHalting}
use Rattle.mh_tables.specs.declared.bounds.Continuation.TheVariants as courses
use Rattle.mh_tables_core.proofs.SymbolsInRange.{left_below}
use Rattle.mh_tables_core.proofs.IsPath.{FindsStatesAndEdge, reduce_is}
use Rattle.mh_tables_core.proofs.Reductions.{top-drop, reduced, reduces_from_move, reduction_some, reduction_is, reductions_zero, reductions_none, reductions_split, reductions_before}
use Rattle.mh_tables.proofs.ReducedWithin.{no_more_reductions, reduce_short}

top_above : (r : ℕ) (stack : List ℕ) → 0 < length stack → top_of (r ∷ stack) ≡ top_of stack
top_above r stack begun = sym (top-drop (r ∷ stack) 1 (omega arith))

take_above : (r m : ℕ) (stack : List ℕ) → m ≤ length stack → take (length (r ∷ stack) - m) (r ∷ stack) ≡ r ∷ take (length stack - m) stack
take_above r m stack le = let e : length (r ∷ stack) - m ≡ suc (length stack - m) = omega arith in rw e refl

kept_some : (m : ℕ) (stack : List ℕ) → m < length stack → 0 < length (take (length stack - m) stack)
kept_some m stack lt = go (length stack - m) stack (omega arith) (omega arith)
  where
    go : (n : ℕ) (xs : List ℕ) → 0 < n → 0 < length xs → 0 < length (take n xs)
    go zero xs a b = a
    go (suc n) [] a b = b
    go (suc n) (x ∷ xs) a b = omega arith

reduce_above : (t : TableData) (r p : ℕ) (stack new : List ℕ) → reduce t p stack ≡ Some new → reduce t p (r ∷ stack) ≡ Some (r ∷ new)
reduce_above t r p stack new e =
    let h = reduced t p stack new e in
    let m = length (rhs_of t.grammar p) in
    let lt : m < length stack = h.found.states in
    let kept : List ℕ = take (length stack - m) stack in
    let whole : take (length (r ∷ stack) - m) (r ∷ stack) ≡ r ∷ kept = take_above r m stack (omega arith) in
    let found : FindsStatesAndEdge t p (r ∷ stack) = record {
      states = omega arith;
      goto = (h.found.goto.0, rw (whole, top_above r kept (kept_some m stack lt)) h.found.goto.1);
    } in
    reduce_is t p (r ∷ stack) found ∙ ap (λ (l : List ℕ). Some l) (rw whole (ap (λ (l : List ℕ). r ∷ l) (sym h.is)))

reduction_above : (t : TableData) (left : List ℕ) (r : ℕ) (stack new : List ℕ) → 0 < length stack → reduction t left stack ≡ Some new → reduction t left (r ∷ stack) ≡ Some (r ∷ new)
reduction_above t left r stack new begun e =
    let s = reduction_some t left stack new e in
    reduction_is t left (r ∷ stack) (r ∷ new) s.0 (rw (top_above r stack begun) s.1) (reduce_above t r s.0 stack new s.2)

begun_after : (t : TableData) (left stack new : List ℕ) → reduction t left stack ≡ Some new → 0 < length new
begun_after t left stack new e =
    let s = reduction_some t left stack new e in
    let h = reduced t s.0 stack new s.2 in
    let l = length_push (take (length stack - length (rhs_of t.grammar s.0)) stack) h.found.goto.0 in
    rw h.is (omega (arith, l))

reductions_above : (t : TableData) (left : List ℕ) (r n : ℕ) (stack new : List ℕ) → 0 < length stack → reductions t left n stack ≡ Some new → reductions t left n (r ∷ stack) ≡ Some (r ∷ new)
reductions_above t left r zero stack new begun e = rw (reductions_zero t left stack new e) (reductions_none t left (r ∷ new))
reductions_above t left r (suc n) stack new begun e =
    let split = reductions_split t left stack new n e in
    reductions_before t left (r ∷ stack) (r ∷ split.0) (r ∷ new) n (reduction_above t left r stack split.0 begun split.1) (reductions_above t left r n split.0 new (begun_after t left stack split.0 split.1) split.2)

-- After its first m reductions, a run of m + j reductions makes j more.
reductions_rest : (t : TableData) (left : List ℕ) (m j : ℕ) (from mid new : List ℕ) → reductions t left m from ≡ Some mid → reductions t left (m + j) from ≡ Some new → reductions t left j mid ≡ Some new
reductions_rest t left zero j from mid new a b =
    let z : zero + j ≡ j = omega arith in
    rw (← reductions_zero t left from mid a) (rw z at b)
reductions_rest t left (suc m) j from mid new a b =
    let z : suc m + j ≡ suc (m + j) = omega arith in
    let one = reductions_split t left from mid m a in
    let two = reductions_split t left from new (m + j) (rw z at b) in
    let e : two.0 ≡ one.0 = let x = one.1 in let y = two.1 in cc in
    reductions_rest t left m j one.0 mid new one.2 (rw e at two.2)

-- A reduction that removes all states above the lowest state follows an edge of the lowest state, on its left side.
pub record Along (t : TableData) (r p : ℕ) (new : List ℕ) : Type 0 where
  pub target : ℕ
  pub edge : edge_of t r (N (lhs_of t.grammar p)) ≡ Some target
  pub is : new ≡ r ∷ target ∷ []

along : (t : TableData) (left : List ℕ) (r p : ℕ) (stack new : List ℕ) → run_move_of t (top_of (r ∷ stack)) left ≡ Reduces p → length (rhs_of t.grammar p) ≡ length stack → reduction t left (r ∷ stack) ≡ Some new → Along t r p new
along t left r p stack new move same e =
    let s = reduction_some t left (r ∷ stack) new e in
    let one : Reduces p ≡ Reduces s.0 = sym move ∙ s.1 in
    let production : s.0 ≡ p = cc in
    let h = reduced t p (r ∷ stack) new (rw production at s.2) in
    let count : length (r ∷ stack) - length (rhs_of t.grammar p) ≡ 1 = omega (arith, same) in
    record { target = h.found.goto.0; edge = rw count at h.found.goto.1; is = rw count at h.is }

over_by : (t : TableData) (r : ℕ) (stack : List ℕ) (m : RunMove) → ((p : ℕ) → m ≡ Reduces p → length stack < length (rhs_of t.grammar p)) → reduced_by t (r ∷ stack) m ≡ None
over_by t r stack Accepts h = refl
over_by t r stack Asks h = refl
over_by t r stack Refuses h = refl
over_by t r stack (Shifts j) h = refl
over_by t r stack (Reduces p) h = reduce_short t p (r ∷ stack) (length (rhs_of t.grammar p)) refl (let longer = h p refl in omega arith)

-- A reduction that needs more states than the stack has is not made.
over_above : (t : TableData) (left : List ℕ) (r : ℕ) (stack : List ℕ) → 0 < length stack → ((p : ℕ) → run_move_of t (top_of stack) left ≡ Reduces p → length stack < length (rhs_of t.grammar p)) → reduction t left (r ∷ stack) ≡ None
unfolding reduction
over_above t left r stack begun h = over_by t r stack (run_move_of t (top_of (r ∷ stack)) left) (λ p e. h p (rw (top_above r stack begun) at e))

-- If the run of the state alone ends, so does the run above another state.
ends : (t : TableData) (s : ℕ) (look : Option ℕ) (r n : ℕ) → EndsAlone t s look → MakesReductions t (Some r) s look n → n ≤ 100
ends t s look r n e makes =
    let few = e.stops.few in
    elim (cases_lt e.count n) [
      | inl l ↦ absurd (no_more_reductions t (look_list look) e.count n (r ∷ s ∷ []) (r ∷ e.stack) makes.0 (reductions_above t (look_list look) r e.count (s ∷ []) e.stack (omega arith) e.stops.stack_is)
          (over_above t (look_list look) r e.stack e.not_empty e.continues) l makes.1)
      | inr l ↦ omega arith
    ]

-- The reductions that are made above an edge on the nonterminal, after the first `count` + 1.
record GoesOn (t : TableData) (r : ℕ) (look : Option ℕ) (count n nonterminal : ℕ) : Type 0 where
  pub rest : ℕ
  pub sum : n ≡ count + 1 + rest
  pub target : ℕ
  pub edge : edge_of t r (N nonterminal) ≡ Some target
  pub makes : MakesReductions t (Some r) target look rest

passes : (t : TableData) (s : ℕ) (look : Option ℕ) (r n count to : ℕ) → (a : PassesAlone t s look count to) → MakesReductions t (Some r) s look n → (n ≤ 100) ⊎ GoesOn t r look count n a.nonterminal
passes t s look r n count to a makes =
    let few = a.stops.few in
    elim (cases_lt count n) [
      | inl l ↦ (
          let j : ℕ = n - count - 1 in
          let e : count + suc j ≡ n = omega arith in
          let rest = reductions_rest t (look_list look) count (suc j) (r ∷ s ∷ []) (r ∷ a.stack) makes.0 (reductions_above t (look_list look) r count (s ∷ []) a.stack (omega arith) a.stops.stack_is) (rw e makes.1) in
          let split = reductions_split t (look_list look) (r ∷ a.stack) makes.0 j rest in
          let goes = along t (look_list look) r a.continues.0 a.stack split.0 (rw (top_above r a.stack a.not_empty) a.continues.1) a.continues.2 split.1 in
          inr (record { rest = j; sum = omega arith; target = goes.target; edge = rw (← a.continues.3) goes.edge; makes = (makes.0, rw goes.is at split.2) }))
      | inr l ↦ inl (omega arith)
    ]

module _ (t : TableData) (f : Facts t) (ps : List Passage) (bounds : List ℕ) (all : AreAllPassages t ps) (lifted : All (IsBoundHighEnough bounds) ps) where
  abbrev bound : Symbol → ℕ
  bound x = slice_index bounds (symbol_index t x)

  asks : (from to count : ℕ) → HasPassage ps from to count → slice_index bounds from ≤ 9900 → count + 1 + slice_index bounds to ≤ slice_index bounds from
  asks from to count there low = All-contains (IsBoundHighEnough bounds) ps (record { from = from; to = to; count = count }) lifted there low

  never_unclear : (from : ℕ) → HasNoUsefulBound ps from → slice_index bounds from ≤ 9900 → ⊥
  never_unclear from (p, there, same, high) low =
      let asked = All-contains (IsBoundHighEnough bounds) ps p lifted there (rw same low) in
      omega (arith, rw same at asked)

  -- If the production that a run reduces first above an edge has one symbol, this is the symbol of the edge.
  unit_passage : (r u : ℕ) (x : Symbol) (left : List ℕ) (p : ℕ) → edge_of t r x ≡ Some u → run_move_of t u left ≡ Reduces p → length (rhs_of t.grammar p) ≡ 1 → HasPassage ps (symbol_index t x) (symbol_index t (N (lhs_of t.grammar p))) 0
  unit_passage r u x left p edge move one =
      let by = reduces_from_move t u left p move in
      let range = f.ordinary u p by in
      elim (f.complete u p by) [
        | inl core ↦ all.units p range.0 range.1 x one (f.moved_from r x u p 1 edge (rw one at core)).symbol
        | inr none ↦ absurd (let zero_long = none.0 in omega arith)
      ]

  abbrev Few : ℕ → ℕ → ℕ → Symbol → Option ℕ → Type 0
  Few n r u x look = edge_of t r x ≡ Some u → bound x ≤ 9900 → MakesReductions t (Some r) u look n → n ≤ bound x + 100

  -- If an empty production is reduced first, the number of reductions is within the bound.
  empty : (r u : ℕ) (x : Symbol) (look : Option ℕ) (n : ℕ) → bound x ≤ 9900 → MakesReductions t (Some r) u look n → IsEmptyFirst t u look → ((j v : ℕ) (y : Symbol) → j < n → Few j r v y look) → IsCoveredOn t ps (symbol_index t x) u look → n ≤ bound x + 100
  empty r u x look n low makes is again (inl unclear) = absurd (never_unclear (symbol_index t x) unclear low)
  empty r u x look n low makes is again (inr covered) = elim (covered is) [
    | inl over ↦ (let most = ends t u look r n over makes in omega arith)
    | inr (count, to, there, a) ↦ (
        let higher = asks (symbol_index t x) to count there low in
        elim (passes t u look r n count to a makes) [
          | inl most ↦ omega arith
          | inr on ↦ (
              let place : to ≡ symbol_index t (N a.nonterminal) = a.place in
              let above : count + 1 + bound (N a.nonterminal) ≤ bound x = rw place at higher in
              let sum = on.sum in
              let rest = again on.rest on.target (N a.nonterminal) (omega arith) on.edge (omega arith) on.makes in
              omega arith)
        ])
  ]

  few : (fuel n r u : ℕ) (x : Symbol) (look : Option ℕ) → n ≤ fuel → IsLook t look → Few n r u x look
  few zero n r u x look le known edge low makes = omega arith
  few (suc fuel) zero r u x look le known edge low makes = omega arith
  few (suc fuel) (suc j) r u x look le known edge low makes =
      let split = reductions_split t (look_list look) (r ∷ u ∷ []) makes.0 j makes.1 in
      let first = reduction_some t (look_list look) (r ∷ u ∷ []) split.0 split.1 in
      let short = (reduced t first.0 (r ∷ u ∷ []) split.0 first.2).found.states in
      elim (cases_lt (length (rhs_of t.grammar first.0)) 1) [
        | inl none ↦ empty r u x look (suc j) low makes (first.0, first.1, omega arith) (λ n v y l. few fuel n r v y look (omega arith) known) (all.states u (f.each_target r x u edge) r x edge look known)
        | inr some ↦ (
            let one : length (rhs_of t.grammar first.0) ≡ 1 = omega arith in
            let higher : 0 + 1 + bound (N (lhs_of t.grammar first.0)) ≤ bound x = asks (symbol_index t x) (symbol_index t (N (lhs_of t.grammar first.0))) 0 (unit_passage r u x (look_list look) first.0 edge first.1 one) low in
            let goes = along t (look_list look) r first.0 (u ∷ []) split.0 first.1 one split.1 in
            let rest = few fuel j r goes.target (N (lhs_of t.grammar first.0)) look (omega arith) known goes.edge (omega arith) (makes.0, rw goes.is at split.2) in
            omega arith)
      ]

  pub settled : BoundsProveHalting t bounds
  settled r u x edge low look known loops = let most = few 10001 10001 r u x look (omega arith) known edge low loops in omega (arith, low, most)

-- Lemmas on the passages that are found.

covered_kept : (t : TableData) (old new : List Passage) (from s : ℕ) (look : Option ℕ) → KeepsPassages old new → IsCoveredOn t old from s look → IsCoveredOn t new from s look
covered_kept t old new from s look kept (inl (p, there, same, high)) = inl (p, kept p there, same, high)
covered_kept t old new from s look kept (inr covered) = inr (λ is. elim (covered is) [ inl over ↦ inl over | inr (count, to, there, a) ↦ inr (count, to, kept _ there, a) ])

pub none_kept : (t : TableData) (old new : List Passage) (from s : ℕ) → KeepsPassages old new → IsCoveredOn t old from s None → IsCoveredOn t new from s None
none_kept t old new from s = covered_kept t old new from s None

pub looks_more : (t : TableData) (old new : List Passage) (from s z : ℕ) → KeepsPassages old new → IsCoveredOn t new from s (Some z) → ((y : ℕ) → y < z → IsCoveredOn t old from s (Some y)) → (y : ℕ) → y < z + 1 → IsCoveredOn t new from s (Some y)
looks_more t old new from s z kept here before = below_more (λ y. IsCoveredOn t new from s (Some y)) z (λ y l. covered_kept t old new from s (Some y) kept (before y l)) here

pub looks_all : (t : TableData) (ps : List Passage) (from s z : ℕ) → IsCoveredOn t ps from s None → ((y : ℕ) → y < z → IsCoveredOn t ps from s (Some y)) → t.grammar.tokens ≤ z → IsCoveredFrom t ps from s
looks_all t ps from s z none tokens past None known = none
looks_all t ps from s z none tokens past (Some y) known = tokens y (omega (arith, known))

pub state_covered : (t : TableData) (ps : List Passage) (from s : ℕ) (symbol : Symbol) → from ≡ symbol_index t symbol → ((r : ℕ) (x : Symbol) → edge_of t r x ≡ Some s → Some symbol ≡ Some x) → IsCoveredFrom t ps from s → IsCovered t ps s
state_covered t ps from s symbol place only covered r x edge look known =
    let one : Some symbol ≡ Some x = only r x edge in
    let same : symbol ≡ x = cc in
    rw (place ∙ ap (symbol_index t) same) at (covered look known)

pub states_more : (t : TableData) (old new : List Passage) (n : ℕ) → KeepsPassages old new → IsCovered t new n → ((s : ℕ) → s < n → IsCovered t old s) → (s : ℕ) → s < n + 1 → IsCovered t new s
states_more t old new n kept here before = below_more (λ s. IsCovered t new s) n (λ s l r x edge look known. covered_kept t old new (symbol_index t x) s look kept (before s l r x edge look known)) here

-- The nonterminal on whose edges relative runs continue is in range.
pub passed_below : (t : TableData) (f : Facts t) (left stack : List ℕ) (A : ℕ) → HasContinuation t left stack (courses.Passes A) → A < t.grammar.nonterminals
passed_below t f left stack A goes =
    let range = f.ordinary (top_of stack) goes.0 (reduces_from_move t (top_of stack) left goes.0 goes.1) in
    rw goes.3 at (left_below t.grammar f.ranges.grammar goes.0 range.0 range.1)

-- Lemmas on raising the bounds.

pub lifts_more : (old new : List ℕ) (ps : List Passage) (i : ℕ) (d : Passage) → i < length ps → new ≡ old → IsBoundHighEnough old (get_or ps i d) → All (IsBoundHighEnough old) (take i ps) → All (IsBoundHighEnough new) (take (i + 1) ps)
lifts_more old new ps i d inside same here before = rw same (All-more (IsBoundHighEnough old) ps i d inside before here)

pub lifts_all : (bounds : List ℕ) (ps : List Passage) (n : ℕ) → length ps ≤ n → All (IsBoundHighEnough bounds) (take n ps) → All (IsBoundHighEnough bounds) ps
lifts_all bounds ps n past h = rw (take_all n ps past) at h
