-- Proves that, on a table that passed the halting test, the next reductions end whatever the stack is.
use Rattle.std.proofs.Common.{◌≡◌, ℕ, zero, suc, ◌+◌, ◌-◌, ◌*◌, ◌<◌, ◌≤◌, ◌⊎◌, inl, inr, List, [], ◌∷◌, ◌++◌, length, take, drop, get_or, Some, None, Option, refl, ap, sym, arith, length-append, ◌∙◌}
use Rattle.std.proofs.lemmas.Bool.{cases_lt}
use Rattle.std.proofs.lemmas.List.{length-take-le, drop_more, drop_all}
use Rattle.mh_grammar.specs.Plain.{rhs_of}
use Rattle.mh_tables_core.specs.Table.{TableData}
use Rattle.mh_tables_core.specs.Facts.{Facts}
use Rattle.mh_tables_core.specs.Run.{RunMove, Accepts, Asks, Refuses, Shifts, Reduces, run_move_of, top_of, reduce, reduction, reductions, IsRunStack}
use Rattle.mh_tables_core.specs.Halting.{AlwaysHalts, IsBeginning, beginning, IsLook, look_list}
use Rattle.mh_tables_core.proofs.IsPath.{FindsStatesAndEdge, finds_states_and_edge, reduce_is, IsRunStack-reduce}
use Rattle.mh_tables_core.proofs.Reductions.{reduces_from_move, reduced, reduction_is, reduction-drop, reductions_more, reductions_before, reductions_none}

-- The stack from index `floor` on is the result of `count` reductions of a relative run, whose lowest state is at that
-- index.
pub record Relative (t : TableData) (look : Option ℕ) (stack : List ℕ) (floor count : ℕ) : Type 0 where
  pub below : Option ℕ
  pub state : ℕ
  pub begins : IsBeginning t below state
  pub within : floor < length stack
  pub stack_is : reductions t (look_list look) count (beginning below state) ≡ Some (drop floor stack)

-- There are at most `MAX_REDUCTIONS` such reductions.
pub Relative-few : (t : TableData) (h : AlwaysHalts t) (look : Option ℕ) (l : IsLook t look) (stack : List ℕ) (floor count : ℕ) → Relative t look stack floor count → count ≤ 10000
Relative-few t h look l stack floor count r = h r.below r.state look count r.begins l (drop floor stack, r.stack_is)

-- A stack of length 1 consists of its last state. The end of a longer stack consists of its last two states.
last_state : (stack : List ℕ) → length stack ≡ 1 → stack ≡ get_or stack 0 0 ∷ []
last_state (s ∷ []) e = refl
last_state (s ∷ u ∷ more) e = absurd (omega arith)
last_state [] e = absurd (omega arith)

last_two : (stack : List ℕ) → 2 ≤ length stack → drop (length stack - 2) stack ≡ get_or stack (length stack - 2) 0 ∷ get_or stack (length stack - 2 + 1) 0 ∷ []
last_two stack le =
    let one = drop_more stack (length stack - 2) 0 (omega arith) in
    let two = drop_more stack (length stack - 2 + 1) 0 (omega arith) in
    rw (one, two) (rw (drop_all (length stack - 2 + 1 + 1) stack (omega arith)) refl)

begins_low : (t : TableData) (look : Option ℕ) (stack : List ℕ) → IsRunStack t stack → length stack < 2 → Relative t look stack (length stack - 2) 0
begins_low t look stack run low =
    let b = run.path.not_empty in
    record {
      below = None;
      state = get_or stack 0 0;
      begins = run.start;
      within = omega arith;
      stack_is = reductions_none t (look_list look) (get_or stack 0 0 ∷ []) ∙
          ap (λ (l : List ℕ). Some l) (let e : length stack - 2 ≡ 0 = omega arith in rw e (sym (last_state stack (omega arith))));
    }

begins_high : (t : TableData) (look : Option ℕ) (stack : List ℕ) → IsRunStack t stack → 2 ≤ length stack → Relative t look stack (length stack - 2) 0
begins_high t look stack run high = record {
  below = Some (get_or stack (length stack - 2) 0);
  state = get_or stack (length stack - 2 + 1) 0;
  begins = run.path.edges (length stack - 2) (omega arith);
  within = omega arith;
  stack_is = reductions_none t (look_list look) (get_or stack (length stack - 2) 0 ∷ get_or stack (length stack - 2 + 1) 0 ∷ []) ∙
      ap (λ (l : List ℕ). Some l) (sym (last_two stack high));
}

-- Each stack of a run is the beginning of a relative run, with the state below its top or with its start state alone.
pub Relative-start : (t : TableData) (look : Option ℕ) (stack : List ℕ) → IsRunStack t stack → Relative t look stack (length stack - 2) 0
Relative-start t look stack run =
    elim (cases_lt (length stack) 2) [ inl low ↦ begins_low t look stack run low | inr high ↦ begins_high t look stack run high ]

-- A reduction that does not reach down to index `floor` is one more reduction of the relative run.
pub Relative-step : (t : TableData) (look : Option ℕ) (stack new : List ℕ) (floor count p : ℕ) → Relative t look stack floor count → run_move_of t (top_of stack) (look_list look) ≡ Reduces p
    → floor + length (rhs_of t.grammar p) < length stack → reduce t p stack ≡ Some new → Relative t look new floor (suc count)
Relative-step t look stack new floor count p r m lt e = record {
  below = r.below;
  state = r.state;
  begins = r.begins;
  within = let d = reduced t p stack new e in rw d.is (rw length-append (rw (length-take-le (length stack - length (rhs_of t.grammar p)) stack (omega arith)) (omega arith)));
  stack_is = reductions_more t (look_list look) (beginning r.below r.state) (drop floor stack) (drop floor new) count r.stack_is (reduction-drop t (look_list look) stack new floor p m lt e);
}

-- The next move is not a reduction.
abbrev pub IsSettled : TableData → List ℕ → List ℕ → Type 0
IsSettled t left stack = (p : ℕ) → run_move_of t (top_of stack) left ≡ Reduces p → ⊥

-- The next reductions end, and leave a stack whose next move is not a reduction.
pub record Settles (t : TableData) (left stack : List ℕ) : Type 0 where
  pub count : ℕ
  pub new : List ℕ
  pub made : reductions t left count stack ≡ Some new
  pub run : IsRunStack t new
  pub settled : IsSettled t left new

settles_before : (t : TableData) (left stack mid : List ℕ) → reduction t left stack ≡ Some mid → Settles t left mid → Settles t left stack
settles_before t left stack mid e s = record {
  count = suc s.count;
  new = s.new;
  made = reductions_before t left stack mid s.new s.count e s.made;
  run = s.run;
  settled = s.settled;
}

settles_now : (t : TableData) (left stack : List ℕ) → IsRunStack t stack → IsSettled t left stack → Settles t left stack
settles_now t left stack run s = record { count = 0; new = stack; made = reductions_none t left stack; run = run; settled = s }

-- A move is a reduction or not.
move_cases : (m : RunMove) → ((p : ℕ) × (m ≡ Reduces p)) ⊎ ((p : ℕ) → m ≡ Reduces p → ⊥)
move_cases Accepts = inr (λ p e. cc)
move_cases Asks = inr (λ p e. cc)
move_cases Refuses = inr (λ p e. cc)
move_cases (Shifts j) = inr (λ p e. cc)
move_cases (Reduces p) = inl (p, refl)

-- The proof is by induction on the remaining work: the floor, and the reductions that are left above it.
settles_by : (t : TableData) (f : Facts t) (h : AlwaysHalts t) (look : Option ℕ) (l : IsLook t look) (fuel : ℕ) (stack : List ℕ) (run : IsRunStack t stack) (floor count : ℕ) (r : Relative t look stack floor count)
    → 10001 * floor + (10000 - count) < fuel → Settles t (look_list look) stack
settles_by t f h look l zero stack run floor count r lt = absurd (omega arith)
settles_by t f h look l (suc fuel) stack run floor count r lt =
    elim (move_cases (run_move_of t (top_of stack) (look_list look))) [
      | inr none ↦ settles_now t (look_list look) stack run none
      | inl some ↦ (
          let p : ℕ = some.0 in
          let found : FindsStatesAndEdge t p stack = finds_states_and_edge t f stack run p (reduces_from_move t (top_of stack) (look_list look) p some.1) in
          let new : List ℕ = take (length stack - length (rhs_of t.grammar p)) stack ++ found.goto.0 ∷ [] in
          let is : reduce t p stack ≡ Some new = reduce_is t p stack found in
          let run' : IsRunStack t new = IsRunStack-reduce t p stack found run in
          let len : length new ≡ length stack - length (rhs_of t.grammar p) + 1 = rw length-append (rw (length-take-le (length stack - length (rhs_of t.grammar p)) stack (omega arith)) refl) in
          let few : count ≤ 10000 = Relative-few t h look l stack floor count r in
          settles_before t (look_list look) stack new (reduction_is t (look_list look) stack new p some.1 is)
          (elim (cases_lt (floor + length (rhs_of t.grammar p)) (length stack)) [
            | inl above ↦ (
                let r' : Relative t look new floor (suc count) = Relative-step t look stack new floor count p r some.1 above is in
                let few' : suc count ≤ 10000 = Relative-few t h look l new floor (suc count) r' in
                settles_by t f h look l fuel new run' floor (suc count) r' (omega arith))
            | inr under ↦ (
                let states = found.states in
                settles_by t f h look l fuel new run' (length new - 2) 0 (Relative-start t look new run') (omega arith))
          ]))
    ]

pub settles : (t : TableData) (f : Facts t) (h : AlwaysHalts t) (look : Option ℕ) (l : IsLook t look) (stack : List ℕ) → IsRunStack t stack → Settles t (look_list look) stack
settles t f h look l stack run =
    settles_by t f h look l (suc (10001 * (length stack - 2) + 10000)) stack run (length stack - 2) 0 (Relative-start t look stack run) (omega arith)
