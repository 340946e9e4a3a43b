-- Proves that the stack of a run is a path of edges, so that a reduction finds its symbols and its edge.
use Rattle.std.proofs.Common.{◌≡◌, ℕ, zero, suc, ◌+◌, ◌-◌, ◌<◌, ◌≤◌, inl, inr, List, [], ◌∷◌, ◌++◌, length, take, get_or, Some, refl, arith, lt-ltb, length-append}
use Rattle.std.proofs.lemmas.Bool.{cases_lt}
use Rattle.std.proofs.lemmas.List.{get_or-take, length-take-le}
use Rattle.std.proofs.Math.ListN.{get_or-append}
use Rattle.std.proofs.Math.Seq.{get_or-append_seam}
use Rattle.mh_grammar.specs.declared.types.Symbol.{Symbol}
use Rattle.mh_grammar.specs.declared.types.Symbol.TheVariants.{N}
use Rattle.mh_grammar.specs.Plain.{rhs_of, lhs_of}
use Rattle.mh_tables_core.specs.Table.{TableData, edge_of}
use Rattle.mh_tables_core.specs.Facts.{Facts, InCore, HasGoto, ReducesBy}
use Rattle.mh_tables_core.specs.Run.{IsPath, IsRunStack, top_of, reduce}

-- No state has an ordinary production with dot 0 in its core.
pub no_dot_at_beginning : (t : TableData) (f : Facts t) (s p : ℕ) → length t.grammar.starts ≤ p → InCore t s p 0 → ⊥
no_dot_at_beginning t f s p ordinary there =
    elim (cases_lt s (length t.grammar.starts)) [
      | inl l ↦ omega (arith, (f.start_core s p 0 l there).0)
      | inr r ↦ omega (arith, f.other_cores_moved s p 0 r there)
    ]

-- The state d places before index k of the stack has an edge on the left side of the production p.
abbrev Back : (t : TableData) (stack : List ℕ) (p d k : ℕ) → Type 0
Back t stack p d k = (0 < d) × (d ≤ k) × HasGoto t (get_or stack (k - d) 0) p

back_on : (t : TableData) (stack : List ℕ) (p d k : ℕ) → Back t stack p d k → Back t stack p (suc d) (suc k)
back_on t stack p d k h = (omega arith, omega arith, let e : suc k - suc d ≡ k - d = omega arith in rw e h.2)

-- If the production p with the dot at d is in the core of the state at index k of the stack, the state d places before
-- has an edge on the left side of p.
pub walks_back : (t : TableData) (f : Facts t) (stack : List ℕ) (h : IsRunStack t stack) (p d k : ℕ) → length t.grammar.starts ≤ p → k < length stack → InCore t (get_or stack k 0) p d → Back t stack p d k
walks_back t f stack h p zero k ordinary inside there = absurd (no_dot_at_beginning t f (get_or stack k 0) p ordinary there)
walks_back t f stack h p (suc d) zero ordinary inside there = absurd (omega (arith, (f.start_core (get_or stack 0 0) p (suc d) h.start there).1))
walks_back t f stack h p (suc d) (suc k) ordinary inside there =
    let lt : k + 1 < length stack = omega arith in
    let edge = h.path.edges k lt in
    let back = f.moved_from (get_or stack k 0) edge.0 (get_or stack (k + 1) 0) p (suc d) edge.1 (let e : k + 1 ≡ suc k = omega arith in rw e there) in
    elim back.source [
      | inl before ↦ back_on t stack p d k (walks_back t f stack h p d k ordinary (omega arith) (let e : suc d - 1 ≡ d = omega arith in rw e at before))
      | inr first ↦ (omega arith, omega (arith, first.0), let e : suc k - suc d ≡ k = omega (arith, first.0) in rw e first.2)
    ]

-- The top of the stack after the right side is taken off.
pub top_of_take : (stack : List ℕ) (n : ℕ) → 0 < n → n ≤ length stack → top_of (take n stack) ≡ get_or stack (n - 1) 0
top_of_take stack n pos le = rw (length-take-le n stack le) (get_or-take n stack (n - 1) 0 (omega arith))

-- A reduction finds its states and its edge.
pub record FindsStatesAndEdge (t : TableData) (p : ℕ) (stack : List ℕ) : Type 0 where
  pub states : length (rhs_of t.grammar p) < length stack
  pub goto : HasGoto t (top_of (take (length stack - length (rhs_of t.grammar p)) stack)) p

pub finds_states_and_edge : (t : TableData) (f : Facts t) (stack : List ℕ) (h : IsRunStack t stack) (p : ℕ) → ReducesBy t (top_of stack) p → FindsStatesAndEdge t p stack
finds_states_and_edge t f stack h p r =
    elim (f.complete (top_of stack) p r) [
      | inl full ↦ (
          let back = walks_back t f stack h p (length (rhs_of t.grammar p)) (length stack - 1) (f.ordinary (top_of stack) p r).0 (let b = h.path.not_empty in omega arith) full in
          let b = h.path.not_empty in
          record {
            states = omega (arith, back.1);
            goto = rw (top_of_take stack (length stack - length (rhs_of t.grammar p)) (omega (arith, back.1)) (omega arith))
                (let e : length stack - length (rhs_of t.grammar p) - 1 ≡ length stack - 1 - length (rhs_of t.grammar p) = omega arith in rw e back.2);
          })
      | inr empty ↦ (
          let b = h.path.not_empty in
          record {
            states = omega (arith, empty.0);
            goto = rw (top_of_take stack (length stack - length (rhs_of t.grammar p)) (omega (arith, empty.0)) (omega arith))
                (let e : length stack - length (rhs_of t.grammar p) - 1 ≡ length stack - 1 = omega (arith, empty.0) in rw e empty.1);
          })
    ]

-- A path with an edge appended is a path.
pub IsPath-push : (t : TableData) (stack : List ℕ) (x : Symbol) (u : ℕ) → IsPath t stack → edge_of t (top_of stack) x ≡ Some u → IsPath t (stack ++ u ∷ [])
IsPath-push t stack x u h e = record {
  not_empty = rw length-append (omega arith);
  edges = λ k lt.
      let lt' : k + 1 < length stack + 1 = let l = length-append stack (u ∷ []) in omega arith in
      elim (cases_lt (k + 1) (length stack)) [
        | inl inside ↦ (
            let edge = h.edges k inside in
            (edge.0, rw (get_or-append stack (u ∷ []) 0 k (omega arith), get_or-append stack (u ∷ []) 0 (k + 1) inside) edge.1))
        | inr past ↦ (
            let b = h.not_empty in
            let at : k + 1 ≡ length stack = omega arith in
            let last : length stack - 1 ≡ k = omega arith in
            (x, rw (get_or-append stack (u ∷ []) 0 k (omega arith), at, get_or-append_seam stack u [] 0) (rw last at e)))
      ];
}

-- A prefix of a path is a path.
pub IsPath-take : (t : TableData) (stack : List ℕ) (n : ℕ) → 0 < n → n ≤ length stack → IsPath t stack → IsPath t (take n stack)
IsPath-take t stack n pos le h = record {
  not_empty = rw (length-take-le n stack le) pos;
  edges = λ k lt.
      let lt' : k + 1 < n = let l = length-take-le n stack le in omega arith in
      let edge = h.edges k (omega arith) in
      (edge.0, rw (get_or-take n stack k 0 (omega arith), get_or-take n stack (k + 1) 0 lt') edge.1);
}

pub IsRunStack-push : (t : TableData) (stack : List ℕ) (x : Symbol) (u : ℕ) → IsRunStack t stack → edge_of t (top_of stack) x ≡ Some u → IsRunStack t (stack ++ u ∷ [])
IsRunStack-push t stack x u h e = record {
  path = IsPath-push t stack x u h.path e;
  start = rw (get_or-append stack (u ∷ []) 0 0 h.path.not_empty) h.start;
}

pub IsRunStack-take : (t : TableData) (stack : List ℕ) (n : ℕ) → 0 < n → n ≤ length stack → IsRunStack t stack → IsRunStack t (take n stack)
IsRunStack-take t stack n pos le h = record {
  path = IsPath-take t stack n pos le h.path;
  start = rw (get_or-take n stack 0 0 pos) h.start;
}

-- A reduction that finds its states and its edge takes off the states of its right side and pushes the target of the
-- edge.
pub reduce_is : (t : TableData) (p : ℕ) (stack : List ℕ) (h : FindsStatesAndEdge t p stack) → reduce t p stack ≡ Some (take (length stack - length (rhs_of t.grammar p)) stack ++ h.goto.0 ∷ [])
unfolding reduce
reduce_is t p stack h = rw (lt-ltb (length (rhs_of t.grammar p)) (length stack) h.states, h.goto.1) refl

pub IsRunStack-reduce : (t : TableData) (p : ℕ) (stack : List ℕ) (h : FindsStatesAndEdge t p stack) → IsRunStack t stack → IsRunStack t (take (length stack - length (rhs_of t.grammar p)) stack ++ h.goto.0 ∷ [])
IsRunStack-reduce t p stack h run =
    let l = h.states in
    IsRunStack-push t _ (N (lhs_of t.grammar p)) h.goto.0 (IsRunStack-take t stack (length stack - length (rhs_of t.grammar p)) (omega arith) (omega arith) run) h.goto.1

-- Each state on the stack of a run is in range.
pub IsRunStack-in_range : (t : TableData) (f : Facts t) (stack : List ℕ) (h : IsRunStack t stack) (k : ℕ) → k < length stack → get_or stack k 0 < length t.states
IsRunStack-in_range t f stack h zero lt = let a = h.start in let b = f.enough_states in omega arith
IsRunStack-in_range t f stack h (suc k) lt =
    let edge = h.path.edges k (omega arith) in
    let e : suc k ≡ k + 1 = omega arith in
    rw e (f.each_target (get_or stack k 0) edge.0 (get_or stack (k + 1) 0) edge.1)
