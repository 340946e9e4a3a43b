-- The invariant of the best-first search over rests, for any order of words. The letters are those of `ClosedRests`; k,
-- l and o are what words are sought for, and `store` has the words that are settled.
use Rattle.std.specs.Prelude.{◌≡◌, ◌<◌, ◌⊎◌, ℕ, suc, List, [], ◌∷◌, ◌++◌, length, slice_get, Option, Some}
use Rattle.mh_grammar.specs.declared.types.Symbol.TheVariants.{T, N}
use Rattle.mh_grammar.specs.Plain.{rhs_of}
use Rattle.mh_tables_core.specs.Table.{TableData, edge_of}
use Rattle.mh_tables_core.specs.Run.{Shifts, run_move_of}
use Rattle.mh_facts.specs.declared.goto_fact.GotoFact.{GotoFact}
use Rattle.mh_facts.specs.code.BestFirst.{key}
use Rattle.mh_reach_rests.specs.declared.sought.Sought.{Sought}
use Rattle.mh_reach_rests.specs.declared.sought.Sought.TheVariants as soughts
use Rattle.mh_reach_rests.specs.code.ClosedRests.{RestWords, GotoWords, RestHolds, RestsClosedBy, IsSoundRest, IsSoundGoto}

abbrev pub Settled : Type 0
Settled = Sought → Option (List ℕ)

abbrev pub goto : (s n a x : ℕ) → GotoFact
goto s n a x = record { from = s; nonterminal = n; first = a; next = x }

abbrev pub rests_of : Settled → RestWords
rests_of store k = store (soughts.Rest k)

abbrev pub gotos_of : Settled → GotoWords
gotos_of store s n a x = store (soughts.Goto (goto s n a x))

-- The settled word comes no later than w.
abbrev pub IsSettledBefore : (List ℕ → List ℕ → Type 0) → Settled → Sought → List ℕ → Type 0
IsSettledBefore Le store k w = (u : List ℕ) × (store k ≡ Some u) × Le u w

-- A settled word, or a word that waits in the queue, comes no later than w.
abbrev pub IsPendingBefore : (List ℕ → List ℕ → Type 0) → Settled → (Sought → List ℕ → Type 0) → Sought → List ℕ → Type 0
IsPendingBefore Le store queue k w = IsSettledBefore Le store k w ⊎ ((u : List ℕ) × queue k u × Le u w)

-- The conclusion of a rule holds, where P holds of what the word is sought for.
abbrev pub Concludes : TableData → (ℕ → ℕ → ℕ) → (Sought → List ℕ → Type 0) → (s p d a z : ℕ) → List ℕ → Type 0
Concludes t rep P s p d a z w = RestHolds t rep (λ k u. P (soughts.Rest k) u) (λ s' n b x u. P (soughts.Goto (goto s' n b x)) u) s p d a z w

abbrev pub IsClosedStore : TableData → (ℕ → ℕ → ℕ) → Settled → (Sought → List ℕ → Type 0) → Type 0
IsClosedStore t rep store P = RestsClosedBy t rep (rests_of store) (gotos_of store) (λ k u. P (soughts.Rest k) u) (λ s n a x u. P (soughts.Goto (goto s n a x)) u)

abbrev pub IsSoundFor : TableData → (ℕ → ℕ → ℕ) → Sought → List ℕ → Type 0
IsSoundFor t rep (soughts.Rest k) v = IsSoundRest t rep k.from k.production k.dot k.first k.next v
IsSoundFor t rep (soughts.Goto g) v = IsSoundGoto t rep g.from g.nonterminal g.first g.next v

-- The invariant between two steps.
pub record RestInvariant (t : TableData) (rep : ℕ → ℕ → ℕ) (Le : List ℕ → List ℕ → Type 0) (store : Settled) (queue : Sought → List ℕ → Type 0) : Type 0 where
  pub closed : IsClosedStore t rep store (IsPendingBefore Le store queue)
  pub stored : (k : Sought) (u : List ℕ) → store k ≡ Some u → IsSoundFor t rep k u
  pub queued : (k : Sought) (u : List ℕ) → queue k u → IsSoundFor t rep k u
  -- Settled words come no later than words in the queue.
  pub before : (k l : Sought) (u m : List ℕ) → store k ≡ Some u → queue l m → Le u m

-- A step of the search, which settles k with the word m. It changes the store from `store` to `new`, and the queue from
-- `queue` to `later`.
pub record RestStep (t : TableData) (rep : ℕ → ℕ → ℕ) (Le : List ℕ → List ℕ → Type 0) (store new : Settled) (queue later : Sought → List ℕ → Type 0) (k : Sought) (m : List ℕ) : Type 0 where
  pub only : (o : Sought) (u : List ℕ) → new o ≡ Some u → (store o ≡ Some u) ⊎ ((o ≡ k) × (u ≡ m))
  pub kept : (o : Sought) (u : List ℕ) → store o ≡ Some u → new o ≡ Some u
  pub still_pending : (o : Sought) (u : List ℕ) → queue o u → later o u ⊎ ((v : List ℕ) × (new o ≡ Some v) × Le v u)
  -- The conclusions from k as a rest after a token, as a rest after a goto fact, and as a goto fact before a rest.
  pub shifts : (s p d x b z j : ℕ) → soughts.Rest (key j p (suc d) b z) ≡ k → s < length t.states → slice_get (rhs_of t.grammar p) d ≡ Some (T x) → run_move_of t s (x ∷ []) ≡ Shifts j → Concludes t rep (IsPendingBefore Le new later) s p d (rep s x) z (x ∷ m)
  pub rests : (s p d n a y z g : ℕ) (u : List ℕ) → soughts.Rest (key g p (suc d) y z) ≡ k → s < length t.states → slice_get (rhs_of t.grammar p) d ≡ Some (N n) → edge_of t s (N n) ≡ Some g → gotos_of new s n a y ≡ Some u → Concludes t rep (IsPendingBefore Le new later) s p d a z (u ++ m)
  pub gotos : (s p d n a y z g : ℕ) (v : List ℕ) → soughts.Goto (goto s n a y) ≡ k → s < length t.states → slice_get (rhs_of t.grammar p) d ≡ Some (N n) → edge_of t s (N n) ≡ Some g → rests_of new (key g p (suc d) y z) ≡ Some v → Concludes t rep (IsPendingBefore Le new later) s p d a z (m ++ v)
  pub sound : (o : Sought) (u : List ℕ) → later o u → IsSoundFor t rep o u
  pub after : (o : Sought) (u : List ℕ) → later o u → Le m u
