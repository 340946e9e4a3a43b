-- Proves, as a double negation, that an automaton has a list of its conflicts.
use Rattle.std.proofs.Common.{◌≡◌, ℕ, zero, suc, ◌+◌, ◌<◌, ◌≤◌, ◌⊎◌, inl, inr, List, [], ◌∷◌, ◌++◌, Some, length, refl, sym, ap, subst, ◌∙◌, arith}
use Rattle.std.specs.List.{Contains}
use Rattle.std.proofs.lemmas.Bool.{cases_eq}
use Rattle.std.proofs.lemmas.List.Elements.{Contains-append_left, Contains-append_right, Contains-append_cases}
use Rattle.mh_grammar.specs.declared.types.Grammar.{Grammar}
use Rattle.mh_grammar.specs.declared.types.Look.{Look}
use Rattle.mh_grammar.specs.Edges.{IsRising, IsLookBefore}
use Rattle.mh_grammar.specs.Plain.{plain_of, IsInRange, IsLookBelow, rhs_of}
use Rattle.mh_grammar.proofs.Lists.{contains_here, contains_there, contains_cases, contains_none, recursion-from, recursion_contains, rising-append}
use Rattle.mh_items_kernels.specs.KernelTypes.{Automaton}
use Rattle.mh_items_kernels.specs.Automaton.{IsAutomaton, kernel_at, kernel_of}
use Rattle.mh_tables_core.specs.declared.parts.Action.{Action}
use Rattle.mh_tables_core.specs.declared.parts.Action.TheVariants.{Shift, Reduce, Refuse}
use Rattle.mh_resolve_cells.specs.declared.kinds.ConflictKind.{ConflictKind}
use Rattle.mh_resolve_cells.specs.declared.kinds.ConflictKind.TheVariants.{Solved, Unsolved, Stream}
use Rattle.mh_resolve_cells.specs.declared.conflicts.Conflict.{Conflict}
use Rattle.mh_resolve_cells.specs.States.{state_of, Raw, HasConflictOn}
use Rattle.mh_resolve_cells.specs.Cells.{IsConflict}
use Rattle.mh_resolve_cells.specs.Conflicts.{IsConflictOf, IsConflictBefore, AreConflicts}
use Rattle.mh_resolve_cells.proofs.ConflictList.{unsolved_conflict}
use Rattle.mh_grammar.specs.NotLacking.{NotLacking}
use Rattle.mh_grammar.proofs.NotLacking.{given, chain, decided, select}
use Rattle.mh_canon.proofs.ItemsOfGrammar.{looks_from, look_in, looks_rising}
use Rattle.mh_canon.proofs.MovedKernels.{close_in, kernel_in}

module _ (g : Grammar) (a : Automaton) (range : IsInRange (plain_of g)) (automaton : IsAutomaton (plain_of g) a) where
  -- A look with a reduction is a look of the grammar.
  reduced_in : (s : ℕ) (look : Look) (p : ℕ) → s < length a.kernels → Raw (state_of g a s) look (Reduce p) → IsLookBelow (length g.tokens) look
  reduced_in s look p l raw = (close_in (plain_of g) range (kernel_of a s) (kernel_in (plain_of g) range (kernel_at a s) (automaton.each s l)) p (length (rhs_of (plain_of g) p)) look raw).2

  two_in : (s : ℕ) (look : Look) → s < length a.kernels → (x y : Action) → Raw (state_of g a s) look x → Raw (state_of g a s) look y → (x ≡ y → ⊥) → IsLookBelow (length g.tokens) look
  two_in s look l (Reduce p) y r q two = reduced_in s look p l r
  two_in s look l (Shift j) (Reduce p) r q two = reduced_in s look p l q
  two_in s look l (Shift j) (Shift k) r q two = absurd (let one : Some j ≡ Some k = sym r ∙ q in let same : j ≡ k = cc in two (ap Shift same))
  two_in s look l (Shift j) Refuse r q two = absurd q
  two_in s look l Refuse y r q two = absurd r

  conflict_in : (s : ℕ) (look : Look) → s < length a.kernels → IsConflict (Raw (state_of g a s) look) → IsLookBelow (length g.tokens) look
  conflict_in s look l c = two_in s look l c.one c.other c.raw_one c.raw_other c.differ

  kind_in : (s : ℕ) (look : Look) (kind : ConflictKind) → s < length a.kernels → HasConflictOn (state_of g a s) look kind → IsLookBelow (length g.tokens) look
  kind_in s look Solved l h = conflict_in s look l h.0
  kind_in s look Unsolved l h = conflict_in s look l (unsolved_conflict _ (Raw (state_of g a s) look) h)
  kind_in s look Stream l h = subst (IsLookBelow (length g.tokens)) (sym h.0) tt

  abbrev conflict : ℕ → Look → ConflictKind → Conflict
  conflict s look kind = record { state = s; look = look; kind = kind }

  -- A list with all conflicts of a state on these looks.
  record Covers (s : ℕ) (looks : List Look) : Type 0 where
    all : List Conflict
    rising : IsRising IsLookBefore looks → IsRising IsConflictBefore all
    each : (c : Conflict) → Contains all c → (c.state ≡ s) × Contains looks c.look
    there : (c : Conflict) → c.state ≡ s → Contains looks c.look → HasConflictOn (state_of g a s) c.look c.kind → Contains all c

  -- The kind that comes first in order on a look.
  record First (s : ℕ) (look : Look) : Type 0 where
    kind : ConflictKind
    first : kind ≡ Stream → ⊥
    only : (k : ConflictKind) → HasConflictOn (state_of g a s) look k → (k ≡ kind) ⊎ (k ≡ Stream)

  first_of : (s : ℕ) (look : Look) → HasConflictOn (state_of g a s) look Unsolved ⊎ (HasConflictOn (state_of g a s) look Unsolved → ⊥) → First s look
  first_of s look (inl u) = record { kind = Unsolved; first = λ e. cc; only = by }
    where
      by : (k : ConflictKind) → HasConflictOn (state_of g a s) look k → (k ≡ Unsolved) ⊎ (k ≡ Stream)
      by Solved h = absurd (h.1 u)
      by Unsolved h = inl refl
      by Stream h = inr refl
  first_of s look (inr n) = record { kind = Solved; first = λ e. cc; only = by }
    where
      by : (k : ConflictKind) → HasConflictOn (state_of g a s) look k → (k ≡ Solved) ⊎ (k ≡ Stream)
      by Solved h = inl refl
      by Unsolved h = absurd (n h)
      by Stream h = inr refl

  is_conflict : (c : Conflict) (s : ℕ) (look : Look) (kind : ConflictKind) → c.state ≡ s → c.look ≡ look → c.kind ≡ kind → c ≡ conflict s look kind
  is_conflict c s look kind e f h = λ i. record { state = e i; look = f i; kind = h i }

  more : (s : ℕ) (look : Look) (looks : List Look) → First s look → Covers s looks → Covers s (look ∷ looks)
  more s look looks f rest = record { all = conflict s look f.kind ∷ conflict s look Stream ∷ rest.all; rising = rises; each = of; there = stands }
    where
      behind : (kind : ConflictKind) → IsRising IsLookBefore (look ∷ looks) → (c : Conflict) → Contains rest.all c → IsConflictBefore (conflict s look kind) c
      behind kind r c d = let of = rest.each c d in inr (sym of.0, inl (recursion_contains (IsLookBefore look) looks r.0 c.look of.1))

      rises : IsRising IsLookBefore (look ∷ looks) → IsRising IsConflictBefore (conflict s look f.kind ∷ conflict s look Stream ∷ rest.all)
      rises r = ((inr (refl, inr (refl, (f.first, refl))), recursion-from (IsConflictBefore (conflict s look f.kind)) rest.all (behind f.kind r)), (recursion-from (IsConflictBefore (conflict s look Stream)) rest.all (behind Stream r), rest.rising r.1))

      mine : (kind : ConflictKind) (c : Conflict) → conflict s look kind ≡ c → (c.state ≡ s) × Contains (look ∷ looks) c.look
      mine kind c e = (sym (ap (λ (d : Conflict). d.state) e), subst (λ (l : Look). Contains (look ∷ looks) l) (ap (λ (d : Conflict). d.look) e) (contains_here look looks))

      of : (c : Conflict) → Contains (conflict s look f.kind ∷ conflict s look Stream ∷ rest.all) c → (c.state ≡ s) × Contains (look ∷ looks) c.look
      of c d = elim (contains_cases (conflict s look f.kind) (conflict s look Stream ∷ rest.all) c d) [
        | inl e ↦ mine f.kind c e
        | inr d ↦ elim (contains_cases (conflict s look Stream) rest.all c d) [
          | inl e ↦ mine Stream c e
          | inr d ↦ (let r = rest.each c d in (r.0, contains_there look looks c.look r.1))
        ]
      ]

      stands : (c : Conflict) → c.state ≡ s → Contains (look ∷ looks) c.look → HasConflictOn (state_of g a s) c.look c.kind → Contains (conflict s look f.kind ∷ conflict s look Stream ∷ rest.all) c
      stands c e d h = elim (contains_cases look looks c.look d) [
        | inl same ↦ elim (f.only c.kind (subst (λ (l : Look). HasConflictOn (state_of g a s) l c.kind) (sym same) h)) [
          | inl k ↦ subst (λ (z : Conflict). Contains (conflict s look f.kind ∷ conflict s look Stream ∷ rest.all) z) (sym (is_conflict c s look f.kind e (sym same) k)) (contains_here (conflict s look f.kind) (conflict s look Stream ∷ rest.all))
          | inr k ↦ contains_there (conflict s look f.kind) (conflict s look Stream ∷ rest.all) c (subst (λ (z : Conflict). Contains (conflict s look Stream ∷ rest.all) z) (sym (is_conflict c s look Stream e (sym same) k)) (contains_here (conflict s look Stream) rest.all))
        ]
        | inr d ↦ contains_there (conflict s look f.kind) (conflict s look Stream ∷ rest.all) c (contains_there (conflict s look Stream) rest.all c (rest.there c e d h))
      ]

  covers : (s : ℕ) (looks : List Look) → NotLacking (Covers s looks)
  covers s [] = given (record { all = []; rising = λ r. tt; each = λ c d. absurd (contains_none c d); there = λ c e d h. absurd (contains_none c.look d) })
  covers s (look ∷ looks) = chain (decided (HasConflictOn (state_of g a s) look Unsolved)) (λ d. chain (covers s looks) (λ rest. given (more s look looks (first_of s look d) rest)))

  abbrev looks : List Look
  looks = looks_from 0 (length g.tokens)

  -- The same for n states from the state s up.
  record CoversAll (s n : ℕ) : Type 0 where
    all : List Conflict
    rising : IsRising IsConflictBefore all
    each : (c : Conflict) → Contains all c → s ≤ c.state
    there : (c : Conflict) → s ≤ c.state → c.state < s + n → Contains looks c.look → HasConflictOn (state_of g a c.state) c.look c.kind → Contains all c

  join : (s n : ℕ) → Covers s looks → CoversAll (suc s) n → CoversAll s (suc n)
  join s n here rest = record {
    all = here.all ++ rest.all;
    rising = rising-append IsConflictBefore here.all rest.all (here.rising (looks_rising 0 (length g.tokens))) rest.rising (λ c d in_c in_d. inl (let e = (here.each c in_c).0 in let l = rest.each d in_d in omega (arith, e, l)));
    each = λ c d. elim (Contains-append_cases here.all rest.all c d) [ inl d ↦ (let e = (here.each c d).0 in omega (arith, e)) | inr d ↦ (let l = rest.each c d in omega (arith, l)) ];
    there = λ c l m d h. elim (cases_eq c.state s) [
      | inl e ↦ Contains-append_left here.all rest.all c (here.there c e d (subst (λ (t : ℕ). HasConflictOn (state_of g a t) c.look c.kind) e h))
      | inr other ↦ Contains-append_right here.all rest.all c (rest.there c (omega (arith, l, other)) (omega (arith, m)) d h)
    ];
  }

  covers_all : (s n : ℕ) → NotLacking (CoversAll s n)
  covers_all s zero = given (record { all = []; rising = tt; each = λ c d. absurd (contains_none c d); there = λ c l m d h. absurd (omega (arith, l, m)) })
  covers_all s (suc n) = chain (covers s looks) (λ here. chain (covers_all (suc s) n) (λ rest. given (join s n here rest)))

  pub some_conflicts : NotLacking ((cs : List Conflict) × AreConflicts g a cs)
  some_conflicts = chain (covers_all 0 (length a.kernels)) (λ u. chain (select IsConflictBefore (IsConflictOf g a) u.all) (λ s. given (
    s.xs,
    record {
      members = λ c. (s.each c, λ is. s.all c (u.there c (omega arith) (let l = is.0 in omega (arith, l)) (look_in (length g.tokens) c.look (kind_in c.state c.look c.kind is.0 is.1)) is.1) is);
      order = s.rising u.rising;
    },
  )))
