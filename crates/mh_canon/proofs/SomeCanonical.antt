-- Proves the double negation (`NotLacking`) of: a grammar has a canonical automaton within a limit, or more canonical
-- states than the limit.
use Rattle.mh_canon.specs.code.FoundStates.{IsCanonicalState, AreCanonicalStates, IsStateClosure, AreStateEdges}
use Rattle.mh_items_kernels.specs.code.KernelMoves.{IsAfterDot, IsMove}
use Rattle.std.proofs.Common.{◌≡◌, ℕ, zero, suc, ◌+◌, ◌<◌, ◌≤◌, ◌⊎◌, List, [], ◌∷◌, ◌++◌, Some, length, refl, sym, ap, subst, ◌∙◌, append_assoc, arith, inl, inr}
use Rattle.std.specs.List.{slice_get, All, Contains}
use Rattle.std.proofs.lemmas.Bool.{cases_lt}
use Rattle.std.proofs.lemmas.List.{append-nil, length_push}
use Rattle.std.proofs.lemmas.List.Elements.{All-contains, All-from_recursion, Contains-append_left}
use Rattle.std.proofs.lemmas.Option.{slice_get_within}
use Rattle.mh_grammar.specs.declared.types.Symbol.{Symbol}
use Rattle.mh_grammar.specs.declared.edges.Edge.{Edge}
use Rattle.mh_grammar.specs.Plain.{PlainGrammar, IsInRange}
use Rattle.mh_grammar.specs.Placed.{Placed}
use Rattle.mh_grammar.proofs.Lists.{get_left, get_last, get_after_prefix, get_within, contains_at, at_contains, contains_push, recursion-from}
use Rattle.mh_items_kernels.specs.KernelTypes.{Kernel, Automaton}
use Rattle.mh_items_kernels.specs.Kernels.{IsItemList}
use Rattle.mh_items_kernels.specs.Automaton.{start_kernel}
use Rattle.mh_items_kernels.specs.Collection.{AreStarts}
use Rattle.mh_canon.specs.Canonical.{IsCanonical, CanonicalExceeds}
use Rattle.mh_canon.proofs.PartialCollection.{PartialCollection, AreStarts-none, PartialCollection-start, PartialCollection-closure, PartialCollection-step}
use Rattle.mh_canon.proofs.CollectionIsCanonical.{IsCanonical-done}
use Rattle.mh_canon.proofs.AreCanonicalStates.{AreStateEdges-none, AreStateEdges-push, CanonicalExceeds-placed, Placed-few}
use Rattle.mh_grammar.specs.NotLacking.{NotLacking}
use Rattle.mh_grammar.proofs.NotLacking.{given, chain, decided}
use Rattle.mh_canon.proofs.MovedKernels.{Moving, moving, move}

starts : (n : ℕ) → (kernels : List Kernel) × AreStarts n kernels
starts zero = ([], AreStarts-none)
starts (suc n) =
    let s = starts n in (
      s.0 ++ start_kernel n ∷ [],
      record {
        len = (let l = s.1.len in omega (arith, length_push s.0 (start_kernel n), l));
        each = λ i l. elim (cases_lt i n) [
          | inl m ↦ get_left s.0 (start_kernel n ∷ []) i (start_kernel i) (s.1.each i m)
          | inr m ↦ (let one : n ≡ i = omega arith in subst (λ (k : ℕ). slice_get (s.0 ++ start_kernel n ∷ []) k ≡ Some (start_kernel k)) one (get_last s.0 (start_kernel n) n (sym s.1.len)))
        ];
      },
    )

put : (old : List Kernel) (k : Kernel) → Contains old k ⊎ (Contains old k → ⊥) → (new : List Kernel) × (n : ℕ) × Placed old new k n
put old k (inl c) = let at = at_contains old k c in (old, at.0, record { at = at.1; grown = inl (refl, slice_get_within old at.0 k at.1) })
put old k (inr none) = (old ++ k ∷ [], length old, record { at = get_last old k (length old) refl; grown = inr (refl, refl, none) })

place : (old : List Kernel) (k : Kernel) → NotLacking ((new : List Kernel) × (n : ℕ) × Placed old new k n)
place old k = chain (decided (Contains old k)) (λ d. given (put old k d))

module _ (g : PlainGrammar) (range : IsInRange g) (limit : ℕ) where
  abbrev HasCanonical : Type 0
  HasCanonical = ((a : Automaton) × IsCanonical g a × (length a.kernels ≤ limit)) ⊎ CanonicalExceeds g limit

  abbrev Gone : Kernel → List Symbol → List Kernel → Type 0
  Gone closed symbols old = ((new : List Kernel) × (row : List Edge) × AreStateEdges g closed symbols old new row × (length new ≤ limit)) ⊎ CanonicalExceeds g limit

  module _ (closed : Kernel) (valid : IsItemList g closed) (source : IsStateClosure g closed) (symbols : List Symbol) (behind : (X : Symbol) → Contains symbols X → IsAfterDot g closed X) (old : List Kernel) (states : AreCanonicalStates g old) where
    so_far : (front rest : List Symbol) (X : Symbol) → symbols ≡ front ++ X ∷ rest → All (IsAfterDot g closed) (front ++ X ∷ [])
    so_far front rest X is = All-from_recursion (IsAfterDot g closed) (front ++ X ∷ []) (recursion-from (IsAfterDot g closed) (front ++ X ∷ []) (λ Y c. behind Y (subst (λ (ss : List Symbol). Contains ss Y) (sym is) (elim (contains_push front X Y c) [
      | inl d ↦ Contains-append_left front (X ∷ rest) Y d
      | inr e ↦ subst (λ (Z : Symbol). Contains (front ++ X ∷ rest) Z) (sym e) (contains_at (front ++ X ∷ rest) (length front) X (get_after_prefix front X rest))
    ]))))

    edges : (rest front : List Symbol) (mid : List Kernel) (row : List Edge) → symbols ≡ front ++ rest → AreStateEdges g closed front old mid row → length mid ≤ limit → NotLacking (Gone closed symbols old)
    edges [] front mid row is e few = given (inl (mid, row, subst (λ (ss : List Symbol). AreStateEdges g closed ss old mid row) (sym (is ∙ append-nil front)) e, few))
    edges (X ∷ rest) front mid row is e few = chain (move g range closed valid X) (λ m. chain (place mid m.0) (λ p. elim (cases_lt p.1 limit) [
      | inl lt ↦ edges rest (front ++ X ∷ []) p.0 (row ++ record { symbol = X; target = p.1 } ∷ []) (is ∙ sym (append_assoc front (X ∷ []) rest)) (AreStateEdges-push g closed front old mid p.0 row X m.0 p.1 e m.1 p.2) (Placed-few mid p.0 m.0 p.1 limit p.2 few lt)
      | inr le ↦ given (inr (CanonicalExceeds-placed g closed front old mid p.0 row X m.0 p.1 limit source (so_far front rest X is) states e m.1 p.2 le))
    ]))

  done : (kernels : List Kernel) (rows : List (List Edge)) → PartialCollection g kernels rows → length kernels ≤ limit → length kernels ≤ length rows → HasCanonical
  done kernels rows b few le =
      let short = b.short in
      let all : length rows ≡ length kernels = omega (arith, short) in
      inl (record { kernels = kernels; edges = rows }, IsCanonical-done g (record { kernels = kernels; edges = rows }) b all, few)

  next : (kernels : List Kernel) (rows : List (List Edge)) (k : Kernel) → PartialCollection g kernels rows → slice_get kernels (length rows) ≡ Some k → (m : Moving g k) → length kernels ≤ limit → NotLacking (Gone m.closed m.symbols kernels)
  next kernels rows k b at m few =
      edges m.closed m.valid (PartialCollection-closure g kernels rows (length rows) k m.closed b at m.valid m.same) m.symbols (λ X c. (m.exact X).0 c) kernels b.states m.symbols [] kernels [] refl (AreStateEdges-none g m.closed kernels) few

  state_of : (kernels : List Kernel) (rows : List (List Edge)) (k : Kernel) → PartialCollection g kernels rows → slice_get kernels (length rows) ≡ Some k → IsItemList g k
  state_of kernels rows k b at = (All-contains (IsCanonicalState g) kernels k b.states.each (contains_at kernels (length rows) k at)).kernel

  collect : (fuel : ℕ) (kernels : List Kernel) (rows : List (List Edge)) → PartialCollection g kernels rows → length kernels ≤ limit → limit ≤ length rows + fuel → NotLacking HasCanonical
  collect zero kernels rows b few enough = given (done kernels rows b few (omega arith))
  collect (suc fuel) kernels rows b few enough = elim (cases_lt (length rows) (length kernels)) [
    | inl lt ↦ (
        let k = get_within kernels (length rows) lt in
        chain (moving g range k.0 (state_of kernels rows k.0 b k.1)) (λ m. chain (next kernels rows k.0 b k.1 m few) (λ r. elim r [
          | inl gone ↦ collect fuel gone.0 (rows ++ gone.1 ∷ []) (PartialCollection-step g kernels gone.0 rows k.0 m.closed m.symbols gone.1 b k.1 m.valid m.same m.rising m.exact gone.2) gone.3 (omega (arith, length_push rows gone.1))
          | inr over ↦ given (inr over)
        ])))
    | inr le ↦ given (done kernels rows b few le)
  ]

pub canonical_or_exceeds : (g : PlainGrammar) (limit : ℕ) → IsInRange g → length g.starts ≤ limit → NotLacking (((a : Automaton) × IsCanonical g a × (length a.kernels ≤ limit)) ⊎ CanonicalExceeds g limit)
canonical_or_exceeds g limit range few =
    let s = starts (length g.starts) in
    let len = s.1.len in
    collect g range limit limit s.0 [] (PartialCollection-start g s.0 s.1) (omega (arith, len)) (omega arith)
