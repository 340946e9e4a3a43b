-- Proves, as a double negation, that the states that are reached from the start states have new numbers.
use Rattle.mh_pager.specs.code.Renumbering.{IsRenumbered, AreReachedStates, AreTargetsInRange}
use Rattle.std.proofs.Common.{◌≡◌, ℕ, zero, suc, ◌+◌, ◌<◌, ◌≤◌, ◌⊎◌, inl, inr, List, [], ◌∷◌, ◌++◌, Some, length, refl, sym, ap, subst, ◌∙◌, append_assoc, arith}
use Rattle.std.specs.List.{slice_get, Contains, All, AllByRecursion, AllZip}
use Rattle.std.proofs.lemmas.Bool.{cases_lt}
use Rattle.std.proofs.lemmas.List.{append-nil, length_push}
use Rattle.std.proofs.lemmas.List.Elements.{All-contains, recursion_from_All}
use Rattle.std.proofs.lemmas.Option.{slice_get_within}
use Rattle.mh_grammar.specs.declared.edges.Edge.{Edge}
use Rattle.mh_grammar.specs.Placed.{Placed}
use Rattle.mh_grammar.proofs.Lists.{get_last, get_within, contains_at, at_contains}
use Rattle.mh_items_kernels.specs.KernelTypes.{Kernel}
use Rattle.mh_pager.proofs.RenumberingInvariant.{RenumberingInvariant, RenumberingInvariant-start, RenumberingInvariant-step, AreReachedStates-done, IsRenumbered-none, IsRenumbered-push, below_few}
use Rattle.mh_grammar.specs.NotLacking.{NotLacking}
use Rattle.mh_grammar.proofs.NotLacking.{given, chain, decided}

put : (old : List ℕ) (k : ℕ) → Contains old k ⊎ (Contains old k → ⊥) → (new : List ℕ) × (n : ℕ) × Placed old new k n
put old k (inl c) = let at = at_contains old k c in (old, at.0, record { at = at.1; grown = inl (refl, slice_get_within old at.0 k at.1) })
put old k (inr none) = (old ++ k ∷ [], length old, record { at = get_last old k (length old) refl; grown = inr (refl, refl, none) })

place : (old : List ℕ) (k : ℕ) → NotLacking ((new : List ℕ) × (n : ℕ) × Placed old new k n)
place old k = chain (decided (Contains old k)) (λ d. given (put old k d))

abbrev Renamed : List Edge → List ℕ → Type 0
Renamed row old = (made : List Edge) × (states : List ℕ) × IsRenumbered row made old states

renamed : (row : List Edge) (old : List ℕ) (rest front : List Edge) (mid : List ℕ) (made : List Edge) → row ≡ front ++ rest → IsRenumbered front made old mid → NotLacking (Renamed row old)
renamed row old [] front mid made is r = given (made, mid, subst (λ (es : List Edge). IsRenumbered es made old mid) (sym (is ∙ append-nil front)) r)
renamed row old (e ∷ rest) front mid made is r = chain (place mid e.target) (λ p.
    renamed row old rest (front ++ e ∷ []) p.0 (made ++ record { symbol = e.symbol; target = p.1 } ∷ []) (is ∙ sym (append_assoc front (e ∷ []) rest)) (IsRenumbered-push front made old mid p.0 e p.1 r p.2))

module _ (starts : ℕ) (rows : List (List Edge)) (closed : AreTargetsInRange rows) where
  abbrev Reached : Type 0
  Reached = (states : List ℕ) × (edges : List (List Edge)) × AreReachedStates starts rows states edges

  reach : (fuel : ℕ) (states : List ℕ) (edges : List (List Edge)) → RenumberingInvariant starts rows states edges → length rows ≤ length edges + fuel → NotLacking Reached
  reach zero states edges r enough = let few = below_few (length rows) states r.below in given (states, edges, AreReachedStates-done starts rows states edges r (omega (arith, few)))
  reach (suc fuel) states edges r enough = elim (cases_lt (length edges) (length states)) [
    | inl lt ↦ (
        let n = get_within states (length edges) lt in
        let l : n.0 < length rows = All-contains (λ m. m < length rows) states n.0 r.below.below (contains_at states (length edges) n.0 n.1) in
        let row = get_within rows n.0 l in
        chain (renamed row.0 states row.0 [] states [] refl (IsRenumbered-none states)) (λ made.
        reach fuel made.1 (edges ++ made.0 ∷ []) (RenumberingInvariant-step starts rows states edges r made.1 n.0 row.0 made.0 n.1 row.1 (closed.targets n.0 row.0 row.1) made.2) (omega (arith, length_push edges made.0))))
    | inr le ↦ given (states, edges, AreReachedStates-done starts rows states edges r le)
  ]

  pub reached : (few : starts ≤ length rows) → NotLacking Reached
  reached few = reach (length rows) _ [] (RenumberingInvariant-start starts rows few) (omega arith)

pub pick : (kernels : List Kernel) (states : List ℕ) → AllByRecursion (λ n. n < length kernels) states → (ks : List Kernel) × AllZip (λ n k. slice_get kernels n ≡ Some k) states ks
pick kernels [] all = ([], tt)
pick kernels (n ∷ states) all = let k = get_within kernels n all.0 in let rest = pick kernels states all.1 in (k.0 ∷ rest.0, (k.1, rest.1))
