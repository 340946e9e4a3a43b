-- Lemmas on the changes that placing a move makes.
use Rattle.std.proofs.Common.{◌≡◌, ℕ, List, [], ◌∷◌, Some, length, refl, sym, ap, ◌∙◌, inl, inr}
use Rattle.std.specs.List.{slice_get, Contains}
use Rattle.std.proofs.lemmas.List.{length-set, length_push}
use Rattle.std.proofs.lemmas.List.Elements.{Contains-append_left, Contains-append_right}
use Rattle.std.proofs.lemmas.Bool.{cases_eq}
use Rattle.std.proofs.lemmas.Option.{slice_get_within}
use Rattle.mh_grammar.specs.declared.edges.Edge.{Edge}
use Rattle.mh_grammar.specs.Plain.{PlainGrammar}
use Rattle.mh_grammar.specs.ItemSets.{ItemSet, AreSameItems}
use Rattle.mh_grammar.proofs.Lists.{get_left, get_last, get_cases, contains_here, set_here, set_elsewhere, set_cases}
use Rattle.mh_items_kernels.specs.KernelTypes.{Kernel}
use Rattle.mh_items_kernels.specs.Kernels.{Holds, IsItemList}
use Rattle.mh_pager.specs.WeakCompatibility.{HaveSameCore, Covers, IsJoin}
use Rattle.mh_pager.specs.MergeSteps.{MergeState, IsCompatibleWithMove, Enqueues, JoinsState, AppendsState, PlacesMove}

-- The second set has the same core as the first set, and contains it.
abbrev pub Extends : ItemSet → ItemSet → Type 0
Extends I J = HaveSameCore I J × Covers J I

pub extends_self : (I : ItemSet) → Extends I I
extends_self I = ((λ p d. ((λ h. h), (λ h. h))), (λ p d a h. h))

pub extends_trans : (I J K : ItemSet) → Extends I J → Extends J K → Extends I K
extends_trans I J K e f = ((λ p d. ((λ h. (f.0 p d).0 ((e.0 p d).0 h)), (λ h. (e.0 p d).1 ((f.0 p d).1 h)))), (λ p d a h. f.1 p d a (e.1 p d a h)))

pub extends_same : (I J : ItemSet) → AreSameItems I J → Extends I J
extends_same I J s = ((λ p d. ((λ h. (h.0, (s p d h.0).0 h.1)), (λ h. (h.0, (s p d h.0).1 h.1)))), (λ p d a h. (s p d a).0 h))

-- A join extends both of its parts.
pub join_extends : (I J K : ItemSet) → HaveSameCore I J → IsJoin I J K → Extends I K × Extends J K
join_extends I J K core join = ((left, (λ p d a h. (join p d a).1 (inl h))), (right, (λ p d a h. (join p d a).1 (inr h))))
  where
    left : HaveSameCore I K
    left p d = (
      (λ h. (h.0, (join p d h.0).1 (inl h.1))),
      (λ h. elim ((join p d h.0).0 h.1) [ inl i ↦ (h.0, i) | inr i ↦ (core p d).1 (h.0, i) ]),
    )

    right : HaveSameCore J K
    right p d = (
      (λ h. (h.0, (join p d h.0).1 (inr h.1))),
      (λ h. elim ((join p d h.0).0 h.1) [ inl i ↦ (core p d).0 (h.0, i) | inr i ↦ (h.0, i) ]),
    )

-- Each kernel is still in the list, with the same core and at least its looks.
abbrev pub Grows : List Kernel → List Kernel → Type 0
Grows old new = (n : ℕ) (k : Kernel) → slice_get old n ≡ Some k → (j : Kernel) × (slice_get new n ≡ Some j) × Extends (Holds k) (Holds j)

pub grows_trans : (old mid new : List Kernel) → Grows old mid → Grows mid new → Grows old new
grows_trans old mid new h k n i at =
    let a = h n i at in
    let b = k n a.0 a.1 in
    (b.0, b.1, extends_trans (Holds i) (Holds a.0) (Holds b.0) a.2 b.2)

-- The origin of a kernel of the new list: it is an old kernel, or a join with the move, or the move.
pub data KernelOrigin (g : PlainGrammar) (move : Kernel) (old new : MergeState) (n : ℕ) (k : Kernel) : Type 0 where
  stays : slice_get old.kernels n ≡ Some k → KernelOrigin g move old new n k
  joins : (j : Kernel) → slice_get old.kernels n ≡ Some j → IsCompatibleWithMove move j → IsItemList g k → IsJoin (Holds j) (Holds move) (Holds k) → Contains new.queue n → KernelOrigin g move old new n k
  fresh : n ≡ length old.kernels → k ≡ move → Contains new.queue n → KernelOrigin g move old new n k

queued : (old new : List ℕ) (n : ℕ) → Enqueues old n new → Contains new n
queued old new n (inl q) = rw q.1 q.0
queued old new n (inr q) = rw q.1 (Contains-append_right old (n ∷ []) n (contains_here n []))

queue_kept : (old new : List ℕ) (n m : ℕ) → Enqueues old n new → Contains old m → Contains new m
queue_kept old new n m (inl q) c = rw q.1 c
queue_kept old new n m (inr q) c = rw q.1 (Contains-append_left old (n ∷ []) m c)

module _ (g : PlainGrammar) (move : Kernel) (old new : MergeState) (n : ℕ) where
  came_joined : (j : JoinsState g move old new n) (m : ℕ) (k : Kernel) → slice_get new.kernels m ≡ Some k → KernelOrigin g move old new m k
  came_joined j m k at = elim (set_cases old.kernels n j.joined m k (rw j.kernels at at)) [
    | inl h ↦ joins j.kernel (rw h.0 j.first.at) j.first.holds (rw h.1 at j.valid) (rw h.1 at j.join) (rw h.0 (queued old.queue new.queue n j.queue))
    | inr h ↦ stays h.1
  ]

  came_appended : (a : AppendsState move old new n) (m : ℕ) (k : Kernel) → slice_get new.kernels m ≡ Some k → KernelOrigin g move old new m k
  came_appended a m k at = elim (get_cases old.kernels move m k (rw a.kernels at at)) [
    | inl h ↦ stays h
    | inr h ↦ fresh h.0 h.1 (rw (h.0 ∙ sym a.last, a.queue) (Contains-append_right old.queue (n ∷ []) n (contains_here n [])))
  ]

  pub kernel_origin : PlacesMove g move old new n → (m : ℕ) (k : Kernel) → slice_get new.kernels m ≡ Some k → KernelOrigin g move old new m k
  kernel_origin (inl f) m k at = stays (rw f.same at at)
  kernel_origin (inr (inl j)) m k at = came_joined j m k at
  kernel_origin (inr (inr a)) m k at = came_appended a m k at

  grows_joined : JoinsState g move old new n → Grows old.kernels new.kernels
  grows_joined j m k at = elim (cases_eq m n) [
    | inl e ↦ (
        let one : Some k ≡ Some j.kernel = sym at ∙ ap (slice_get old.kernels) e ∙ j.first.at in
        let same : j.kernel ≡ k = cc in
        let x : Extends (Holds j.kernel) (Holds j.joined) = (join_extends (Holds j.kernel) (Holds move) (Holds j.joined) j.first.holds.0 j.join).0 in
        (j.joined, rw (j.kernels, e) (set_here old.kernels n j.joined (slice_get_within old.kernels n j.kernel j.first.at)), rw same at x))
    | inr e ↦ (k, rw j.kernels (set_elsewhere old.kernels n j.joined m e ∙ at), extends_self (Holds k))
  ]

  pub put_grows : PlacesMove g move old new n → Grows old.kernels new.kernels
  put_grows (inl f) m k at = (k, rw f.same at, extends_self (Holds k))
  put_grows (inr (inl j)) m k at = grows_joined j m k at
  put_grows (inr (inr a)) m k at = (k, rw a.kernels (get_left old.kernels (move ∷ []) m k at), extends_self (Holds k))

  -- The state that the edge leads to extends the move.
  pub put_target : PlacesMove g move old new n → (k : Kernel) × (slice_get new.kernels n ≡ Some k) × Extends (Holds move) (Holds k)
  put_target (inl f) = (f.kernel, rw f.same f.first.at, ((λ p d. ((f.first.holds.0 p d).1, (f.first.holds.0 p d).0)), f.first.holds.1))
  put_target (inr (inl j)) = (j.joined, rw j.kernels (set_here old.kernels n j.joined (slice_get_within old.kernels n j.kernel j.first.at)), (join_extends (Holds j.kernel) (Holds move) (Holds j.joined) j.first.holds.0 j.join).1)
  put_target (inr (inr a)) = (move, rw a.kernels (get_last old.kernels move n a.last), extends_self (Holds move))

  pub put_queue : PlacesMove g move old new n → (m : ℕ) → Contains old.queue m → Contains new.queue m
  put_queue (inl f) m c = rw f.same c
  put_queue (inr (inl j)) m c = queue_kept old.queue new.queue n m j.queue c
  put_queue (inr (inr a)) m c = rw a.queue (Contains-append_left old.queue (n ∷ []) m c)

  pub put_rows : PlacesMove g move old new n → (m : ℕ) (row : List Edge) → slice_get old.rows m ≡ Some row → slice_get new.rows m ≡ Some row
  put_rows (inl f) m row at = rw f.same at
  put_rows (inr (inl j)) m row at = rw j.rows at
  put_rows (inr (inr a)) m row at = rw a.rows (get_left old.rows ([] ∷ []) m row at)

  pub put_length : PlacesMove g move old new n → length old.rows ≡ length old.kernels → length new.rows ≡ length new.kernels
  put_length (inl f) e = rw f.same e
  put_length (inr (inl j)) e = rw (j.rows, j.kernels, length-set old.kernels n j.joined) e
  put_length (inr (inr a)) e = rw (a.rows, a.kernels, length_push old.rows [], length_push old.kernels move, e) refl
