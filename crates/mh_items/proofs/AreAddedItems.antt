-- Lemmas on the list of the items that a closure adds.
use Rattle.std.proofs.Common.{◌≡◌, ℕ, drop, ◌+◌, ◌-◌, ◌<◌, ◌≤◌, ◌↔◌, List, [], ◌∷◌, ◌++◌, Some, length, get_or, vec_len, refl, sym, ap, subst, ◌∙◌, arith, inl, inr}
use Rattle.std.specs.List.{slice_get, All, Contains}
use Rattle.std.proofs.lemmas.Bool.{cases_eq}
use Rattle.std.proofs.lemmas.List.Elements.{Contains-push, Contains-push_cases, Contains-append_left, Contains-append_right, Contains-append_cases}
use Rattle.std.specs.List.Sorted.{IsStrictlyIncreasing}
use Rattle.std.proofs.lemmas.List.Kept.{AllPairs-from_increasing}
use Rattle.std.proofs.lemmas.Option.{slice_get-get_or, slice_get_within, get_or_from_slice_get}
use Rattle.mh_grammar.specs.declared.types.Production.{Production}
use Rattle.mh_grammar.specs.declared.types.Look.{Look}
use Rattle.mh_grammar.specs.Plain.{PlainGrammar, IsLookBelow, IsProductionFor, lhs_of, IsInRange, IsSymbolBelow, production_count, rhs_of}
use Rattle.mh_grammar.specs.ItemSets as sets
use Rattle.mh_grammar.specs.ItemSets.{AreSameItems, Close, MayBegin}
use Rattle.mh_grammar.specs.declared.types.Symbol.{Symbol}
use Rattle.mh_grammar.specs.declared.types.Symbol.TheVariants.{N}
use Rattle.mh_grammar.proofs.Lists.{recursion_contains, get_unique, contains_at, at_contains, recursion-from}
use Rattle.mh_grammar.proofs.ProductionNumbers.{listed_from_for}
use Rattle.mh_items_kernels.specs.KernelTypes.{KernelItem, Kernel}
use Rattle.mh_items.specs.declared.pending_looks.PendingLooks.{PendingLooks}
use Rattle.mh_items_kernels.specs.Kernels.{Holds, IsItemList, IsKernelItem}
use Rattle.mh_items_kernels.proofs.SymbolAtDot.{drop_tail}
use Rattle.mh_items.specs.code.AddedItems.{AreAddedItems, IsAddedProduction}
use Rattle.mh_items.specs.code.ItemUnion.{IsItemUnion}
use Rattle.mh_items.specs.code.ClosureLooks as wanted
use Rattle.mh_items.specs.code.ClosureLooks.{AreClosureLooks, IsClosureLook}
use Rattle.mh_items.specs.code.PendingLooks.{looks_at, HasLook, ArePendingLooks}
use Rattle.mh_sets.specs.Sets.{IsSet}
use Rattle.mh_items.proofs.IsUnionSoFar.{holds_push, holds_cases}
use Rattle.mh_items_kernels.proofs.AppendedItem.{kernel_push}
use Rattle.mh_items.proofs.AreClosureLooks.{look_row_known}
use Rattle.mh_items_kernels.proofs.RhsInRange.{rest_below}
use Rattle.mh_grammar.proofs.FirstFlags.{first_of-below}

abbrev of_items : List KernelItem → Kernel
of_items items = record { items = items }

-- The numbers and looks of a closure's items are in range.

module _ (g : PlainGrammar) (r : IsInRange g) (kernel : Kernel) (k : IsItemList g kernel) where
  begins_below : (y : List Symbol) (a b : Look) → All (IsSymbolBelow g.tokens g.nonterminals) y → IsLookBelow g.tokens a → MayBegin g y a b → IsLookBelow g.tokens b
  begins_below y a b all l (sets.MayBegin.begins {z = z} f) = first_of-below g g.tokens g.nonterminals r.productions z y f all
  begins_below y a b all l (sets.MayBegin.passes d) = l

  behind_side : (p d n : ℕ) (y : List Symbol) → p < production_count g → drop d (rhs_of g p) ≡ N n ∷ y → All (IsSymbolBelow g.tokens g.nonterminals) y
  behind_side p d n y l e = rw (sym (drop_tail (rhs_of g p) d (N n) y e)) (rest_below g r p d l)

  close_below : (p d : ℕ) (a : Look) → Close g (Holds kernel) p d a → (p < production_count g) × IsLookBelow g.tokens a
  close_below p d a (sets.Close.given h) =
      let item = recursion_contains (IsKernelItem g) kernel.items k.items h.0 h.1 in
      (rw h.2 at item.production, recursion_contains (IsLookBelow g.tokens) h.0.looks item.looks a h.4)
  close_below p d a (sets.Close.added {p = p'} {d = d'} {n = n} {y = y} {a = a'} c e for m) =
      let from = close_below p' d' a' c in
      (for.known, begins_below y a' a (behind_side p' d' n y from.0 e) from.1 m)

  pub closure_look_below : (n : ℕ) (b : Look) → IsClosureLook g (Holds kernel) n b → IsLookBelow g.tokens b
  closure_look_below n b (wanted.IsClosureLook.wants {p = p} {d = d} {y = y} {a = a} c e m) = let from = close_below p d a c in begins_below y a b (behind_side p d n y from.0 e) from.1 m

-- Lemmas on the production numbers of the added items.

-- The loop invariant: the list holds the production numbers of the first nonterminals of the queue.
pub record NumbersUpto {W : ℕ} (g : PlainGrammar) (s : PendingLooks W) (numbers : List ℕ) (upto : ℕ) : Type 0 where
  pub sound : (p : ℕ) → Contains numbers p → IsAddedProduction g s p
  pub complete : (k p n : ℕ) → k < upto → slice_get s.queue.items k ≡ Some n → IsProductionFor g n p → Contains numbers p

pub NumbersUpto-start : {W : ℕ} (g : PlainGrammar) (s : PendingLooks W) → NumbersUpto g s [] 0
NumbersUpto-start g s = record { sound = λ p c. absurd (omega (arith, c.1)); complete = λ k p n l. absurd (omega arith) }

pub NumbersUpto-extend : {W : ℕ} (g : PlainGrammar) (s : PendingLooks W) (numbers row : List ℕ) (i n : ℕ) → ArePendingLooks s → NumbersUpto g s numbers i → slice_get s.queue.items i ≡ Some n → ((p : ℕ) → Contains row p ↔ IsProductionFor g n p) → NumbersUpto g s (numbers ++ row) (i + 1)
NumbersUpto-extend g s numbers row i n t h at exact = record {
  sound = λ p c. elim (Contains-append_cases numbers row p c) [
    | inl k ↦ h.sound p k
    | inr k ↦ (n, (exact p).0 k, t.queued_has_look n (contains_at s.queue.items i n at))
  ];
  complete = λ k p m l read for. elim (cases_eq k i) [
    | inl e ↦ (let one : m ≡ n = get_unique s.queue.items i m n (rw e at read) at in let P : ℕ → Type 0 = λ x. IsProductionFor g x p in Contains-append_right numbers row p ((exact p).1 (subst P one for)))
    | inr o ↦ Contains-append_left numbers row p (h.complete k p m (omega arith) read for)
  ];
}

pub NumbersUpto-all : {W : ℕ} (g : PlainGrammar) (s : PendingLooks W) (numbers : List ℕ) (upto : ℕ) → ArePendingLooks s → length s.queue.items ≤ upto → NumbersUpto g s numbers upto → (p : ℕ) → Contains numbers p ↔ IsAddedProduction g s p
NumbersUpto-all g s numbers upto t all h p = (
  h.sound p,
  λ is. (let at = at_contains s.queue.items is.0 (t.looks_queued is.0 is.2.0 is.2.1) in h.complete at.0 p is.0 (omega (arith, slice_get_within s.queue.items at.0 is.0 at.1)) at.1 is.1),
)

pub queue_known : {W : ℕ} (g : PlainGrammar) (s : PendingLooks W) (n : ℕ) → ArePendingLooks s → vec_len s.looks ≡ g.nonterminals → length s.looks.items ≡ vec_len s.looks → Contains s.queue.items n → n < g.nonterminals
queue_known g s n t size len c = let some = t.queued_has_look n c in look_row_known g s size len n some.0 some.1

-- Lemmas on the added items.

-- The loop invariant: the items are those of the first production numbers.
pub record AddedSoFar {W : ℕ} (g : PlainGrammar) (s : PendingLooks W) (numbers : List ℕ) (items : List KernelItem) (upto : ℕ) : Type 0 where
  pub kernel : IsItemList g (of_items items)
  pub among : (x : KernelItem) → Contains items x → (k : ℕ) × (k < upto) × (slice_get numbers k ≡ Some x.production)
  pub first : (x : KernelItem) → Contains items x → x.dot ≡ 0
  pub sound : (p d : ℕ) (b : Look) → Holds (of_items items) p d b → (n : ℕ) × IsProductionFor g n p × HasLook s n b
  pub complete : (k p n : ℕ) (b : Look) → k < upto → slice_get numbers k ≡ Some p → IsProductionFor g n p → HasLook s n b → Holds (of_items items) p 0 b

pub AddedSoFar-start : {W : ℕ} (g : PlainGrammar) (s : PendingLooks W) (numbers : List ℕ) → AddedSoFar g s numbers [] 0
AddedSoFar-start g s numbers = record {
  kernel = record { items = tt; rising = tt };
  among = λ x c. absurd (let l = c.1 in omega arith);
  first = λ x c. absurd (let l = c.1 in omega arith);
  sound = λ p d b h. absurd (let l = h.1.1 in omega arith);
  complete = λ k p n b l. absurd (omega arith);
}

module _ {W : ℕ} (g : PlainGrammar) (r : IsInRange g) (kernel : Kernel) (valid : IsItemList g kernel) (s : PendingLooks W) (t : ArePendingLooks s) (numbers : List ℕ) (items : List KernelItem) (i p n : ℕ) (w : AreClosureLooks g kernel s) (rising : IsStrictlyIncreasing numbers)
    (h : AddedSoFar g s numbers items i) (at : slice_get numbers i ≡ Some p) (for : IsProductionFor g n p) (set : (b : Look) × HasLook s n b)
    (looks : List Look) (is_set : IsSet W looks) (l : looks ≡ looks_at s n) where
  abbrev made : KernelItem
  made = record { production = p; dot = 0; looks = looks }

  asked_of : (b : Look) → Contains looks b → HasLook s n b
  asked_of b c = let P : List Look → Type 0 = λ xs. Contains xs b in subst P l c

  made_item : IsKernelItem g made
  made_item = record {
    production = for.known;
    dot = omega arith;
    looks = recursion-from (IsLookBelow g.tokens) looks (λ b c. closure_look_below g r kernel valid n b ((w.exact n b).0 (asked_of b c)));
    rising = is_set.rising;
    some = (let P : List Look → Type 0 = λ xs. Contains xs set.0 in let k = (subst P (sym l) set.1).1 in omega arith);
  }

  made_after : (x : KernelItem) → Contains items x → x.production < p
  made_after x c =
      let before = h.among x c in
      let within = slice_get_within numbers i p at in
      let rise = AllPairs-from_increasing numbers rising before.0 i 0 before.1 within in
      let from = get_or_from_slice_get numbers before.0 x.production 0 before.2 in
      let to = get_or_from_slice_get numbers i p 0 at in
      omega arith

  pub AddedSoFar-push : AddedSoFar g s numbers (items ++ made ∷ []) (i + 1)
  AddedSoFar-push = record {
    kernel = kernel_push g items made h.kernel made_item (λ x c. inl (made_after x c));
    among = λ x c. elim (Contains-push_cases items made x c) [
      | inl d ↦ (let f = h.among x d in (f.0, omega (arith, f.1), f.2))
      | inr same ↦ (i, omega arith, at ∙ ap (λ (k : KernelItem). Some k.production) same)
    ];
    first = λ x c. elim (Contains-push_cases items made x c) [ inl d ↦ h.first x d | inr same ↦ sym (ap (λ (k : KernelItem). k.dot) same) ];
    sound = λ q d b f. elim (holds_cases items made q d b f) [
      | inl k ↦ h.sound q d b k
      | inr k ↦ (let P : ℕ → Type 0 = λ x. IsProductionFor g n x in (n, subst P k.0 for, asked_of b k.2))
    ];
    complete = λ k q m b short read by f. elim (cases_eq k i) [
      | inl same ↦ (let one : q ≡ p = get_unique numbers i q p (rw same at read) at in
          let side : m ≡ n = sym by.lhs ∙ ap (lhs_of g) one ∙ for.lhs in
          let f' : HasLook s n b = subst (λ (x : ℕ). HasLook s x b) side f in
          let P : List Look → Type 0 = λ xs. Contains xs b in
          (made, Contains-push items made, sym one, refl, subst P (sym l) f'))
      | inr o ↦ holds_push items made q 0 b (h.complete k q m b (omega arith) read by f)
    ];
  }

-- Element i of the list of production numbers is p.
pub record NextNumber {W : ℕ} (g : PlainGrammar) (s : PendingLooks W) (numbers : List ℕ) (i p : ℕ) : Type 0 where
  pub at : slice_get numbers i ≡ Some p
  pub ordinary : length g.starts ≤ p
  pub within : p - length g.starts < length g.productions
  pub is : (q : Production) → q ≡ get_or g.productions (p - length g.starts) q → IsProductionFor g q.lhs p × ((b : Look) × HasLook s q.lhs b)

pub next_number : {W : ℕ} (g : PlainGrammar) (s : PendingLooks W) (numbers : List ℕ) (i : ℕ) → ((q : ℕ) → Contains numbers q ↔ IsAddedProduction g s q) → i < length numbers → NextNumber g s numbers i (get_or numbers i 0)
next_number g s numbers i exact l =
    let p = get_or numbers i 0 in
    let at = slice_get-get_or numbers i 0 l in
    let found = (exact p).0 (contains_at numbers i p at) in
    let listed = listed_from_for g found.0 p found.1 in
    let place : p - length g.starts ≡ listed.place = omega (arith, listed.number) in
    let short = slice_get_within g.productions listed.place listed.production listed.at in
    record {
      at = at;
      ordinary = found.1.ordinary;
      within = omega arith;
      is = λ q read.
          let here = get_or_from_slice_get g.productions listed.place listed.production q listed.at in
          let one : q ≡ listed.production = (rw place at read) ∙ here in
          let side : found.0 ≡ q.lhs = sym listed.lhs ∙ ap (λ (z : Production). z.lhs) (sym one) in
          let P : ℕ → Type 0 = λ z. IsProductionFor g z p × ((b : Look) × HasLook s z b) in
          subst P side (found.1, found.2);
    }

pub are_added_items : {W : ℕ} (g : PlainGrammar) (s : PendingLooks W) (numbers : List ℕ) (items : List KernelItem) (upto : ℕ) → ((q : ℕ) → Contains numbers q ↔ IsAddedProduction g s q) → length numbers ≤ upto
    → AddedSoFar g s numbers items upto → AreAddedItems g s items
are_added_items g s numbers items upto exact all h = record {
  first = λ p d b f. sym f.3 ∙ h.first f.0 f.1;
  sound = h.sound;
  complete = λ p n b for f.
      let at = at_contains numbers p ((exact p).1 (n, for, (b, f))) in
      h.complete at.0 p n b (omega (arith, slice_get_within numbers at.0 p at.1)) at.1 for f;
}

-- The kernel and the added items together are the closure.
module _ {W : ℕ} (g : PlainGrammar) (kernel : Kernel) (s : PendingLooks W) (w : AreClosureLooks g kernel s) (added items : List KernelItem) (a : AreAddedItems g s added) (u : IsItemUnion g kernel.items added items) where
  in_close : (p d : ℕ) (b : Look) → Holds (of_items items) p d b → Close g (Holds kernel) p d b
  in_close p d b h = elim ((u.holds p d b).0 h) [
    | inl k ↦ sets.Close.given k
    | inr k ↦ (let f = a.sound p d b k in let first = a.first p d b k in
        let P : ℕ → Type 0 = λ x. Close g (Holds kernel) p x b in subst P (sym first) (go f.0 f.1 ((w.exact f.0 b).0 f.2)))
  ]
    where
      go : (n : ℕ) → IsProductionFor g n p → IsClosureLook g (Holds kernel) n b → Close g (Holds kernel) p 0 b
      go n for (wanted.IsClosureLook.wants c e m) = sets.Close.added c e for m

  of_close : (p d : ℕ) (b : Look) → Close g (Holds kernel) p d b → Holds (of_items items) p d b
  of_close p d b (sets.Close.given h) = (u.holds p d b).1 (inl h)
  of_close p d b (sets.Close.added {n = n} c e for m) =
      let want : IsClosureLook g (Holds kernel) n b = wanted.IsClosureLook.wants c e m in
      (u.holds p 0 b).1 (inr (a.complete p n b for ((w.exact n b).1 want)))

  pub closure_of_union : AreSameItems (Holds (of_items items)) (Close g (Holds kernel))
  closure_of_union p d b = (in_close p d b, of_close p d b)
