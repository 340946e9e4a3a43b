-- Lemmas on item sets: properties that closures and moves keep.
use Rattle.std.proofs.Common.{◌≡◌, ℕ, ◌<◌, List, [], ◌∷◌, refl, sym, ap, ◌∙◌, arith, inl, inr}
use Rattle.std.specs.List.{Contains}
use Rattle.mh_grammar.specs.declared.types.Symbol.{Symbol}
use Rattle.mh_grammar.specs.declared.types.Look.{Look}
use Rattle.mh_grammar.specs.declared.types.Look.TheVariants.{End}
use Rattle.mh_grammar.specs.Plain.{PlainGrammar}
use Rattle.mh_grammar.specs.ItemSets as items
use Rattle.mh_grammar.specs.ItemSets.{ItemSet, AreSameItems, Close, Moved, StartItems, PathItems}
use Rattle.mh_items_kernels.specs.KernelTypes.{Kernel, KernelItem}
use Rattle.mh_items_kernels.specs.Kernels.{Holds, HasCoreItem, IsKernelItem, IsItemList}
use Rattle.mh_items_kernels.specs.Automaton.{start_kernel}
use Rattle.mh_items_kernels.specs.Collection.{HasItem}
use Rattle.mh_grammar.proofs.Lists.{contains_here, contains_cases, contains_none, recursion_contains, some_item}

pub AreSameItems-sym : (I J : ItemSet) → AreSameItems I J → AreSameItems J I
AreSameItems-sym I J s p d a = ((s p d a).1, (s p d a).0)

pub AreSameItems-trans : (I J K : ItemSet) → AreSameItems I J → AreSameItems J K → AreSameItems I K
AreSameItems-trans I J K s t p d a = ((λ h. (t p d a).0 ((s p d a).0 h)), (λ h. (s p d a).1 ((t p d a).1 h)))

pub moved_within : (g : PlainGrammar) (I J : ItemSet) (X : Symbol) → ((p d : ℕ) (a : Look) → I p d a → J p d a) → (p d : ℕ) (a : Look) → Moved g I X p d a → Moved g J X p d a
moved_within g I J X h p d a (items.Moved.moved {d = d'} i e) = items.Moved.moved (h p d' a i) e

pub Moved-same : (g : PlainGrammar) (I J : ItemSet) (X : Symbol) → AreSameItems I J → AreSameItems (Moved g I X) (Moved g J X)
Moved-same g I J X s p d a = (moved_within g I J X (λ q e b. (s q e b).0) p d a, moved_within g J I X (λ q e b. (s q e b).1) p d a)

pub Close-monotone : (g : PlainGrammar) (I J : ItemSet) → ((p d : ℕ) (a : Look) → I p d a → J p d a) → (p d : ℕ) (a : Look) → Close g I p d a → Close g J p d a
Close-monotone g I J h p d a (items.Close.given i) = items.Close.given (h p d a i)
Close-monotone g I J h q d b (items.Close.added {p} {d = d'} {a} c e f m) = items.Close.added (Close-monotone g I J h p d' a c) e f m

pub Close-same : (g : PlainGrammar) (I J : ItemSet) → AreSameItems I J → AreSameItems (Close g I) (Close g J)
Close-same g I J s p d a = (Close-monotone g I J (λ q e b. (s q e b).0) p d a, Close-monotone g J I (λ q e b. (s q e b).1) p d a)

pub HasItem-same : (I J : ItemSet) → AreSameItems I J → HasItem I → HasItem J
HasItem-same I J s h = record { production = h.production; dot = h.dot; look = h.look; holds = (s h.production h.dot h.look).0 h.holds }

-- If a closure is not empty, its kernel is not empty.
pub HasItem-close : (g : PlainGrammar) (I : ItemSet) (p d : ℕ) (a : Look) → Close g I p d a → HasItem I
HasItem-close g I p d a (items.Close.given i) = record { production = p; dot = d; look = a; holds = i }
HasItem-close g I q d b (items.Close.added {p} {d = d'} {a} c e f m) = HasItem-close g I p d' a c

pub HasItem-moved : (g : PlainGrammar) (I : ItemSet) (X : Symbol) (p d : ℕ) (a : Look) → Moved g I X p d a → HasItem I
HasItem-moved g I X p d a (items.Moved.moved {d = d'} i e) = record { production = p; dot = d'; look = a; holds = i }

-- If the items that a path reaches are not empty, the items of the path without its newest symbol are not empty.
pub HasItem-path : (g : PlainGrammar) (i : ℕ) (X : Symbol) (path : List Symbol) → HasItem (PathItems g i (X ∷ path)) → HasItem (PathItems g i path)
HasItem-path g i X path h =
    let c = HasItem-moved g (Close g (PathItems g i path)) X h.production h.dot h.look h.holds in
    HasItem-close g (PathItems g i path) c.production c.dot c.look c.holds

-- The dot of a moved item is not at the beginning.
pub Moved-positive_dot : (g : PlainGrammar) (I : ItemSet) (X : Symbol) (p d : ℕ) (a : Look) → Moved g I X p d a → 0 < d
Moved-positive_dot g I X p d a (items.Moved.moved {d = d'} i e) = omega arith

-- The start kernel lists the items of its start.
pub Holds-start : (i : ℕ) → AreSameItems (Holds (start_kernel i)) (StartItems i)
Holds-start i p d a = (to, back p d a)
  where
    begun : (p d : ℕ) (a : Look) → i ≡ p → 0 ≡ d → End ≡ a → StartItems i p d a
    begun p d a e f h = rw (← e, ← f, ← h) items.StartItems.begin

    to : Holds (start_kernel i) p d a → StartItems i p d a
    to h =
        let first : record { production = i; dot = 0; looks = End ∷ [] } ≡ h.0 = elim (contains_cases (record { production = i; dot = 0; looks = End ∷ [] }) [] h.0 h.1) [ inl e ↦ e | inr c ↦ absurd (contains_none h.0 c) ] in
        let looks : Contains (End ∷ []) a = rw (sym (ap (λ (k : KernelItem). k.looks) first)) at h.4 in
        begun p d a (ap (λ (k : KernelItem). k.production) first ∙ h.2) (ap (λ (k : KernelItem). k.dot) first ∙ h.3) (elim (contains_cases End [] a looks) [ inl e ↦ e | inr c ↦ absurd (contains_none a c) ])

    back : (p d : ℕ) (a : Look) → StartItems i p d a → Holds (start_kernel i) p d a
    back p d a items.StartItems.begin = (record { production = i; dot = 0; looks = End ∷ [] }, contains_here (record { production = i; dot = 0; looks = End ∷ [] }) [], refl, refl, contains_here End [])

-- Each pair of production and dot in the core of a kernel has a look.
pub Holds-core_item : (g : PlainGrammar) (k : Kernel) → IsItemList g k → (p d : ℕ) → HasCoreItem k p d → (a : Look) × Holds k p d a
Holds-core_item g k of_k p d h =
    let look = some_item h.0.looks (recursion_contains (IsKernelItem g) k.items of_k.items h.0 h.1).some in
    (look.0, (h.0, h.1, h.2, h.3, look.1))
