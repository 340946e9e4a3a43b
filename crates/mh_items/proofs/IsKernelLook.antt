-- Lemmas on the looks that come from one kernel item.
use Rattle.std.proofs.Common.{◌≡◌, ℕ, suc, ◌⊎◌, ◌↔◌, Bool, true, List, [], ◌∷◌, ◌++◌, Some, get_or, drop, refl, sym, ap, subst, ◌∙◌, arith, inl, inr}
use Rattle.std.specs.List.{slice_get, Contains}
use Rattle.std.proofs.lemmas.List.Elements.{Contains-push, Contains-push_cases, Contains-append_left, Contains-get_or}
use Rattle.mh_grammar.specs.declared.types.Symbol.{Symbol}
use Rattle.mh_grammar.specs.declared.types.Symbol.TheVariants.{N}
use Rattle.mh_grammar.specs.declared.types.Look.{Look}
use Rattle.mh_grammar.specs.declared.types.Look.TheVariants.{Token, End}
use Rattle.mh_grammar.specs.Plain.{PlainGrammar, rhs_of, DerivesAll}
use Rattle.mh_grammar.specs.ItemSets as sets
use Rattle.mh_grammar.specs.ItemSets.{MayBegin}
use Rattle.mh_items_kernels.specs.KernelTypes.{KernelItem, Kernel}
use Rattle.mh_items.specs.declared.pending_looks.PendingLooks.{PendingLooks}
use Rattle.mh_items_kernels.specs.Kernels.{Holds, IsKernelItem}
use Rattle.mh_items.specs.Firsts.{IsFirstLookOfString, IsStringFirst}
use Rattle.mh_items.specs.code.PendingLooks.{HasLook, AreAllWaiting, AddsLooks, IsLookFor}
use Rattle.mh_items.specs.code.ClosureLooks as wanted
use Rattle.mh_items.specs.code.ClosureLooks.{MayFollowSymbol, IsItemLook, IsLookOfItems, IsKernelLook, AreKernelLooks}
use Rattle.mh_items_kernels.proofs.SymbolAtDot.{drop_from-slice_get, drop_tail}
use Rattle.mh_items.proofs.AddsLooks.{AddsLooks-then, AddsLooks-as}
use Rattle.mh_grammar.proofs.Lists.{get_from_drop}

-- The looks that may follow the symbol at the dot are computed from FIRST of the symbols after it.
module _ (g : PlainGrammar) (item : KernelItem) (is : IsKernelItem g item) (tokens : List Look) (passes : Bool) (rest : IsStringFirst g (drop (suc item.dot) (rhs_of g item.production)) tokens passes) where
  some_held : (look : Look) × Contains item.looks look
  some_held = (get_or item.looks 0 End, Contains-get_or item.looks 0 End is.some)

  begins_of : (y : List Symbol) (a b : Look) → IsFirstLookOfString g y b → MayBegin g y a b
  begins_of y a (Token z) f = sets.MayBegin.begins f
  begins_of y a End f = absurd f

  follows_back : (y : List Symbol) (a b : Look) → MayBegin g y a b → IsFirstLookOfString g y b ⊎ ((a ≡ b) × DerivesAll g y [])
  follows_back y a b (sets.MayBegin.begins f) = inl f
  follows_back y a b (sets.MayBegin.passes d) = inr (refl, d)

  pub may_follow_exact : (b : Look) → (Contains tokens b ⊎ ((passes ≡ true) × Contains item.looks b)) ↔ MayFollowSymbol g item b
  may_follow_exact b = (
    (λ s. elim s [
      | inl c ↦ record { look = some_held.0; held = some_held.1; begins = begins_of (drop (suc item.dot) (rhs_of g item.production)) some_held.0 b ((rest.begins b).0 c) }
      | inr c ↦ record { look = b; held = c.1; begins = sets.MayBegin.passes (rest.empty.0 c.0) }
    ]),
    (λ f. elim (follows_back (drop (suc item.dot) (rhs_of g item.production)) f.look b f.begins) [
      | inl k ↦ inl ((rest.begins b).1 k)
      | inr k ↦ (let P : Look → Type 0 = Contains item.looks in inr (rest.empty.1 k.1, subst P k.0 f.held))
    ]),
  )

module _ (g : PlainGrammar) where
  module _ {W : ℕ} where
    -- If an item has a nonterminal at its dot, adding the looks of the nonterminal adds those of the item.
    pub adds_item_looks : (item : KernelItem) (n : ℕ) (looks : List Look) (a b : PendingLooks W) → slice_get (rhs_of g item.production) item.dot ≡ Some (N n) → ((x : Look) → Contains looks x ↔ MayFollowSymbol g item x) → AddsLooks (IsLookFor n looks) a b → AddsLooks (IsItemLook g item) a b
    adds_item_looks item n looks a b at exact h = AddsLooks-as (IsLookFor n looks) (IsItemLook g item) a b h
        (λ m x s. let one : N m ≡ N n = (let e = sym s.at ∙ at in cc) in let same : m ≡ n = cc in record { same = same; among = (exact x).1 s.follows })
        (λ m x s. record { at = at ∙ ap (λ k. Some (N k)) (sym s.same); follows = (exact x).0 s.among })

  pub no_item_looks : (item : KernelItem) → ((n : ℕ) → slice_get (rhs_of g item.production) item.dot ≡ Some (N n) → ⊥) → (n : ℕ) (b : Look) → IsItemLook g item n b → ⊥
  no_item_looks item none n b s = none n s.at

  pub no_kernel_looks : (n : ℕ) (b : Look) → IsLookOfItems g [] n b → ⊥
  no_kernel_looks n b s = let l = s.among.1 in omega arith

  module _ {W : ℕ} where
    pub kernel_looks_step : (front : List KernelItem) (item : KernelItem) (a b c : PendingLooks W) → AddsLooks (IsLookOfItems g front) a b → AddsLooks (IsItemLook g item) b c → AddsLooks (IsLookOfItems g (front ++ item ∷ [])) a c
    kernel_looks_step front item a b c h k = AddsLooks-then (IsLookOfItems g front) (IsItemLook g item) (IsLookOfItems g (front ++ item ∷ [])) a b c h k
        (λ n x s. elim (Contains-push_cases front item s.item s.among) [
          | inl d ↦ inl (record { item = s.item; among = d; is = s.is })
          | inr e ↦ (let P : KernelItem → Type 0 = λ i. IsItemLook g i n x in inr (subst P (sym e) s.is))
        ])
        (λ n x s. record { item = s.item; among = Contains-append_left front (item ∷ []) s.item s.among; is = s.is })
        (λ n x s. record { item = item; among = Contains-push front item; is = s })

  -- The looks that come from the list of items are those that come from the set of items.
  seed_of : (kernel : Kernel) (n : ℕ) (b : Look) → IsLookOfItems g kernel.items n b → IsKernelLook g (Holds kernel) n b
  seed_of kernel n b s =
      let held : Holds kernel s.item.production s.item.dot s.is.follows.look = (s.item, s.among, refl, refl, s.is.follows.held) in
      wanted.IsKernelLook.seed held (drop_from-slice_get (rhs_of g s.item.production) s.item.dot (N n) s.is.at) s.is.follows.begins

  of_seed : (kernel : Kernel) (n : ℕ) (b : Look) → IsKernelLook g (Holds kernel) n b → IsLookOfItems g kernel.items n b
  of_seed kernel n b (wanted.IsKernelLook.seed {p = p} {d = d} {y = y} {a = a} h e m) =
      let item = h.0 in
      let at : drop item.dot (rhs_of g item.production) ≡ N n ∷ y = rw (h.2, h.3) e in
      let tail = drop_tail (rhs_of g item.production) item.dot (N n) y at in
      record {
        item = item;
        among = h.1;
        is = record {
          at = get_from_drop (rhs_of g item.production) item.dot (N n) y at;
          follows = record { look = a; held = h.4; begins = rw tail m };
        };
      }

  module _ {W : ℕ} where
    pub are_kernel_looks : (kernel : Kernel) (old new : PendingLooks W) → ((n : ℕ) (b : Look) → HasLook old n b → ⊥) → AddsLooks (IsLookOfItems g kernel.items) old new → AreKernelLooks g kernel new
    are_kernel_looks kernel old new empty h n b = (
      (λ k. elim (h.origin n b k) [ inl c ↦ absurd (empty n b c) | inr s ↦ seed_of kernel n b s ]),
      (λ s. h.added n b (of_seed kernel n b s)),
    )

    -- If no look was recorded before, each nonterminal with a look is waiting afterwards.
    pub all_waiting : (P : ℕ → Look → Type 0) (old new : PendingLooks W) → ((n : ℕ) (b : Look) → HasLook old n b → ⊥) → AddsLooks P old new → AreAllWaiting new
    all_waiting P old new empty h n b k = elim (h.changes n) [ inl w ↦ w | inr e ↦ absurd (let Q : List Look → Type 0 = λ xs. Contains xs b in empty n b (subst Q e k)) ]
