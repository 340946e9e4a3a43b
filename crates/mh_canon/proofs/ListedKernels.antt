-- Proves, as a double negation, that an item set whose items are in range has a list of its items.
use Rattle.std.proofs.Common.{◌≡◌, ℕ, zero, suc, ◌+◌, ◌<◌, ◌≤◌, List, [], ◌∷◌, length, refl, sym, ap, subst, ◌∙◌, arith, inl, inr}
use Rattle.std.specs.List.{Contains, AllByRecursion}
use Rattle.mh_grammar.specs.declared.types.Look.{Look}
use Rattle.mh_grammar.specs.Plain.{PlainGrammar, production_count, rhs_of, IsLookBelow}
use Rattle.mh_grammar.specs.Edges.{IsRising, IsLookBefore}
use Rattle.mh_grammar.specs.ItemSets.{ItemSet, AreSameItems}
use Rattle.mh_grammar.proofs.Lists.{contains_here, contains_there, contains_cases, contains_none, recursion-from, recursion-weaker}
use Rattle.mh_items_kernels.specs.KernelTypes.{KernelItem, Kernel}
use Rattle.mh_items_kernels.specs.Kernels.{Holds, IsItemBefore, IsKernelItem, IsItemList}
use Rattle.mh_grammar.specs.NotLacking.{NotLacking}
use Rattle.mh_grammar.proofs.NotLacking.{given, chain, Selected, select}
use Rattle.mh_canon.proofs.ItemsOfGrammar.{looks_from, look_in, looks_rising, place, places, place_in, places_rising}

-- Each item of the set has a production of the grammar, a dot within its right side, and a lookahead in range.
abbrev pub HasItemsInRange : PlainGrammar → ItemSet → Type 0
HasItemsInRange g I = (p d : ℕ) (a : Look) → I p d a → (p < production_count g) × (d ≤ length (rhs_of g p)) × IsLookBelow g.tokens a

abbrev of_items : List KernelItem → Kernel
of_items items = record { items = items }

-- The list of the items of a set with these productions and dots.
record Listed (g : PlainGrammar) (I : ItemSet) (U : List KernelItem) : Type 0 where
  items : List KernelItem
  valid : AllByRecursion (IsKernelItem g) items
  rising : IsRising IsItemBefore U → IsRising IsItemBefore items
  after : (i : KernelItem) → AllByRecursion (IsItemBefore i) U → AllByRecursion (IsItemBefore i) items
  sound : (p d : ℕ) (a : Look) → Holds (of_items items) p d a → I p d a
  all : (p d : ℕ) (a : Look) → Contains U (place p d) → I p d a → Holds (of_items items) p d a

module _ (g : PlainGrammar) (I : ItemSet) (within : HasItemsInRange g I) where
  abbrev At : KernelItem → Type 0
  At u = Selected IsLookBefore (I u.production u.dot) (looks_from 0 g.tokens)

  abbrev filled : KernelItem → List Look → KernelItem
  filled u looks = record { production = u.production; dot = u.dot; looks = looks }

  there : (u : KernelItem) (s : At u) (p d : ℕ) (a : Look) → u ≡ place p d → I p d a → Contains s.xs a
  there u s p d a e h =
      let mine : I u.production u.dot a = subst (λ (v : KernelItem). I v.production v.dot a) (sym e) h in
      s.all a (look_in g.tokens a (within p d a h).2) mine

  skip : (u : KernelItem) (U : List KernelItem) (s : At u) → s.xs ≡ [] → Listed g I U → Listed g I (u ∷ U)
  skip u U s none l = record {
    items = l.items;
    valid = l.valid;
    rising = λ r. l.rising r.1;
    after = λ i r. l.after i r.1;
    sound = l.sound;
    all = λ p d a c h. elim (contains_cases u U (place p d) c) [
      | inl e ↦ absurd (contains_none a (subst (λ (xs : List Look). Contains xs a) none (there u s p d a e h)))
      | inr c ↦ l.all p d a c h
    ];
  }

  item : (u : KernelItem) (s : At u) (b : Look) (bs : List Look) → s.xs ≡ b ∷ bs → IsKernelItem g (filled u s.xs)
  item u s b bs some =
      let h = s.each b (subst (λ (xs : List Look). Contains xs b) (sym some) (contains_here b bs)) in
      let w = within u.production u.dot b h in
      record {
        production = w.0;
        dot = w.1;
        looks = recursion-from (IsLookBelow g.tokens) s.xs (λ a c. (within u.production u.dot a (s.each a c)).2);
        rising = s.rising (looks_rising 0 g.tokens);
        some = omega (arith, ap length some);
      }

  more : (u : KernelItem) (U : List KernelItem) (s : At u) (b : Look) (bs : List Look) → s.xs ≡ b ∷ bs → Listed g I U → Listed g I (u ∷ U)
  more u U s b bs some l = record {
    items = filled u s.xs ∷ l.items;
    valid = (item u s b bs some, l.valid);
    rising = λ r. (l.after (filled u s.xs) (recursion-weaker (IsItemBefore u) (IsItemBefore (filled u s.xs)) (λ x h. h) U r.0), l.rising r.1);
    after = λ i r. (r.0, l.after i r.1);
    sound = λ p d a (j, c, e, f, look). elim (contains_cases (filled u s.xs) l.items j c) [
      | inl same ↦ (
          let mine : I u.production u.dot a = s.each a (subst (λ (k : KernelItem). Contains k.looks a) (sym same) look) in
          let production : u.production ≡ p = ap (λ (k : KernelItem). k.production) same ∙ e in
          let dot : u.dot ≡ d = ap (λ (k : KernelItem). k.dot) same ∙ f in
          subst (λ (q : ℕ). I q d a) production (subst (λ (n : ℕ). I u.production n a) dot mine))
      | inr c ↦ l.sound p d a (j, c, e, f, look)
    ];
    all = λ p d a c h. elim (contains_cases u U (place p d) c) [
      | inl e ↦ (filled u s.xs, contains_here (filled u s.xs) l.items, ap (λ (k : KernelItem). k.production) e, ap (λ (k : KernelItem). k.dot) e, there u s p d a e h)
      | inr c ↦ (let held = l.all p d a c h in (held.0, contains_there (filled u s.xs) l.items held.0 held.1, held.2, held.3, held.4))
    ];
  }

  put : (u : KernelItem) (U : List KernelItem) (s : At u) (xs : List Look) → s.xs ≡ xs → Listed g I U → Listed g I (u ∷ U)
  put u U s [] e l = skip u U s e l
  put u U s (b ∷ bs) e l = more u U s b bs e l

  list : (U : List KernelItem) → NotLacking (Listed g I U)
  list [] = given (record { items = []; valid = tt; rising = λ r. tt; after = λ i r. tt; sound = λ p d a (j, c, e, f, look). absurd (contains_none j c); all = λ p d a c h. absurd (contains_none (place p d) c) })
  list (u ∷ U) = chain (select IsLookBefore (I u.production u.dot) (looks_from 0 g.tokens)) (λ s. chain (list U) (λ l. given (put u U s s.xs refl l)))

  pub listed : NotLacking ((k : Kernel) × IsItemList g k × AreSameItems (Holds k) I)
  listed = chain (list (places g 0 (production_count g))) (λ l. given (
    of_items l.items,
    record { items = l.valid; rising = l.rising (places_rising g 0 (production_count g)) },
    λ p d a. (l.sound p d a, λ h. (let w = within p d a h in l.all p d a (place_in g 0 (production_count g) p d (omega arith) (omega (arith, w.0)) w.1) h)),
  ))
