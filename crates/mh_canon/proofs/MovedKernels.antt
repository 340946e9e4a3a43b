-- Proves, as a double negation, that a kernel has a closure, a list of the symbols after its dots, and a kernel of the
-- move on each of these symbols.
use Rattle.mh_items_kernels.specs.code.KernelMoves.{IsAfterDot, IsMove}
use Rattle.std.proofs.Common.{◌≡◌, ℕ, zero, suc, ◌+◌, ◌<◌, ◌≤◌, ◌↔◌, List, [], ◌∷◌, Some, length, drop, refl, sym, ap, subst, ◌∙◌, arith, inl, inr}
use Rattle.std.specs.List.{slice_get, All, Contains, AllByRecursion}
use Rattle.std.proofs.lemmas.Option.{slice_get_within, get_or_from_slice_get}
use Rattle.mh_grammar.specs.declared.types.Look.{Look}
use Rattle.mh_grammar.specs.declared.types.Symbol.{Symbol}
use Rattle.mh_grammar.specs.Plain.{PlainGrammar, IsInRange, production_count, rhs_of, IsLookBelow, IsSymbolBelow}
use Rattle.mh_grammar.specs.Edges.{IsRising, IsSymbolBefore}
use Rattle.mh_grammar.specs.ItemSets as items
use Rattle.mh_grammar.specs.ItemSets.{ItemSet, AreSameItems, Close, Moved, MayBegin}
use Rattle.mh_grammar.proofs.Lists.{all_at, recursion_contains, get_from_drop}
use Rattle.mh_grammar.proofs.FirstFlags.{first_of-below}
use Rattle.mh_items_kernels.specs.KernelTypes.{Kernel}
use Rattle.mh_items_kernels.specs.Kernels.{Holds, IsKernelItem, IsItemList}
use Rattle.mh_items_kernels.proofs.RhsInRange.{side_below, rest_below}
use Rattle.mh_items_kernels.proofs.SymbolAtDot.{drop_tail}
use Rattle.mh_grammar.specs.NotLacking.{NotLacking}
use Rattle.mh_grammar.proofs.NotLacking.{given, chain, Selected, select}
use Rattle.mh_canon.proofs.ItemsOfGrammar.{symbols_from, symbol_in, symbols_rising}
use Rattle.mh_canon.proofs.ListedKernels.{HasItemsInRange, listed}

-- A closure with the symbols at its dots.
pub record Moving (g : PlainGrammar) (k : Kernel) : Type 0 where
  pub closed : Kernel
  pub valid : IsItemList g closed
  pub same : AreSameItems (Holds closed) (Close g (Holds k))
  pub symbols : List Symbol
  pub rising : IsRising IsSymbolBefore symbols
  pub exact : (X : Symbol) → Contains symbols X ↔ IsAfterDot g closed X

module _ (g : PlainGrammar) (range : IsInRange g) where
  may_below : (y : List Symbol) (a b : Look) → IsLookBelow g.tokens a → All (IsSymbolBelow g.tokens g.nonterminals) y → MayBegin g y a b → IsLookBelow g.tokens b
  may_below y a b l all (items.MayBegin.begins {z} f) = first_of-below g g.tokens g.nonterminals range.productions z y f all
  may_below y a b l all (items.MayBegin.passes n) = l

  pub close_in : (I : ItemSet) → HasItemsInRange g I → HasItemsInRange g (Close g I)
  close_in I w p d a (items.Close.given i) = w p d a i
  close_in I w q d b (items.Close.added {p} {d = d'} {y} {a} c e f m) =
      let before = close_in I w p d' a c in
      let rest : All (IsSymbolBelow g.tokens g.nonterminals) y = subst (All (IsSymbolBelow g.tokens g.nonterminals)) (drop_tail (rhs_of g p) d' _ y e) (rest_below g range p d' before.0) in
      (f.known, omega arith, may_below y a b before.2 rest m)

  pub kernel_in : (k : Kernel) → IsItemList g k → HasItemsInRange g (Holds k)
  kernel_in k v p d a (item, c, e, f, look) =
      let here = recursion_contains (IsKernelItem g) k.items v.items item c in
      let dot : d ≤ length (rhs_of g item.production) = subst (λ (n : ℕ). n ≤ length (rhs_of g item.production)) f here.dot in
      (subst (λ (n : ℕ). n < production_count g) e here.production, subst (λ (n : ℕ). d ≤ length (rhs_of g n)) e dot, recursion_contains (IsLookBelow g.tokens) item.looks here.looks a look)

  moved_in : (I : ItemSet) (X : Symbol) → HasItemsInRange g I → HasItemsInRange g (Moved g I X)
  moved_in I X w p d a (items.Moved.moved {d = d'} {y} i e) =
      let before = w p d' a i in
      let l = slice_get_within (rhs_of g p) d' X (get_from_drop (rhs_of g p) d' X y e) in
      (before.0, omega (arith, l), before.2)

  after_dot_in : (closed : Kernel) → IsItemList g closed → (X : Symbol) → IsAfterDot g closed X → IsSymbolBelow g.tokens g.nonterminals X
  after_dot_in closed v X b =
      let item = b.place.0 in
      let here = recursion_contains (IsKernelItem g) closed.items v.items item b.place.1 in
      let known : b.production < production_count g = subst (λ (n : ℕ). n < production_count g) b.place.2 here.production in
      all_at (IsSymbolBelow g.tokens g.nonterminals) (rhs_of g b.production) b.dot X (side_below g range b.production known) (slice_get_within (rhs_of g b.production) b.dot X b.at_dot) (sym (get_or_from_slice_get (rhs_of g b.production) b.dot X X b.at_dot))

  pub moving : (k : Kernel) → IsItemList g k → NotLacking (Moving g k)
  moving k v = chain (listed g (Close g (Holds k)) (close_in (Holds k) (kernel_in k v))) (λ c. chain (select IsSymbolBefore (IsAfterDot g c.0) (symbols_from g.nonterminals 0 g.tokens)) (λ s. given (record {
    closed = c.0;
    valid = c.1;
    same = c.2;
    symbols = s.xs;
    rising = s.rising (symbols_rising g.nonterminals 0 g.tokens);
    exact = λ X. (s.each X, λ b. s.all X (symbol_in g.tokens g.nonterminals X (after_dot_in c.0 c.1 X b)) b);
  })))

  pub move : (closed : Kernel) → IsItemList g closed → (X : Symbol) → NotLacking ((m : Kernel) × IsMove g closed X m)
  move closed v X = chain (listed g (Moved g (Holds closed) X) (moved_in (Holds closed) X (kernel_in closed v))) (λ m. given (m.0, record { kernel = m.1; same = m.2 }))
