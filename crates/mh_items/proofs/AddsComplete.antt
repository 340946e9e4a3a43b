-- Proves that a closure adds no complete item if no kernel item has its dot before a marked nonterminal.
use Rattle.std.proofs.Common.{◌≡◌, ℕ, ◌<◌, ◌⊎◌, Bool, true, false, not, List, [], ◌∷◌, Some, length, get_or, set, cond, refl, arith, inl, inr}
use Rattle.std.specs.List.{slice_get}
use Rattle.std.proofs.lemmas.List.{length-set}
use Rattle.std.proofs.lemmas.List.Sums.{sum_by-set}
use Rattle.std.proofs.lemmas.Bool.{both_ways, false_from_ne_true}
use Rattle.mh_grammar.specs.declared.types.Symbol.{Symbol}
use Rattle.mh_grammar.specs.declared.types.Symbol.TheVariants.{N}
use Rattle.mh_grammar.specs.declared.types.Production.{Production}
use Rattle.mh_grammar.specs.declared.types.Look.{Look}
use Rattle.mh_grammar.specs.FlagTable.{Grows}
use Rattle.mh_grammar.specs.Plain.{PlainGrammar, IsProductionFor, rhs_of}
use Rattle.mh_grammar.specs.ItemSets as sets
use Rattle.mh_grammar.specs.ItemSets.{Close}
use Rattle.mh_grammar.proofs.Lists.{get_from_drop}
use Rattle.mh_grammar.proofs.ProductionNumbers.{listed_from_for}
use Rattle.mh_items_kernels.specs.KernelTypes.{Kernel}
use Rattle.mh_items_kernels.specs.Kernels.{Holds}
use Rattle.mh_items_kernels.specs.code.EmptyMarks.{begins_empty, AreMarksClosed, HasCompleteItems}

-- Lemmas on the passes over the productions.

-- The left side of a production is marked if its right side is empty or begins with a marked nonterminal.
abbrev pub Closes : List Bool → Production → Type 0
Closes marks p = begins_empty marks p.rhs ≡ true → get_or marks p.lhs false ≡ true

-- If a mark is set that was unset, fewer marks are unset.
pub mark_set : (marks : List Bool) (n : ℕ) → n < length marks → get_or marks n false ≡ false → Grows marks (set marks n true) true
mark_set marks n l e = record {
  len = length-set marks n true;
  same = λ f. cc;
  fewer = λ f.
      let h = sum_by-set (λ b. cond (not b) 1 0) marks n true false l in
      let one : ℕ = 1 in
      let k : cond (not (get_or marks n false)) 1 0 ≡ one = rw e refl in
      omega (arith, h, k);
}

-- Lemmas on the items that closures add.

-- No item of the kernel has its dot before a marked nonterminal.
pub record HasNoMarkedSymbol (g : PlainGrammar) (kernel : Kernel) (marks : List Bool) : Type 0 where
  pub none : (p d n : ℕ) (look : Look) → Holds kernel p d look → slice_get (rhs_of g p) d ≡ Some (N n) → get_or marks n false ≡ false

module _ (g : PlainGrammar) (kernel : Kernel) (marks : List Bool) (closed : AreMarksClosed g.productions marks) (asks : HasNoMarkedSymbol g kernel marks) where
  -- An item that the closure adds belongs to a production of an unmarked nonterminal.
  record IsQuiet (p d : ℕ) : Type 0 where
    start : d ≡ 0
    n : ℕ
    produced : IsProductionFor g n p
    unmarked : get_or marks n false ≡ false

  not_empty : (n p : ℕ) → IsProductionFor g n p → get_or marks n false ≡ false → begins_empty marks (rhs_of g p) ≡ true → ⊥
  not_empty n p for off e =
      let l = listed_from_for g n p for in
      let begins : begins_empty marks l.production.rhs ≡ true = rw (← l.rhs) e in
      both_ways (get_or marks n false) off (rw l.lhs at (closed.closed l.place l.production l.at begins))

  origin : (p d : ℕ) (a : Look) → Close g (Holds kernel) p d a → Holds kernel p d a ⊎ IsQuiet p d
  origin p d a (sets.Close.given h) = inl h
  origin p d a (sets.Close.added {p = q} {d = e} {n = n} {y = y} {a = b} c before for m) = inr (record {
    start = refl;
    n = n;
    produced = for;
    unmarked = elim (origin q e b c) [
      | inl h ↦ asks.none q e n b h (get_from_drop (rhs_of g q) e (N n) y before)
      | inr k ↦ false_from_ne_true (get_or marks n false) (λ on.
          let side : rhs_of g q ≡ N n ∷ y = rw k.start at before in
          not_empty k.n q k.produced k.unmarked (rw side on))
    ];
  })

  pub complete_there : HasCompleteItems g kernel kernel
  complete_there p look = (
    sets.Close.given,
    (λ c. elim (origin p (length (rhs_of g p)) look c) [
      | inl h ↦ h
      | inr k ↦ absurd (not_empty k.n p k.produced k.unmarked (nothing (rhs_of g p) k.start))
    ]),
  )
    where
      nothing : (xs : List Symbol) → length xs ≡ 0 → begins_empty marks xs ≡ true
      nothing [] e = refl
      nothing (x ∷ xs) e = absurd (omega arith)
