-- Proves that sound and closed marks are the least marks, and that these mark the nonterminals that derive the empty
-- word, or any word.
use Rattle.std.proofs.Common.{◌≡◌, ℕ, ◌+◌, ◌<◌, Bool, true, false, not, List, [], ◌∷◌, ◌++◌, Some, length, get_or, set, count_by, refl, sym, ap, ◌∙◌, arith, ◌↔◌, cond, inl, inr, get_or-set_other}
use Rattle.std.specs.List.{slice_get}
use Rattle.std.proofs.lemmas.Bool.{cases_eq}
use Rattle.std.proofs.lemmas.List.Sums.{sum_by-set}
use Rattle.mh_grammar.specs.declared.types.Symbol.{Symbol}
use Rattle.mh_grammar.specs.declared.types.Symbol.TheVariants.{T, N}
use Rattle.mh_grammar.specs.declared.types.Production.{Production}
use Rattle.mh_grammar.specs.Derivations as trees
use Rattle.mh_grammar.specs.Derivations.{Derivation, Derivations}
use Rattle.mh_grammar.specs.Plain.{PlainGrammar, IsToken, Produces, Derives, DerivesAll, IsNullable, IsProductive}
use Rattle.std.proofs.lemmas.Bool.{and_from, and_parts}
use Rattle.mh_grammar.proofs.Lists.{nil_parts}
use Rattle.mh_grammar.proofs.ProductionNumbers.{produces_at, listed_from_for}
use Rattle.mh_grammar.specs.Marked.{Marked, AllMarked, mark_of, all_marked, AreSound, AreClosed, AreMarks}
use Rattle.mh_grammar.specs.Marked as marked

-- Closed marks mark every symbol that `Marked` holds of.
module _ (tokens : Bool) (ps : List Production) (marks : List Bool) (c : AreClosed tokens ps marks) where
  mutual
    pub mark_of-marked : (X : Symbol) → Marked tokens ps X → mark_of tokens marks X ≡ true
    mark_of-marked X (marked.Marked.token e) = e
    mark_of-marked X (marked.Marked.produced k p at e all) = ap (λ n. get_or marks n false) (sym e) ∙ c.closed k p at (all_marked-marked p.rhs all)

    pub all_marked-marked : (Xs : List Symbol) → AllMarked tokens ps Xs → all_marked tokens marks Xs ≡ true
    all_marked-marked Xs marked.AllMarked.none = refl
    all_marked-marked Xs (marked.AllMarked.more m ms) = and_from _ _ (mark_of-marked _ m) (all_marked-marked _ ms)

-- `Marked` holds of every symbol that sound marks mark.
module _ (tokens : Bool) (ps : List Production) (marks : List Bool) (s : AreSound tokens ps marks) where
  pub marked-mark_of : (X : Symbol) → mark_of tokens marks X ≡ true → Marked tokens ps X
  marked-mark_of (T a) e = marked.Marked.token e
  marked-mark_of (N n) e = s.sound n e

  pub marked-all_marked : (Xs : List Symbol) → all_marked tokens marks Xs ≡ true → AllMarked tokens ps Xs
  marked-all_marked [] e = marked.AllMarked.none
  marked-all_marked (X ∷ Xs) e = let b = and_parts (mark_of tokens marks X) _ e in marked.AllMarked.more (marked-mark_of X b.0) (marked-all_marked Xs b.1)

-- Sound and closed marks are the least marks.
pub are_marks : (tokens : Bool) (ps : List Production) (marks : List Bool) → AreSound tokens ps marks → AreClosed tokens ps marks → AreMarks tokens ps marks
are_marks tokens ps marks s c n = (s.sound n, mark_of-marked tokens ps marks c (N n))

-- A new mark decreases the number of unmarked nonterminals by one.
pub unmarked_falls : (marks : List Bool) (n : ℕ) → n < length marks → get_or marks n false ≡ false → count_by not (set marks n true) + 1 ≡ count_by not marks
unmarked_falls marks n l e =
    let h = sum_by-set (λ b. cond (not b) 1 0) marks n true false l in
    let one : ℕ = 1 in
    let k : cond (not (get_or marks n false)) 1 0 ≡ one = rw e refl in
    omega (arith, h, k)

-- Marking the left side of a production whose symbols are all marked keeps the marks sound.
pub sound-set : (tokens : Bool) (ps : List Production) (marks : List Bool) (k : ℕ) (p : Production) → AreSound tokens ps marks → slice_get ps k ≡ Some p → all_marked tokens marks p.rhs ≡ true → AreSound tokens ps (set marks p.lhs true)
sound-set tokens ps marks k p s at all = record {
  sound = λ n e. elim (cases_eq n p.lhs) [ inl same ↦ marked.Marked.produced k p at (sym same) (marked-all_marked tokens ps marks s p.rhs all) | inr other ↦ s.sound n (sym (get_or-set_other marks p.lhs n true false other) ∙ e) ];
}

-- If all symbols of the production are marked, so is its left side.
abbrev pub Closes : Bool → List Bool → Production → Type 0
Closes tokens marks p = all_marked tokens marks p.rhs ≡ true → get_or marks p.lhs false ≡ true

-- If tokens do not count as marked, a symbol is marked exactly if it derives the empty word.
module _ (g : PlainGrammar) where
  node_marked : (tokens : Bool) (X : Symbol) (rhs : List Symbol) → Produces g X rhs → AllMarked tokens g.productions rhs → Marked tokens g.productions X
  node_marked tokens (T a) rhs p all = absurd p
  node_marked tokens (N n) rhs p all = let l = listed_from_for g n p.0 p.1 in let e : l.production.rhs ≡ rhs = sym l.rhs ∙ p.2 in
      marked.Marked.produced l.place l.production l.at l.lhs (rw e all)

  leaf_marked : (X : Symbol) (a : ℕ) → IsToken X a → Marked true g.productions X
  leaf_marked (T a) b e = marked.Marked.token refl
  leaf_marked (N n) b e = absurd e

  mutual
    pub marked-from_nil : (X : Symbol) (w : List ℕ) → Derives g X w → w ≡ [] → Marked false g.productions X
    marked-from_nil X w (trees.Derivation.leaf t) e = cc
    marked-from_nil X w (trees.Derivation.node p f) e = node_marked false X _ p (all-from_nil _ w f e)

    pub all-from_nil : (Xs : List Symbol) (w : List ℕ) → DerivesAll g Xs w → w ≡ [] → AllMarked false g.productions Xs
    all-from_nil Xs w trees.Derivations.none e = marked.AllMarked.none
    all-from_nil Xs w (trees.Derivations.more j t f) e = let n = nil_parts _ _ (sym j ∙ e) in marked.AllMarked.more (marked-from_nil _ _ t n.0) (all-from_nil _ _ f n.1)

  -- If tokens count as marked, a symbol that derives a word is marked.
  mutual
    pub marked-from_tree : (X : Symbol) (w : List ℕ) → Derives g X w → Marked true g.productions X
    marked-from_tree X w (trees.Derivation.leaf {a = a} t) = leaf_marked X a t
    marked-from_tree X w (trees.Derivation.node p f) = node_marked true X _ p (all-from_forest _ w f)

    pub all-from_forest : (Xs : List Symbol) (w : List ℕ) → DerivesAll g Xs w → AllMarked true g.productions Xs
    all-from_forest Xs w trees.Derivations.none = marked.AllMarked.none
    all-from_forest Xs w (trees.Derivations.more j t f) = marked.AllMarked.more (marked-from_tree _ _ t) (all-from_forest _ _ f)

  mutual
    pub nil_from-marked : (X : Symbol) → Marked false g.productions X → Derives g X []
    nil_from-marked X (marked.Marked.token e) = cc
    nil_from-marked X (marked.Marked.produced k p at e all) = trees.Derivation.node (produces_at g k p _ at e) (nils_from-all p.rhs all)

    pub nils_from-all : (Xs : List Symbol) → AllMarked false g.productions Xs → DerivesAll g Xs []
    nils_from-all Xs marked.AllMarked.none = trees.Derivations.none
    nils_from-all Xs (marked.AllMarked.more m ms) = trees.Derivations.more refl (nil_from-marked _ m) (nils_from-all _ ms)

  -- If tokens count as marked, a marked symbol derives a word.
  mutual
    pub tree_from-marked : (X : Symbol) → Marked true g.productions X → (w : List ℕ) × Derives g X w
    tree_from-marked X (marked.Marked.token {a = a} e) = (a ∷ [], trees.Derivation.leaf refl)
    tree_from-marked X (marked.Marked.produced k p at e all) = let f = forest_from-all p.rhs all in (f.0, trees.Derivation.node (produces_at g k p _ at e) f.1)

    pub forest_from-all : (Xs : List Symbol) → AllMarked true g.productions Xs → (w : List ℕ) × DerivesAll g Xs w
    forest_from-all Xs marked.AllMarked.none = ([], trees.Derivations.none)
    forest_from-all Xs (marked.AllMarked.more m ms) = let t = tree_from-marked _ m in let f = forest_from-all _ ms in (t.0 ++ f.0, trees.Derivations.more refl t.1 f.1)

  pub nullable_marks : (marks : List Bool) → AreMarks false g.productions marks → (n : ℕ) → (get_or marks n false ≡ true) ↔ IsNullable g n
  nullable_marks marks m n = (λ e. nil_from-marked (N n) ((m n).0 e), λ t. (m n).1 (marked-from_nil (N n) [] t refl))

  pub productive_marks : (marks : List Bool) → AreMarks true g.productions marks → (n : ℕ) → (get_or marks n false ≡ true) ↔ IsProductive g n
  productive_marks marks m n = (λ e. tree_from-marked (N n) ((m n).0 e), λ t. (m n).1 (marked-from_tree (N n) t.0 t.1))
