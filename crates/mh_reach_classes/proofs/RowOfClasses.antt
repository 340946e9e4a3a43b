-- Lemmas on the classes of one state, which are found token by token.
use Rattle.std.proofs.Common.{◌≡◌, ℕ, ◌<◌, ◌≤◌, ◌+◌, inl, inr, List, [], ◌∷◌, ◌++◌, length, Some, None, refl, sym, arith, ◌∙◌, length-append}
use Rattle.std.specs.Prelude.{slice_get}
use Rattle.std.proofs.lemmas.List.Elements.{Contains-append_left}
use Rattle.mh_grammar.proofs.Lists.{get_left, get_last, get_cases, contains_last, contains_push}
use Rattle.mh_facts.specs.declared.classes.TokenClass.{TokenClass}
use Rattle.mh_reach_classes.specs.code.ClassRows.{IsClassOf, IsAtRepresentative, IsClassFor, IsClassRow}

pub row_begins : (given : List ℕ) (count : ℕ) → IsClassRow 0 given [] [] count
row_begins given count = record {
  len = refl;
  each = λ z k e. absurd (let y : None ≡ Some k = e in cc);
  nothing = λ n z k e. absurd (let y : None ≡ Some k = e in cc);
  list_all = λ z k e. absurd (let y : None ≡ Some k = e in cc);
  list_only = λ x h. absurd (let l = h.1 in omega arith);
}

-- The class numbers of a row are also below a higher bound.
pub row_higher : (n : ℕ) (given : List ℕ) (row : List TokenClass) (list : List ℕ) (old new : ℕ) → old ≤ new → IsClassRow n given row list old → IsClassRow n given row list new
row_higher n given row list old new le h = record {
  len = h.len;
  each = λ z k e. (let a = h.each z k e in (a.0, (let p = a.1 in omega arith), a.2));
  nothing = h.nothing;
  list_all = h.list_all;
  list_only = h.list_only;
}

module _ (z : ℕ) (given : List ℕ) (row : List TokenClass) (list : List ℕ) (old new : ℕ) (k : TokenClass) (h : IsClassRow z given row list old) (ok : IsClassFor row given z old new k) where
  one : IsClassOf given row z new k
  one = ok.1 (λ n o e. (h.each n o e).1)

  long_more : length (row ++ k ∷ []) ≡ z + 1
  long_more = let l = length-append row (k ∷ []) in let m = h.len in omega arith

  itself : (o : TokenClass) × (slice_get (row ++ k ∷ []) k.representative ≡ Some o) × (o.representative ≡ k.representative)
  itself = elim one.itself [
    | inl is ↦ (k, get_last row k k.representative (is ∙ sym h.len), refl)
    | inr there ↦ (there.0, get_left row (k ∷ []) k.representative there.0 there.1, there.2)
  ]

  each_more : (n : ℕ) (o : TokenClass) → slice_get (row ++ k ∷ []) n ≡ Some o → (o.representative < z + 1) × (o.place < new) × ((p : TokenClass) × (slice_get (row ++ k ∷ []) o.representative ≡ Some p) × (p.representative ≡ o.representative))
  each_more n o e = elim (get_cases row k n o e) [
    | inl was ↦ (let a = h.each n o was in ((let x = a.0 in omega arith), (let p = a.1 in let g = ok.0 in omega arith), ((a.2).0, get_left row (k ∷ []) o.representative (a.2).0 (a.2).1, (a.2).2)))
    | inr is ↦ rw is.1 ((let x = one.known in omega arith), one.placed, itself)
  ]

  nothing_more : given ≡ [] → (n : ℕ) (o : TokenClass) → slice_get (row ++ k ∷ []) n ≡ Some o → o.representative ≡ n
  nothing_more none n o e = elim (get_cases row k n o e) [
    | inl was ↦ h.nothing none n o was
    | inr is ↦ rw is.1 (one.nothing none ∙ sym h.len ∙ sym is.0)
  ]

  -- The row stays right with one more token that represents its own class, if this token is appended to the list of
  -- representatives.
  pub row_lists : k.representative ≡ z → IsClassRow (z + 1) given (row ++ k ∷ []) (list ++ z ∷ []) new
  row_lists own = record {
    len = long_more;
    each = each_more;
    nothing = nothing_more;
    list_all = λ n o e. elim (get_cases row k n o e) [ inl was ↦ Contains-append_left list (z ∷ []) o.representative (h.list_all n o was) | inr is ↦ rw (is.1, own) (contains_last list z) ];
    list_only = λ x there. elim (contains_push list z x there) [
      | inl was ↦ (let a = h.list_only x was in (a.0, get_left row (k ∷ []) x a.0 a.1, a.2))
      | inr is ↦ (k, get_last row k x (is ∙ sym h.len), own ∙ sym is)
    ];
  }

  -- If one more token joins the class of an earlier token, the row of classes is extended by this token.
  pub row_follows : (k.representative ≡ z → ⊥) → IsClassRow (z + 1) given (row ++ k ∷ []) list new
  row_follows other = record {
    len = long_more;
    each = each_more;
    nothing = nothing_more;
    list_all = λ n o e. elim (get_cases row k n o e) [
      | inl was ↦ h.list_all n o was
      | inr is ↦ elim one.itself [ inl own ↦ absurd (other own) | inr there ↦ (let l = h.list_all k.representative there.0 there.1 in rw is.1 (rw there.2 at l)) ]
    ];
    list_only = λ x there. (let a = h.list_only x there in (a.0, get_left row (k ∷ []) x a.0 a.1, a.2));
  }

pub class_follows : (row : List TokenClass) (given : List ℕ) (z count : ℕ) (k : TokenClass) → length row ≡ z → IsAtRepresentative row k → (given ≡ [] → ⊥) → IsClassFor row given z count count k
class_follows row given z count k long s some = (
  omega arith,
  λ each. record {
    known = let l = s.0 in omega arith;
    placed = each k.representative k s.1;
    itself = inr (k, s.1, refl);
    nothing = λ none. absurd (some none);
  },
)

pub class_own : (row : List TokenClass) (given : List ℕ) (z old new place : ℕ) → old ≤ new → place < new → IsClassFor row given z old new (record { representative = z; place = place })
class_own row given z old new place le lt = (le, λ each. record { known = omega arith; placed = lt; itself = inl refl; nothing = λ none. refl })
