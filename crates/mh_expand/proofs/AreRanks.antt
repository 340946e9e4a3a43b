-- Lemmas on the ranks of terms in the loop over the declarations.
use Rattle.std.proofs.Common.{◌≡◌, ℕ, ◌<◌, ◌≤◌, List, [], ◌∷◌, ◌++◌, Option, Some, None, map, length, refl, sym, ap, ◌∙◌, arith, inl, inr}
use Rattle.std.specs.List.{slice_get}
use Rattle.std.proofs.lemmas.Bool.{cases_lt, cases_eq}
use Rattle.std.proofs.lemmas.List.{map-append, length-append}
use Rattle.std.proofs.lemmas.List.Elements.{Contains-append_left}
use Rattle.std.proofs.lemmas.Option.{slice_get_within}
use Rattle.mh_grammar.proofs.Lists.{contains_last, contains_none, contains_push}
use Rattle.mh_grammar.specs.Numbering.{AreDistinct}
use Rattle.mh_grammar.proofs.NumberingInvariant.{get_left, get_last, get_cases, contains_at, at_contains}
use Rattle.mh_rules.specs.declared.joined.Applied.{Applied}
use Rattle.mh_rules.specs.declared.joined.Head.TheVariants.{Formal, Token, Rule}
use Rattle.mh_expand.specs.Terms.{Term, Atom, Apply, term_of, replaced}
use Rattle.mh_expand.specs.Expansion.{Declares, IsOnErrorRank}
use Rattle.mh_expand.specs.code.SharedTerms.{term_at, IsExtendedBy}
use Rattle.mh_expand.proofs.SharedTerms.{slice_get-term_at}
use Rattle.mh_expand.specs.code.InstanceSearch.{AreRanks, AddsRank}

pub replaced-none : (t : Term) → replaced [] t ≡ t
replaced-none (Atom (Formal k)) = refl
replaced-none (Atom (Token z)) = refl
replaced-none (Atom (Rule r)) = refl
replaced-none (Apply f x) = let a = replaced-none f in let b = replaced-none x in λ i. Apply (a i) (b i)

-- Lemmas on the rank of a term after the last declaration p is replaced by q.
module _ (ds : List (List Applied)) (p q : List Applied) where
  same_front : (k : ℕ) (d : List Applied) → k < length ds → slice_get (ds ++ q ∷ []) k ≡ Some d → slice_get (ds ++ p ∷ []) k ≡ Some d
  same_front k d l e = elim (get_cases ds q k d e) [ inl f ↦ get_left ds (p ∷ []) k d f | inr f ↦ absurd (omega (arith, f.0)) ]

  place_within : (k : ℕ) (d : List Applied) → slice_get (ds ++ p ∷ []) k ≡ Some d → k ≤ length ds
  place_within k d e = elim (get_cases ds p k d e) [ inl f ↦ omega (arith, slice_get_within ds k d f) | inr f ↦ omega (arith, f.0) ]

  pub rank_some : (t : Term) (r : ℕ) → (Declares p t → Declares q t) → IsOnErrorRank (ds ++ p ∷ []) t (Some r) → IsOnErrorRank (ds ++ q ∷ []) t (Some r)
  rank_some t r h w = (
    (elim (get_cases ds p r w.0.0 w.0.1) [
      | inl f ↦ (w.0.0, get_left ds (q ∷ []) r w.0.0 f, w.0.2)
      | inr f ↦ (q, get_last ds q r f.0, h (rw f.1 at w.0.2))
    ]),
    (λ k d l e. w.1 k d l (same_front k d (omega (arith, place_within r w.0.0 w.0.1)) e)),
  )

  pub rank_none : (t : Term) → (Declares q t → Declares p t) → IsOnErrorRank (ds ++ p ∷ []) t None → IsOnErrorRank (ds ++ q ∷ []) t None
  rank_none t h w = λ k d e c. elim (get_cases ds q k d e) [
    | inl f ↦ w k d (get_left ds (p ∷ []) k d f) c
    | inr f ↦ w k p (get_last ds p k f.0) (h (rw f.1 at c))
  ]

  pub rank_same : (t : Term) (o : Option ℕ) → (Declares p t → Declares q t) → (Declares q t → Declares p t) → IsOnErrorRank (ds ++ p ∷ []) t o → IsOnErrorRank (ds ++ q ∷ []) t o
  rank_same t None f g w = rank_none t g w
  rank_same t (Some r) f g w = rank_some t r f w

pub AreRanks-none : (rank : ℕ → Option ℕ) → ((n : ℕ) → rank n ≡ None) → AreRanks [] [] rank
AreRanks-none rank h = record { each = λ n t e. cc; named = λ k d t e. cc; below = λ n r e. let f = h n in cc }

-- An empty declaration changes no rank.
open_rank : (ds : List (List Applied)) (t : Term) (o : Option ℕ) → IsOnErrorRank ds t o → IsOnErrorRank (ds ++ [] ∷ []) t o
open_rank ds t None w = λ k d e c. elim (get_cases ds [] k d e) [ inl f ↦ w k d f c | inr f ↦ contains_none t (rw f.1 at c) ]
open_rank ds t (Some r) w = (
  (w.0.0, get_left ds ([] ∷ []) r w.0.0 w.0.1, w.0.2),
  (λ k d l e c. elim (get_cases ds [] k d e) [ inl f ↦ w.1 k d l f c | inr f ↦ contains_none t (rw f.1 at c) ]),
)

pub AreRanks-open : (ds : List (List Applied)) (ts : List Term) (rank : ℕ → Option ℕ) → AreRanks ds ts rank → AreRanks (ds ++ [] ∷ []) ts rank
AreRanks-open ds ts rank w = record {
  each = λ n t e. open_rank ds t (rank n) (w.each n t e);
  named = λ k d t e c. elim (get_cases ds [] k d e) [ inl f ↦ w.named k d t f c | inr f ↦ absurd (contains_none t (rw f.1 at c)) ];
  below = w.below;
}

-- Appending terms keeps the ranks right.
pub AreRanks-grows : (ds : List (List Applied)) (ts us : List Term) (rank : ℕ → Option ℕ) → AreDistinct us → IsExtendedBy ts us → AreRanks ds ts rank → AreRanks ds us rank
AreRanks-grows ds ts us rank distinct g w = record {
  each = λ n t e. elim (cases_lt n (length ts)) [
    | inl l ↦ w.each n t (old n t l e)
    | inr l ↦ new n t l e (rank n) refl
  ];
  named = λ k d t e c. rw g.1 (Contains-append_left ts g.0 t (w.named k d t e c));
  below = λ n r e. omega (arith, w.below n r e, ap length g.1, length-append ts g.0);
}
  where
    old : (n : ℕ) (t : Term) → n < length ts → slice_get us n ≡ Some t → slice_get ts n ≡ Some t
    old n t l e =
        let m = slice_get-term_at ts n l in
        let o : slice_get us n ≡ Some (term_at ts n) = rw g.1 (get_left ts g.0 n (term_at ts n) m) in
        m ∙ sym o ∙ e

    new : (n : ℕ) (t : Term) → length ts ≤ n → slice_get us n ≡ Some t → (o : Option ℕ) → rank n ≡ o → IsOnErrorRank ds t (rank n)
    new n t l e None f = rw f (λ k d at c.
        let was = at_contains ts t (w.named k d t at c) in
        let here : slice_get us was.0 ≡ Some t = rw g.1 (get_left ts g.0 was.0 t was.1) in
        let one = distinct.same was.0 n t here e in
        omega (arith, one, slice_get_within ts was.0 t was.1))
    new n t l e (Some r) f = absurd (omega (arith, w.below n r f))

-- If the rank of one more actual of the last declaration is added, the ranks are those of the declarations with this
-- actual.
pub AreRanks-add : (ds : List (List Applied)) (part : List Applied) (a : Applied) (ts : List Term) (old new : ℕ → Option ℕ) (number : ℕ) → AreDistinct ts → slice_get ts number ≡ Some (term_of a) → AreRanks (ds ++ part ∷ []) ts old → AddsRank old new number (length ds) → AreRanks (ds ++ (part ++ a ∷ []) ∷ []) ts new
AreRanks-add ds part a ts old new number distinct here w add = record {
  each = λ n t e. elim (cases_eq n number) [
    | inl same ↦ (let t_is : t ≡ term_of a = (let f = rw same at e in cc) in rw (same, t_is) (mine (old number) refl))
    | inr other ↦ rw (add.others n other) (rank_same ds part (part ++ a ∷ []) t (old n) (declared t) (λ c. not_new t n other e c) (w.each n t e))
  ];
  named = λ k d t e c. elim (get_cases ds (part ++ a ∷ []) k d e) [
    | inl f ↦ w.named k d t (get_left ds (part ∷ []) k d f) c
    | inr f ↦ elim (contains_push (map term_of part) (term_of a) t (rw map-append at (rw f.1 at c))) [
      | inl in_part ↦ w.named k part t (get_last ds part k f.0) in_part
      | inr is_last ↦ rw is_last (contains_at ts number (term_of a) here)
    ]
  ];
  below = λ n r e. elim (cases_eq n number) [
    | inl same ↦ rw same (slice_get_within ts number (term_of a) here)
    | inr other ↦ w.below n r (sym (add.others n other) ∙ e)
  ];
}
  where
    declared : (t : Term) → Declares part t → Declares (part ++ a ∷ []) t
    declared t c = rw map-append (Contains-append_left (map term_of part) (term_of a ∷ []) t c)

    not_new : (t : Term) (n : ℕ) → (n ≡ number → ⊥) → slice_get ts n ≡ Some t → Declares (part ++ a ∷ []) t → Declares part t
    not_new t n other e c = elim (contains_push (map term_of part) (term_of a) t (rw map-append at c)) [
      | inl in_part ↦ in_part
      | inr is_last ↦ absurd (other (distinct.same n number t e (here ∙ ap Some (sym is_last))))
    ]

    mine : (o : Option ℕ) → old number ≡ o → IsOnErrorRank (ds ++ (part ++ a ∷ []) ∷ []) (term_of a) (new number)
    mine None f = rw (add.fresh f) (
      (part ++ a ∷ [], get_last ds (part ++ a ∷ []) (length ds) refl, rw map-append (contains_last (map term_of part) (term_of a))),
      (λ k d l e. (rw f at (w.each number (term_of a) here)) k d (same_front ds part (part ++ a ∷ []) k d l e)),
    )
    mine (Some r) f = rw (add.kept r f) (rank_some ds part (part ++ a ∷ []) (term_of a) r (declared (term_of a)) (rw f at (w.each number (term_of a) here)))
