-- Lemmas on the rows of choices, filled in the order of the productions.
use Rattle.std.proofs.Common.{◌≡◌, ◌∙◌, ◌<◌, ◌+◌, ◌++◌, ℕ, List, [], ◌∷◌, Some, length, get_or, set, sym, ap, arith, inl, inr, subst, get_or-set_other, get_or-set_same}
use Rattle.std.specs.List.{slice_get}
use Rattle.std.proofs.lemmas.Bool.{cases_eq}
use Rattle.std.proofs.lemmas.List.Elements.{Contains-append_left}
use Rattle.mh_grammar.specs.declared.types.Production.{Production}
use Rattle.mh_grammar.specs.Plain.{PlainGrammar, IsProductionFor, lhs_of, rhs_of}
use Rattle.mh_grammar.proofs.Lists.{below_next, contains_last, contains_none, contains_push, rising-push}
use Rattle.mh_grammar.proofs.ProductionNumbers.{lhs_of-ordinary, rhs_of-ordinary, IsProductionFor-ordinary}
use Rattle.mh_sample.specs.declared.rows.Choice.{Choice}
use Rattle.mh_sample.specs.code.Rows.{lengths_in, number_of, IsRow}

module _ (g : PlainGrammar) (lengths : List ℕ) where
  pub row_empty : (x : ℕ) → IsRow g lengths 0 x []
  row_empty x = record {
    rising = tt;
    below = λ c h. absurd (contains_none c h);
    each = λ c h. absurd (contains_none c h);
    all = λ k l. absurd (omega (arith, l));
  }

  module _ (i : ℕ) (p : Production) (at : slice_get g.productions i ≡ Some p) (x : ℕ) (row : List Choice) (h : IsRow g lengths i x row) where
    -- A production of another nonterminal leaves the row unchanged.
    pub row_kept : (p.lhs ≡ x → ⊥) → IsRow g lengths (i + 1) x row
    row_kept other = record {
      rising = h.rising;
      below = λ c d. omega (arith, h.below c d);
      each = h.each;
      all = λ k l f. elim (below_next k i l) [
        | inl less ↦ h.all k less f
        | inr same ↦ absurd (other (sym (lhs_of-ordinary g i p at) ∙ ap (λ j. lhs_of g (length g.starts + j)) (sym same) ∙ f.lhs))
      ];
    }

    module _ (c : Choice) (lhs : p.lhs ≡ x) (place : c.place ≡ i) (size : c.length ≡ lengths_in lengths p.rhs) where
      is_choice : IsProductionFor g x (number_of g c) × (c.length ≡ lengths_in lengths (rhs_of g (number_of g c)))
      is_choice =
          let number : length g.starts + i ≡ number_of g c = ap (λ j. length g.starts + j) (sym place) in (
            subst (IsProductionFor g x) number (subst (λ n. IsProductionFor g n (length g.starts + i)) lhs (IsProductionFor-ordinary g i p at)),
            size ∙ ap (lengths_in lengths) (sym (rhs_of-ordinary g i p at) ∙ ap (rhs_of g) number),
          )

      -- A production of the nonterminal of the row adds one choice to the row.
      pub row_pushed : IsRow g lengths (i + 1) x (row ++ c ∷ [])
      row_pushed = record {
        rising = rising-push (λ a b. a.place < b.place) row c h.rising (λ a d. omega (arith, h.below a d, place));
        below = λ a d. elim (contains_push row c a d) [ inl e ↦ omega (arith, h.below a e) | inr e ↦ omega (arith, place, ap (λ (z : Choice). z.place) e) ];
        each = λ a d. elim (contains_push row c a d) [
          | inl e ↦ h.each a e
          | inr e ↦ subst (λ z. IsProductionFor g x (number_of g z) × (z.length ≡ lengths_in lengths (rhs_of g (number_of g z)))) (sym e) is_choice
        ];
        all = λ k l f. elim (below_next k i l) [
          | inl less ↦ (let d = h.all k less f in (d.0, Contains-append_left row (c ∷ []) d.0 d.1, d.2))
          | inr same ↦ (c, contains_last row c, place ∙ sym same)
        ];
      }

  -- A choice is added to the rows.
  pub rows_pushed : (rows : List (List Choice)) (i : ℕ) (p : Production) (c : Choice) → ((x : ℕ) → IsRow g lengths i x (get_or rows x [])) → slice_get g.productions i ≡ Some p → c.place ≡ i → c.length ≡ lengths_in lengths p.rhs → p.lhs < length rows → (x : ℕ) → IsRow g lengths (i + 1) x (get_or (set rows p.lhs (get_or rows p.lhs [] ++ c ∷ [])) x [])
  rows_pushed rows i p c h at place size below x = elim (cases_eq x p.lhs) [
    | inl same ↦ (let new = get_or rows p.lhs [] ++ c ∷ [] in
        let here : new ≡ get_or (set rows p.lhs new) x [] = sym (get_or-set_same rows p.lhs new [] below) ∙ ap (λ n. get_or (set rows p.lhs new) n []) (sym same) in
        subst (IsRow g lengths (i + 1) x) here (row_pushed i p at x (get_or rows p.lhs []) (subst (λ n. IsRow g lengths i x (get_or rows n [])) same (h x)) c (sym same) place size))
    | inr other ↦ subst (IsRow g lengths (i + 1) x) (sym (get_or-set_other rows p.lhs x (get_or rows p.lhs [] ++ c ∷ []) [] other)) (row_kept i p at x (get_or rows x []) (h x) (λ e. other (sym e)))
  ]

  -- After the push, the rows are those of one production more.
  pub rows_after : (rows : List (List Choice)) (i : ℕ) (p : Production) (c : Choice) → ((x : ℕ) → IsRow g lengths i x (get_or rows x [])) → slice_get g.productions i ≡ Some p → c.place ≡ i → c.length ≡ lengths_in lengths p.rhs → p.lhs < length rows
      → (j : ℕ) (new : List Choice) → j ≡ p.lhs → new ≡ get_or rows j [] ++ c ∷ [] → (x : ℕ) → IsRow g lengths (i + 1) x (get_or (set rows j new) x [])
  rows_after rows i p c h at place size below j new same is x =
      let made : new ≡ get_or rows p.lhs [] ++ c ∷ [] = is ∙ ap (λ n. get_or rows n [] ++ c ∷ []) same in
      subst (λ (r : List (List Choice)). IsRow g lengths (i + 1) x (get_or r x [])) (λ k. set rows (sym same k) (sym made k)) (rows_pushed rows i p c h at place size below x)
