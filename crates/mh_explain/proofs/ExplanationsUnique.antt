-- Proves that the explanations of conflicts are unique.
use Rattle.std.proofs.Common.{◌≡◌, ◌∙◌, ◌++◌, ℕ, inl, inr, List, [], ◌∷◌, Option, Some, None, ap, ap₂, sym, subst, refl, arith}
use Rattle.std.specs.Prelude.{codes}
use Rattle.mh_grammar.specs.declared.types.Grammar.{Grammar}
use Rattle.mh_grammar.specs.declared.types.Look.{Look}
use Rattle.mh_grammar.specs.declared.types.Look.TheVariants.{Token, End}
use Rattle.mh_grammar.specs.declared.types.Sentence.{Sentence}
use Rattle.mh_grammar.specs.Text.{Text}
use Rattle.mh_grammar.proofs.Lists.{rising_same}
use Rattle.mh_items_kernels.specs.KernelTypes.{Automaton}
use Rattle.mh_items_kernels.specs.Automaton.{edges_at}
use Rattle.mh_report_notation.specs.Warnings.{conflict_line}
use Rattle.mh_resolve_cells.specs.declared.conflicts.Conflict.{Conflict}
use Rattle.mh_resolve_cells.specs.declared.kinds.ConflictKind.{ConflictKind}
use Rattle.mh_resolve_cells.specs.declared.kinds.ConflictKind.TheVariants.{Solved, Unsolved, Stream}
use Rattle.mh_resolve_cells.specs.States.{shift_on}
use Rattle.mh_tables_core.specs.declared.parts.Place.{Place}
use Rattle.mh_tables_core.specs.Table.{TableData}
use Rattle.mh_tables_core.specs.Failing.{cost_of_word}
use Rattle.mh_tables_core.specs.Run.{run_move_of}
use Rattle.mh_tables_core.proofs.OneCatalogue.{order_one}
use Rattle.mh_explain.specs.declared.first_sentence.FoundSentence.{FoundSentence}
use Rattle.mh_explain.specs.declared.first_sentence.FoundSentence.TheVariants.{NoSentence, TooLong, First}
use Rattle.mh_explain.specs.FirstSentences.{IsFoundWith, IsShownWith, ComesWith}
use Rattle.mh_explain.specs.StateActions.{AreActionLines, AreItems, IsPlaceBefore, reduction_lines, shift_lines, taken_line}
use Rattle.mh_explain.specs.Explanations.{AreEndLines, AreExplanations, AreNextLines, ExplainsConflict, IsExplanation, found_line, next_token}

-- ---- The first sentence is unique.

module _ (t : TableData) (s : ℕ) (Shown : ℕ → Type 0) where
  same_first : (c : ℕ) (x : Sentence) (z d : ℕ) (y : Sentence) (v : ℕ) → IsFoundWith t s Shown (First c x z) → IsFoundWith t s Shown (First d y v) → First c x z ≡ First d y v
  same_first c x z d y v p q =
      let one = order_one t x.start x.tokens y.start y.tokens (p.0.first y.start y.tokens v q.0.comes) (q.0.first x.start x.tokens z p.0.comes) in
      let same : x ≡ y = (λ i. record { start = one.0 i; tokens = one.1 i }) in
      let cost : c ≡ d = p.1 ∙ ap (λ (w : Sentence). cost_of_word t w.tokens) same ∙ sym q.1 in
      let up = p.0.lowest v (subst (λ (w : Sentence). ComesWith t s Shown w.start w.tokens v) (sym same) q.0.comes) in
      let down = q.0.lowest z (subst (λ (w : Sentence). ComesWith t s Shown w.start w.tokens z) same p.0.comes) in
      let token : z ≡ v = omega (arith, up, down) in
      cc

  pub found_once : (x y : FoundSentence) → IsFoundWith t s Shown x → IsFoundWith t s Shown y → x ≡ y
  found_once NoSentence NoSentence p q = refl
  found_once NoSentence TooLong p q = absurd (p q.some.0 q.some.1 q.some.2 q.some.3)
  found_once NoSentence (First d y v) p q = absurd (p y.start y.tokens v q.0.comes)
  found_once TooLong NoSentence p q = absurd (q p.some.0 p.some.1 p.some.2 p.some.3)
  found_once TooLong TooLong p q = refl
  found_once TooLong (First d y v) p q = absurd (let dear = p.all_too_long y.start y.tokens v q.0.comes in let e = q.1 in let le = q.2 in omega (arith, dear, e, le))
  found_once (First c x z) NoSentence p q = absurd (q x.start x.tokens z p.0.comes)
  found_once (First c x z) TooLong p q = absurd (let dear = q.all_too_long x.start x.tokens z p.0.comes in let e = p.1 in let le = p.2 in omega (arith, dear, e, le))
  found_once (First c x z) (First d y v) p q = same_first c x z d y v p q

-- ---- The lines of the actions are unique.

not_both : (x y : Place) → IsPlaceBefore x y → IsPlaceBefore y x → ⊥
not_both x y (inl a) (inl b) = omega (arith, a, b)
not_both x y (inl a) (inr b) = let e = b.0 in omega (arith, a, e)
not_both x y (inr a) (inl b) = let e = a.0 in omega (arith, b, e)
not_both x y (inr a) (inr b) = let l = a.1 in let m = b.1 in omega (arith, l, m)

items_once : (Is : Place → Type 0) (xs ys : List Place) → AreItems Is xs → AreItems Is ys → xs ≡ ys
items_once Is xs ys p q = rising_same IsPlaceBefore not_both xs ys p.rising q.rising (λ x. ((λ c. (q.exact x).1 ((p.exact x).0 c)), (λ c. (p.exact x).1 ((q.exact x).0 c))))

module _ (g : Grammar) (a : Automaton) where
  actions_once : (s : ℕ) (look : Look) (x y : Text) → AreActionLines g a s look x → AreActionLines g a s look y → x ≡ y
  actions_once s look x y p q =
      let shifts = items_once _ p.shifts q.shifts p.are_shifts q.are_shifts in
      let reductions = items_once _ p.reductions q.reductions p.are_reductions q.are_reductions in
      p.is ∙ ap₂ (λ (xs ys : List Place). shift_lines g (shift_on (edges_at a s) look) xs ++ reduction_lines g ys) shifts reductions ∙ sym q.is

  end_once : (s : ℕ) (look : Look) (x y : Text) → AreEndLines g a s look x → AreEndLines g a s look y → x ≡ y
  end_once s (Token z) x y p q = p ∙ sym q
  end_once s End x y p q = actions_once s End x y p q

  module _ (t : TableData) where
    next_once : (s : ℕ) (next : Option ℕ) (x y : Text) → AreNextLines g a t s next x → AreNextLines g a t s next y → x ≡ y
    next_once s None x y p q = p ∙ sym q
    next_once s (Some z) x y p q = p.2 ∙ ap (λ (u : Text). u ++ taken_line g (run_move_of t s (z ∷ []))) (actions_once s (Token z) p.0 q.0 p.1 q.1) ∙ sym q.2

    -- ---- The explanations are unique.

    conflict_once : (s : ℕ) (look : Look) (kind : ConflictKind) (x y : Text) → ExplainsConflict g a t s look kind x → ExplainsConflict g a t s look kind y → x ≡ y
    conflict_once s look kind x y p q =
        let found : p.found ≡ q.found = found_once t s (IsShownWith t s look) p.found q.found p.is_found q.is_found in
        let ends = end_once s look p.at_end q.at_end p.are_at_end q.are_at_end in
        let nexts = next_once s (next_token look q.found) p.at_next q.at_next (subst (λ (f : FoundSentence). AreNextLines g a t s (next_token look f) p.at_next) found p.are_at_next) q.are_at_next in
        p.is
        ∙ ap (λ (f : FoundSentence). conflict_line g s look kind ++ found_line g f ++ p.at_end ++ p.at_next ++ codes "\n") found
        ∙ ap₂ (λ (u v : Text). conflict_line g s look kind ++ found_line g q.found ++ u ++ v ++ codes "\n") ends nexts ∙ sym q.is

    explanation_once : (s : ℕ) (look : Look) (kind : ConflictKind) (x y : Text) → IsExplanation g a t s look kind x → IsExplanation g a t s look kind y → x ≡ y
    explanation_once s look Solved x y p q = p ∙ sym q
    explanation_once s look Unsolved x y p q = conflict_once s look Unsolved x y p q
    explanation_once s look Stream x y p q = conflict_once s look Stream x y p q

    pub explanations_once : (conflicts : List Conflict) (x y : Text) → AreExplanations g a t conflicts x → AreExplanations g a t conflicts y → x ≡ y
    explanations_once [] x y p q = p ∙ sym q
    explanations_once (c ∷ conflicts) x y p q =
        let first = explanation_once c.state c.look c.kind p.0 q.0 p.2 q.2 in
        let rest = explanations_once conflicts p.1 q.1 p.3 q.3 in
        p.4 ∙ ap₂ (λ (u v : Text). u ++ v) first rest ∙ sym q.4
