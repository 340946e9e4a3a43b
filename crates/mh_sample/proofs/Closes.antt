-- Lemmas on the loop that improves the words of the nonterminals by each production: it sets an earlier word for the
-- left side, or the production gives no earlier word (the production is closed).
use Rattle.std.proofs.Common.{◌≡◌, ◌∙◌, ◌<◌, ◌≤◌, ℕ, inl, inr, true, false, List, Option, None, Some, length, refl, sym, ap, arith, get_or, set, get_or-set_other, get_or-set_same, subst}
use Rattle.std.specs.Option.{option_map_or}
use Rattle.std.proofs.lemmas.Bool.{cases_eq, cases_lt, eq-eqb, ne_eqb, ltb-false, both_ways}
use Rattle.std.proofs.lemmas.Option.{same_Some, none-some}
use Rattle.mh_grammar.specs.declared.types.Symbol.TheVariants.{N}
use Rattle.mh_grammar.specs.declared.types.Production.{Production}
use Rattle.mh_grammar.specs.Plain.{PlainGrammar, Derives}
use Rattle.mh_sample.specs.WordLimit.{max_word}
use Rattle.mh_sample.specs.Shortest.{ShortLex}
use Rattle.mh_sample.specs.code.Chains.{chain, comes_before, IsWithin, AreDerived, Closes}
use Rattle.mh_sample.proofs.ShortLex.{lex_less-false}

-- Setting one word that its nonterminal derives keeps all words derived.
pub derived_set : (g : PlainGrammar) (words : List (Option (List ℕ))) (n : ℕ) (w : List ℕ) → AreDerived g words → n < length words → Derives g (N n) w → length w ≤ max_word → AreDerived g (set words n (Some w))
derived_set g words n w d l t few = record {
  derived = λ m v e. elim (cases_eq m n) [
    | inl same ↦ (let at : Some w ≡ Some v = sym (get_or-set_same words n (Some w) None l) ∙ ap (λ k. get_or (set words n (Some w)) k None) (sym same) ∙ e in
        subst (Derives g (N m)) (same_Some w v at) (subst (λ k. Derives g (N k) w) (sym same) t))
    | inr other ↦ d.derived m v (sym (get_or-set_other words n m (Some w) None other) ∙ e)
  ];
  short = λ m v e. elim (cases_eq m n) [
    | inl same ↦ (let at : Some w ≡ Some v = sym (get_or-set_same words n (Some w) None l) ∙ ap (λ k. get_or (set words n (Some w)) k None) (sym same) ∙ e in
        omega (arith, few, ap length (same_Some w v at)))
    | inr other ↦ d.short m v (sym (get_or-set_other words n m (Some w) None other) ∙ e)
  ];
}

-- If a word does not come before the present word, there is a present word, and the present word comes no later.
before_false : (u : List ℕ) (o : Option (List ℕ)) → comes_before u o ≡ false → (v : List ℕ) × (o ≡ Some v) × ShortLex v u
before_false u None e = absurd (both_ways true e refl)
before_false u (Some v) e = (
  v,
  refl,
  elim (cases_eq (length u) (length v)) [
    | inl same ↦ (let f = e in inr (sym same, lex_less-false u v same (let g = rw (eq-eqb (length u) (length v) same) at f in g)))
    | inr other ↦ (let f = e in inl (let g = ltb-false (length u) (length v) (rw (ne_eqb (length u) (length v) other) at f) in omega (arith, g, other)))
  ],
)

-- A production is closed if the word of its right side does not come before the word of its left side.
pub closes_by_word : (words : List (Option (List ℕ))) (p : Production) (w : List ℕ) → chain words p.rhs ≡ Some w → comes_before w (get_or words p.lhs None) ≡ false → Closes words p
closes_by_word words p w is e v at few = let h = before_false w (get_or words p.lhs None) e in (h.0, h.1, subst (ShortLex h.0) (same_Some w v (sym is ∙ at)) h.2)

-- A production is closed if its right side has no word.
pub closes_by_none : (words : List (Option (List ℕ))) (p : Production) → chain words p.rhs ≡ None → Closes words p
closes_by_none words p e v at few = absurd (none-some v (sym e ∙ at))

-- A production is closed if the word of its right side is longer than the limit.
pub closes_by_length : (words : List (Option (List ℕ))) (p : Production) (present : Option (List ℕ)) → get_or words p.lhs None ≡ present → (IsWithin (option_map_or length present max_word) (chain words p.rhs) → ⊥) → Closes words p
closes_by_length words p None is h v at few = absurd (h (subst (IsWithin max_word) (sym at) few))
closes_by_length words p (Some u) is h v at few = (
  u,
  is,
  elim (cases_lt (length u) (length v)) [
    | inl l ↦ inl l
    | inr le ↦ absurd (h (subst (IsWithin (length u)) (sym at) le))
  ],
)

-- A word has at most `max_word` tokens if it is no longer than the present word of the nonterminal or, where the
-- nonterminal has no word, than `max_word`.
pub within_max_word : (words : List (Option (List ℕ))) (g : PlainGrammar) (n : ℕ) (o : Option (List ℕ)) (w : List ℕ) → AreDerived g words → o ≡ Some w → IsWithin (option_map_or length (get_or words n None) max_word) o → length w ≤ max_word
within_max_word words g n o w d e h = go (get_or words n None) refl (subst (IsWithin (option_map_or length (get_or words n None) max_word)) e h)
  where
    go : (present : Option (List ℕ)) → get_or words n None ≡ present → length w ≤ option_map_or length (get_or words n None) max_word → length w ≤ max_word
    go None is l = let m = l in (let k = rw is at m in k)
    go (Some u) is l = let m = l in (let k : length w ≤ length u = rw is at m in omega (arith, k, d.short n u is))
