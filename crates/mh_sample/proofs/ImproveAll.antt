-- Lemmas on a pass over the productions, from the last to the first, that improves the words.
use Rattle.std.proofs.Common.{◌≡◌, ◌∙◌, ◌≤◌, ◌+◌, ◌^◌, ◌||◌, ℕ, Bool, false, inl, inr, List, Option, Some, length, refl, sym, ap, arith, subst}
use Rattle.std.specs.List.{slice_get}
use Rattle.std.proofs.lemmas.Bool.{cases_Bool, cases_eq, or_parts, or_cases, both_ways}
use Rattle.std.proofs.lemmas.Option.{same_Some, slice_get_within}
use Rattle.mh_grammar.specs.declared.types.Production.{Production}
use Rattle.mh_grammar.specs.Plain.{PlainGrammar}
use Rattle.mh_sample.specs.code.Chains.{rank_sum, Closes, Improves}

pub improves_nothing : (g : PlainGrammar) (words : List (Option (List ℕ))) → Improves g words words false
improves_nothing g words = record { sound = λ d. d; same = λ e. refl; decreases = λ e d. absurd (both_ways false refl e) }

pub improves_more : (g : PlainGrammar) (old mid new : List (Option (List ℕ))) (first second : Bool) → Improves g old mid first → Improves g mid new second → Improves g old new (first || second)
improves_more g old mid new first second a b = record {
  sound = λ d. b.sound (a.sound d);
  same = λ e. let h = or_parts first second e in b.same h.1 ∙ a.same h.0;
  decreases = λ e d. elim (cases_Bool second) [
    | inl late ↦ elim (cases_Bool first) [
      | inl too ↦ omega (arith, b.decreases late (a.sound d), a.decreases too d)
      | inr first_none ↦ (let l = b.decreases late (a.sound d) in omega (arith, l, ap (rank_sum (2 ^ 16)) (a.same first_none)))
    ]
    | inr no_more ↦ elim (or_cases first second e) [
      | inl too ↦ (let l = a.decreases too d in omega (arith, l, ap (rank_sum (2 ^ 16)) (b.same no_more)))
      | inr late ↦ absurd (both_ways second no_more late)
    ]
  ];
}

-- The invariant of the pass: if nothing is improved, the productions from the index on are closed.
pub record PassSoFar (g : PlainGrammar) (old new : List (Option (List ℕ))) (improved : Bool) (place : ℕ) : Type 0 where
  pub improves : Improves g old new improved
  pub done : improved ≡ false → (k : ℕ) (p : Production) → place ≤ k → slice_get g.productions k ≡ Some p → Closes new p

pub pass_start : (g : PlainGrammar) (words : List (Option (List ℕ))) (place : ℕ) → length g.productions ≤ place → PassSoFar g words words false place
pass_start g words place all = record {
  improves = improves_nothing g words;
  done = λ e k p l at. absurd (omega (arith, all, l, slice_get_within g.productions k p at));
}

pub pass_step : (g : PlainGrammar) (old mid new : List (Option (List ℕ))) (improved better : Bool) (place : ℕ) (p : Production) → slice_get g.productions place ≡ Some p → Improves g mid new better → (better ≡ false → Closes mid p) → PassSoFar g old mid improved (place + 1) → PassSoFar g old new (improved || better) place
pass_step g old mid new improved better place p at b closes h = record {
  improves = improves_more g old mid new improved better h.improves b;
  done = λ e k q l found. let both = or_parts improved better e in subst (λ words. Closes words q) (sym (b.same both.1)) (elim (cases_eq k place) [
    | inl same ↦ (let one : p ≡ q = same_Some p q (sym at ∙ ap (slice_get g.productions) (sym same) ∙ found) in subst (Closes mid) one (closes both.1))
    | inr other ↦ h.done both.0 k q (omega (arith, l, other)) found
  ]);
}
