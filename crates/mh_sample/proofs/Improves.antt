-- Lemmas on the improvement by one production, and on the answers at the end.
use Rattle.std.proofs.Common.{◌≡◌, ◌∙◌, ◌<◌, ◌≤◌, ◌↔◌, ◌^◌, ℕ, Bool, true, false, List, Option, None, Some, Result, Ok, Err, IfOk, length, get_or, set, refl, sym, ap, arith, subst}
use Rattle.std.specs.List.{slice_get, AllByRecursion}
use Rattle.std.specs.Option.{option_map_or}
use Rattle.std.proofs.lemmas.Bool.{both_ways}
use Rattle.std.proofs.lemmas.List.{get_or_default}
use Rattle.std.proofs.lemmas.List.Elements.{All-contains}
use Rattle.std.proofs.lemmas.Option.{get_or_from_slice_get, same_Some, slice_get_within}
use Rattle.mh_grammar.specs.declared.types.Symbol.TheVariants.{N}
use Rattle.mh_grammar.specs.declared.types.Production.{Production}
use Rattle.mh_grammar.specs.Plain.{PlainGrammar, IsInRange, IsProductionBelow, IsProductive}
use Rattle.mh_grammar.proofs.Lists.{contains_at, get_within, recursion-weaker}
use Rattle.mh_sample.specs.declared.word.Shortest.{Shortest}
use Rattle.mh_sample.specs.WordLimit.{max_word}
use Rattle.mh_sample.specs.Shortest.{IsShortest}
use Rattle.mh_sample.specs.code.Chains.{answer_of, chain, comes_before, AreAnswers, AreClosed, AreDerived, Improves, IsWithin}
use Rattle.mh_sample.proofs.RhsInRange.{tokens_below}
use Rattle.mh_sample.proofs.Closes.{derived_set, within_max_word}
use Rattle.mh_sample.proofs.IsLeast.{least_found, none_found, production_derived}
use Rattle.mh_sample.proofs.Rank.{rank_lower, sum_lower}

-- The present word of a left side is the word that the code has read.
pub read_word : (words : List (Option (List ℕ))) (i n : ℕ) (r : Option (List ℕ)) → i ≡ n → n < length words → r ≡ get_or words i r → r ≡ get_or words n None
read_word words i n r same l e = e ∙ get_or_default words i r None (omega (arith, same, l)) ∙ ap (λ k. get_or words k None) same

-- A production whose right side has an earlier word for its left side improves the words.
module _ (g : PlainGrammar) (r : IsInRange g) (words : List (Option (List ℕ))) (k : ℕ) (p : Production) (at : slice_get g.productions k ≡ Some p) (w : List ℕ)
    (below : p.lhs < length words) (is : chain words p.rhs ≡ Some w) (within : IsWithin (option_map_or length (get_or words p.lhs None) max_word) (chain words p.rhs))
    (before : comes_before w (get_or words p.lhs None) ≡ true) where
  few : AreDerived g words → length w ≤ max_word
  few d = within_max_word words g p.lhs (chain words p.rhs) w d is within

  tokens : AreDerived g words → AllByRecursion (λ z. z < 2 ^ 16) w
  tokens d =
      let side = All-contains (IsProductionBelow g.tokens g.nonterminals) g.productions p r.productions (contains_at g.productions k p at) in
      recursion-weaker (λ z. z < g.tokens) (λ z. z < 2 ^ 16) (λ z l. omega (arith, l, r.tokens)) w (tokens_below g r (N p.lhs) w side.lhs (production_derived g words d k p at w is))

  pub improved_at : Improves g words (set words p.lhs (Some w)) true
  improved_at = record {
    sound = λ d. derived_set g words p.lhs w d below (production_derived g words d k p at w is) (few d);
    same = λ e. absurd (both_ways true e refl);
    decreases = λ e d. sum_lower (2 ^ 16) (omega arith) words p.lhs w below (rank_lower (2 ^ 16) (omega arith) w (get_or words p.lhs None) before (few d) (tokens d));
  }

  pub improved : (i : ℕ) → i ≡ p.lhs → Improves g words (set words i (Some w)) true
  improved i same = subst (λ n. Improves g words (set words n (Some w)) true) (sym same) improved_at

-- Two facts about a result give a third fact about the result.
pub ok_from : {A E : Type 0} (r : Result A E) (P Q R : A → Type 0) → ((x : A) → P x → Q x → R x) → IfOk r P → IfOk r Q → IfOk r R
ok_from (Ok x) P Q R f p q = f x p q
ok_from (Err e) P Q R f p q = tt

-- The words at the end, with the flags of the productive nonterminals, give the answers.
module _ (g : PlainGrammar) (words : List (Option (List ℕ))) (flags : List Bool) (d : AreDerived g words) (c : AreClosed g.productions words) (productive : (n : ℕ) → (get_or flags n false ≡ true) ↔ IsProductive g n) where
  answer_is : (n : ℕ) (w : Option (List ℕ)) (flag : Bool) → get_or words n None ≡ w → get_or flags n false ≡ flag → IsShortest g n (answer_of w flag)
  answer_is n None true e f = ((productive n).0 f, none_found g words c n e)
  answer_is n None false e f = λ w t. absurd (both_ways (get_or flags n false) f ((productive n).1 (w, t)))
  answer_is n (Some w) flag e f = (least_found g words d c n w e, d.short n w e)

  pub answered : (v : List Shortest) → length v ≡ length words → AreAnswers words flags v → (n : ℕ) (s : Shortest) → slice_get v n ≡ Some s → IsShortest g n s
  answered v same are n s at =
      let here = get_within words n (omega (arith, same, slice_get_within v n s at)) in
      let answer = are n here.0 here.1 in
      subst (IsShortest g n) (same_Some (answer_of here.0 (get_or flags n false)) s (sym answer ∙ at))
      (answer_is n here.0 (get_or flags n false) (get_or_from_slice_get words n here.0 None here.1) refl)
