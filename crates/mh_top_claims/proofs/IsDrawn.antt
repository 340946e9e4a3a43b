-- The output of `--random-sentence` is unique.
use Rattle.std.proofs.Common.{◌≡◌, ◌∙◌, ◌++◌, ◌∷◌, [], ℕ, List, sym, ap, arith}
use Rattle.mh_grammar.specs.declared.types.Grammar.{Grammar}
use Rattle.mh_grammar.specs.Plain.{plain_of, start_symbol}
use Rattle.mh_grammar.specs.Text.{Text}
use Rattle.mh_msgfile.specs.FileTexts.{sentence_text}
use Rattle.mh_sample.specs.Sentences.{IsRandomText}
use Rattle.mh_sample.specs.Faults.{AreLonger}
use Rattle.mh_sample.proofs.RandomUnique.{written_once}
use Rattle.mh_sample.proofs.RandomIsSentence.{random_is_sentence}
use Rattle.mh_top_plans.specs.Drawn.{IsDrawn}
use Rattle.mh_top_plans.specs.declared.at_end.FinalText.{FinalText}
use Rattle.mh_top_plans.specs.declared.at_end.FinalText.TheVariants.{Written, Refusal}

module _ (g : Grammar) (seed n : ℕ) where
  text_once : (x y : Text) → IsRandomText g seed n x → IsRandomText g seed n y → x ≡ y
  text_once x y a b =
      let p = plain_of g in
      a.2 ∙ ap (λ (s : List ℕ). sentence_text g 0 s ++ 10 ∷ []) (written_once p seed n 0 [] (start_symbol p 0 ∷ []) a.0 b.0 a.1 b.1) ∙ sym b.2

  not_both : (x : Text) → IsRandomText g seed n x → AreLonger (plain_of g) n → ⊥
  not_both x a none = let is = random_is_sentence (plain_of g) seed n a.0 a.1 in omega (arith, is.1, none a.0 is.0)

  pub drawn_once : (x y : FinalText) → IsDrawn g seed n x → IsDrawn g seed n y → x ≡ y
  drawn_once (Written x) (Written y) a b = ap Written (text_once x y a b)
  drawn_once (Written x) (Refusal line) a b = absurd (not_both x a b.0)
  drawn_once (Refusal line) (Written y) a b = absurd (not_both y b a.0)
  drawn_once (Refusal line) (Refusal other) a b = ap Refusal (a.1 ∙ sym b.1)
