-- Proves that the program accepts its own random sentences.
use Rattle.std.proofs.Common.{ℕ, List, Option, false, inl, inr, length, sym, subst, arith}
use Rattle.std.proofs.lemmas.List.{take_all}
use Rattle.mh_grammar.specs.Plain.{PlainGrammar, IsSentence, plain_of}
use Rattle.mh_grammar.specs.Text.{Text}
use Rattle.mh_outside.specs.Shelf.{Files}
use Rattle.mh_run_exact.specs.Exactness.{IsPrefixSentence}
use Rattle.mh_sample.proofs.RandomIsSentence.{random_is_sentence}
use Rattle.mh_top_claims.specs.VerdictClaims.{AcceptsRandom}
use Rattle.mh_top_claims.proofs.VerdictClaims.{accepts_exactly}

-- A sentence is a prefix of itself.
whole : (g : PlainGrammar) (start : ℕ) (w : List ℕ) → IsSentence g start w → IsPrefixSentence g start w (length w)
whole g start w s = record { within = omega arith; sentence = subst (IsSentence g start) (sym (take_all (length w) w (omega arith))) s }

module _ (words : List Text) (files : Option Files) where
  pub accepts_random : AcceptsRandom words files
  accepts_random g s text answers clear seed n random first =
      let sentence = (random_is_sentence (plain_of g) seed n s.tokens random).0 in
      let there = subst (λ (i : ℕ). IsSentence (plain_of g) i s.tokens) (sym first) sentence in
      elim ((accepts_exactly words files false g s text answers clear).1 (length s.tokens) (whole (plain_of g) s.start s.tokens there)) [
        | inl accepted ↦ accepted
        | inr deep ↦ absurd deep
      ]
