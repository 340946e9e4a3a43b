-- Proves that sets which compare equal are equal.
use Rattle.std.proofs.Common.{◌≡◌, ℕ, Bool, ◌&&◌, Decides, List, refl, sym, ◌∙◌}
use Rattle.std.specs.Prelude.{nat_eq}
use Rattle.std.specs.Cmp.Lexicographic.{pointwise}
use Rattle.std.specs.Cmp.{unsigned_Decides, booleans_Decides}
use Rattle.std.proofs.Math.Bool.{beq}
use Rattle.std.proofs.lemmas.Bool.Decides.{same_from_decides}
use Rattle.std.proofs.lemmas.Slice.Eq.{slice_eq-Decides}
use Rattle.std.proofs.lemmas.Bool.{and_parts, and_from}
use Rattle.mh_grammar.specs.declared.types.Look.{Look}
use Rattle.mh_sets.specs.BitWords.{looks_of, AreBitWords}
use Rattle.mh_sets.proofs.LooksOf.{words_same}

module _ (W : ℕ) (v w : List ℕ) (e d : Bool) (xs ys : List Look) (is : looks_of v e ≡ xs) (are : looks_of w d ≡ ys) (hv : AreBitWords W v) (hw : AreBitWords W w) (F : Look → Look → Bool) (decides : (a b : Look) → Decides (F a b) (a ≡ b)) where
  -- To compare the words and the flags of two sets is to compare their lists of lookaheads element by element.
  pub set_eq-pointwise : (r : Bool) → r ≡ pointwise nat_eq v w → (r && beq e d) ≡ pointwise F xs ys
  set_eq-pointwise r h =
      let words = slice_eq-Decides {E = nat_eq} unsigned_Decides v w r h in
      let end = booleans_Decides e d in
      same_from_decides (r && beq e d) (pointwise F xs ys) (
        (λ k. let t = and_parts r (beq e d) k in sym is ∙ (let one = words.0 t.0 in let two = end.0 t.1 in cc) ∙ are),
        (λ k. let t = words_same W v w e d hv hw (is ∙ k ∙ sym are) in and_from r (beq e d) (words.1 t.0) (end.1 t.1)),
      )
      (slice_eq-Decides {E = F} decides xs ys (pointwise F xs ys) refl)
