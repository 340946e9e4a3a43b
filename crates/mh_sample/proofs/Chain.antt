-- Lemmas on the loops over the symbols of a right side and over the tokens of two words.
use Rattle.std.proofs.Common.{◌≡◌, ◌∙◌, ◌<◌, ◌≤◌, ◌+◌, ◌-◌, ◌↔◌, ℕ, Bool, true, false, List, [], ◌∷◌, Option, None, Some, length, get_or, drop, refl, sym, ap, arith, subst}
use Rattle.std.specs.Prelude.{nat_lt}
use Rattle.std.specs.Option.{option_map}
use Rattle.std.proofs.lemmas.Bool.{both_ways, eq-eqb, ne_eqb}
use Rattle.std.proofs.lemmas.List.{append_assoc, append-nil, length-append}
use Rattle.std.proofs.lemmas.Option.{same_Some, none-some}
use Rattle.mh_grammar.specs.declared.types.Symbol.{Symbol}
use Rattle.mh_grammar.proofs.Lists.{drop_step}
use Rattle.mh_sample.specs.code.Chains.{word_of, joined, chain, lex_less, IsPut, IsWithin}

abbrev Word : Type 0
Word = Option (List ℕ)

within_joined : (o q : Word) (n left : ℕ) → option_map length o ≡ Some n → n ≤ left → IsWithin (left - n) q ↔ IsWithin left (joined o q)
within_joined None q n left e l = absurd (none-some n e)
within_joined (Some u) None n left e l = ((λ h. h), (λ h. h))
within_joined (Some u) (Some v) n left e l = let same = same_Some (length u) n e in (
  (λ h. omega (arith, same, h, l, length-append u v)),
  (λ h. omega (arith, same, h, l, length-append u v)),
)

within_none : (o q : Word) (left : ℕ) → option_map length o ≡ None → IsWithin left (joined o q) → ⊥
within_none None q left e h = h
within_none (Some u) q left e h = none-some (length u) (sym e)

within_over : (o q : Word) (n left : ℕ) → option_map length o ≡ Some n → left < n → IsWithin left (joined o q) → ⊥
within_over None q n left e l h = none-some n e
within_over (Some u) None n left e l h = h
within_over (Some u) (Some v) n left e l h = omega (arith, same_Some (length u) n e, h, l, length-append u v)

-- The words of the symbols that are left fit exactly if the word of the next symbol fits, and the others fit in the
-- room after it.
module _ (words : List Word) (xs : List Symbol) (i : ℕ) (x : Symbol) (below : i < length xs) (at : x ≡ get_or xs i x) where
  here : chain words (drop i xs) ≡ joined (word_of words x) (chain words (drop (i + 1) xs))
  here = ap (chain words) (drop_step xs i x below at)

  pub fits_more : (n left : ℕ) (P : Type 0) → option_map length (word_of words x) ≡ Some n → n ≤ left → IsWithin left (chain words (drop i xs)) ↔ P → IsWithin (left - n) (chain words (drop (i + 1) xs)) ↔ P
  fits_more n left P e l h =
      let step = within_joined (word_of words x) (chain words (drop (i + 1) xs)) n left e l in
      ((λ w. h.0 (subst (IsWithin left) (sym here) (step.0 w))), (λ p. step.1 (subst (IsWithin left) here (h.1 p))))

  pub fits_none : (left : ℕ) → option_map length (word_of words x) ≡ None → IsWithin left (chain words (drop i xs)) → ⊥
  fits_none left e h = within_none (word_of words x) (chain words (drop (i + 1) xs)) left e (subst (IsWithin left) here h)

  pub fits_over : (n left : ℕ) → option_map length (word_of words x) ≡ Some n → left < n → IsWithin left (chain words (drop i xs)) → ⊥
  fits_over n left e l h = within_over (word_of words x) (chain words (drop (i + 1) xs)) n left e l (subst (IsWithin left) here h)

  joined_assoc : (a b c : Word) → joined a (joined b c) ≡ joined (joined a b) c
  joined_assoc None b c = refl
  joined_assoc (Some u) None c = refl
  joined_assoc (Some u) (Some v) None = refl
  joined_assoc (Some u) (Some v) (Some w) = ap Some (sym (append_assoc u v w))

  pub spelled_more : (old new : List ℕ) (whole : Word) → joined (Some old) (chain words (drop i xs)) ≡ whole → Some new ≡ joined (Some old) (word_of words x) → joined (Some new) (chain words (drop (i + 1) xs)) ≡ whole
  spelled_more old new whole h e =
      ap (λ o. joined o (chain words (drop (i + 1) xs))) e
      ∙ sym (joined_assoc (Some old) (word_of words x) (chain words (drop (i + 1) xs)))
      ∙ ap (joined (Some old)) (sym here)
      ∙ h

  pub spelled_none : (old : List ℕ) (whole : Word) → joined (Some old) (chain words (drop i xs)) ≡ whole → word_of words x ≡ None → whole ≡ None
  spelled_none old whole h e = sym h ∙ ap (joined (Some old)) here ∙ ap (λ o. joined (Some old) (joined o (chain words (drop (i + 1) xs)))) e

pub spelled_end : (old : List ℕ) (whole : Word) → joined (Some old) (Some []) ≡ whole → Some old ≡ whole
spelled_end old whole h = ap Some (sym (append-nil old)) ∙ h

-- One step of the comparison of two words that both have a token at the index.
module _ (u v : List ℕ) (i x y : ℕ) (in_u : i < length u) (in_v : i < length v) (at_u : x ≡ get_or u i x) (at_v : y ≡ get_or v i y) where
  both : lex_less (drop i u) (drop i v) ≡ lex_less (x ∷ drop (i + 1) u) (y ∷ drop (i + 1) v)
  both = λ j. lex_less (drop_step u i x in_u at_u j) (drop_step v i y in_v at_v j)

  pub less_same : x ≡ y → lex_less (drop (i + 1) u) (drop (i + 1) v) ≡ lex_less (drop i u) (drop i v)
  less_same e = sym (both ∙ rw (eq-eqb x y e) refl)

  pub less_other : (x ≡ y → ⊥) → nat_lt x y ≡ lex_less (drop i u) (drop i v)
  less_other e = sym (both ∙ rw (ne_eqb x y e) refl)

-- A word that is found is appended.
pub put_true : (word : Option (List ℕ)) (old new : List ℕ) (found : Bool) → IsPut word old new found → found ≡ true → Some new ≡ joined (Some old) word
put_true word old new true h e = h
put_true word old new false h e = absurd (both_ways false refl e)
