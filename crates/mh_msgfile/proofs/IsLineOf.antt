-- Proves that a start, a colon and names of tokens, with blanks between them, are read as this sentence.
use Rattle.std.proofs.Common.{◌≡◌, ◌<◌, ◌+◌, ◌==◌, ℕ, true, false, List, [], ◌∷◌, ◌++◌, length, map, take, drop, Some, refl, sym, ◌∙◌, ap, subst, arith, nat_lt, inl, inr, length-append, append-nil, add-one}
use Rattle.std.specs.List.{list_all, AllByRecursion}
use Rattle.std.proofs.lemmas.Bool.{cases_Bool, and_parts, eqb-true}
use Rattle.std.proofs.lemmas.Bool.Decides.{nat_tests}
use Rattle.std.proofs.Math.Seq.{take-append_seam}
use Rattle.mh_lex_bytes.specs.Bytes.{is_word_byte}
use Rattle.mh_lex_bytes.specs.Words.{is_word}
use Rattle.mh_grammar.specs.declared.types.Grammar.{Grammar}
use Rattle.mh_grammar.specs.Names.{start_name, token_name}
use Rattle.mh_grammar.specs.Text.{Text}
use Rattle.mh_msgfile.specs.Lines.{is_blank}
use Rattle.mh_msgfile.specs.Sentences.{vocabulary_of, pieces, only_word, colon_place, sentence_from, sentence_in, IsSentence}
use Rattle.mh_msgfile.specs.FileTexts.{HasReadableNames}
use Rattle.mh_msgfile.specs.FreeSpacing as spaced
use Rattle.mh_msgfile.specs.FreeSpacing.{Spaced, IsLineOf}
use Rattle.mh_msgfile.proofs.CanonicalLine.{all_words, drop_past_colon, start_found, tokens_found, word_byte_no_colon, word_bytes, word_piece}

abbrev AreWords : List Text → Type 0
AreWords names = AllByRecursion (λ name. is_word name ≡ true) names

abbrev IsClear : ℕ → Type 0
IsClear b = (b == 58) ≡ false

after_blank : (b : ℕ) (text : Text) → is_blank b ≡ true → pieces (b ∷ text) ≡ pieces text
after_blank b text is = rw is refl

pieces_are : (names : List Text) (text : Text) → AreWords names → Spaced names text → pieces text ≡ names
pieces_are [] [] words spaced.Spaced.none = refl
pieces_are names (c ∷ text) words (spaced.Spaced.blank b is later) = after_blank b text is ∙ pieces_are names text words later
pieces_are (name ∷ []) text words (spaced.Spaced.last same) = ap pieces (same ∙ sym (append-nil name)) ∙ word_piece name [] words.0 tt
pieces_are (name ∷ names) text words (spaced.Spaced.name {rest = rest} b same is later) =
    ap pieces same ∙ word_piece name (b ∷ rest) words.0 is ∙ ap (λ (l : List Text). name ∷ l) (after_blank b rest is ∙ pieces_are names rest words.1 later)

-- ---- Names and blanks contain no colon.

blank_clear : (b : ℕ) → is_blank b ≡ true → IsClear b
blank_clear b is = elim (cases_Bool (b == 58)) [
  | inl same ↦ (let e : b ≡ 58 = eqb-true b 58 same in let colon : is_blank 58 ≡ true = subst (λ (c : ℕ). is_blank c ≡ true) e is in absurd (cc))
  | inr other ↦ other
]

word_clear : (w rest : Text) → list_all is_word_byte w ≡ true → AllByRecursion IsClear rest → AllByRecursion IsClear (w ++ rest)
word_clear [] rest is clear = clear
word_clear (b ∷ w) rest is clear = (word_byte_no_colon b (and_parts (is_word_byte b) (list_all is_word_byte w) is).0, word_clear w rest (and_parts (is_word_byte b) (list_all is_word_byte w) is).1 clear)

spaced_clear : (names : List Text) (text : Text) → AreWords names → Spaced names text → AllByRecursion IsClear text
spaced_clear [] [] words spaced.Spaced.none = tt
spaced_clear names (c ∷ text) words (spaced.Spaced.blank b is later) = (blank_clear b is, spaced_clear names text words later)
spaced_clear (name ∷ []) text words (spaced.Spaced.last same) = subst (AllByRecursion IsClear) (append-nil name ∙ sym same) (word_clear name [] (word_bytes name words.0) tt)
spaced_clear (name ∷ names) text words (spaced.Spaced.name {rest = rest} b same is later) =
    subst (AllByRecursion IsClear) (sym same) (word_clear name (b ∷ rest) (word_bytes name words.0) (blank_clear b is, spaced_clear names rest words.1 later))

colon_is : (w rest : Text) → AllByRecursion IsClear w → colon_place (w ++ 58 ∷ rest) ≡ length w
colon_is [] rest clear = refl
colon_is (b ∷ w) rest clear = rw (clear.0) (ap (λ (n : ℕ). n + 1) (colon_is w rest clear.1) ∙ add-one (length w))

-- ---- The line.

module _ (g : Grammar) (has : HasReadableNames g) where
  tokens_are_words : (tokens : List ℕ) → AllByRecursion (λ z. z < length g.tokens) tokens → AreWords (map (token_name g) tokens)
  tokens_are_words [] are = tt
  tokens_are_words (z ∷ tokens) are = (has.token_words z are.0, tokens_are_words tokens are.1)

  pub spaced_line : (i : ℕ) (tokens : List ℕ) (line : Text) → i < length g.starts → AllByRecursion (λ z. z < length g.tokens) tokens → IsLineOf g i tokens line → sentence_in (vocabulary_of g) line ≡ IsSentence (record { start = i; tokens = tokens })
  spaced_line i tokens line lt are l =
      let name = start_name g i in
      let word = has.start_words i lt in
      let whole = l.before_colon ++ 58 ∷ l.after_colon in
      let colon : colon_place whole ≡ length l.before_colon = colon_is l.before_colon l.after_colon (spaced_clear (name ∷ []) l.before_colon (word, tt) l.named) in
      let within : nat_lt (colon_place whole) (length whole) ≡ true = rw colon (grind (arith, nat_tests, length-append l.before_colon (58 ∷ l.after_colon))) in
      let front : take (colon_place whole) whole ≡ l.before_colon = ap (λ (k : ℕ). take k whole) colon ∙ take-append_seam l.before_colon (58 ∷ l.after_colon) in
      let back : drop (colon_place whole + 1) whole ≡ l.after_colon = ap (λ (k : ℕ). drop (k + 1) whole) colon ∙ drop_past_colon l.before_colon l.after_colon in
      let one : pieces l.before_colon ≡ name ∷ [] = pieces_are (name ∷ []) l.before_colon (word, tt) l.named in
      let start : only_word (pieces (take (colon_place whole) whole)) ≡ Some name = ap (λ (t : Text). only_word (pieces t)) front ∙ ap only_word one ∙ alone name word in
      ap (sentence_in (vocabulary_of g)) l.split ∙ rw (within, start, back) (named_from)
    where
      alone : (w : Text) → is_word w ≡ true → only_word (w ∷ []) ≡ Some w
      alone w is = rw is refl

      named_from : sentence_from (vocabulary_of g) (Some (start_name g i)) l.after_colon ≡ IsSentence (record { start = i; tokens = tokens })
      named_from = rw (pieces_are (map (token_name g) tokens) l.after_colon (tokens_are_words tokens are) l.spelled, all_words g has tokens are, start_found g has i lt, tokens_found g has tokens are) refl
