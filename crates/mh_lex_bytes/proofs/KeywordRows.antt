-- Lemmas on words, and on the rows of keywords.
use Rattle.std.proofs.Common.{◌≡◌, ℕ, ◌==◌, ◌&&◌, ◌||◌, Bool, true, false, not, List, [], ◌∷◌, Option, Some, None, refl, sym, subst, ◌∙◌}
use Rattle.std.specs.Prelude.{is_some, if◌then◌else◌}
use Rattle.std.specs.List.{list_all}
use Rattle.std.specs.Str.{bytes_eq}
use Rattle.std.proofs.lemmas.Bool.{not-true, and_parts, or_right, both_ways}
use Rattle.std.proofs.lemmas.Bool.Decides.{Decides-eqb}
use Rattle.std.proofs.lemmas.Slice.Eq.{bytes_eq-Decides}
use Rattle.mh_lex_bytes.specs.declared.keywords.Keyword.{Keyword}
use Rattle.mh_lex_bytes.specs.declared.keywords.Keyword.TheVariants.{Token, Start, «Type», Left, Right, Nonassoc, OnErrorReduce, Parameter, Attribute, Public, Inline, Prec}
use Rattle.mh_lex_bytes.specs.declared.keywords.KeywordRow.{KeywordRow}
use Rattle.mh_lex_bytes.specs.Keywords.{keywords, keyword_among, keyword_named, is_keyword}
use Rattle.mh_lex_bytes.specs.Bytes.{is_word_start, is_word_byte}
use Rattle.mh_lex_bytes.specs.Words.{is_word}

pub start_is_byte : (b : ℕ) → is_word_start b ≡ true → is_word_byte b ≡ true
start_is_byte b h = rw h refl

-- Each keyword is a word.
word_among : (rows : List (KeywordRow (List ℕ))) (w : List ℕ) → list_all (λ row. is_word row.word) rows ≡ true → is_some (keyword_among rows w) ≡ true → is_word w ≡ true
word_among [] w all h = absurd (cc)
word_among (row ∷ rows) w all h =
    let two = and_parts (is_word row.word) (list_all (λ row. is_word row.word) rows) all in
    by (bytes_eq w row.word) refl two.0 (λ k. word_among rows w two.1 k) h
  where
    by : (b : Bool) → bytes_eq w row.word ≡ b → is_word row.word ≡ true → (is_some (keyword_among rows w) ≡ true → is_word w ≡ true) → is_some (if b then Some row.keyword else keyword_among rows w) ≡ true → is_word w ≡ true
    by true e here later k = subst (λ v. is_word v ≡ true) (sym ((bytes_eq-Decides w row.word).0 e)) here
    by false e here later k = later k

keywords_are_words : list_all (λ row. is_word row.word) keywords ≡ true
unfolding keywords
keywords_are_words = refl

pub keyword_is_word : (w : List ℕ) → is_keyword w ≡ true → is_word w ≡ true
keyword_is_word w h = word_among keywords w keywords_are_words h

-- No two words are the same keyword.
abbrev each_keyword : (P : Keyword → Type 0) → P Token → P Start → P «Type» → P Left → P Right → P Nonassoc → P OnErrorReduce → P Parameter → P Attribute → P Public → P Inline → P Prec → (word : Keyword) → P word
each_keyword P a b c d e f g h i j k l Token = a
each_keyword P a b c d e f g h i j k l Start = b
each_keyword P a b c d e f g h i j k l «Type» = c
each_keyword P a b c d e f g h i j k l Left = d
each_keyword P a b c d e f g h i j k l Right = e
each_keyword P a b c d e f g h i j k l Nonassoc = f
each_keyword P a b c d e f g h i j k l OnErrorReduce = g
each_keyword P a b c d e f g h i j k l Parameter = h
each_keyword P a b c d e f g h i j k l Attribute = i
each_keyword P a b c d e f g h i j k l Public = j
each_keyword P a b c d e f g h i j k l Inline = k
each_keyword P a b c d e f g h i j k l Prec = l

abbrev number_of : Keyword → ℕ
number_of word = each_keyword (λ _. ℕ) 0 1 2 3 4 5 6 7 8 9 10 11 word

abbrev stands_in : ℕ → List (KeywordRow (List ℕ)) → Bool
stands_in n [] = false
stands_in n (row ∷ rows) = number_of row.keyword == n || stands_in n rows

abbrev all_differ : List (KeywordRow (List ℕ)) → Bool
all_differ [] = true
all_differ (row ∷ rows) = not (stands_in (number_of row.keyword) rows) && all_differ rows

found_in : (rows : List (KeywordRow (List ℕ))) (w : List ℕ) (k : Keyword) → keyword_among rows w ≡ Some k → stands_in (number_of k) rows ≡ true
found_in [] w k e = absurd (cc)
found_in (row ∷ rows) w k e = by (bytes_eq w row.word) (found_in rows w k) e
  where
    here : row.keyword ≡ k → (number_of row.keyword == number_of k || stands_in (number_of k) rows) ≡ true
    here same = let one : (number_of row.keyword == number_of k) ≡ true = subst (λ i. (number_of i == number_of k) ≡ true) (sym same) ((Decides-eqb (number_of k) (number_of k)).1 refl) in rw one refl

    by : (b : Bool) → (keyword_among rows w ≡ Some k → stands_in (number_of k) rows ≡ true) → (if b then Some row.keyword else keyword_among rows w) ≡ Some k →
        (number_of row.keyword == number_of k || stands_in (number_of k) rows) ≡ true
    by true later e = here (cc)
    by false later e = or_right (number_of row.keyword == number_of k) (stands_in (number_of k) rows) (later e)

one_among : (rows : List (KeywordRow (List ℕ))) → all_differ rows ≡ true → (v w : List ℕ) (k : Keyword) → keyword_among rows v ≡ Some k → keyword_among rows w ≡ Some k → w ≡ v
one_among [] all v w k d e = absurd (cc)
one_among (row ∷ rows) all v w k d e =
    let two = and_parts (not (stands_in (number_of row.keyword) rows)) (all_differ rows) all in
    by (bytes_eq v row.word) (bytes_eq w row.word) refl refl (not-true (stands_in (number_of row.keyword) rows) two.0) (λ f g. one_among rows two.1 v w k f g) d e
  where
    apart : (u : List ℕ) → stands_in (number_of row.keyword) rows ≡ false → row.keyword ≡ k → keyword_among rows u ≡ Some k → ⊥
    apart u lone same f = both_ways (stands_in (number_of row.keyword) rows) lone (subst (λ i. stands_in (number_of i) rows ≡ true) (sym same) (found_in rows u k f))

    by : (a b : Bool) → bytes_eq v row.word ≡ a → bytes_eq w row.word ≡ b → stands_in (number_of row.keyword) rows ≡ false → (keyword_among rows v ≡ Some k → keyword_among rows w ≡ Some k → w ≡ v) →
        (if a then Some row.keyword else keyword_among rows v) ≡ Some k → (if b then Some row.keyword else keyword_among rows w) ≡ Some k → w ≡ v
    by true true p q lone later d e = (bytes_eq-Decides w row.word).0 q ∙ sym ((bytes_eq-Decides v row.word).0 p)
    by true false p q lone later d e = let same : row.keyword ≡ k = cc in absurd (apart w lone same e)
    by false true p q lone later d e = let same : row.keyword ≡ k = cc in absurd (apart v lone same d)
    by false false p q lone later d e = later d e

keywords_differ : all_differ keywords ≡ true
unfolding keywords
keywords_differ = refl

pub one_word : (v w : List ℕ) (k : Keyword) → keyword_named v ≡ Some k → keyword_named w ≡ Some k → w ≡ v
one_word v w k d e = one_among keywords keywords_differ v w k d e
