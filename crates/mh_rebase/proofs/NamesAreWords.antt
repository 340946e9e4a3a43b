-- Proves that the names in the faults of lines are words.
use Rattle.std.proofs.Common.{◌≡◌, ℕ, Bool, true, false, List, [], ◌∷◌, length, take, drop, Option, None, Some, refl, subst, if◌then◌else◌, nat_lt, ◌+◌}
use Rattle.std.specs.List.{list_all}
use Rattle.std.proofs.lemmas.Bool.{and_parts}
use Rattle.mh_grammar.specs.Text.{Text}
use Rattle.mh_lex_bytes.specs.Words.{is_word}
use Rattle.mh_msgfile.specs.Sentences.{Vocabulary, pieces, TokensResult, Tokens, Unknown, StartResult, StartIs, NoSuchStart, NoStart, LineResult, IsSentence, IsUnreadable, NamesNoStart, LacksStart, NamesUnknown, put_token, tokens_of, start_or, only_or, start_by, only_word, with_start, colon_place, sentence_from, sentence_after_colon, sentence_in}

abbrev HasWord : LineResult → Type 0
HasWord (IsSentence s) = Unit {0}
HasWord IsUnreadable = Unit {0}
HasWord (NamesNoStart name) = is_word name ≡ true
HasWord LacksStart = Unit {0}
HasWord (NamesUnknown name) = is_word name ≡ true

abbrev UnknownWord : TokensResult → Type 0
UnknownWord (Tokens tokens) = Unit {0}
UnknownWord (Unknown name) = is_word name ≡ true

abbrev StartWord : StartResult → Type 0
StartWord (StartIs start) = Unit {0}
StartWord (NoSuchStart name) = is_word name ≡ true
StartWord NoStart = Unit {0}

abbrev NamedWord : Option Text → Type 0
NamedWord None = Unit {0}
NamedWord (Some name) = is_word name ≡ true

put_word : (name : Text) (o : Option ℕ) (found : TokensResult) → is_word name ≡ true → UnknownWord found → UnknownWord (put_token name o found)
put_word name None found is later = is
put_word name (Some token) (Tokens tokens) is later = tt
put_word name (Some token) (Unknown other) is later = later

with_word : (start : StartResult) (found : TokensResult) → StartWord start → UnknownWord found → HasWord (with_start start found)
with_word (StartIs start) (Tokens tokens) s u = tt
with_word (StartIs start) (Unknown name) s u = u
with_word (NoSuchStart name) found s u = s
with_word NoStart found s u = tt

sole_on : (name : Text) (c : Bool) → is_word name ≡ c → NamedWord (if c then Some name else None)
sole_on name true is = is
sole_on name false is = tt

sole_word : (ps : List Text) → NamedWord (only_word ps)
sole_word [] = tt
sole_word (name ∷ []) = sole_on name (is_word name) refl
sole_word (name ∷ other ∷ ps) = tt

module _ (v : Vocabulary) where
  tokens_word : (ps : List Text) → list_all is_word ps ≡ true → UnknownWord (tokens_of v ps)
  tokens_word [] all = tt
  tokens_word (name ∷ ps) all =
      let both = and_parts (is_word name) (list_all is_word ps) all in put_word name (v.token_named name) (tokens_of v ps) both.0 (tokens_word ps both.1)

  named_word : (name : Text) (o : Option ℕ) → is_word name ≡ true → StartWord (start_or name o)
  named_word name None is = is
  named_word name (Some start) is = tt

  only_is_word : (o : Option ℕ) → StartWord (only_or o)
  only_is_word None = tt
  only_is_word (Some start) = tt

  start_word : (o : Option Text) → NamedWord o → StartWord (start_by v o)
  start_word None is = only_is_word v.only_start
  start_word (Some name) is = named_word name (v.start_named name) is

  from_on : (o : Option Text) (text : Text) (c : Bool) → list_all is_word (pieces text) ≡ c → NamedWord o → HasWord (if c then with_start (start_by v o) (tokens_of v (pieces text)) else IsUnreadable)
  from_on o text true all is = with_word (start_by v o) (tokens_of v (pieces text)) (start_word o is) (tokens_word (pieces text) all)
  from_on o text false all is = tt

  from_word : (o : Option Text) (text : Text) → NamedWord o → HasWord (sentence_from v o text)
  from_word o text is = from_on o text (list_all is_word (pieces text)) refl is

  behind_word : (o : Option Text) (text : Text) → NamedWord o → HasWord (sentence_after_colon v o text)
  behind_word None text is = tt
  behind_word (Some name) text is = from_word (Some name) text is

  colon_word : (line : Text) (c : Bool) → HasWord (if c then sentence_after_colon v (only_word (pieces (take (colon_place line) line))) (drop (colon_place line + 1) line) else sentence_from v None line)
  colon_word line true = behind_word (only_word (pieces (take (colon_place line) line))) (drop (colon_place line + 1) line) (sole_word (pieces (take (colon_place line) line)))
  colon_word line false = from_word None line tt

  in_word : (line : Text) → HasWord (sentence_in v line)
  in_word line = colon_word line (nat_lt (colon_place line) (length line))

  pub start_is_word : (line name : Text) → sentence_in v line ≡ NamesNoStart name → is_word name ≡ true
  start_is_word line name is = subst HasWord is (in_word line)

  pub token_is_word : (line name : Text) → sentence_in v line ≡ NamesUnknown name → is_word name ≡ true
  token_is_word line name is = subst HasWord is (in_word line)
