-- Proves that the canonical line of a sentence is read as this sentence.
use Rattle.std.proofs.Common.{◌≡◌, ◌≢◌, ◌<◌, ◌+◌, ◌==◌, ◌&&◌, ℕ, zero, suc, Bool, true, false, List, [], ◌∷◌, ◌++◌, length, map, take, drop, filter, Option, None, Some, refl, sym, ◌∙◌, ap, subst, arith, nat_lt, inl, inr, length-append, append-nil, get_or, add-one, unwrap_or, option_map, slice_index, ◌-◌}
use Rattle.std.specs.Prelude.{slice_get}
use Rattle.std.specs.List.{list_all, AllByRecursion, position_from}
use Rattle.std.specs.Str.{bytes_eq}
use Rattle.std.proofs.lemmas.Bool.{cases_Bool, and_parts, eqb-true, eqb-false, ne_eqb, cond-false}
use Rattle.std.proofs.lemmas.Bool.Decides.{nat_tests}
use Rattle.std.proofs.lemmas.List.{length-map}
use Rattle.std.proofs.lemmas.List.Elements.{All-from_recursion}
use Rattle.std.proofs.lemmas.Option.{slice_get-map, slice_get-get_or, slice_get_within, unwrap_or-slice_get}
use Rattle.std.proofs.lemmas.Slice.Eq.{bytes_eq-Decides}
use Rattle.std.proofs.Math.Seq.{take-append_seam}
use Rattle.mh_lex_bytes.specs.Bytes.{is_word_start, is_word_byte}
use Rattle.mh_lex_bytes.specs.Words.{is_word}
use Rattle.mh_lex_bytes.proofs.KeywordRows.{start_is_byte}
use Rattle.mh_grammar.specs.declared.types.Grammar.{Grammar}
use Rattle.mh_grammar.specs.declared.types.TokenInfo.{TokenInfo}
use Rattle.mh_grammar.specs.declared.types.NontermInfo.{NontermInfo}
use Rattle.mh_grammar.specs.Names.{token_name, start_name, nonterminal_name}
use Rattle.mh_grammar.specs.Text.{Text}
use Rattle.mh_msgfile.specs.Lines.{is_blank, HasNoLineFeed, is_ignored_line}
use Rattle.mh_msgfile.specs.StartNames.{start_names, start_symbol_name as name_of_start}
use Rattle.mh_msgfile.specs.Sentences.{vocabulary_of, token_names, number_of, put_first, fields, has_items, runs, pieces, Tokens, tokens_of, IsSentence, only_word, colon_place, sentence_from, sentence_in}
use Rattle.bstr.specs.Text.{no_cr}
use Rattle.mh_msgfile.specs.FileTexts.{names_after, sentence_text, HasReadableNames}

-- ---- Runs of items that are no separators.

module _ {A : Type 0} (separates : A → Bool) where
  -- The list is empty or begins with a separator.
  abbrev pub BeginsWithSeparator : List A → Type 0
  BeginsWithSeparator [] = Unit {0}
  BeginsWithSeparator (x ∷ xs) = separates x ≡ true

  abbrev pub HasNoSeparator : List A → Type 0
  HasNoSeparator [] = Unit {0}
  HasNoSeparator (x ∷ xs) = (separates x ≡ false) × HasNoSeparator xs

  pub record Opens (xs : List A) : Type 0 where
    pub rest : List (List A)
    pub fields_are : fields separates xs ≡ [] ∷ rest

  opens : (xs : List A) → BeginsWithSeparator xs → Opens xs
  opens [] starts = record { rest = []; fields_are = refl }
  opens (x ∷ xs) starts = record { rest = fields separates xs; fields_are = rw starts refl }

  fields_plain : (w xs : List A) (rest : List (List A)) → HasNoSeparator w → fields separates xs ≡ [] ∷ rest → fields separates (w ++ xs) ≡ w ∷ rest
  fields_plain [] xs rest plain are = are
  fields_plain (x ∷ w) xs rest plain are = rw (plain.0) (ap (put_first x) (fields_plain w xs rest plain.1 are))

  -- A prefix without separators that a separator or the end follows is the first run.
  pub run_plain : (x : A) (w xs : List A) → HasNoSeparator (x ∷ w) → BeginsWithSeparator xs → runs separates ((x ∷ w) ++ xs) ≡ (x ∷ w) ∷ runs separates xs
  run_plain x w xs plain starts =
      let o = opens xs starts in
      ap (filter has_items) (fields_plain (x ∷ w) xs o.rest plain o.fields_are) ∙ ap (λ (l : List (List A)). (x ∷ w) ∷ l) (sym (ap (filter has_items) o.fields_are))

-- ---- Words.

pub not_byte : (b k : ℕ) → is_word_byte b ≡ true → is_word_byte k ≡ false → (b == k) ≡ false
not_byte b k is none = elim (cases_Bool (b == k)) [
  | inl same ↦ (let e : b ≡ k = eqb-true b k same in let word : is_word_byte k ≡ true = subst (λ (c : ℕ). is_word_byte c ≡ true) e is in absurd (cc))
  | inr other ↦ other
]

word_byte_plain : (b : ℕ) → is_word_byte b ≡ true → is_blank b ≡ false
word_byte_plain b is = rw (not_byte b 32 is refl, not_byte b 9 is refl, not_byte b 13 is refl) refl

pub word_byte_no_colon : (b : ℕ) → is_word_byte b ≡ true → (b == 58) ≡ false
word_byte_no_colon b is = not_byte b 58 is refl

bytes_plain : (w : Text) → list_all is_word_byte w ≡ true → HasNoSeparator is_blank w
bytes_plain [] is = tt
bytes_plain (b ∷ w) is = (word_byte_plain b (and_parts (is_word_byte b) (list_all is_word_byte w) is).0, bytes_plain w (and_parts (is_word_byte b) (list_all is_word_byte w) is).1)

no_colon : (w rest : Text) → list_all is_word_byte w ≡ true → colon_place (w ++ 58 ∷ rest) ≡ length w
no_colon [] rest is = refl
no_colon (b ∷ w) rest is =
    rw (word_byte_no_colon b (and_parts (is_word_byte b) (list_all is_word_byte w) is).0) (ap (λ (n : ℕ). n + 1) (no_colon w rest (and_parts (is_word_byte b) (list_all is_word_byte w) is).1) ∙ add-one (length w))

-- All bytes of a word are bytes of words.
pub word_bytes : (w : Text) → is_word w ≡ true → list_all is_word_byte w ≡ true
word_bytes [] is = refl
word_bytes (b ∷ w) is =
    let first = start_is_byte b (and_parts (is_word_start b) (list_all is_word_byte w) is).0 in
    let later = (and_parts (is_word_start b) (list_all is_word_byte w) is).1 in rw (first, later) refl

pub word_piece : (w rest : Text) → is_word w ≡ true → BeginsWithSeparator is_blank rest → pieces (w ++ rest) ≡ w ∷ pieces rest
word_piece [] rest is starts = absurd (cc)
word_piece (b ∷ w) rest is starts = run_plain is_blank b w rest (bytes_plain (b ∷ w) (word_bytes (b ∷ w) is)) starts

pub drop_past_colon : (w rest : Text) → drop (length w + 1) (w ++ 58 ∷ rest) ≡ rest
drop_past_colon [] rest = refl
drop_past_colon (b ∷ w) rest = ap (λ (k : ℕ). drop k (b ∷ (w ++ 58 ∷ rest))) (add-one (suc (length w))) ∙ sym (ap (λ (k : ℕ). drop k (w ++ 58 ∷ rest)) (add-one (length w))) ∙ drop_past_colon w rest

-- ---- The number of a name.

position_at : (names : List Text) (z i : ℕ) (name : Text) → slice_get names z ≡ Some name → ((y : ℕ) (other : Text) → y < z → slice_get names y ≡ Some other → bytes_eq name other ≡ false) → position_from (bytes_eq name) i names ≡ Some (i + z)
position_at [] z i name at before = cc
position_at (first ∷ names) zero i name at before =
    let same : first ≡ name = cc in
    let eq : bytes_eq name first ≡ true = (bytes_eq-Decides name first).1 (sym same) in rw eq (ap Some (omega arith))
position_at (first ∷ names) (suc z) i name at before =
    let ne : bytes_eq name first ≡ false = before 0 first (omega arith) refl in
    let on = position_at names z (i + 1) name at (λ y other lt is. before (suc y) other (omega arith) is) in
    let same : i + 1 + z ≡ i + suc z = omega arith in rw ne (on ∙ ap Some same)

other_name : (name other : Text) → (name ≡ other → ⊥) → bytes_eq name other ≡ false
other_name name other differ = elim (cases_Bool (bytes_eq name other)) [ inl is ↦ absurd (differ ((bytes_eq-Decides name other).0 is)) | inr ne ↦ ne ]

module _ (names : List Text) (name_at : ℕ → Text) (are : (y : ℕ) (name : Text) → slice_get names y ≡ Some name → name ≡ name_at y) (differ : (y z : ℕ) → y < length names → z < length names → name_at y ≡ name_at z → y ≡ z) where
  pub number_is : (z : ℕ) → z < length names → number_of names (name_at z) ≡ Some z
  number_is z lt =
      let at : slice_get names z ≡ Some (get_or names z []) = slice_get-get_or names z [] lt in
      let here : slice_get names z ≡ Some (name_at z) = at ∙ ap Some (are z (get_or names z []) at) in
      position_at names z 0 (name_at z) here (λ y other before is. other_name (name_at z) other (λ same.
      let one : z ≡ y = differ z y lt (slice_get_within names y other is) (same ∙ are y other is) in omega arith)) ∙ ap Some (omega arith)

-- ---- The names of a grammar.

module _ (g : Grammar) where
  pub token_at : (y : ℕ) (name : Text) → slice_get (token_names g) y ≡ Some name → name ≡ token_name g y
  unfolding token_name
  token_at y name at = sym (ap (λ (o : Option Text). unwrap_or o []) (sym (slice_get-map (λ (t : TokenInfo). t.name) g.tokens y) ∙ at))

  nonterminal_at : (n : ℕ) → name_of_start g n ≡ nonterminal_name g n
  unfolding nonterminal_name
  nonterminal_at n = sym (unwrap_or-slice_get (map (λ (i : NontermInfo). i.name) g.nonterminals) n []) ∙ ap (λ (o : Option Text). unwrap_or o []) (slice_get-map (λ (i : NontermInfo). i.name) g.nonterminals n)

  start_on : (i : ℕ) (name : Text) (o : Option ℕ) → slice_get g.starts i ≡ o → option_map (name_of_start g) o ≡ Some name → name ≡ start_name g i
  unfolding start_name
  start_on i name None at is = cc
  start_on i name (Some n) at is = let here : name_of_start g n ≡ name = cc in rw at (sym here ∙ nonterminal_at n)

  start_at : (i : ℕ) (name : Text) → slice_get (start_names g) i ≡ Some name → name ≡ start_name g i
  start_at i name at = start_on i name (slice_get g.starts i) refl (sym (slice_get-map (name_of_start g) g.starts i) ∙ at)

  module _ (has : HasReadableNames g) where
    token_found : (z : ℕ) → z < length g.tokens → number_of (token_names g) (token_name g z) ≡ Some z
    token_found z lt =
        let count : length (token_names g) ≡ length g.tokens = length-map g.tokens (λ (t : TokenInfo). t.name) in
        number_is (token_names g) (token_name g) token_at (λ y x a b. has.tokens_differ y x (omega arith) (omega arith)) z (omega arith)

    pub start_found : (i : ℕ) → i < length g.starts → number_of (start_names g) (start_name g i) ≡ Some i
    start_found i lt =
        let count : length (start_names g) ≡ length g.starts = length-map g.starts (name_of_start g) in
        number_is (start_names g) (start_name g) start_at (λ y x a b. has.starts_differ y x (omega arith) (omega arith)) i (omega arith)

    -- ---- The pieces of the names of tokens.

    abbrev AreTokens : List ℕ → Type 0
    AreTokens tokens = AllByRecursion (λ z. z < length g.tokens) tokens

    abbrev named : List ℕ → List Text
    named tokens = map (token_name g) tokens

    names_start : (tokens : List ℕ) → BeginsWithSeparator is_blank (names_after g tokens)
    names_start [] = tt
    names_start (z ∷ tokens) = refl

    names_pieces : (tokens : List ℕ) → AreTokens tokens → pieces (names_after g tokens) ≡ named tokens
    names_pieces [] are = refl
    names_pieces (z ∷ tokens) are =
        word_piece (token_name g z) (names_after g tokens) (has.token_words z are.0) (names_start tokens) ∙ ap (λ (l : List Text). token_name g z ∷ l) (names_pieces tokens are.1)

    pub all_words : (tokens : List ℕ) → AreTokens tokens → list_all is_word (named tokens) ≡ true
    all_words [] are = refl
    all_words (z ∷ tokens) are = rw (has.token_words z are.0) (all_words tokens are.1)

    pub tokens_found : (tokens : List ℕ) → AreTokens tokens → tokens_of (vocabulary_of g) (named tokens) ≡ Tokens tokens
    tokens_found [] are = refl
    tokens_found (z ∷ tokens) are = rw (token_found z are.0, tokens_found tokens are.1) refl

    -- ---- The canonical line.

    named_from : (i : ℕ) (tokens : List ℕ) → i < length g.starts → AreTokens tokens → sentence_from (vocabulary_of g) (Some (start_name g i)) (names_after g tokens) ≡ IsSentence (record { start = i; tokens = tokens })
    named_from i tokens lt are = rw (names_pieces tokens are, all_words tokens are, start_found i lt, tokens_found tokens are) refl

    word_alone : (w : Text) → is_word w ≡ true → only_word (pieces w) ≡ Some w
    word_alone w is =
        let one : pieces w ≡ w ∷ [] = ap pieces (sym (append-nil w)) ∙ word_piece w [] is tt in rw (one, is) refl

    pub canonical_line : (i : ℕ) (tokens : List ℕ) → i < length g.starts → AreTokens tokens → sentence_in (vocabulary_of g) (sentence_text g i tokens) ≡ IsSentence (record { start = i; tokens = tokens })
    canonical_line i tokens lt are =
        let name = start_name g i in
        let line = sentence_text g i tokens in
        let word = has.start_words i lt in
        let colon : colon_place line ≡ length name = no_colon name (names_after g tokens) (word_bytes name word) in
        let within : nat_lt (colon_place line) (length line) ≡ true = rw colon (grind (arith, nat_tests, length-append name (58 ∷ names_after g tokens))) in
        let front : take (colon_place line) line ≡ name = ap (λ (k : ℕ). take k line) colon ∙ take-append_seam name (58 ∷ names_after g tokens) in
        let back : drop (colon_place line + 1) line ≡ names_after g tokens = ap (λ (k : ℕ). drop (k + 1) line) colon ∙ drop_past_colon name (names_after g tokens) in
        let start : only_word (pieces (take (colon_place line) line)) ≡ Some name = ap (λ (t : Text). only_word (pieces t)) front ∙ word_alone name word in
        rw (within, start, back) (named_from i tokens lt are)

    -- ---- The bytes of a canonical line.

    abbrev IsPlainByte : ℕ → Type 0
    IsPlainByte b = (b ≢ 10) × (b ≢ 13)

    word_plain : (w rest : Text) → list_all is_word_byte w ≡ true → AllByRecursion IsPlainByte rest → AllByRecursion IsPlainByte (w ++ rest)
    word_plain [] rest is all = all
    word_plain (b ∷ w) rest is all =
        let here = (and_parts (is_word_byte b) (list_all is_word_byte w) is).0 in
        ((eqb-false b 10 (not_byte b 10 here refl), eqb-false b 13 (not_byte b 13 here refl)), word_plain w rest (and_parts (is_word_byte b) (list_all is_word_byte w) is).1 all)

    known_plain : (k : ℕ) → (k == 10) ≡ false → (k == 13) ≡ false → IsPlainByte k
    known_plain k a b = (eqb-false k 10 a, eqb-false k 13 b)

    names_plain : (tokens : List ℕ) → AreTokens tokens → AllByRecursion IsPlainByte (names_after g tokens)
    names_plain [] are = tt
    names_plain (z ∷ tokens) are = (known_plain 32 refl refl, word_plain (token_name g z) (names_after g tokens) (word_bytes (token_name g z) (has.token_words z are.0)) (names_plain tokens are.1))

    line_plain : (i : ℕ) (tokens : List ℕ) → i < length g.starts → AreTokens tokens → AllByRecursion IsPlainByte (sentence_text g i tokens)
    line_plain i tokens lt are = word_plain (start_name g i) (58 ∷ names_after g tokens) (word_bytes (start_name g i) (has.start_words i lt)) (known_plain 58 refl refl, names_plain tokens are)

    plain_no_end : (line : Text) → AllByRecursion IsPlainByte line → HasNoLineFeed line
    plain_no_end [] all k d lt = absurd (omega arith)
    plain_no_end (b ∷ line) all zero d lt = all.0.0
    plain_no_end (b ∷ line) all (suc k) d lt = plain_no_end line all.1 k d (omega arith)

    plain_last : (line : Text) → AllByRecursion IsPlainByte line → (nat_lt 0 (length line) && slice_index line (length line - 1) == 13) ≡ false
    plain_last [] all = refl
    plain_last (b ∷ line) all =
        let at : IsPlainByte (slice_index (b ∷ line) (length (b ∷ line) - 1)) = All-from_recursion IsPlainByte (b ∷ line) all (length (b ∷ line) - 1) 0 (omega arith) in
        let some : nat_lt 0 (length (b ∷ line)) ≡ true = grind (arith, nat_tests) in
        let other : (slice_index (b ∷ line) (length (b ∷ line) - 1) == 13) ≡ false = ne_eqb _ 13 at.1 in rw (some, other) refl

    plain_no_cr : (line : Text) → AllByRecursion IsPlainByte line → no_cr line ≡ line
    plain_no_cr line all = cond-false _ _ _ (plain_last line all)

    first_of_word : (w rest : Text) → is_word w ≡ true → (is_ignored_line (w ++ rest) ≡ false) × (list_all is_blank (w ++ rest) ≡ false)
    first_of_word [] rest is = absurd (cc)
    first_of_word (b ∷ w) rest is =
        let byte = start_is_byte b (and_parts (is_word_start b) (list_all is_word_byte w) is).0 in
        (not_byte b 35 byte refl, rw (word_byte_plain b byte) refl)

    pub record LineBegins (line : Text) : Type 0 where
      pub no_end : HasNoLineFeed line
      pub whole : no_cr line ≡ line
      pub kept : is_ignored_line line ≡ false
      pub some : list_all is_blank line ≡ false

    pub line_begins : (i : ℕ) (tokens : List ℕ) → i < length g.starts → AreTokens tokens → LineBegins (sentence_text g i tokens)
    line_begins i tokens lt are =
        let plain = line_plain i tokens lt are in
        let first = first_of_word (start_name g i) (58 ∷ names_after g tokens) (has.start_words i lt) in
        record { no_end = plain_no_end (sentence_text g i tokens) plain; whole = plain_no_cr (sentence_text g i tokens) plain; kept = first.0; some = first.1 }
