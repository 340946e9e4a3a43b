-- Proves that the sentences of a messages file are those found by reading the file line by line.
use Rattle.std.proofs.Common.{◌≡◌, ℕ, ◌+◌, ◌-◌, Bool, true, false, not, List, [], ◌∷◌, ◌++◌, length, map, drop, flat_map, filter, refl, sym, ◌∙◌, ap, if◌then◌else◌, arith, add-one, append-nil}
use Rattle.std.specs.Prelude.{slice_index_or}
use Rattle.std.specs.List.{list_all}
use Rattle.std.proofs.lemmas.Grind.{flat_map-append}
use Rattle.mh_grammar.specs.declared.types.Grammar.{Grammar}
use Rattle.mh_grammar.specs.Text.{Text}
use Rattle.mh_msgfile.specs.Lines.{is_blank, line_at, is_ignored_line, is_kept, is_blank_line}
use Rattle.mh_msgfile.specs.Sentences.{Vocabulary, vocabulary_of, put_first, fields, has_items, LineResult, IsSentence, IsUnreadable, NamesNoStart, LacksStart, NamesUnknown, sentence_in}
use Rattle.mh_msgfile.specs.Messages.{numbers_from, blocks, MessagesFault, BadShape, sentence_at, faults_of, sentences_of, first_number, faults_in, entries_in, MsgSpells}
use Rattle.mh_msgfile.proofs.PrintedAgain.{drop_parts, filter_on}
use Rattle.mh_msgfile.specs.declared.messages.MsgSentence.{MsgSentence}
use Rattle.mh_msgfile.specs.declared.messages.Entry.{Entry}
use Rattle.mh_msgfile.specs.declared.messages.MsgFile.{MsgFile}
use Rattle.mh_check.specs.Checks.{sentences_of as all_sentences}
use Rattle.mh_update.proofs.LineWalk.{LinePlace, Outside, Sentences, BeforeMessage, Message, MessagesLineKind, Blank, Words, kind_by, place_of_next_line, sentence_content, with_sentence, sentences}
use Rattle.mh_grammar.proofs.Lists.{nil_parts}

-- ---- Blocks that are alternately sentences and messages.

-- The items of the first, third, fifth and so on of these lists, joined.
abbrev odd : List (List ℕ) → List ℕ
odd [] = []
odd (block ∷ []) = block
odd (block ∷ message ∷ rest) = block ++ odd rest

-- The items of the second, fourth, sixth and so on of these lists, joined.
abbrev even : List (List ℕ) → List ℕ
even [] = []
even (message ∷ rest) = odd rest

odd_on : (block : List ℕ) (rest : List (List ℕ)) → odd (block ∷ rest) ≡ block ++ even rest
odd_on block [] = sym (append-nil block)
odd_on block (message ∷ rest) = refl

-- The numbers of the sentence lines in these blocks of line numbers, if the reader begins in this state: outside an
-- entry, among sentences, before the message, or in the message.
abbrev read : LinePlace → List (List ℕ) → List ℕ
read Outside fs = odd (filter has_items fs)
read Sentences [] = []
read Sentences (f ∷ fs) = f ++ even (filter has_items fs)
read BeforeMessage fs = even (filter has_items fs)
read Message [] = []
read Message (f ∷ fs) = odd (filter has_items fs)

read_blank : (place : LinePlace) (fs : List (List ℕ)) → read place ([] ∷ fs) ≡ read (place_of_next_line Blank place) fs
read_blank Outside fs = refl
read_blank Sentences fs = refl
read_blank BeforeMessage fs = refl
read_blank Message fs = refl

-- The number of a nonblank line, if a reader in this state takes the line for a sentence; else none.
abbrev number_at : LinePlace → ℕ → List ℕ
number_at Outside n = n ∷ []
number_at Sentences n = n ∷ []
number_at BeforeMessage n = []
number_at Message n = []

read_words : (place : LinePlace) (n : ℕ) (fs : List (List ℕ)) → read place (put_first n fs) ≡ number_at place n ++ read (place_of_next_line Words place) fs
read_words Outside n [] = refl
read_words Outside n (f ∷ fs) = odd_on (n ∷ f) (filter has_items fs)
read_words Sentences n [] = refl
read_words Sentences n (f ∷ fs) = refl
read_words BeforeMessage n [] = refl
read_words BeforeMessage n (f ∷ fs) = refl
read_words Message n [] = refl
read_words Message n (f ∷ fs) = refl

read_none : (place : LinePlace) → read place ([] ∷ []) ≡ []
read_none Outside = refl
read_none Sentences = refl
read_none BeforeMessage = refl
read_none Message = refl

-- ---- The lines after the first k.

record Line (lines : List Text) (k : ℕ) (x : Text) (xs : List Text) : Type 0 where
  line : line_at lines (k + 1) ≡ x
  rest : drop (k + 1) lines ≡ xs

line_of : (lines : List Text) (k : ℕ) (x : Text) (xs : List Text) → drop k lines ≡ x ∷ xs → Line lines k x xs
line_of lines k x xs is =
    let d = drop_parts lines k x xs is in
    let place : k + 1 - 1 ≡ k = omega arith in
    record { line = ap (λ (n : ℕ). slice_index_or lines n []) place ∙ d.0; rest = ap (λ (n : ℕ). drop n lines) (add-one k) ∙ d.1 }

module _ (lines : List Text) where
  -- The numbers of the lines after the first k that are not ignored.
  abbrev kept_from : ℕ → List Text → List ℕ
  kept_from k xs = filter (is_kept lines) (numbers_from (k + 1) (length xs))

  -- The texts of the kept line numbers are the texts of the lines that are not ignored.
  kept_texts_on : (k : ℕ) (x : Text) (xs : List Text) (c : Bool) → is_ignored_line x ≡ c → line_at lines (k + 1) ≡ x → map (line_at lines) (kept_from (k + 1) xs) ≡ filter (λ line. not (is_ignored_line line)) xs
      → map (line_at lines) (kept_from k (x ∷ xs)) ≡ filter (λ line. not (is_ignored_line line)) (x ∷ xs)
  kept_texts_on k x xs true is here more =
      let out : is_kept lines (k + 1) ≡ false = ap (λ (l : Text). not (is_ignored_line l)) here ∙ ap not is in
      ap (map (line_at lines)) (filter_on (is_kept lines) (k + 1) (numbers_from (k + 1 + 1) (length xs)) false out) ∙ more ∙ sym (rw is refl)
  kept_texts_on k x xs false is here more =
      let stays : is_kept lines (k + 1) ≡ true = ap (λ (l : Text). not (is_ignored_line l)) here ∙ ap not is in
      ap (map (line_at lines)) (filter_on (is_kept lines) (k + 1) (numbers_from (k + 1 + 1) (length xs)) true stays) ∙ (λ i. here i ∷ more i) ∙ sym (rw is refl)

  pub kept_texts : (k : ℕ) (xs : List Text) → drop k lines ≡ xs → map (line_at lines) (kept_from k xs) ≡ filter (λ line. not (is_ignored_line line)) xs
  kept_texts k [] is = refl
  kept_texts k (x ∷ xs) is = let l = line_of lines k x xs is in kept_texts_on k x xs (is_ignored_line x) refl l.line (kept_texts (k + 1) xs l.rest)

  module _ (v : Vocabulary) where
    abbrev found_at : ℕ → List MsgSentence
    found_at n = sentence_at n (sentence_in v (line_at lines n))

    abbrev fields_from : ℕ → List Text → List (List ℕ)
    fields_from k xs = fields (is_blank_line lines) (kept_from k xs)

    fields_on : (n : ℕ) (ns : List ℕ) (c : Bool) → is_blank_line lines n ≡ c → fields (is_blank_line lines) (n ∷ ns) ≡ (if c then [] ∷ fields (is_blank_line lines) ns else put_first n (fields (is_blank_line lines) ns))
    fields_on n ns true is = rw is refl
    fields_on n ns false is = rw is refl

    put_found : (n : ℕ) (f : LineResult) (xs : List MsgSentence) → sentence_at n f ++ xs ≡ with_sentence n (sentence_content Words Outside f) xs
    put_found n (IsSentence s) xs = refl
    put_found n IsUnreadable xs = refl
    put_found n (NamesNoStart name) xs = refl
    put_found n LacksStart xs = refl
    put_found n (NamesUnknown name) xs = refl

    words_at : (place : LinePlace) (n : ℕ) (ns : List ℕ) (xs : List MsgSentence) → flat_map found_at ns ≡ xs → flat_map found_at (number_at place n ++ ns) ≡ with_sentence n (sentence_content Words place (sentence_in v (line_at lines n))) xs
    words_at Outside n ns xs is = ap (λ (l : List MsgSentence). found_at n ++ l) is ∙ put_found n (sentence_in v (line_at lines n)) xs
    words_at Sentences n ns xs is = ap (λ (l : List MsgSentence). found_at n ++ l) is ∙ put_found n (sentence_in v (line_at lines n)) xs
    words_at BeforeMessage n ns xs is = is
    words_at Message n ns xs is = is

    -- For the lines after the first k, the definition by blocks gives the sentences that are found line by line.
    abbrev IsRead : LinePlace → ℕ → List Text → Type 0
    IsRead place k xs = flat_map found_at (read place (fields_from k xs)) ≡ sentences v place k xs

    abbrev sentences_by : MessagesLineKind → LinePlace → ℕ → Text → List Text → List MsgSentence
    sentences_by kind place k x xs = with_sentence (k + 1) (sentence_content kind place (sentence_in v x)) (sentences v (place_of_next_line kind place) (k + 1) xs)

    read_on : (place : LinePlace) (k : ℕ) (x : Text) (xs : List Text) (taken blank : Bool) → is_ignored_line x ≡ taken → list_all is_blank x ≡ blank → line_at lines (k + 1) ≡ x
        → ((p : LinePlace) → IsRead p (k + 1) xs) → flat_map found_at (read place (fields_from k (x ∷ xs))) ≡ sentences_by (kind_by taken blank) place k x xs
    read_on place k x xs true blank out is here more =
        let gone : is_kept lines (k + 1) ≡ false = ap (λ (l : Text). not (is_ignored_line l)) here ∙ ap not out in
        ap (λ (ns : List ℕ). flat_map found_at (read place (fields (is_blank_line lines) ns))) (filter_on (is_kept lines) (k + 1) (numbers_from (k + 1 + 1) (length xs)) false gone) ∙ more place
    read_on place k x xs false true out is here more =
        let stays : is_kept lines (k + 1) ≡ true = ap (λ (l : Text). not (is_ignored_line l)) here ∙ ap not out in
        let white : is_blank_line lines (k + 1) ≡ true = ap (list_all is_blank) here ∙ is in
        ap (λ (ns : List ℕ). flat_map found_at (read place (fields (is_blank_line lines) ns))) (filter_on (is_kept lines) (k + 1) (numbers_from (k + 1 + 1) (length xs)) true stays)
        ∙ ap (λ (fs : List (List ℕ)). flat_map found_at (read place fs)) (fields_on (k + 1) (kept_from (k + 1) xs) true white)
        ∙ ap (flat_map found_at) (read_blank place (fields_from (k + 1) xs)) ∙ more (place_of_next_line Blank place)
    read_on place k x xs false false out is here more =
        let stays : is_kept lines (k + 1) ≡ true = ap (λ (l : Text). not (is_ignored_line l)) here ∙ ap not out in
        let words : is_blank_line lines (k + 1) ≡ false = ap (list_all is_blank) here ∙ is in
        ap (λ (ns : List ℕ). flat_map found_at (read place (fields (is_blank_line lines) ns))) (filter_on (is_kept lines) (k + 1) (numbers_from (k + 1 + 1) (length xs)) true stays)
        ∙ ap (λ (fs : List (List ℕ)). flat_map found_at (read place fs)) (fields_on (k + 1) (kept_from (k + 1) xs) false words)
        ∙ ap (flat_map found_at) (read_words place (k + 1) (fields_from (k + 1) xs))
        ∙ words_at place (k + 1) (read (place_of_next_line Words place) (fields_from (k + 1) xs)) (sentences v (place_of_next_line Words place) (k + 1) xs) (more (place_of_next_line Words place))
        ∙ ap (λ (l : Text). with_sentence (k + 1) (sentence_content Words place (sentence_in v l)) (sentences v (place_of_next_line Words place) (k + 1) xs)) here

    all_read : (k : ℕ) (xs : List Text) → drop k lines ≡ xs → (place : LinePlace) → IsRead place k xs
    all_read k [] is place = ap (flat_map found_at) (read_none place)
    all_read k (x ∷ xs) is place = let l = line_of lines k x xs is in read_on place k x xs (is_ignored_line x) (list_all is_blank x) refl refl l.line (all_read (k + 1) xs l.rest)

    -- ---- Entries.

    none_left : (xs : List MessagesFault) (y : MessagesFault) → xs ++ y ∷ [] ≡ [] → ⊥
    none_left [] y is = cc
    none_left (x ∷ xs) y is = cc

    of_entries : (bs : List (List ℕ)) → faults_in v lines bs ≡ [] → flat_map (λ (e : Entry). e.sentences) (entries_in v lines bs) ≡ flat_map found_at (odd bs)
    of_entries [] right = refl
    of_entries (block ∷ []) right = absurd (none_left (faults_of v lines block) (BadShape (first_number block)) right)
    of_entries (block ∷ message ∷ rest) right =
        ap (λ (l : List MsgSentence). sentences_of v lines block ++ l) (of_entries rest (nil_parts (faults_of v lines block) (faults_in v lines rest) right).1) ∙ sym (flat_map-append found_at block (odd rest))

-- The sentences of the entries of a file are the sentences of its lines, in order.
pub sentences_are : (g : Grammar) (bytes : Text) (file : MsgFile) → MsgSpells g bytes file → all_sentences file ≡ sentences (vocabulary_of g) Outside 0 file.lines
sentences_are g bytes file spells =
    ap (flat_map (λ (e : Entry). e.sentences)) spells.entries ∙ of_entries file.lines (vocabulary_of g) (blocks file.lines) spells.no_faults ∙ all_read file.lines (vocabulary_of g) 0 file.lines refl Outside
