-- Proves that the text that `print_messages` writes is read as a file with the same sentences and messages.
use Rattle.std.proofs.Common.{◌≡◌, ◌<◌, ◌+◌, ◌-◌, ℕ, zero, suc, Bool, true, false, not, List, [], ◌∷◌, ◌++◌, length, map, drop, filter, flat_map, refl, sym, ◌∙◌, ap, subst, if◌then◌else◌, arith, append_assoc, add-one}
use Rattle.std.specs.Prelude.{slice_index_or}
use Rattle.std.specs.List.{list_all, AllByRecursion, Contains}
use Rattle.std.proofs.lemmas.List.{map-append}
use Rattle.std.proofs.lemmas.Grind.{flat_map-append}
use Rattle.mh_grammar.specs.declared.types.Grammar.{Grammar}
use Rattle.mh_grammar.proofs.Lists.{contains_here, contains_there, nil_parts, recursion-append}
use Rattle.mh_grammar.specs.Text.{Text}
use Rattle.mh_msgfile.specs.Lines.{is_blank, HasNoLineFeed, AreLines, line_at, is_ignored_line, is_kept}
use Rattle.mh_msgfile.specs.Sentences.{vocabulary_of, put_first, fields, has_items, runs, LineResult, IsSentence, IsUnreadable, NamesNoStart, LacksStart, NamesUnknown, sentence_in}
use Rattle.mh_msgfile.specs.Messages.{numbers_from, kept_lines, blocks, message_of, BadShape, fault_at, sentence_at, faults_of, sentences_of, first_number, faults_in, entries_in, MsgSpells}
use Rattle.mh_msgfile.specs.FileTexts.{sentence_text, sentence_line, sentence_lines, entry_text, file_text, HasReadableNames, content_of, entry_content, HaveSameContent, HasNoCr}
use Rattle.mh_msgfile.specs.declared.messages.MsgSentence.{MsgSentence}
use Rattle.mh_msgfile.specs.declared.messages.Entry.{Entry}
use Rattle.mh_msgfile.specs.declared.messages.MsgFile.{MsgFile}
use Rattle.mh_msgfile.proofs.SentenceBounds.{sentence_start, sentence_tokens}
use Rattle.mh_msgfile.proofs.LineEnds.{with_ends, IsReadUnchanged, lines_end, lines_of_with_ends, no_cr-unchanged}
use Rattle.mh_msgfile.proofs.Runs.{run_none}
use Rattle.mh_msgfile.proofs.CanonicalLine.{HasNoSeparator, run_plain, canonical_line, line_begins}

-- ---- Blocks as lists of texts instead of line numbers.

abbrev pub texts_of : List Text → List ℕ → List Text
texts_of lines block = map (line_at lines) block

abbrev pub blank_text : Text → Bool
blank_text line = list_all is_blank line

abbrev pub is_kept_text : Text → Bool
is_kept_text line = not (is_ignored_line line)

pub filter_on : {A : Type 0} (q : A → Bool) (x : A) (xs : List A) (c : Bool) → q x ≡ c → filter q (x ∷ xs) ≡ (if c then x ∷ filter q xs else filter q xs)
filter_on q x xs true is = rw is refl
filter_on q x xs false is = rw is refl

map_if : {A B : Type 0} (f : A → B) (x : A) (xs : List A) (c : Bool) → map f (if c then x ∷ xs else xs) ≡ (if c then f x ∷ map f xs else map f xs)
map_if f x xs true = refl
map_if f x xs false = refl

map_filter : {A B : Type 0} (f : A → B) (q : A → Bool) (r : B → Bool) → ((x : A) → r (f x) ≡ q x) → (xs : List A) → map f (filter q xs) ≡ filter r (map f xs)
map_filter f q r same [] = refl
map_filter f q r same (x ∷ xs) =
    ap (map f) (filter_on q x xs (q x) refl) ∙ map_if f x (filter q xs) (q x) ∙ ap (λ l. if q x then f x ∷ l else l) (map_filter f q r same xs)
    ∙ sym (filter_on r (f x) (map f xs) (q x) (same x))

map_put : {A B : Type 0} (f : A → B) (x : A) (ls : List (List A)) → map (map f) (put_first x ls) ≡ put_first (f x) (map (map f) ls)
map_put f x [] = refl
map_put f x (l ∷ ls) = refl

module _ {A B : Type 0} (f : A → B) (p : B → Bool) where
  fields_on : (x : A) (xs : List A) (c : Bool) → p (f x) ≡ c → map (map f) (fields (λ y. p (f y)) xs) ≡ fields p (map f xs) → map (map f) (fields (λ y. p (f y)) (x ∷ xs)) ≡ fields p (map f (x ∷ xs))
  fields_on x xs true is on = rw is (ap (λ (l : List (List B)). [] ∷ l) on)
  fields_on x xs false is on = rw is (map_put f x (fields (λ y. p (f y)) xs) ∙ ap (put_first (f x)) on)

  map_fields : (xs : List A) → map (map f) (fields (λ y. p (f y)) xs) ≡ fields p (map f xs)
  map_fields [] = refl
  map_fields (x ∷ xs) = fields_on x xs (p (f x)) refl (map_fields xs)

  has_mapped : (l : List A) → has_items (map f l) ≡ has_items l
  has_mapped [] = refl
  has_mapped (x ∷ l) = refl

  map_runs : (xs : List A) → map (map f) (runs (λ y. p (f y)) xs) ≡ runs p (map f xs)
  map_runs xs = map_filter (map f) has_items has_items has_mapped (fields (λ y. p (f y)) xs) ∙ ap (filter has_items) (map_fields xs)

pub drop_parts : (lines : List Text) (k : ℕ) (x : Text) (xs : List Text) → drop k lines ≡ x ∷ xs → (slice_index_or lines k [] ≡ x) × (drop (suc k) lines ≡ xs)
drop_parts [] zero x xs is = cc
drop_parts [] (suc k) x xs is = cc
drop_parts (y ∷ lines) zero x xs is = ((cc), (cc))
drop_parts (y ∷ lines) (suc k) x xs is = drop_parts lines k x xs is

texts_from : (lines : List Text) (k : ℕ) (xs : List Text) → drop k lines ≡ xs → map (line_at lines) (numbers_from (k + 1) (length xs)) ≡ xs
texts_from lines k [] is = refl
texts_from lines k (x ∷ xs) is =
    let d = drop_parts lines k x xs is in
    let place : k + 1 - 1 ≡ k = omega arith in
    let head : line_at lines (k + 1) ≡ x = ap (λ (n : ℕ). slice_index_or lines n []) place ∙ d.0 in
    let next : drop (k + 1) lines ≡ xs = ap (λ (n : ℕ). drop n lines) (add-one k) ∙ d.1 in
    let tail : map (line_at lines) (numbers_from (k + 1 + 1) (length xs)) ≡ xs = texts_from lines (k + 1) xs next in λ i. head i ∷ tail i

pub texts_of_blocks : (lines : List Text) → map (texts_of lines) (blocks lines) ≡ runs blank_text (filter is_kept_text lines)
texts_of_blocks lines =
    map_runs (line_at lines) blank_text (kept_lines lines)
    ∙ ap (runs blank_text) (map_filter (line_at lines) (is_kept lines) is_kept_text (λ n. refl) (numbers_from 1 (length lines)) ∙ ap (filter is_kept_text) (texts_from lines 0 lines refl))

-- ---- Properties of all items of a run.

all_filter_on : {A : Type 0} (P : A → Type 0) (q : A → Bool) (x : A) (xs : List A) (c : Bool) → q x ≡ c → P x → AllByRecursion (λ y. P y × (q y ≡ true)) (filter q xs) → AllByRecursion (λ y. P y × (q y ≡ true)) (filter q (x ∷ xs))
all_filter_on P q x xs true is here all = rw is ((here, is), all)
all_filter_on P q x xs false is here all = rw is all

pub all_filter : {A : Type 0} (P : A → Type 0) (q : A → Bool) (xs : List A) → AllByRecursion P xs → AllByRecursion (λ y. P y × (q y ≡ true)) (filter q xs)
all_filter P q [] all = tt
all_filter P q (x ∷ xs) all = all_filter_on P q x xs (q x) refl all.0 (all_filter P q xs all.1)

module _ {A : Type 0} (p : A → Bool) (P : A → Type 0) where
  abbrev IsRun : List A → Type 0
  IsRun run = AllByRecursion (λ x. P x × (p x ≡ false)) run

  put_run : (x : A) (ls : List (List A)) → P x × (p x ≡ false) → AllByRecursion IsRun ls → AllByRecursion IsRun (put_first x ls)
  put_run x [] here all = ((here, tt), tt)
  put_run x (l ∷ ls) here all = ((here, all.0), all.1)

  run_fields_on : (x : A) (xs : List A) (c : Bool) → p x ≡ c → P x → AllByRecursion IsRun (fields p xs) → AllByRecursion IsRun (fields p (x ∷ xs))
  run_fields_on x xs true is here all = rw is (tt, all)
  run_fields_on x xs false is here all = rw is (put_run x (fields p xs) (here, is) all)

  run_fields : (xs : List A) → AllByRecursion P xs → AllByRecursion IsRun (fields p xs)
  run_fields [] all = (tt, tt)
  run_fields (x ∷ xs) all = run_fields_on x xs (p x) refl all.0 (run_fields xs all.1)

  pub all_runs : (xs : List A) → AllByRecursion P xs → AllByRecursion (λ run. IsRun run × (has_items run ≡ true)) (runs p xs)
  all_runs xs all = all_filter IsRun has_items (fields p xs) (run_fields xs all)

-- ---- The contents of blocks, by the names of a grammar.

abbrev Content : Type 0
Content = List (ℕ × List ℕ) × Text

module _ (g : Grammar) where
  abbrev pub content_at : LineResult → List (ℕ × List ℕ)
  content_at (IsSentence s) = (s.start, s.tokens) ∷ []
  content_at IsUnreadable = []
  content_at (NamesNoStart name) = []
  content_at LacksStart = []
  content_at (NamesUnknown name) = []

  abbrev pub found_in : Text → LineResult
  found_in line = sentence_in (vocabulary_of g) line

  abbrev pub contents_of : List Text → List (ℕ × List ℕ)
  contents_of block = flat_map (λ line. content_at (found_in line)) block

  abbrev pub contents : List (List Text) → List Content
  contents [] = []
  contents (block ∷ []) = []
  contents (block ∷ message ∷ rest) = (contents_of block, with_ends message) ∷ contents rest

  abbrev pub IsGood : LineResult → Type 0
  IsGood (IsSentence s) = Unit {0}
  IsGood IsUnreadable = ⊥
  IsGood (NamesNoStart name) = ⊥
  IsGood LacksStart = ⊥
  IsGood (NamesUnknown name) = ⊥

  -- All lines of the block are sentences.
  abbrev pub AreGood : List Text → Type 0
  AreGood block = AllByRecursion (λ line. IsGood (found_in line)) block

  -- The blocks have no fault: each block of sentence lines has only sentences, and a message follows it.
  abbrev pub AreFaultless : List (List Text) → Type 0
  AreFaultless [] = Unit {0}
  AreFaultless (block ∷ []) = ⊥
  AreFaultless (block ∷ message ∷ rest) = AreGood block × AreFaultless rest

  -- The entries and faults of blocks depend only on the texts of the lines.
  module _ (lines : List Text) where
    content_one : (n : ℕ) (f : LineResult) → map content_of (sentence_at n f) ≡ content_at f
    content_one n (IsSentence s) = refl
    content_one n IsUnreadable = refl
    content_one n (NamesNoStart name) = refl
    content_one n LacksStart = refl
    content_one n (NamesUnknown name) = refl

    content_block : (block : List ℕ) → map content_of (sentences_of (vocabulary_of g) lines block) ≡ contents_of (texts_of lines block)
    content_block [] = refl
    content_block (n ∷ block) =
        map-append content_of (sentence_at n (found_in (line_at lines n))) (sentences_of (vocabulary_of g) lines block)
        ∙ ap (λ (l : List (ℕ × List ℕ)). l ++ map content_of (sentences_of (vocabulary_of g) lines block)) (content_one n (found_in (line_at lines n)))
        ∙ ap (λ (l : List (ℕ × List ℕ)). content_at (found_in (line_at lines n)) ++ l) (content_block block)

    pub message_block : (block : List ℕ) → message_of lines block ≡ with_ends (texts_of lines block)
    message_block [] = refl
    message_block (n ∷ block) = ap (λ (l : Text). (line_at lines n ++ 10 ∷ []) ++ l) (message_block block)

    pub content_entries : (bs : List (List ℕ)) → map entry_content (entries_in (vocabulary_of g) lines bs) ≡ contents (map (texts_of lines) bs)
    content_entries [] = refl
    content_entries (block ∷ []) = refl
    content_entries (block ∷ message ∷ rest) =
        let a = content_block block in let b = message_block message in let c = content_entries rest in λ i. (a i, b i) ∷ c i

    good_from : (n : ℕ) (f : LineResult) → fault_at n f ≡ [] → IsGood f
    good_from n (IsSentence s) is = tt
    good_from n IsUnreadable is = absurd (cc)
    good_from n (NamesNoStart name) is = absurd (cc)
    good_from n LacksStart is = absurd (cc)
    good_from n (NamesUnknown name) is = absurd (cc)

    good_to : (n : ℕ) (f : LineResult) → IsGood f → fault_at n f ≡ []
    good_to n (IsSentence s) is = refl
    good_to n IsUnreadable is = absurd is
    good_to n (NamesNoStart name) is = absurd is
    good_to n LacksStart is = absurd is
    good_to n (NamesUnknown name) is = absurd is

    block_good : (block : List ℕ) → faults_of (vocabulary_of g) lines block ≡ [] → AreGood (texts_of lines block)
    block_good [] is = tt
    block_good (n ∷ block) is =
        let both = nil_parts (fault_at n (found_in (line_at lines n))) (faults_of (vocabulary_of g) lines block) is in
        (good_from n (found_in (line_at lines n)) both.0, block_good block both.1)

    good_block : (block : List ℕ) → AreGood (texts_of lines block) → faults_of (vocabulary_of g) lines block ≡ []
    good_block [] all = refl
    good_block (n ∷ block) all = rw (good_to n (found_in (line_at lines n)) all.0) (good_block block all.1)

    pub right_from : (bs : List (List ℕ)) → faults_in (vocabulary_of g) lines bs ≡ [] → AreFaultless (map (texts_of lines) bs)
    right_from [] is = tt
    right_from (block ∷ []) is = absurd (let both = nil_parts (faults_of (vocabulary_of g) lines block) (BadShape (first_number block) ∷ []) is in let no = both.1 in cc)
    right_from (block ∷ message ∷ rest) is =
        let both = nil_parts (faults_of (vocabulary_of g) lines block) (faults_in (vocabulary_of g) lines rest) is in (block_good block both.0, right_from rest both.1)

    pub right_to : (bs : List (List ℕ)) → AreFaultless (map (texts_of lines) bs) → faults_in (vocabulary_of g) lines bs ≡ []
    right_to [] right = refl
    right_to (block ∷ []) right = absurd right
    right_to (block ∷ message ∷ rest) right = rw (good_block block right.0) (right_to rest right.1)

  -- ---- The lines of the printed text.

  abbrev pub canonical : ℕ × List ℕ → Text
  canonical c = sentence_text g c.0 c.1

  abbrev printed : List (List Text) → List Text
  printed [] = []
  printed (block ∷ []) = []
  printed (block ∷ message ∷ rest) = map canonical (contents_of block) ++ [] ∷ (message ++ [] ∷ printed rest)

  sentences_printed : (xs : List MsgSentence) → with_ends (map canonical (map content_of xs)) ≡ sentence_lines g xs
  sentences_printed [] = refl
  sentences_printed (x ∷ xs) = ap (λ (l : Text). sentence_line g x ++ l) (sentences_printed xs)

  regroup : (a m r : Text) → (((a ++ 10 ∷ []) ++ m) ++ 10 ∷ []) ++ r ≡ a ++ (10 ∷ (m ++ (10 ∷ r)))
  regroup a m r = simp append_assoc

  entry_printed : (e : Entry) (block message : List Text) (rest : List Text) (r : Text) → map content_of e.sentences ≡ contents_of block → e.message ≡ with_ends message → r ≡ with_ends rest
      → entry_text g e ++ r ≡ with_ends (map canonical (contents_of block) ++ [] ∷ (message ++ [] ∷ rest))
  entry_printed e block message rest r sentences text is =
      let a : sentence_lines g e.sentences ≡ with_ends (map canonical (contents_of block)) = sym (sentences_printed e.sentences) ∙ ap (λ (cs : List (ℕ × List ℕ)). with_ends (map canonical cs)) sentences in
      let tail : with_ends (message ++ [] ∷ rest) ≡ e.message ++ (10 ∷ r) = flat_map-append (λ (line : Text). line ++ 10 ∷ []) message ([] ∷ rest) ∙ (rw (text, is) refl) in
      regroup (sentence_lines g e.sentences) e.message r ∙ ap (λ (t : Text). sentence_lines g e.sentences ++ (10 ∷ t)) (sym tail) ∙ ap (λ (t : Text). t ++ (10 ∷ with_ends (message ++ [] ∷ rest))) a
      ∙ sym (flat_map-append (λ (line : Text). line ++ 10 ∷ []) (map canonical (contents_of block)) ([] ∷ (message ++ [] ∷ rest)))

  text_printed : (es : List Entry) (bs : List (List Text)) → map entry_content es ≡ contents bs → flat_map (entry_text g) es ≡ with_ends (printed bs)
  text_printed [] [] is = refl
  text_printed [] (block ∷ []) is = refl
  text_printed [] (block ∷ message ∷ rest) is = absurd (cc)
  text_printed (e ∷ es) [] is = absurd (cc)
  text_printed (e ∷ es) (block ∷ []) is = absurd (cc)
  text_printed (e ∷ es) (block ∷ message ∷ rest) is =
      let sentences : map content_of e.sentences ≡ contents_of block = ap (λ (l : List Content). first_sentences l) is in
      let text : e.message ≡ with_ends message = ap (λ (l : List Content). first_message l) is in
      let later : map entry_content es ≡ contents rest = ap (λ (l : List Content). drop 1 l) is in
      entry_printed e block message (printed rest) (flat_map (entry_text g) es) sentences text (text_printed es rest later)
    where
      first_sentences : List Content → List (ℕ × List ℕ)
      first_sentences [] = []
      first_sentences (c ∷ cs) = c.0

      first_message : List Content → Text
      first_message [] = []
      first_message (c ∷ cs) = c.1

  -- ---- The printed sentences are read as the same sentences.

  abbrev pub IsKnown : ℕ × List ℕ → Type 0
  IsKnown c = (c.0 < length g.starts) × AllByRecursion (λ z. z < length g.tokens) c.1

  known_one : (line : Text) (f : LineResult) → found_in line ≡ f → AllByRecursion IsKnown (content_at f)
  known_one line (IsSentence s) is = ((sentence_start g line s is, sentence_tokens g line s is), tt)
  known_one line IsUnreadable is = tt
  known_one line (NamesNoStart name) is = tt
  known_one line LacksStart is = tt
  known_one line (NamesUnknown name) is = tt

  known_block : (block : List Text) → AllByRecursion IsKnown (contents_of block)
  known_block [] = tt
  known_block (line ∷ block) = recursion-append IsKnown (content_at (found_in line)) (contents_of block) (known_one line (found_in line) refl) (known_block block)

  content_some : (f : LineResult) (more : List (ℕ × List ℕ)) → IsGood f → has_items (content_at f ++ more) ≡ true
  content_some (IsSentence s) more good = refl
  content_some IsUnreadable more good = absurd good
  content_some (NamesNoStart name) more good = absurd good
  content_some LacksStart more good = absurd good
  content_some (NamesUnknown name) more good = absurd good

  contents_some : (block : List Text) → has_items block ≡ true → AreGood block → has_items (contents_of block) ≡ true
  contents_some [] some good = absurd (cc)
  contents_some (line ∷ block) some good = content_some (found_in line) (contents_of block) good.0

  pub some_mapped : (cs : List (ℕ × List ℕ)) → has_items cs ≡ true → has_items (map canonical cs) ≡ true
  some_mapped [] some = some
  some_mapped (c ∷ cs) some = refl

  abbrev pub IsLine : Text → Type 0
  IsLine line = IsReadUnchanged line × (is_kept_text line ≡ true)

  module _ (has : HasReadableNames g) where
    pub read_back : (cs : List (ℕ × List ℕ)) → AllByRecursion IsKnown cs → contents_of (map canonical cs) ≡ cs
    read_back [] all = refl
    read_back (c ∷ cs) all = rw (canonical_line g has c.0 c.1 all.0.0 all.0.1) (ap (λ (l : List (ℕ × List ℕ)). c ∷ l) (read_back cs all.1))

    pub good_back : (cs : List (ℕ × List ℕ)) → AllByRecursion IsKnown cs → AreGood (map canonical cs)
    good_back [] all = tt
    good_back (c ∷ cs) all = (subst IsGood (sym (canonical_line g has c.0 c.1 all.0.0 all.0.1)) tt, good_back cs all.1)

    lines_back : (cs : List (ℕ × List ℕ)) → AllByRecursion IsKnown cs → AllByRecursion IsLine (map canonical cs)
    lines_back [] all = tt
    lines_back (c ∷ cs) all =
        let is = line_begins g has c.0 c.1 all.0.0 all.0.1 in (((is.no_end, is.whole), ap not is.kept), lines_back cs all.1)

    pub plain_back : (cs : List (ℕ × List ℕ)) → AllByRecursion IsKnown cs → HasNoSeparator blank_text (map canonical cs)
    plain_back [] all = tt
    plain_back (c ∷ cs) all = ((line_begins g has c.0 c.1 all.0.0 all.0.1).some, plain_back cs all.1)

    abbrev blocks_printed : List (List Text) → List (List Text)
    blocks_printed [] = []
    blocks_printed (block ∷ []) = []
    blocks_printed (block ∷ message ∷ rest) = map canonical (contents_of block) ∷ message ∷ blocks_printed rest

    contents_back : (bs : List (List Text)) → contents (blocks_printed bs) ≡ contents bs
    contents_back [] = refl
    contents_back (block ∷ []) = refl
    contents_back (block ∷ message ∷ rest) =
        let a = read_back (contents_of block) (known_block block) in let b = contents_back rest in λ i. (a i, with_ends message) ∷ b i

    right_back : (bs : List (List Text)) → AreFaultless bs → AreFaultless (blocks_printed bs)
    right_back [] right = tt
    right_back (block ∷ []) right = tt
    right_back (block ∷ message ∷ rest) right = (good_back (contents_of block) (known_block block), right_back rest right.1)

    -- ---- The blocks of the printed text.

    pub record CanBePrinted (block message : List Text) : Type 0 where
      pub some : has_items block ≡ true
      pub some_message : has_items message ≡ true
      pub lines : AllByRecursion IsLine message
      pub plain : HasNoSeparator blank_text message

    abbrev Fit : List (List Text) → Type 0
    Fit [] = Unit {0}
    Fit (block ∷ []) = Unit {0}
    Fit (block ∷ message ∷ rest) = CanBePrinted block message × Fit rest

    pub two_runs : (xs ys rest : List Text) → has_items xs ≡ true → HasNoSeparator blank_text xs → has_items ys ≡ true → HasNoSeparator blank_text ys → runs blank_text (xs ++ [] ∷ (ys ++ [] ∷ rest)) ≡ xs ∷ ys ∷ runs blank_text rest
    two_runs [] ys rest some plain more plain' = absurd (cc)
    two_runs (x ∷ xs) [] rest some plain more plain' = absurd (cc)
    two_runs (x ∷ xs) (y ∷ ys) rest some plain more plain' =
        run_plain blank_text x xs ([] ∷ ((y ∷ ys) ++ [] ∷ rest)) plain refl
        ∙ ap (λ (l : List (List Text)). (x ∷ xs) ∷ l)
        (run_none blank_text [] ((y ∷ ys) ++ [] ∷ rest) refl ∙ run_plain blank_text y ys ([] ∷ rest) plain' refl ∙ ap (λ (l : List (List Text)). (y ∷ ys) ∷ l) (run_none blank_text [] rest refl))

    runs_printed : (bs : List (List Text)) → AreFaultless bs → Fit bs → runs blank_text (printed bs) ≡ blocks_printed bs
    runs_printed [] right fit = refl
    runs_printed (block ∷ []) right fit = refl
    runs_printed (block ∷ message ∷ rest) right fit =
        let cs = contents_of block in
        two_runs (map canonical cs) message (printed rest) (some_mapped cs (contents_some block fit.0.some right.0)) (plain_back cs (known_block block)) fit.0.some_message fit.0.plain
        ∙ ap (λ (l : List (List Text)). map canonical cs ∷ message ∷ l) (runs_printed rest right.1 fit.1)

    empty_line : IsLine []
    empty_line = (((λ k d lt. absurd (omega arith)), refl), refl)

    lines_printed : (bs : List (List Text)) → Fit bs → AllByRecursion IsLine (printed bs)
    lines_printed [] fit = tt
    lines_printed (block ∷ []) fit = tt
    lines_printed (block ∷ message ∷ rest) fit =
        recursion-append IsLine (map canonical (contents_of block)) ([] ∷ (message ++ [] ∷ printed rest)) (lines_back (contents_of block) (known_block block))
        (empty_line, recursion-append IsLine message ([] ∷ printed rest) fit.0.lines (empty_line, lines_printed rest fit.1))

    pub all_unchanged : (lines : List Text) → AllByRecursion IsLine lines → AllByRecursion IsReadUnchanged lines
    all_unchanged [] all = tt
    all_unchanged (line ∷ lines) all = (all.0.0, all_unchanged lines all.1)

    pub all_kept : (lines : List Text) → AllByRecursion IsLine lines → filter is_kept_text lines ≡ lines
    all_kept [] all = refl
    all_kept (line ∷ lines) all = rw (all.0.1) (ap (λ (l : List Text). line ∷ l) (all_kept lines all.1))

    -- ---- The blocks of a file can be printed and read again.

    -- The text has no CR LF.
    abbrev pub HasNoCrLf : Text → Type 0
    HasNoCrLf message = (front rest : Text) → message ≡ front ++ 13 ∷ 10 ∷ rest → ⊥

    -- A block of a file: at least one line; no line has an LF, is ignored or is blank.
    abbrev pub IsBlock : List Text → Type 0
    IsBlock run = AllByRecursion (λ line. (HasNoLineFeed line × (is_kept_text line ≡ true)) × (blank_text line ≡ false)) run × (has_items run ≡ true)

    pub message_lines : (lines : List Text) (before : Text) → ((front rest : Text) → before ++ with_ends lines ≡ front ++ 13 ∷ 10 ∷ rest → ⊥) → AllByRecursion (λ line. (HasNoLineFeed line × (is_kept_text line ≡ true)) × (blank_text line ≡ false)) lines → AllByRecursion IsLine lines
    message_lines [] before free all = tt
    message_lines (line ∷ lines) before free all = (
      ((all.0.0.0, no_cr-unchanged line _ refl (λ front is. free (before ++ front) (with_ends lines) (here front is))), all.0.0.1),
      message_lines lines (before ++ (line ++ 10 ∷ [])) (λ front rest is. free front rest (sym (append_assoc before (line ++ 10 ∷ []) (with_ends lines)) ∙ is)) all.1,
    )
      where
        here : (front : Text) → line ≡ front ++ 13 ∷ [] → before ++ with_ends (line ∷ lines) ≡ (before ++ front) ++ 13 ∷ 10 ∷ with_ends lines
        here front is = rw is (simp append_assoc)

    pub plain_lines : (lines : List Text) → AllByRecursion (λ line. (HasNoLineFeed line × (is_kept_text line ≡ true)) × (blank_text line ≡ false)) lines → HasNoSeparator blank_text lines
    plain_lines [] all = tt
    plain_lines (line ∷ lines) all = (all.0.1, plain_lines lines all.1)

    fit_from : (es : List Entry) (bs : List (List Text)) → map entry_content es ≡ contents bs → ((e : Entry) → Contains es e → HasNoCrLf e.message) → AllByRecursion IsBlock bs → Fit bs
    fit_from es [] is free all = tt
    fit_from es (block ∷ []) is free all = tt
    fit_from [] (block ∷ message ∷ rest) is free all = absurd (cc)
    fit_from (e ∷ es) (block ∷ message ∷ rest) is free all =
        let text : e.message ≡ with_ends message = ap (λ (l : List Content). first_message l) is in
        let later : map entry_content es ≡ contents rest = ap (λ (l : List Content). drop 1 l) is in
        let here : HasNoCrLf (with_ends message) = subst HasNoCrLf text (free e (contains_here e es)) in (
          record {
            some = all.0.1;
            some_message = all.1.0.1;
            lines = message_lines message [] here all.1.0.0;
            plain = plain_lines message all.1.0.0;
          },
          fit_from es rest later (λ f c. free f (contains_there e es f c)) all.1.1,
        )
      where
        first_message : List Content → Text
        first_message [] = []
        first_message (c ∷ cs) = c.1

    -- ---- The whole file.

    pub printed_again : (bytes : Text) (file : MsgFile) → MsgSpells g bytes file → HasNoCr file → (again : MsgFile) × MsgSpells g (file_text g file) again × HaveSameContent file again
    printed_again bytes file spells free =
        let bs = map (texts_of file.lines) (blocks file.lines) in
        let same : map entry_content file.entries ≡ contents bs = ap (map entry_content) spells.entries ∙ content_entries file.lines (blocks file.lines) in
        let right : AreFaultless bs = right_from file.lines (blocks file.lines) spells.no_faults in
        let runs_are : bs ≡ runs blank_text (filter is_kept_text file.lines) = texts_of_blocks file.lines in
        let kept = all_filter HasNoLineFeed is_kept_text file.lines (lines_end bytes file.lines spells.lines) in
        let are = all_runs blank_text (λ line. HasNoLineFeed line × (is_kept_text line ≡ true)) (filter is_kept_text file.lines) kept in
        let all : AllByRecursion IsBlock bs = subst (λ (l : List (List Text)). AllByRecursion IsBlock l) (sym runs_are) are in
        let fit = fit_from file.entries bs same free all in
        let lines = printed bs in
        let of_lines = lines_printed bs fit in
        let text : file_text g file ≡ with_ends lines = text_printed file.entries bs same in
        let blocks_are : map (texts_of lines) (blocks lines) ≡ blocks_printed bs = texts_of_blocks lines ∙ ap (runs blank_text) (all_kept lines of_lines) ∙ runs_printed bs right fit in (
          record { lines = lines; entries = entries_in (vocabulary_of g) lines (blocks lines) },
          record {
            lines = subst (λ (b : Text). AreLines b lines) (sym text) (lines_of_with_ends lines (all_unchanged lines of_lines));
            no_faults = right_to lines (blocks lines) (subst AreFaultless (sym blocks_are) (right_back bs right));
            entries = refl;
          },
          same ∙ sym (content_entries lines (blocks lines) ∙ ap contents blocks_are ∙ contents_back bs),
        )
