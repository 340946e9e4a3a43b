-- Proves that a file is read as the given entries if its lines, without the ignored ones, are the lines written for
-- these entries; and lemmas on the messages of a file.
use Rattle.std.proofs.Common.{◌≡◌, ℕ, Bool, true, false, List, [], ◌∷◌, ◌++◌, map, filter, Option, None, Some, refl, sym, ◌∙◌, ap, subst}
use Rattle.std.specs.List.{AllByRecursion, Contains}
use Rattle.mh_grammar.specs.declared.types.Grammar.{Grammar}
use Rattle.mh_grammar.specs.Text.{Text}
use Rattle.mh_grammar.proofs.Lists.{contains_here, contains_there}
use Rattle.mh_msgfile.specs.Sentences.{vocabulary_of, has_items, runs}
use Rattle.mh_msgfile.specs.Lines.{HasNoLineFeed, line_at}
use Rattle.mh_msgfile.specs.Messages.{blocks, message_of, entries_in, MsgSpells}
use Rattle.mh_msgfile.specs.LooseFiles.{loose_line, loose_entries, unpaired_block, LooseSpells}
use Rattle.mh_msgfile.specs.FileTexts.{HasReadableNames, entry_content}
use Rattle.mh_msgfile.specs.declared.messages.MsgFile.{MsgFile}
use Rattle.mh_msgfile.specs.declared.loose.LooseLine.{LooseLine}
use Rattle.mh_msgfile.specs.declared.loose.LooseEntry.{LooseEntry}
use Rattle.mh_msgfile.specs.declared.loose.LooseFile.{LooseFile}
use Rattle.mh_msgfile.proofs.CanonicalLine.{HasNoSeparator}
use Rattle.mh_msgfile.proofs.LineEnds.{with_ends, IsReadUnchanged, lines_end, lines_of_with_ends}
use Rattle.mh_msgfile.proofs.PrintedAgain.{texts_of, blank_text, is_kept_text, texts_of_blocks, all_filter, all_runs, AreFaultless, right_to, contents, content_entries, message_block, canonical, IsKnown, some_mapped, IsLine, read_back, good_back, plain_back, two_runs, IsBlock, HasNoCrLf, message_lines, plain_lines}

-- An entry that is to be written: its sentences, each a start with tokens, and the lines of its message.
pub record WrittenEntry : Type 0 where
  pub sentences : List (ℕ × List ℕ)
  pub message : List Text

abbrev pub written_content : WrittenEntry → List (ℕ × List ℕ) × Text
written_content w = (w.sentences, with_ends w.message)

abbrev pub line_text : LooseLine → Text
line_text x = x.text

abbrev pub loose_content : LooseEntry → List Text × Text
loose_content e = (map line_text e.sentences, e.message)

module _ (g : Grammar) (has : HasReadableNames g) where
  pub record IsGoodEntry (w : WrittenEntry) : Type 0 where
    pub some : has_items w.sentences ≡ true
    pub known : AllByRecursion (IsKnown g) w.sentences
    pub some_message : has_items w.message ≡ true
    pub lines : AllByRecursion (IsLine g) w.message
    pub plain : HasNoSeparator blank_text w.message

  -- The lines of entries: for each its canonical lines, an empty line, its message, and an empty line.
  abbrev pub entry_lines : List WrittenEntry → List Text
  entry_lines [] = []
  entry_lines (w ∷ ws) = map (canonical g) w.sentences ++ [] ∷ (w.message ++ [] ∷ entry_lines ws)

  abbrev entry_blocks : List WrittenEntry → List (List Text)
  entry_blocks [] = []
  entry_blocks (w ∷ ws) = map (canonical g) w.sentences ∷ w.message ∷ entry_blocks ws

  abbrev pub canonical_content : WrittenEntry → List Text × Text
  canonical_content w = (map (canonical g) w.sentences, with_ends w.message)

  runs_are : (ws : List WrittenEntry) → AllByRecursion IsGoodEntry ws → runs blank_text (entry_lines ws) ≡ entry_blocks ws
  runs_are [] all = refl
  runs_are (w ∷ ws) all =
      two_runs g has (map (canonical g) w.sentences) w.message (entry_lines ws) (some_mapped g w.sentences all.0.some) (plain_back g has w.sentences all.0.known) all.0.some_message all.0.plain
      ∙ ap (λ (l : List (List Text)). map (canonical g) w.sentences ∷ w.message ∷ l) (runs_are ws all.1)

  right_are : (ws : List WrittenEntry) → AllByRecursion IsGoodEntry ws → AreFaultless g (entry_blocks ws)
  right_are [] all = tt
  right_are (w ∷ ws) all = (good_back g has w.sentences all.0.known, right_are ws all.1)

  contents_are : (ws : List WrittenEntry) → AllByRecursion IsGoodEntry ws → contents g (entry_blocks ws) ≡ map written_content ws
  contents_are [] all = refl
  contents_are (w ∷ ws) all = let a = read_back g has w.sentences all.0.known in let b = contents_are ws all.1 in λ i. (a i, with_ends w.message) ∷ b i

  -- ---- Blocks without a grammar.

  abbrev pub pairs : List (List Text) → List (List Text × Text)
  pairs [] = []
  pairs (block ∷ []) = []
  pairs (block ∷ message ∷ rest) = (block, with_ends message) ∷ pairs rest

  pairs_are : (ws : List WrittenEntry) → pairs (entry_blocks ws) ≡ map canonical_content ws
  pairs_are [] = refl
  pairs_are (w ∷ ws) = ap (λ (l : List (List Text × Text)). canonical_content w ∷ l) (pairs_are ws)

  module _ (lines : List Text) where
    block_texts : (block : List ℕ) → map line_text (map (loose_line lines) block) ≡ texts_of lines block
    block_texts [] = refl
    block_texts (n ∷ block) = ap (λ (l : List Text). line_at lines n ∷ l) (block_texts block)

    pub loose_pairs : (bs : List (List ℕ)) → map loose_content (loose_entries lines bs) ≡ pairs (map (texts_of lines) bs)
    loose_pairs [] = refl
    loose_pairs (block ∷ []) = refl
    loose_pairs (block ∷ message ∷ rest) =
        let a = block_texts block in let b = message_block g lines message in let c = loose_pairs rest in λ i. (a i, b i) ∷ c i

    none_unpaired : (bs : List (List ℕ)) (ws : List WrittenEntry) → map (texts_of lines) bs ≡ entry_blocks ws → unpaired_block bs ≡ None
    none_unpaired [] ws is = refl
    none_unpaired (block ∷ []) [] is = absurd (cc)
    none_unpaired (block ∷ []) (w ∷ ws) is = absurd (cc)
    none_unpaired (block ∷ message ∷ rest) [] is = absurd (cc)
    none_unpaired (block ∷ message ∷ rest) (w ∷ ws) is = none_unpaired rest ws (cc)

  -- ---- Lines whose kept lines are those of entries.

  module _ (lines : List Text) (ws : List WrittenEntry) (good : AllByRecursion IsGoodEntry ws) (whole : AllByRecursion IsReadUnchanged lines) (kept : filter is_kept_text lines ≡ entry_lines ws) where
    blocks_are : map (texts_of lines) (blocks lines) ≡ entry_blocks ws
    blocks_are = texts_of_blocks lines ∙ ap (runs blank_text) kept ∙ runs_are ws good

    pub entries_spelled : (again : MsgFile) × MsgSpells g (with_ends lines) again × (map entry_content again.entries ≡ map written_content ws)
    entries_spelled = (
      record { lines = lines; entries = entries_in (vocabulary_of g) lines (blocks lines) },
      record {
        lines = lines_of_with_ends lines whole;
        no_faults = right_to g lines (blocks lines) (subst (AreFaultless g) (sym blocks_are) (right_are ws good));
        entries = refl;
      },
      content_entries g lines (blocks lines) ∙ ap (contents g) blocks_are ∙ contents_are ws good,
    )

    pub entries_loose : (loose : LooseFile) × LooseSpells (with_ends lines) loose × (map loose_content loose.entries ≡ map canonical_content ws)
    entries_loose = (
      record { entries = loose_entries lines (blocks lines) },
      record {
        lines = lines;
        are = lines_of_with_ends lines whole;
        paired = none_unpaired lines (blocks lines) ws blocks_are;
        entries = refl;
      },
      loose_pairs lines (blocks lines) ∙ ap pairs blocks_are ∙ pairs_are ws,
    )

  -- ---- The messages of a file.

  -- The message consists of lines that are neither blank nor ignored.
  pub record IsMessageText (message : Text) : Type 0 where
    pub lines : List Text
    pub is : message ≡ with_ends lines
    pub some : has_items lines ≡ true
    pub each : AllByRecursion (λ line. (HasNoLineFeed line × (is_kept_text line ≡ true)) × (blank_text line ≡ false)) lines

  pub record IsLooseBlock (e : LooseEntry) : Type 0 where
    pub some : has_items e.sentences ≡ true
    pub message : IsMessageText e.message

  some_lines : (lines : List Text) (block : List ℕ) → has_items (texts_of lines block) ≡ true → has_items (map (loose_line lines) block) ≡ true
  some_lines lines [] some = some
  some_lines lines (n ∷ block) some = refl

  from_blocks : (lines : List Text) (bs : List (List ℕ)) → AllByRecursion (IsBlock g has) (map (texts_of lines) bs) → AllByRecursion IsLooseBlock (loose_entries lines bs)
  from_blocks lines [] all = tt
  from_blocks lines (block ∷ []) all = tt
  from_blocks lines (block ∷ message ∷ rest) all = (
    record {
      some = some_lines lines block all.0.1;
      message = record { lines = texts_of lines message; is = message_block g lines message; some = all.1.0.1; each = all.1.0.0 };
    },
    from_blocks lines rest all.1.1,
  )

  pub loose_blocks : (bytes : Text) (file : LooseFile) → LooseSpells bytes file → AllByRecursion IsLooseBlock file.entries
  loose_blocks bytes file spells =
      let lines = spells.lines in
      let kept = all_filter HasNoLineFeed is_kept_text lines (lines_end bytes lines spells.are) in
      let are = all_runs blank_text (λ line. HasNoLineFeed line × (is_kept_text line ≡ true)) (filter is_kept_text lines) kept in
      let all : AllByRecursion (IsBlock g has) (map (texts_of lines) (blocks lines)) = subst (λ (l : List (List Text)). AllByRecursion (IsBlock g has) l) (sym (texts_of_blocks lines)) are in
      subst (AllByRecursion IsLooseBlock) (sym spells.entries) (from_blocks lines (blocks lines) all)

  -- If no line of the message ends in a CR, the lines are read unchanged.
  pub message_reads : (message : Text) (text : IsMessageText message) → HasNoCrLf g has message → AllByRecursion (IsLine g) text.lines × HasNoSeparator blank_text text.lines
  message_reads message text free = (message_lines g has text.lines [] (subst (HasNoCrLf g has) text.is free) text.each, plain_lines g has text.lines text.each)
