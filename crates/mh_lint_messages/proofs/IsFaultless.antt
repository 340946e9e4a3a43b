-- Proves that the text on what is wrong with a messages file is empty exactly if the file is faultless.
use Rattle.std.proofs.Common.{◌≡◌, ◌↔◌, ℕ, Bool, true, false, List, [], ◌∷◌, ◌++◌, map, drop, filter, flat_map, Option, None, Some, refl, sym, ◌∙◌, ap, subst, inl, inr, append_assoc, append-nil}
use Rattle.std.specs.Prelude.{is_none, option_map, codes, ⊤}
use Rattle.std.specs.List.{AllByRecursion, Contains}
use Rattle.std.proofs.lemmas.List.{map-append}
use Rattle.std.proofs.lemmas.Grind.{flat_map-append}
use Rattle.mh_grammar.proofs.Lists.{contains_here, contains_there, contains_cases, contains_none, first_same, recursion_contains, recursion-append, rising-push}
use Rattle.mh_grammar.specs.Edges.{IsRising}
use Rattle.mh_grammar.specs.declared.types.Grammar.{Grammar}
use Rattle.mh_grammar.specs.declared.types.Sentence.{Sentence}
use Rattle.mh_grammar.specs.Text.{Text}
use Rattle.mh_tables_core.specs.Table.{TableData}
use Rattle.mh_tables_core.specs.Failing.{CatalogueRow, Catalogue, Fails, FailsFirst, Failing}
use Rattle.mh_msgfile.specs.Sentences.{vocabulary_of, LineResult, IsSentence, IsUnreadable, NamesNoStart, LacksStart, NamesUnknown, sentence_in}
use Rattle.mh_msgfile.specs.Lines.{AreLines, line_at}
use Rattle.mh_msgfile.specs.Messages.{BadShape, blocks, entries_in, faults_in, faults_of, fault_at, first_number, message_of, sentence_at, sentences_of as line_sentences}
use Rattle.mh_msgfile.specs.LooseFiles.{loose_line, loose_entries, unpaired_block}
use Rattle.mh_msgfile.specs.FileBlocks.{HasBlocks}
use Rattle.mh_msgfile.specs.FileTexts.{content_of}
use Rattle.mh_msgfile.specs.declared.blocks.LooseBlocks.{LooseBlocks}
use Rattle.mh_msgfile.specs.declared.loose.LooseLine.{LooseLine}
use Rattle.mh_msgfile.specs.declared.loose.LooseEntry.{LooseEntry}
use Rattle.mh_msgfile.specs.declared.messages.Entry.{Entry}
use Rattle.mh_msgfile.specs.declared.messages.MsgFile.{MsgFile}
use Rattle.mh_msgfile.specs.declared.messages.MsgSentence.{MsgSentence}
use Rattle.mh_msgfile.proofs.AreLines.{lines_once}
use Rattle.mh_msgfile.proofs.PrintedAgain.{filter_on}
use Rattle.mh_check.specs.Checks.{sentences_of}
use Rattle.mh_rebase.specs.Decisions.{Decision, Keep, Drop, DecidedLine, is_keep, kept_line}
use Rattle.mh_rebase.specs.RebasedText.{DecidedEntry, without_decisions, lines_in, is_new_row, reason_text}
use Rattle.mh_rebase.proofs.AllAreKept.{IsKeep, reason_never, rising_before, state_once}
use Rattle.mh_rebase.proofs.CompleteIsKept.{with_states, with_states_same, with_states_fail, with_states_apart, with_states_has}
use Rattle.mh_rebase.proofs.StatesOfSentences.{FailingSentence, OtherState, HasSentenceIn, content, failing_of_decision, failing_of_lines, has_line, sentence_of_kept_line, sound_by, complete_by}
use Rattle.mh_rebase.specs.ErrorLines.{IsLineDecision, AreLineDecisions, place, decision_text, decision_texts, entry_text, entries_text, is_unwritten, last_line, missing_text, missing_texts, unpaired_text, unwritten_text, IsErrorText}
use Rattle.mh_lint_messages.specs.Complete.{IsFaultless}
use Rattle.mh_lint_messages.proofs.ErrorTextUnique.{decided_split}

-- ---- Two texts together are empty exactly if both are empty.

both_empty : {A : Type 0} (xs ys : List A) → xs ++ ys ≡ [] → (xs ≡ []) × (ys ≡ [])
both_empty [] ys is = (refl, is)
both_empty (x ∷ xs) ys is = absurd (cc)

neither_empty : (xs ys : Text) → xs ≡ [] → ys ≡ [] → xs ++ ys ≡ []
neither_empty xs ys first second = ap (λ (l : Text). l ++ ys) first ∙ second

place_some : (name : Text) (line : ℕ) (more : Text) → place name line ++ more ≡ [] → ⊥
unfolding place
place_some [] line more is = cc
place_some (x ∷ name) line more is = cc

-- ---- The text on a line is empty exactly if the line is kept, and that on a message if the message is written.

module _ (name : Text) where
  keep_if_empty : (line : ℕ) (d : Decision) → decision_text name line d ≡ [] → is_keep d ≡ true
  keep_if_empty line (Keep x s comments) is = refl
  keep_if_empty line (Drop reason) is = absurd (place_some name line (reason_text reason) is)

  empty_if_keep : (line : ℕ) (d : Decision) → is_keep d ≡ true → decision_text name line d ≡ []
  empty_if_keep line (Keep x s comments) is = refl
  empty_if_keep line (Drop reason) is = cc

  keep_if_texts_empty : (js : List DecidedLine) → decision_texts name js ≡ [] → AllByRecursion IsKeep js
  keep_if_texts_empty [] is = tt
  keep_if_texts_empty (j ∷ js) is = let parts = both_empty (decision_text name j.line.line j.decision) (decision_texts name js) is in (keep_if_empty j.line.line j.decision parts.0, keep_if_texts_empty js parts.1)

  texts_empty_if_keep : (js : List DecidedLine) → AllByRecursion IsKeep js → decision_texts name js ≡ []
  texts_empty_if_keep [] all = refl
  texts_empty_if_keep (j ∷ js) all = neither_empty (decision_text name j.line.line j.decision) (decision_texts name js) (empty_if_keep j.line.line j.decision all.0) (texts_empty_if_keep js all.1)

  written_if_empty : (line : ℕ) (unwritten : Bool) → unwritten_text name line unwritten ≡ [] → unwritten ≡ false
  written_if_empty line true is = absurd (place_some name line (codes "no message yet\n") is)
  written_if_empty line false is = refl

  empty_if_written : (line : ℕ) (unwritten : Bool) → unwritten ≡ false → unwritten_text name line unwritten ≡ []
  empty_if_written line true is = cc
  empty_if_written line false is = refl

  -- The lines of the entry are kept, and its message does not have the line that `--list-errors` writes in place of a
  -- message.
  abbrev IsRightEntry : DecidedEntry → Type 0
  IsRightEntry e = AllByRecursion IsKeep e.sentences × (is_unwritten e.message ≡ false)

  right_if_empty : (es : List DecidedEntry) → entries_text name es ≡ [] → AllByRecursion IsRightEntry es
  right_if_empty [] is = tt
  right_if_empty (e ∷ es) is =
      let parts = both_empty (entry_text name e) (entries_text name es) is in
      let texts = both_empty (decision_texts name e.sentences) (unwritten_text name (last_line e.sentences) (is_unwritten e.message)) parts.0 in
      ((keep_if_texts_empty e.sentences texts.0, written_if_empty (last_line e.sentences) (is_unwritten e.message) texts.1), right_if_empty es parts.1)

  empty_if_right : (es : List DecidedEntry) → AllByRecursion IsRightEntry es → entries_text name es ≡ []
  empty_if_right [] all = refl
  empty_if_right (e ∷ es) all =
      neither_empty (entry_text name e) (entries_text name es)
      (neither_empty (decision_texts name e.sentences) (unwritten_text name (last_line e.sentences) (is_unwritten e.message)) (texts_empty_if_keep e.sentences all.0.0) (empty_if_written (last_line e.sentences) (is_unwritten e.message) all.0.1))
      (empty_if_right es all.1)

  none_if_empty : (unpaired : Option ℕ) → unpaired_text name unpaired ≡ [] → unpaired ≡ None
  none_if_empty None is = refl
  none_if_empty (Some line) is = absurd (place_some name line (codes "shape\n") is)

  empty_if_none : (unpaired : Option ℕ) → unpaired ≡ None → unpaired_text name unpaired ≡ []
  empty_if_none None is = refl
  empty_if_none (Some line) is = cc

-- ---- The text on the missing rows is empty exactly if no row is missing.

no_row : (g : Grammar) (row : CatalogueRow) (more : Text) → missing_text g row ++ more ≡ [] → ⊥
no_row g row more is = cc

module _ (g : Grammar) (q : CatalogueRow → Bool) where
  row_out : (row : CatalogueRow) (rows : List CatalogueRow) (c : Bool) → q row ≡ c → missing_texts g (filter q (row ∷ rows)) ≡ [] → (q row ≡ false) × (missing_texts g (filter q rows) ≡ [])
  row_out row rows true is empty =
      let written : missing_text g row ++ missing_texts g (filter q rows) ≡ [] = ap (missing_texts g) (sym (filter_on q row rows true is)) ∙ empty in absurd (no_row g row (missing_texts g (filter q rows)) written)
  row_out row rows false is empty = (is, ap (missing_texts g) (sym (filter_on q row rows false is)) ∙ empty)

  rows_out : (rows : List CatalogueRow) → missing_texts g (filter q rows) ≡ [] → (row : CatalogueRow) → Contains rows row → q row ≡ false
  rows_out [] empty row c = absurd (contains_none row c)
  rows_out (x ∷ rows) empty row c =
      let parts = row_out x rows (q x) refl empty in elim (contains_cases x rows row c) [ inl same ↦ ap q (sym same) ∙ parts.0 | inr more ↦ rows_out rows parts.1 row more ]

  empty_by : (row : CatalogueRow) (rows : List CatalogueRow) (c : Bool) → q row ≡ c → q row ≡ false → missing_texts g (filter q rows) ≡ [] → missing_texts g (filter q (row ∷ rows)) ≡ []
  empty_by row rows true is out later = (let no : true ≡ false = sym is ∙ out in cc)
  empty_by row rows false is out later = ap (missing_texts g) (filter_on q row rows false is) ∙ later

  empty_if_out : (rows : List CatalogueRow) → ((row : CatalogueRow) → Contains rows row → q row ≡ false) → missing_texts g (filter q rows) ≡ []
  empty_if_out [] out = refl
  empty_if_out (x ∷ rows) out = empty_by x rows (q x) refl (out x (contains_here x rows)) (empty_if_out rows (λ row c. out row (contains_there x rows row c)))

-- ---- Sentences of the file.

module _ (g : Grammar) (lines : List Text) where
  -- What the line with this number is read as.
  abbrev found_at : ℕ → LineResult
  found_at number = sentence_in (vocabulary_of g) (line_at lines number)

  no_fault : (number : ℕ) (found : LineResult) (x : Sentence) → found ≡ IsSentence x → fault_at number found ≡ []
  no_fault number found x is = ap (fault_at number) is

  -- Each line of the block is a sentence.
  abbrev AreSentences : List ℕ → Type 0
  AreSentences block = AllByRecursion (λ number. (x : Sentence) × (found_at number ≡ IsSentence x)) block

  no_faults : (block : List ℕ) → AreSentences block → faults_of (vocabulary_of g) lines block ≡ []
  no_faults [] all = refl
  no_faults (number ∷ block) all =
      ap (λ l. l ++ faults_of (vocabulary_of g) lines block) (no_fault number (found_at number) all.0.0 all.0.1) ∙ no_faults block all.1

  -- Every other block, from the first block on, has only lines that are sentences, and is followed by a block with a
  -- message.
  abbrev AreSentenceBlocks : List (List ℕ) → Type 0
  AreSentenceBlocks [] = ⊤
  AreSentenceBlocks (block ∷ []) = ⊥
  AreSentenceBlocks (block ∷ message ∷ rest) = AreSentences block × AreSentenceBlocks rest

  no_faults_in : (bs : List (List ℕ)) → AreSentenceBlocks bs → faults_in (vocabulary_of g) lines bs ≡ []
  no_faults_in [] all = refl
  no_faults_in (block ∷ []) all = absurd all
  no_faults_in (block ∷ message ∷ rest) all = ap (λ l. l ++ faults_in (vocabulary_of g) lines rest) (no_faults block all.0) ∙ no_faults_in rest all.1

  fault_or_sentence : (number : ℕ) (found : LineResult) → fault_at number found ≡ [] → (x : Sentence) × (found ≡ IsSentence x)
  fault_or_sentence number (IsSentence x) none = (x, refl)
  fault_or_sentence number IsUnreadable none = absurd (cc)
  fault_or_sentence number (NamesNoStart name) none = absurd (cc)
  fault_or_sentence number LacksStart none = absurd (cc)
  fault_or_sentence number (NamesUnknown name) none = absurd (cc)

  sentences_if_no_faults : (block : List ℕ) → faults_of (vocabulary_of g) lines block ≡ [] → AreSentences block
  sentences_if_no_faults [] none = tt
  sentences_if_no_faults (number ∷ block) none =
      let parts = both_empty (fault_at number (found_at number)) (faults_of (vocabulary_of g) lines block) none in (fault_or_sentence number (found_at number) parts.0, sentences_if_no_faults block parts.1)

  blocks_if_no_faults : (bs : List (List ℕ)) → faults_in (vocabulary_of g) lines bs ≡ [] → AreSentenceBlocks bs
  blocks_if_no_faults [] none = tt
  blocks_if_no_faults (block ∷ []) none = (let no : BadShape (first_number block) ∷ [] ≡ [] = (both_empty (faults_of (vocabulary_of g) lines block) (BadShape (first_number block) ∷ []) none).1 in cc)
  blocks_if_no_faults (block ∷ message ∷ rest) none =
      let parts = both_empty (faults_of (vocabulary_of g) lines block) (faults_in (vocabulary_of g) lines rest) none in (sentences_if_no_faults block parts.0, blocks_if_no_faults rest parts.1)

  paired_blocks : (bs : List (List ℕ)) → AreSentenceBlocks bs → unpaired_block bs ≡ None
  paired_blocks [] all = refl
  paired_blocks (block ∷ []) all = absurd all
  paired_blocks (block ∷ message ∷ rest) all = paired_blocks rest all.1

  -- The sentences of the entries of these blocks.
  abbrev sentences_in : List (List ℕ) → List MsgSentence
  sentences_in bs = flat_map (λ (e : Entry). e.sentences) (entries_in (vocabulary_of g) lines bs)

module _ (g : Grammar) (t : TableData) (lines : List Text) where
  abbrev line_of : DecidedLine → LooseLine
  line_of j = j.line

  -- ---- If the text is empty, the file is faultless.

  kept_reads : (before : List DecidedLine) (text : Text) (d : Decision) → IsLineDecision g t before text d → is_keep d ≡ true → (x : Sentence) × (sentence_in (vocabulary_of g) text ≡ IsSentence x)
  kept_reads before text (Keep x s comments) is keep = (x, is.0)
  kept_reads before text (Drop reason) is keep = cc

  one_content : (number : ℕ) (before : List DecidedLine) (text : Text) (d : Decision) → text ≡ line_at lines number → IsLineDecision g t before text d → is_keep d ≡ true → map content_of (sentence_at number (found_at g lines number)) ≡ map content (failing_of_decision d)
  one_content number before text (Keep x s comments) here is keep =
      let found : found_at g lines number ≡ IsSentence x = sym (ap (sentence_in (vocabulary_of g)) here) ∙ is.0 in ap (λ (f : LineResult). map content_of (sentence_at number f)) found
  one_content number before text (Drop reason) here is keep = cc

  block_read : (before js : List DecidedLine) (block : List ℕ) → map line_of js ≡ map (loose_line lines) block → AreLineDecisions g t before js → AllByRecursion IsKeep js
      → AreSentences g lines block × (map content_of (line_sentences (vocabulary_of g) lines block) ≡ map content (failing_of_lines js))
  block_read before [] [] same decided keep = (tt, refl)
  block_read before [] (number ∷ block) same decided keep = absurd (cc)
  block_read before (j ∷ js) [] same decided keep = absurd (cc)
  block_read before (j ∷ js) (number ∷ block) same decided keep =
      let line : j.line ≡ loose_line lines number = first_same _ _ _ _ same in
      let text : j.line.text ≡ line_at lines number = ap (λ (l : LooseLine). l.text) line in
      let later = block_read (before ++ j ∷ []) js block (ap (drop 1) same) decided.1 keep.1 in
      let x = kept_reads before j.line.text j.decision decided.0 keep.0 in
      let first = sentence_at number (found_at g lines number) in
      let rest = line_sentences (vocabulary_of g) lines block in (
        ((x.0, sym (ap (sentence_in (vocabulary_of g)) text) ∙ x.1), later.0),
        map-append content_of first rest ∙ ap (λ (l : List (ℕ × List ℕ)). l ++ map content_of rest) (one_content number before j.line.text j.decision text decided.0 keep.0)
            ∙ ap (λ (l : List (ℕ × List ℕ)). map content (failing_of_decision j.decision) ++ l) later.1 ∙ sym (map-append content (failing_of_decision j.decision) (failing_of_lines js)),
      )

  blocks_read : (name : Text) (before : List DecidedLine) (es : List DecidedEntry) (bs : List (List ℕ)) → map without_decisions es ≡ loose_entries lines bs → unpaired_block bs ≡ None → AreLineDecisions g t before (lines_in es) → AllByRecursion (IsRightEntry name) es
      → AreSentenceBlocks g lines bs × (map content_of (sentences_in g lines bs) ≡ map content (failing_of_lines (lines_in es)))
  blocks_read name before [] [] same paired decided right = (tt, refl)
  blocks_read name before [] (block ∷ []) same paired decided right = absurd (cc)
  blocks_read name before [] (block ∷ message ∷ rest) same paired decided right = absurd (cc)
  blocks_read name before (e ∷ es) [] same paired decided right = absurd (cc)
  blocks_read name before (e ∷ es) (block ∷ []) same paired decided right = absurd (cc)
  blocks_read name before (e ∷ es) (block ∷ message ∷ rest) same paired decided right =
      let one : without_decisions e ≡ record { sentences = map (loose_line lines) block; message = message_of lines message } = first_same _ _ _ _ same in
      let parts = decided_split g t before e.sentences (lines_in es) decided in
      let first = block_read before e.sentences block (ap (λ (l : LooseEntry). l.sentences) one) parts.0 right.0.0 in
      let later = blocks_read name (before ++ e.sentences) es rest (ap (drop 1) same) paired parts.1 right.1 in
      let here = line_sentences (vocabulary_of g) lines block in (
        (first.0, later.0),
        map-append content_of here (sentences_in g lines rest) ∙ ap (λ (l : List (ℕ × List ℕ)). l ++ map content_of (sentences_in g lines rest)) first.1 ∙ ap (λ (l : List (ℕ × List ℕ)). map content (failing_of_lines e.sentences) ++ l) later.1
            ∙ sym (map-append content (failing_of_lines e.sentences) (failing_of_lines (lines_in es))) ∙ ap (map content) (sym (flat_map-append (λ (j : DecidedLine). failing_of_decision j.decision) e.sentences (lines_in es))),
      )

  -- The messages of the entries of the blocks are those of the decided entries.
  all_written : (name : Text) (es : List DecidedEntry) (bs : List (List ℕ)) → map without_decisions es ≡ loose_entries lines bs → AllByRecursion (IsRightEntry name) es → (e : Entry) → Contains (entries_in (vocabulary_of g) lines bs) e → is_unwritten e.message ≡ false
  all_written name es [] same right x c = absurd (contains_none x c)
  all_written name es (block ∷ []) same right x c = absurd (contains_none x c)
  all_written name [] (block ∷ message ∷ rest) same right x c = absurd (cc)
  all_written name (e ∷ es) (block ∷ message ∷ rest) same right x c =
      let one : without_decisions e ≡ record { sentences = map (loose_line lines) block; message = message_of lines message } = first_same _ _ _ _ same in
      let text : e.message ≡ message_of lines message = ap (λ (l : LooseEntry). l.message) one in
      let entry : Entry = record { sentences = line_sentences (vocabulary_of g) lines block; message = message_of lines message } in
      elim (contains_cases entry (entries_in (vocabulary_of g) lines rest) x c) [
        | inl is ↦ sym (ap (λ (y : Entry). is_unwritten y.message) is) ∙ sym (ap is_unwritten text) ∙ right.0.1
        | inr more ↦ all_written name es rest (ap (drop 1) same) right.1 x more
      ]

  -- ---- The states of kept sentences.

  abbrev FailsThere : FailingSentence → Type 0
  FailsThere z = Fails t z.0.0 z.0.1 z.1

  decision_fails : (before : List DecidedLine) (text : Text) (d : Decision) → IsLineDecision g t before text d → AllByRecursion FailsThere (failing_of_decision d)
  decision_fails before text (Keep x s comments) is = (is.1, tt)
  decision_fails before text (Drop reason) is = tt

  lines_fail : (before js : List DecidedLine) → AreLineDecisions g t before js → AllByRecursion FailsThere (failing_of_lines js)
  lines_fail before [] all = tt
  lines_fail before (j ∷ js) all = recursion-append FailsThere (failing_of_decision j.decision) (failing_of_lines js) (decision_fails before j.line.text j.decision all.0) (lines_fail (before ++ j ∷ []) js all.1)

  decision_apart : (before : List DecidedLine) (text : Text) (d : Decision) → IsLineDecision g t before text d → IsRising OtherState (failing_of_lines before) → IsRising OtherState (failing_of_lines before ++ (failing_of_decision d ++ []))
  decision_apart before text (Drop reason) is rising = subst (IsRising OtherState) (sym (append-nil (failing_of_lines before))) rising
  decision_apart before text (Keep x s comments) is rising =
      rising-push OtherState (failing_of_lines before) ((x.start, x.tokens), s) rising (λ y c same. let line = has_line before y c in let at : kept_line before s ≡ Some line.0 = ap (kept_line before) (sym same) ∙ line.1 in let no : None ≡ Some line.0 = sym is.2 ∙ at in cc)

  lines_apart : (before js : List DecidedLine) → AreLineDecisions g t before js → IsRising OtherState (failing_of_lines before) → IsRising OtherState (failing_of_lines (before ++ js))
  lines_apart before [] all rising = subst (λ (l : List DecidedLine). IsRising OtherState (failing_of_lines l)) (sym (append-nil before)) rising
  lines_apart before (j ∷ js) all rising =
      let next = subst (IsRising OtherState) (sym (flat_map-append (λ (k : DecidedLine). failing_of_decision k.decision) before (j ∷ []))) (decision_apart before j.line.text j.decision all.0 rising) in
      subst (λ (l : List DecidedLine). IsRising OtherState (failing_of_lines l)) (append_assoc before (j ∷ []) js) (lines_apart (before ++ j ∷ []) js all.1 next)

  some_line : (o : Option ℕ) → is_none o ≡ false → (n : ℕ) × (o ≡ Some n)
  some_line None is = cc
  some_line (Some n) is = (n, refl)

  row_covered : (js : List DecidedLine) (rows : List CatalogueRow) → Catalogue t rows → ((row : CatalogueRow) → Contains rows row → is_new_row js row ≡ false) → (s : ℕ) → Failing t s → HasSentenceIn (failing_of_lines js) s
  row_covered js rows catalogue out s failing =
      let row = catalogue.complete s failing in
      let line = some_line (kept_line js row.0.state) (out row.0 row.1) in
      subst (HasSentenceIn (failing_of_lines js)) row.2 (sentence_of_kept_line js row.0.state line.0 line.1)

  faultless_if_empty : (bytes name text : Text) (found : LooseBlocks) (has : HasBlocks bytes found) (is : IsErrorText g t name found text) → has.lines ≡ lines → text ≡ [] → IsFaultless g t bytes
  faultless_if_empty bytes name text found has is same empty =
      let bs = blocks lines in
      let js = lines_in is.entries in
      let all = both_empty (entries_text name is.entries ++ unpaired_text name found.unpaired) (missing_texts g (filter (is_new_row js) is.rows)) (sym is.is ∙ empty) in
      let parts = both_empty (entries_text name is.entries) (unpaired_text name found.unpaired) all.0 in
      let right = right_if_empty name is.entries parts.0 in
      let unpaired : option_map first_number (unpaired_block bs) ≡ None = sym (has.unpaired ∙ ap (λ (l : List Text). option_map first_number (unpaired_block (blocks l))) same) ∙ none_if_empty name found.unpaired parts.1 in
      let loose : map without_decisions is.entries ≡ loose_entries lines bs = is.of_file ∙ has.entries ∙ ap (λ (l : List Text). loose_entries l (blocks l)) same in
      let read = blocks_read name [] is.entries bs loose (no_block (unpaired_block bs) unpaired) is.decided right in
      let fail = lines_fail [] js is.decided in
      let file : MsgFile = record { lines = lines; entries = entries_in (vocabulary_of g) lines bs } in record {
        file = file;
        spells = record { lines = subst (AreLines bytes) same has.are; no_faults = no_faults_in g lines bs read.0; entries = refl };
        sound = sound_by t (sentences_of file) (failing_of_lines js) read.1 fail (lines_apart [] js is.decided tt);
        complete = λ s failing. complete_by t (sentences_of file) (failing_of_lines js) read.1 fail s (row_covered js is.rows is.catalogue (rows_out g (is_new_row js) is.rows all.1) s failing);
        written = all_written name is.entries bs loose right;
      }
    where
      no_block : (o : Option (List ℕ)) → option_map first_number o ≡ None → o ≡ None
      no_block None none = refl
      no_block (Some block) none = absurd (cc)

  -- ---- If the file is faultless, the text is empty.

  free_line : (before : List DecidedLine) (s : ℕ) (o : Option ℕ) → kept_line before s ≡ o → ((y : FailingSentence) → Contains (failing_of_lines before) y → y.1 ≡ s → ⊥) → kept_line before s ≡ None
  free_line before s None is free = is
  free_line before s (Some n) is free = let found = sentence_of_kept_line before s n is in absurd (free found.0 found.1 found.2)

  keep_by : (before : List DecidedLine) (text : Text) (d : Decision) (x : Sentence) (z : FailingSentence) → IsLineDecision g t before text d → sentence_in (vocabulary_of g) text ≡ IsSentence x → (x.start, x.tokens) ≡ content z → FailsThere z → kept_line before z.1 ≡ None
      → (is_keep d ≡ true) × (failing_of_decision d ≡ z ∷ [])
  keep_by before text (Drop reason) x z is read same fails none = absurd (reason_never g t before text x z.1 reason is read (subst (λ (c : ℕ × List ℕ). Fails t c.0 c.1 z.1) (sym same) fails) none)
  keep_by before text (Keep y s comments) x z is read same fails none =
      let both : IsSentence y ≡ IsSentence x = sym is.0 ∙ read in
      let one : y ≡ x = cc in
      let here : (y.start, y.tokens) ≡ content z = ap (λ (u : Sentence). (u.start, u.tokens)) one ∙ same in
      let failing : Fails t z.0.0 z.0.1 s = subst (λ (c : ℕ × List ℕ). Fails t c.0 c.1 s) here is.1 in
      let state : s ≡ z.1 = state_once g t z.0.0 z.0.1 s z.1 failing fails in (refl, λ i. (here i, state i) ∷ [])

  -- The lines are read as these sentences, in order.
  abbrev ReadAs : List DecidedLine → List MsgSentence → Type 0
  ReadAs [] [] = ⊤
  ReadAs (j ∷ js) (x ∷ xs) = (sentence_in (vocabulary_of g) j.line.text ≡ IsSentence (record { start = x.start; tokens = x.tokens })) × ReadAs js xs
  ReadAs js xs = ⊥

  read_append : (js ks : List DecidedLine) (xs ys : List MsgSentence) → ReadAs js xs → ReadAs ks ys → ReadAs (js ++ ks) (xs ++ ys)
  read_append [] ks [] ys first second = second
  read_append [] ks (x ∷ xs) ys first second = absurd first
  read_append (j ∷ js) ks [] ys first second = absurd first
  read_append (j ∷ js) ks (x ∷ xs) ys first second = (first.0, read_append js ks xs ys first.1 second)

  block_reads : (js : List DecidedLine) (block : List ℕ) → map line_of js ≡ map (loose_line lines) block → AreSentences g lines block → ReadAs js (line_sentences (vocabulary_of g) lines block)
  block_reads [] [] same all = tt
  block_reads [] (number ∷ block) same all = absurd (cc)
  block_reads (j ∷ js) [] same all = absurd (cc)
  block_reads (j ∷ js) (number ∷ block) same all =
      let line : j.line ≡ loose_line lines number = first_same _ _ _ _ same in
      let read : sentence_in (vocabulary_of g) j.line.text ≡ IsSentence all.0.0 = ap (λ (l : LooseLine). sentence_in (vocabulary_of g) l.text) line ∙ all.0.1 in
      let rest = line_sentences (vocabulary_of g) lines block in
      subst (λ (l : List MsgSentence). ReadAs (j ∷ js) (l ++ rest)) (sym (ap (sentence_at number) all.0.1)) (read, block_reads js block (ap (drop 1) same) all.1)

  blocks_reads : (es : List DecidedEntry) (bs : List (List ℕ)) → map without_decisions es ≡ loose_entries lines bs → AreSentenceBlocks g lines bs → ReadAs (lines_in es) (sentences_in g lines bs)
  blocks_reads [] [] same all = tt
  blocks_reads [] (block ∷ []) same all = absurd all
  blocks_reads [] (block ∷ message ∷ rest) same all = absurd (cc)
  blocks_reads (e ∷ es) [] same all = absurd (cc)
  blocks_reads (e ∷ es) (block ∷ []) same all = absurd all
  blocks_reads (e ∷ es) (block ∷ message ∷ rest) same all =
      let one : without_decisions e ≡ record { sentences = map (loose_line lines) block; message = message_of lines message } = first_same _ _ _ _ same in
      read_append e.sentences (lines_in es) (line_sentences (vocabulary_of g) lines block) (sentences_in g lines rest) (block_reads e.sentences block (ap (λ (l : LooseEntry). l.sentences) one) all.0) (blocks_reads es rest (ap (drop 1) same) all.1)

  keep_all : (before js : List DecidedLine) (xs : List MsgSentence) (zs : List FailingSentence) → AreLineDecisions g t before js → ReadAs js xs → map content_of xs ≡ map content zs → AllByRecursion FailsThere zs → IsRising OtherState (failing_of_lines before ++ zs)
      → AllByRecursion IsKeep js × (failing_of_lines js ≡ zs)
  keep_all before [] [] [] decided reads same fail rising = (tt, refl)
  keep_all before [] [] (z ∷ zs) decided reads same fail rising = absurd (cc)
  keep_all before [] (x ∷ xs) zs decided reads same fail rising = absurd reads
  keep_all before (j ∷ js) [] zs decided reads same fail rising = absurd reads
  keep_all before (j ∷ js) (x ∷ xs) [] decided reads same fail rising = absurd (cc)
  keep_all before (j ∷ js) (x ∷ xs) (z ∷ zs) decided reads same fail rising =
      let here : (x.start, x.tokens) ≡ content z = first_same _ _ _ _ same in
      let none = free_line before z.1 (kept_line before z.1) refl (rising_before (failing_of_lines before) z zs rising) in
      let one = keep_by before j.line.text j.decision (record { start = x.start; tokens = x.tokens }) z decided.0 reads.0 here fail.0 none in
      let placed : failing_of_lines (before ++ j ∷ []) ≡ failing_of_lines before ++ z ∷ [] = flat_map-append (λ (k : DecidedLine). failing_of_decision k.decision) before (j ∷ []) ∙ ap (λ (l : List FailingSentence). failing_of_lines before ++ (l ++ [])) one.1 in
      let next : IsRising OtherState (failing_of_lines (before ++ j ∷ []) ++ zs) = subst (IsRising OtherState) (sym (ap (λ (l : List FailingSentence). l ++ zs) placed ∙ append_assoc (failing_of_lines before) (z ∷ []) zs)) rising in
      let more = keep_all (before ++ j ∷ []) js xs zs decided.1 reads.1 (ap (drop 1) same) fail.1 next in
      ((one.0, more.0), ap (λ (l : List FailingSentence). l ++ failing_of_lines js) one.1 ∙ ap (λ (l : List FailingSentence). z ∷ l) more.1)

  keeps_split : (js ks : List DecidedLine) → AllByRecursion IsKeep (js ++ ks) → AllByRecursion IsKeep js × AllByRecursion IsKeep ks
  keeps_split [] ks all = (tt, all)
  keeps_split (j ∷ js) ks all = let later = keeps_split js ks all.1 in ((all.0, later.0), later.1)

  right_entries : (name : Text) (es : List DecidedEntry) (bs : List (List ℕ)) → map without_decisions es ≡ loose_entries lines bs → AllByRecursion IsKeep (lines_in es) → ((e : Entry) → Contains (entries_in (vocabulary_of g) lines bs) e → is_unwritten e.message ≡ false) → AllByRecursion (IsRightEntry name) es
  right_entries name [] bs same keep written = tt
  right_entries name (e ∷ es) [] same keep written = absurd (cc)
  right_entries name (e ∷ es) (block ∷ []) same keep written = absurd (cc)
  right_entries name (e ∷ es) (block ∷ message ∷ rest) same keep written =
      let one : without_decisions e ≡ record { sentences = map (loose_line lines) block; message = message_of lines message } = first_same _ _ _ _ same in
      let text : e.message ≡ message_of lines message = ap (λ (l : LooseEntry). l.message) one in
      let parts = keeps_split e.sentences (lines_in es) keep in
      let entry : Entry = record { sentences = line_sentences (vocabulary_of g) lines block; message = message_of lines message } in
      let more = entries_in (vocabulary_of g) lines rest in
      ((parts.0, ap is_unwritten text ∙ written entry (contains_here entry more)), right_entries name es rest (ap (drop 1) same) parts.1 (λ x c. written x (contains_there entry more x c)))

  row_old : (js : List DecidedLine) (row : CatalogueRow) → HasSentenceIn (failing_of_lines js) row.state → is_new_row js row ≡ false
  row_old js row (z, c, state) = let line = has_line js z c in ap is_none (sym (ap (kept_line js) state) ∙ line.1)

  empty_if_faultless : (bytes name text : Text) (found : LooseBlocks) (has : HasBlocks bytes found) (is : IsErrorText g t name found text) → has.lines ≡ lines → (faultless : IsFaultless g t bytes) → faultless.file.lines ≡ lines → text ≡ []
  empty_if_faultless bytes name text found has is same faultless also =
      let bs = blocks lines in
      let js = lines_in is.entries in
      let file = faultless.file in
      let all = blocks_if_no_faults g lines bs (subst (λ (l : List Text). faults_in (vocabulary_of g) l (blocks l) ≡ []) also faultless.spells.no_faults) in
      let entries : file.entries ≡ entries_in (vocabulary_of g) lines bs = faultless.spells.entries ∙ ap (λ (l : List Text). entries_in (vocabulary_of g) l (blocks l)) also in
      let loose : map without_decisions is.entries ≡ loose_entries lines bs = is.of_file ∙ has.entries ∙ ap (λ (l : List Text). loose_entries l (blocks l)) same in
      let xs = sentences_of file in
      let reads : ReadAs js xs = subst (λ (l : List Entry). ReadAs js (flat_map (λ (e : Entry). e.sentences) l)) (sym entries) (blocks_reads is.entries bs loose all) in
      let each = faultless.sound.each in
      let zs = with_states t xs each in
      let kept = keep_all [] js xs zs is.decided reads (with_states_same t xs each) (with_states_fail t xs each) (with_states_apart t xs each faultless.sound.distinct) in
      let right = right_entries name is.entries bs loose kept.0 (subst (λ (l : List Entry). (e : Entry) → Contains l e → is_unwritten e.message ≡ false) entries faultless.written) in
      let unpaired : found.unpaired ≡ None = has.unpaired ∙ ap (λ (l : List Text). option_map first_number (unpaired_block (blocks l))) same ∙ ap (option_map first_number) (paired_blocks g lines bs all) in
      let covered : (s : ℕ) → Failing t s → HasSentenceIn (failing_of_lines js) s = λ s failing. let x = faultless.complete s failing in subst (λ (l : List FailingSentence). HasSentenceIn l s) (sym kept.1) (with_states_has t xs each x.0 s x.1 x.2) in
      let out : (row : CatalogueRow) → Contains is.rows row → is_new_row js row ≡ false = λ row c.
      let first = recursion_contains (λ (r : CatalogueRow). FailsFirst t r.start r.sentence r.state) is.rows is.catalogue.each row c in row_old js row (covered row.state (row.start, row.sentence, first.fails)) in
      is.is ∙ neither_empty (entries_text name is.entries ++ unpaired_text name found.unpaired) (missing_texts g (filter (is_new_row js) is.rows))
      (neither_empty (entries_text name is.entries) (unpaired_text name found.unpaired) (empty_if_right name is.entries right) (empty_if_none name found.unpaired unpaired)) (empty_if_out g (is_new_row js) is.rows out)

-- Nothing is written exactly if the file is faultless.
pub faultless_exactly : (g : Grammar) (t : TableData) (bytes name text : Text) (found : LooseBlocks) → HasBlocks bytes found → IsErrorText g t name found text → (text ≡ []) ↔ IsFaultless g t bytes
faultless_exactly g t bytes name text found has is = (
  faultless_if_empty g t has.lines bytes name text found has is refl,
  λ faultless. empty_if_faultless g t has.lines bytes name text found has is refl faultless (lines_once bytes faultless.file.lines faultless.spells.lines ∙ sym (lines_once bytes has.lines has.are)),
)
