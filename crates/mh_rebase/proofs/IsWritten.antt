-- Proves that a rebased text is the text of entries with ignored lines between their lines.
use Rattle.std.proofs.Common.{◌≡◌, ◌<◌, ◌||◌, ℕ, Bool, true, false, List, [], ◌∷◌, ◌++◌, length, map, flat_map, refl, sym, ◌∙◌, ap, subst, arith, append_assoc, append-nil}
use Rattle.std.specs.Prelude.{codes, decimal}
use Rattle.std.specs.List.{AllByRecursion}
use Rattle.std.proofs.lemmas.List.{map-append}
use Rattle.mh_grammar.proofs.Lists.{recursion-append}
use Rattle.mh_grammar.specs.declared.types.Grammar.{Grammar}
use Rattle.mh_grammar.specs.Plain.{PlainGrammar, plain_of}
use Rattle.mh_grammar.specs.Text.{Text}
use Rattle.mh_items_kernels.specs.KernelTypes.{Automaton}
use Rattle.mh_tables_core.specs.Table.{TableData}
use Rattle.mh_tables_core.specs.Facts.{Facts}
use Rattle.mh_tables_core.specs.Failing.{CatalogueRow, FailsFirst}
use Rattle.mh_run.specs.Verdicts.{ending_for}
use Rattle.mh_run.specs.declared.outcome.Verdict.{Verdict}
use Rattle.mh_run.specs.declared.outcome.Verdict.TheVariants as verdicts
use Rattle.mh_msgfile.specs.Sentences.{Vocabulary, vocabulary_of, has_items}
use Rattle.mh_msgfile.specs.FileTexts.{HasReadableNames, sentence_text}
use Rattle.mh_msgfile.proofs.PrintedAgain.{canonical, IsKnown, IsLine, HasNoCrLf, blank_text}
use Rattle.mh_msgfile.proofs.SentenceBounds.{sentence_start, sentence_tokens}
use Rattle.mh_msgfile.proofs.WrittenEntries.{WrittenEntry, written_content, IsGoodEntry, entry_lines, IsMessageText, message_reads}
use Rattle.mh_msgfile.proofs.CanonicalLine.{HasNoSeparator, line_begins}
use Rattle.mh_msgfile.proofs.LineEnds.{with_ends, IsReadUnchanged}
use Rattle.mh_check.specs.Checks.{IsNoRefusal}
use Rattle.mh_check.proofs.CheckedOnce.{no_refusal_not_rejected}
use Rattle.mh_tables_core.specs.Run.{Rejected}
use Rattle.mh_check.specs.Texts.{early_text, shared_state_text}
use Rattle.mh_report.specs.Comments.{message_placeholder}
use Rattle.mh_report.specs.Comments.{IsEntryText}
use Rattle.mh_report.specs.CatalogueTexts.{AreEntries}
use Rattle.mh_update.specs.NoLineEnds.{HasNoLineEnd, HasNamesWithoutLineEnds}
use Rattle.mh_update.proofs.GeneratedText.{IsGeneratedText-block, HasNoLineEnd-append, IsReadUnchanged-no_line_end}
use Rattle.mh_rebase.specs.declared.reason.DropReason.{DropReason}
use Rattle.mh_rebase.specs.declared.reason.DropReason.TheVariants as reasons
use Rattle.mh_rebase.specs.Decisions.{Decision, Keep, Drop, DecidedLine, is_keep, IsReason, LineIsUnreadable, StartIsUnknown, StartIsMissing, TokenIsUnknown, SentenceIsNotRefused, SentenceIsRefusedEarly, StateIsShared, IsDecision, AreDecided}
use Rattle.mh_rebase.specs.RebasedText.{DecidedEntry, lines_in, has_kept, kept_sentence_text, kept_sentence_texts, message_if_kept, kept_entry_text, kept_entries_text, dropped_title, reason_text, dropped_line_text, dropped_lines_text, commented_message, message_if_lost, dropped_entry_text, dropped_entries_text}
use Rattle.mh_rebase.proofs.NamesAreWords.{start_is_word, token_is_word}
use Rattle.mh_rebase.proofs.Pieces.{Piece, piece_none, piece_as, piece_both, piece_line, piece_gone, piece_lines, piece_generated, piece_commented, word_in, number_in}

abbrev pub Content : Type 0
Content = List (ℕ × List ℕ) × Text

-- The start and the tokens of a kept sentence.
abbrev pub kept_content : Decision → List (ℕ × List ℕ)
kept_content (Keep x s lines) = (x.start, x.tokens) ∷ []
kept_content (Drop reason) = []

abbrev pub kept_contents : List DecidedLine → List (ℕ × List ℕ)
kept_contents js = flat_map (λ j. kept_content j.decision) js

abbrev pub entry_content_if : Bool → List DecidedLine → Text → List Content
entry_content_if true js message = (kept_contents js, message) ∷ []
entry_content_if false js message = []

abbrev pub entry_kept : DecidedEntry → List Content
entry_kept e = entry_content_if (has_kept e.sentences) e.sentences e.message

abbrev pub entries_kept : List DecidedEntry → List Content
entries_kept es = flat_map entry_kept es

abbrev pub place_line : Text
place_line = codes "<YOUR SYNTAX ERROR MESSAGE HERE>"

abbrev pub row_content : CatalogueRow → Content
row_content row = ((row.start, row.sentence) ∷ [], place_line ++ 10 ∷ [])

-- ---- Decided lines.

some_on : (d : Decision) (js : List DecidedLine) → (is_keep d || has_items (kept_contents js)) ≡ has_items (kept_content d ++ kept_contents js)
some_on (Keep x s lines) js = refl
some_on (Drop reason) js = refl

pub some_contents : (js : List DecidedLine) → has_kept js ≡ has_items (kept_contents js)
some_contents [] = refl
some_contents (j ∷ js) = ap (λ (b : Bool). is_keep j.decision || b) (some_contents js) ∙ some_on j.decision js

pub no_contents : (js : List DecidedLine) → has_kept js ≡ false → kept_contents js ≡ []
no_contents js none = no_items (kept_contents js) (sym (some_contents js) ∙ none)
  where
    no_items : (cs : List (ℕ × List ℕ)) → has_items cs ≡ false → cs ≡ []
    no_items [] is = refl
    no_items (c ∷ cs) is = absurd (cc)

pub place_is : message_placeholder ≡ 10 ∷ ((place_line ++ 10 ∷ []) ++ 10 ∷ [])
unfolding message_placeholder
place_is = refl

-- ---- Reasons.

pub record HasWords (reason : DropReason) : Type 0 where
  pub words : Text
  pub is : reason_text reason ≡ words ++ 10 ∷ []
  pub inner : HasNoLineEnd words

early_words : (at : ℕ) → HasWords (reasons.RefusedEarly at)
unfolding early_text
early_words at = record { words = codes "refused early at index " ++ decimal at; is = refl; inner = HasNoLineEnd-append (codes "refused early at index ") (decimal at) refl (number_in at) }

shared_words : (s line : ℕ) → HasWords (reasons.SharedState s line)
unfolding shared_state_text
shared_words s line =
    let front = (codes "state " ++ decimal s) ++ codes " is shared with line " in record {
      words = front ++ decimal line;
      is = refl;
      inner = HasNoLineEnd-append front (decimal line) (HasNoLineEnd-append (codes "state " ++ decimal s) (codes " is shared with line ") (HasNoLineEnd-append (codes "state ") (decimal s) refl (number_in s)) refl) (number_in line);
    }

refusal_words : (verdict : Verdict) → IsNoRefusal (ending_for verdict) → HasWords (reasons.NotRefused verdict)
refusal_words (verdicts.Accept read) is = record { words = codes "not refused: ACCEPT"; is = refl; inner = refl }
refusal_words (verdicts.Overshoot state) is = record { words = codes "not refused: OVERSHOOT"; is = refl; inner = refl }
refusal_words (verdicts.Reject at state) is = absurd (no_refusal_not_rejected (Rejected at state) at state is refl)

pub reason_words : (v : Vocabulary) (t : TableData) (before : List DecidedLine) (text : Text) (reason : DropReason) → IsReason v t before text reason → HasWords reason
reason_words v t before text reason (LineIsUnreadable read) = record { words = codes "unreadable"; is = refl; inner = refl }
reason_words v t before text reason (StartIsUnknown name read) = record { words = codes "unknown start " ++ name; is = refl; inner = HasNoLineEnd-append (codes "unknown start ") name refl (word_in name (start_is_word v text name read)) }
reason_words v t before text reason (StartIsMissing read) = record { words = codes "missing start"; is = refl; inner = refl }
reason_words v t before text reason (TokenIsUnknown name read) = record { words = codes "unknown token " ++ name; is = refl; inner = HasNoLineEnd-append (codes "unknown token ") name refl (word_in name (token_is_word v text name read)) }
reason_words v t before text reason (SentenceIsNotRefused x verdict read is ends) = refusal_words verdict is
reason_words v t before text reason (SentenceIsRefusedEarly x at s read early ends) = early_words at
reason_words v t before text reason (StateIsShared x s line read fails kept) = shared_words s line

dropped_piece_of : (line : ℕ) (reason : DropReason) → HasWords reason → Piece (dropped_title line ++ reason_text reason) []
unfolding dropped_title
dropped_piece_of line reason has =
    let front = (codes "# dropped " ++ decimal line) ++ codes ": " in
    let inner : HasNoLineEnd (front ++ has.words) = HasNoLineEnd-append front has.words (HasNoLineEnd-append (codes "# dropped " ++ decimal line) (codes ": ") (HasNoLineEnd-append (codes "# dropped ") (decimal line) refl (number_in line)) refl) has.inner in
    piece_as ((front ++ has.words) ++ 10 ∷ []) (front ++ reason_text reason) [] [] (append_assoc front has.words (10 ∷ []) ∙ ap (λ (l : Text). front ++ l) (sym has.is)) refl (piece_gone (front ++ has.words) (IsReadUnchanged-no_line_end (front ++ has.words) inner) refl)

piece_empty : Piece (10 ∷ []) ([] ∷ [])
piece_empty = piece_line [] ((λ k d lt. absurd (omega arith)), refl) refl

module _ (expected : Bool) (g : Grammar) (a : Automaton) (t : TableData) where
  pub decided_split : (before js ks : List DecidedLine) → AreDecided expected g a t before (js ++ ks) → AreDecided expected g a t before js × AreDecided expected g a t (before ++ js) ks
  decided_split before [] ks all = (tt, subst (λ (l : List DecidedLine). AreDecided expected g a t l ks) (sym (append-nil before)) all)
  decided_split before (j ∷ js) ks all =
      let later = decided_split (before ++ j ∷ []) js ks all.1 in ((all.0, later.0), subst (λ (l : List DecidedLine). AreDecided expected g a t l ks) (append_assoc before (j ∷ []) js) later.1)

module _ (expected : Bool) (g : Grammar) (a : Automaton) (t : TableData) (facts : Facts t) (same : t.grammar ≡ plain_of g) (has : HasReadableNames g) (names : HasNamesWithoutLineEnds g) where
  -- ---- The kept entries are written so that they are read again.

  decision_piece : (before : List DecidedLine) (text : Text) (d : Decision) → IsDecision expected g a t before text d → Piece (kept_sentence_text g d) (map (canonical g) (kept_content d))
  decision_piece before text (Drop reason) is = piece_none
  decision_piece before text (Keep x s lines) is =
      let line = sentence_text g x.start x.tokens in
      let begins = line_begins g has x.start x.tokens (sentence_start g text x is.read) (sentence_tokens g text x is.read) in
      piece_as ((line ++ 10 ∷ []) ++ lines) (line ++ 10 ∷ lines) (line ∷ []) (line ∷ []) (append_assoc line (10 ∷ []) lines) refl
      (piece_both (line ++ 10 ∷ []) lines (line ∷ []) [] (piece_line line (begins.no_end, begins.whole) begins.kept) (piece_generated lines (IsGeneratedText-block g names a t facts expected x.start x.tokens lines is.commented)))

  lines_piece : (before js : List DecidedLine) → AreDecided expected g a t before js → Piece (kept_sentence_texts g js) (map (canonical g) (kept_contents js))
  lines_piece before [] all = piece_none
  lines_piece before (j ∷ js) all =
      let here = kept_content j.decision in
      piece_as (kept_sentence_text g j.decision ++ kept_sentence_texts g js) (kept_sentence_text g j.decision ++ kept_sentence_texts g js) (map (canonical g) here ++ map (canonical g) (kept_contents js)) (map (canonical g) (here ++ kept_contents js)) refl
      (sym (map-append (canonical g) here (kept_contents js)))
      (piece_both (kept_sentence_text g j.decision) (kept_sentence_texts g js) (map (canonical g) here) (map (canonical g) (kept_contents js)) (decision_piece before j.line.text j.decision all.0) (lines_piece (before ++ j ∷ []) js all.1))

  decision_known : (before : List DecidedLine) (text : Text) (d : Decision) → IsDecision expected g a t before text d → AllByRecursion (IsKnown g) (kept_content d)
  decision_known before text (Drop reason) is = tt
  decision_known before text (Keep x s lines) is = ((sentence_start g text x is.read, sentence_tokens g text x is.read), tt)

  lines_known : (before js : List DecidedLine) → AreDecided expected g a t before js → AllByRecursion (IsKnown g) (kept_contents js)
  lines_known before [] all = tt
  lines_known before (j ∷ js) all = recursion-append (IsKnown g) (kept_content j.decision) (kept_contents js) (decision_known before j.line.text j.decision all.0) (lines_known (before ++ j ∷ []) js all.1)

  -- ---- The text of entries.

  pub record IsWritten (text : Text) (cs : List Content) : Type 0 where
    pub entries : List WrittenEntry
    pub good : AllByRecursion (IsGoodEntry g has) entries
    pub content : map written_content entries ≡ cs
    pub piece : Piece text (entry_lines g has entries)

  written_none : (text : Text) → Piece text [] → IsWritten text []
  written_none text piece = record { entries = []; good = tt; content = refl; piece = piece }

  lines_append : (ws vs : List WrittenEntry) → entry_lines g has (ws ++ vs) ≡ entry_lines g has ws ++ entry_lines g has vs
  lines_append [] vs = refl
  lines_append (w ∷ ws) vs =
      let front = map (canonical g) w.sentences in
      ap (λ (l : List Text). front ++ [] ∷ (w.message ++ [] ∷ l)) (lines_append ws vs) ∙ ap (λ (l : List Text). front ++ [] ∷ l) (sym (append_assoc w.message ([] ∷ entry_lines g has ws) (entry_lines g has vs)))
      ∙ sym (append_assoc front ([] ∷ (w.message ++ [] ∷ entry_lines g has ws)) (entry_lines g has vs))

  pub written_both : (x y : Text) (cs ds : List Content) → IsWritten x cs → IsWritten y ds → IsWritten (x ++ y) (cs ++ ds)
  written_both x y cs ds p q = record {
    entries = p.entries ++ q.entries;
    good = recursion-append (IsGoodEntry g has) p.entries q.entries p.good q.good;
    content = map-append written_content p.entries q.entries ∙ ap (λ (l : List Content). l ++ map written_content q.entries) p.content ∙ ap (λ (l : List Content). cs ++ l) q.content;
    piece = piece_as (x ++ y) (x ++ y) (entry_lines g has p.entries ++ entry_lines g has q.entries) (entry_lines g has (p.entries ++ q.entries)) refl (sym (lines_append p.entries q.entries))
        (piece_both x y (entry_lines g has p.entries) (entry_lines g has q.entries) p.piece q.piece);
  }

  message_piece : (lines : List Text) → AllByRecursion (IsLine g) lines → Piece (10 ∷ (with_ends lines ++ 10 ∷ [])) ([] ∷ (lines ++ [] ∷ []))
  message_piece lines all = piece_both (10 ∷ []) (with_ends lines ++ 10 ∷ []) ([] ∷ []) (lines ++ [] ∷ []) piece_empty (piece_both (with_ends lines) (10 ∷ []) lines ([] ∷ []) (piece_lines g has lines all) piece_empty)

  -- The text of sentences followed by their message is a written entry.
  one_written : (text : Text) (cs : List (ℕ × List ℕ)) (lines : List Text) → Piece text (map (canonical g) cs) → has_items cs ≡ true → AllByRecursion (IsKnown g) cs → has_items lines ≡ true → AllByRecursion (IsLine g) lines → HasNoSeparator blank_text lines
      → IsWritten (text ++ 10 ∷ (with_ends lines ++ 10 ∷ [])) ((cs, with_ends lines) ∷ [])
  one_written text cs lines piece some known more all plain = record {
    entries = record { sentences = cs; message = lines } ∷ [];
    good = (record { some = some; known = known; some_message = more; lines = all; plain = plain }, tt);
    content = refl;
    piece = piece_both text (10 ∷ (with_ends lines ++ 10 ∷ [])) (map (canonical g) cs) ([] ∷ (lines ++ [] ∷ [])) piece (message_piece lines all);
  }

  abbrev pub IsFreeText : Text → Type 0
  IsFreeText message = IsMessageText g has message × HasNoCrLf g has message

  entry_on : (before js : List DecidedLine) (message : Text) → AreDecided expected g a t before js → IsFreeText message → (b : Bool) → has_kept js ≡ b → IsWritten (kept_sentence_texts g js ++ message_if_kept b message) (entry_content_if b js message)
  entry_on before js message all text false none =
      written_none (kept_sentence_texts g js ++ [])
      (piece_as (kept_sentence_texts g js) (kept_sentence_texts g js ++ []) (map (canonical g) (kept_contents js)) [] (sym (append-nil (kept_sentence_texts g js))) (ap (map (canonical g)) (no_contents js none)) (lines_piece before js all))
  entry_on before js message all text true some =
      let reads = message_reads g has message text.0 text.1 in
      subst (λ (m : Text). IsWritten (kept_sentence_texts g js ++ 10 ∷ (m ++ 10 ∷ [])) ((kept_contents js, m) ∷ [])) (sym text.0.is)
      (one_written (kept_sentence_texts g js) (kept_contents js) text.0.lines (lines_piece before js all) (sym (some_contents js) ∙ some) (lines_known before js all) text.0.some reads.0 reads.1)

  abbrev pub HasFreeText : DecidedEntry → Type 0
  HasFreeText e = IsFreeText e.message

  entries_written : (before : List DecidedLine) (es : List DecidedEntry) → AreDecided expected g a t before (lines_in es) → AllByRecursion HasFreeText es → IsWritten (kept_entries_text g es) (entries_kept es)
  entries_written before [] all texts = written_none [] piece_none
  entries_written before (e ∷ es) all texts =
      let parts = decided_split expected g a t before e.sentences (lines_in es) all in
      written_both (kept_entry_text g e) (kept_entries_text g es) (entry_kept e) (entries_kept es) (entry_on before e.sentences e.message parts.0 texts.0 (has_kept e.sentences) refl) (entries_written (before ++ e.sentences) es parts.1 texts.1)

  -- ---- The new entries are written so that they are read again.

  place_good : AllByRecursion (IsLine g) (place_line ∷ [])
  place_good = ((IsReadUnchanged-no_line_end place_line refl, refl), tt)

  row_written : (row : CatalogueRow) (text : Text) → FailsFirst t row.start row.sentence row.state → IsEntryText expected g a t row.start row.sentence text → IsWritten text (row_content row ∷ [])
  row_written row text fails is =
      let line = sentence_text g row.start row.sentence in
      let start : row.start < length g.starts = subst (λ (h : PlainGrammar). row.start < length h.starts) same fails.fails.sentence.known in
      let tokens : AllByRecursion (λ z. z < length g.tokens) row.sentence = subst (λ (h : PlainGrammar). AllByRecursion (λ z. z < h.tokens) row.sentence) same fails.fails.sentence.tokens in
      let begins = line_begins g has row.start row.sentence start tokens in
      let front : Piece ((line ++ 10 ∷ []) ++ is.comments) (line ∷ []) =
      piece_both (line ++ 10 ∷ []) is.comments (line ∷ []) [] (piece_line line (begins.no_end, begins.whole) begins.kept) (piece_generated is.comments (IsGeneratedText-block g names a t facts expected row.start row.sentence is.comments is.are_comments)) in
      let there : text ≡ ((line ++ 10 ∷ []) ++ is.comments) ++ 10 ∷ (with_ends (place_line ∷ []) ++ 10 ∷ []) = is.is ∙ ap (λ (l : Text). ((line ++ 10 ∷ []) ++ is.comments) ++ l) place_is in
      subst (λ (l : Text). IsWritten l (row_content row ∷ [])) (sym there)
      (one_written ((line ++ 10 ∷ []) ++ is.comments) ((row.start, row.sentence) ∷ []) (place_line ∷ []) front refl ((start, tokens), tt) refl place_good (refl, tt))

  rows_written : (rows : List CatalogueRow) (text : Text) → AllByRecursion (λ (row : CatalogueRow). FailsFirst t row.start row.sentence row.state) rows → AreEntries expected g a t rows text → IsWritten text (map row_content rows)
  rows_written [] text all none = subst (λ (l : Text). IsWritten l []) (sym none) (written_none [] piece_none)
  rows_written (row ∷ rows) text all (first, rest, is, are, split) =
      subst (λ (l : Text). IsWritten l (row_content row ∷ map row_content rows)) (sym split) (written_both first rest (row_content row ∷ []) (map row_content rows) (row_written row first all.0 is) (rows_written rows rest all.1 are))

  -- ---- The report of what was dropped.

  drop_piece : (before : List DecidedLine) (line : ℕ) (text : Text) (d : Decision) → IsDecision expected g a t before text d → Piece (dropped_line_text line d) []
  drop_piece before line text (Keep x s lines) is = piece_none
  drop_piece before line text (Drop reason) is = dropped_piece_of line reason (reason_words (vocabulary_of g) t before text reason is)

  drops_piece : (before js : List DecidedLine) → AreDecided expected g a t before js → Piece (dropped_lines_text js) []
  drops_piece before [] all = piece_none
  drops_piece before (j ∷ js) all = piece_both (dropped_line_text j.line.line j.decision) (dropped_lines_text js) [] [] (drop_piece before j.line.line j.line.text j.decision all.0) (drops_piece (before ++ j ∷ []) js all.1)

  whole_lines : (lines : List Text) → AllByRecursion (IsLine g) lines → AllByRecursion IsReadUnchanged lines
  whole_lines [] all = tt
  whole_lines (line ∷ lines) all = (all.0.0, whole_lines lines all.1)

  lost_piece : (message : Text) → IsFreeText message → (b : Bool) → Piece (message_if_lost b message) []
  lost_piece message text true = piece_none
  lost_piece message text false =
      let reads = message_reads g has message text.0 text.1 in subst (λ (m : Text). Piece (commented_message m) []) (sym text.0.is) (piece_commented text.0.lines (whole_lines text.0.lines reads.0))

  pub dropped_piece : (before : List DecidedLine) (es : List DecidedEntry) → AreDecided expected g a t before (lines_in es) → AllByRecursion HasFreeText es → Piece (dropped_entries_text es) []
  dropped_piece before [] all texts = piece_none
  dropped_piece before (e ∷ es) all texts =
      let parts = decided_split expected g a t before e.sentences (lines_in es) all in
      piece_both (dropped_entry_text e) (dropped_entries_text es) [] []
      (piece_both (dropped_lines_text e.sentences) (message_if_lost (has_kept e.sentences) e.message) [] [] (drops_piece before e.sentences parts.0) (lost_piece e.message texts.0 (has_kept e.sentences)))
      (dropped_piece (before ++ e.sentences) es parts.1 texts.1)

  -- ---- The whole text.

  pub all_written : (es : List DecidedEntry) (rows : List CatalogueRow) (new : Text) → AreDecided expected g a t [] (lines_in es) → AllByRecursion HasFreeText es → AllByRecursion (λ (row : CatalogueRow). FailsFirst t row.start row.sentence row.state) rows → AreEntries expected g a t rows new
      → IsWritten (kept_entries_text g es ++ new) (entries_kept es ++ map row_content rows)
  all_written es rows new all texts each are = written_both (kept_entries_text g es) new (entries_kept es) (map row_content rows) (entries_written [] es all texts) (rows_written rows new each are)

  pub with_dropped : (text more : Text) (cs : List Content) → IsWritten text cs → Piece more [] → IsWritten (text ++ more) cs
  with_dropped text more cs is piece = subst (λ (l : List Content). IsWritten (text ++ more) l) (append-nil cs) (written_both text more cs [] is (written_none more piece))
