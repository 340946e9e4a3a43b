-- Proves that the text of entries with comment lines is unique, and that kept and new entries have such a text.
use Rattle.std.proofs.Common.{◌≡◌, ℕ, Bool, true, false, List, [], ◌∷◌, ◌++◌, map, refl, sym, ◌∙◌, ap, subst, append_assoc, append-nil}
use Rattle.mh_grammar.specs.declared.types.Grammar.{Grammar}
use Rattle.mh_grammar.specs.Text.{Text}
use Rattle.mh_items_kernels.specs.KernelTypes.{Automaton}
use Rattle.mh_tables_core.specs.Table.{TableData}
use Rattle.mh_tables_core.specs.Failing.{CatalogueRow}
use Rattle.mh_msgfile.specs.FileTexts.{sentence_text}
use Rattle.mh_report.specs.Comments.{message_placeholder}
use Rattle.mh_report.specs.Comments.{IsEntryText}
use Rattle.mh_report.specs.CatalogueTexts.{AreEntries}
use Rattle.mh_report.proofs.OneCommentText.{block_once}
use Rattle.mh_rebase.specs.Decisions.{Decision, Keep, Drop, DecidedLine, IsDecision, AreDecided}
use Rattle.mh_rebase.specs.RebasedText.{DecidedEntry, lines_in, has_kept, kept_sentence_text, kept_sentence_texts, message_if_kept, kept_entry_text, kept_entries_text}
use Rattle.mh_rebase.specs.EntryTexts.{IsTextOfSentences, AreCommented}
use Rattle.mh_rebase.proofs.IsWritten.{Content, kept_content, kept_contents, entry_content_if, entry_kept, entries_kept, place_line, place_is, row_content, no_contents, decided_split}

module _ (expected : Bool) (g : Grammar) (a : Automaton) (t : TableData) where
  pub sentences_once : (xs : List (ℕ × List ℕ)) (x y : Text) → IsTextOfSentences expected g a t xs x → IsTextOfSentences expected g a t xs y → x ≡ y
  sentences_once [] x y p q = p ∙ sym q
  sentences_once (c ∷ xs) x y (lines, rest, is, are, split) (lines', rest', is', are', split') =
      split ∙ ap (λ (l : Text). (sentence_text g c.0 c.1 ++ 10 ∷ l) ++ rest) (block_once g a t expected c.0 c.1 lines lines' is is') ∙ ap (λ (l : Text). (sentence_text g c.0 c.1 ++ 10 ∷ lines') ++ l) (sentences_once xs rest rest' are are') ∙ sym split'

  pub commented_once : (es : List Content) (x y : Text) → AreCommented expected g a t es x → AreCommented expected g a t es y → x ≡ y
  commented_once [] x y p q = p ∙ sym q
  commented_once (e ∷ es) x y (first, rest, are, more, split) (first', rest', are', more', split') =
      split ∙ ap (λ (l : Text). (l ++ (10 ∷ e.1 ++ 10 ∷ [])) ++ rest) (sentences_once e.0 first first' are are') ∙ ap (λ (l : Text). (first' ++ (10 ∷ e.1 ++ 10 ∷ [])) ++ l) (commented_once es rest rest' more more') ∙ sym split'

  pub commented_append : (es fs : List Content) (x y : Text) → AreCommented expected g a t es x → AreCommented expected g a t fs y → AreCommented expected g a t (es ++ fs) (x ++ y)
  commented_append [] fs x y none are = subst (λ (l : Text). AreCommented expected g a t fs (l ++ y)) (sym none) are
  commented_append (e ∷ es) fs x y (first, rest, is, more, split) are =
      (first, rest ++ y, is, commented_append es fs rest y more are, ap (λ (l : Text). l ++ y) split ∙ append_assoc (first ++ (10 ∷ e.1 ++ 10 ∷ [])) rest y)

  -- ---- The kept entries are written with their comments.

  kept_one : (before : List DecidedLine) (text : Text) (d : Decision) (cs : List (ℕ × List ℕ)) (rest : Text) → IsDecision expected g a t before text d → IsTextOfSentences expected g a t cs rest → IsTextOfSentences expected g a t (kept_content d ++ cs) (kept_sentence_text g d ++ rest)
  kept_one before text (Keep x s lines) cs rest is are = (lines, rest, is.commented, are, refl)
  kept_one before text (Drop reason) cs rest is are = are

  pub lines_are : (before js : List DecidedLine) → AreDecided expected g a t before js → IsTextOfSentences expected g a t (kept_contents js) (kept_sentence_texts g js)
  lines_are before [] all = refl
  lines_are before (j ∷ js) all = kept_one before j.line.text j.decision (kept_contents js) (kept_sentence_texts g js) all.0 (lines_are (before ++ j ∷ []) js all.1)

  entry_by : (before js : List DecidedLine) (message : Text) → AreDecided expected g a t before js → (b : Bool) → has_kept js ≡ b → AreCommented expected g a t (entry_content_if b js message) (kept_sentence_texts g js ++ message_if_kept b message)
  entry_by before js message all true some = (kept_sentence_texts g js, [], lines_are before js all, refl, sym (append-nil (kept_sentence_texts g js ++ (10 ∷ message ++ 10 ∷ []))))
  entry_by before js message all false none =
      append-nil (kept_sentence_texts g js) ∙ sentences_once [] (kept_sentence_texts g js) [] (subst (λ (cs : List (ℕ × List ℕ)). IsTextOfSentences expected g a t cs (kept_sentence_texts g js)) (no_contents js none) (lines_are before js all)) refl

  pub entries_are : (before : List DecidedLine) (es : List DecidedEntry) → AreDecided expected g a t before (lines_in es) → AreCommented expected g a t (entries_kept es) (kept_entries_text g es)
  entries_are before [] all = refl
  entries_are before (e ∷ es) all =
      let parts = decided_split expected g a t before e.sentences (lines_in es) all in
      commented_append (entry_kept e) (entries_kept es) (kept_entry_text g e) (kept_entries_text g es) (entry_by before e.sentences e.message parts.0 (has_kept e.sentences) refl) (entries_are (before ++ e.sentences) es parts.1)

  -- ---- The new entries are written with their comments.

  row_is : (row : CatalogueRow) (text : Text) → IsEntryText expected g a t row.start row.sentence text → AreCommented expected g a t (row_content row ∷ []) text
  row_is row text is =
      let line = sentence_text g row.start row.sentence in (
        line ++ 10 ∷ is.comments,
        [],
        (is.comments, [], is.are_comments, refl, sym (append-nil (line ++ 10 ∷ is.comments))),
        refl,
        is.is ∙ ap (λ (l : Text). l ++ message_placeholder) (append_assoc line (10 ∷ []) is.comments) ∙ ap (λ (l : Text). (line ++ 10 ∷ is.comments) ++ l) place_is ∙ sym (append-nil ((line ++ 10 ∷ is.comments) ++ (10 ∷ (place_line ++ 10 ∷ []) ++ 10 ∷ []))),
      )

  pub rows_are : (rows : List CatalogueRow) (text : Text) → AreEntries expected g a t rows text → AreCommented expected g a t (map row_content rows) text
  rows_are [] text none = none
  rows_are (row ∷ rows) text (first, rest, is, are, split) =
      subst (λ (l : Text). AreCommented expected g a t (map row_content (row ∷ rows)) l) (sym split) (commented_append (row_content row ∷ []) (map row_content rows) first rest (row_is row first is) (rows_are rows rest are))
