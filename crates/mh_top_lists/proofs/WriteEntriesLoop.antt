-- The loop invariant of writing the entries of a catalogue, one after the other.
use Rattle.std.proofs.Common.{◌≡◌, ◌≤◌, ◌<◌, ◌+◌, ◌-◌, inr, ℕ, suc, List, [], ◌∷◌, ◌++◌, length, take, drop, get_or, Option, None, refl, sym, ◌∙◌, ap, subst, arith, append_assoc}
use Rattle.std.proofs.KnownBytes.{Appends-nil}
use Rattle.std.proofs.lemmas.List.{append-nil, take_all}
use Rattle.std.specs.Prelude.{Result, Ok, Err, codes}
use Rattle.std.specs.List.{AllByRecursion}
use Rattle.std.specs.Io.KnownBytes.{Appends}
use Rattle.mh_outside.specs.Sink.{IsPrefix, AppendsPrefix}
use Rattle.mh_outside.proofs.Consumes.{Appends-append}
use Rattle.mh_grammar.proofs.Lists.{split_at, take_step}
use Rattle.mh_items_kernels.specs.Automaton.{kernel_at}
use Rattle.mh_tables_core.specs.Table.{TableData}
use Rattle.mh_tables_core.specs.Halting.{HaltingFacts}
use Rattle.mh_tables_core.specs.Failing.{CatalogueRow, FailsFirst, Catalogue, TooLongAt}
use Rattle.mh_tables_core.specs.Run.{initial}
use Rattle.mh_run.specs.Trace.{reduced_since}
use Rattle.mh_catalogue.specs.declared.rows.Row.{Row as MadeRow}
use Rattle.mh_catalogue.specs.Rows.{row_of, rows_of, AreShort}
use Rattle.mh_report.specs.Comments.{comments, message_placeholder}
use Rattle.mh_report.proofs.CommentParts.{some_block}
use Rattle.mh_report.proofs.HasFarthestDot.{some_farthest}
use Rattle.mh_report.proofs.AreEntries.{entries_append}
use Rattle.mh_tables_core.proofs.RefusingState.{refusing_state_known}
use Rattle.mh_msgfile.specs.FileTexts.{sentence_text}
use Rattle.mh_grammar.specs.Text.{Text}
use Rattle.mh_top_plans.specs.Listing.{Lists}
use Rattle.mh_top_drive.specs.ModeBehavior.{ModeEnd}
use Rattle.mh_top_plans.specs.Plan.{IsFinalOutput, Errors}
use Rattle.mh_top_lists.specs.code.Entries.{AreEntriesOf, AreFailingRows, IsEntryOf, IsFailingRow, WritesTextInParts, WritesWholeText}
use Rattle.mh_top_drive.specs.code.Prepared.{IsConsistent}
use Rattle.mh_top_drive.specs.Shapes.{Prepared}
use Rattle.mh_top_drive.specs.code.ModeCalls.{EndIsWritten, TextIsWritten}
use Rattle.mh_top_drive.specs.declared.stop.Stop.{Stop}
use Rattle.mh_top_drive.specs.declared.stop.Stop.TheVariants.{Halted, ShelfFailed, InputFailed, WriteFailed, OutOfMemory}

-- ---- Each sentence that fails has an entry.

module _ (p : Prepared) (halts : HaltingFacts p.tabled.halting) (fit : IsConsistent p) where
  some_entry : (row : CatalogueRow) → IsFailingRow p.tabled.halting row → (text : Text) × IsEntryOf p row text
  some_entry row is =
      let g = p.grammar in
      let a = p.tabled.automaton in
      let t = p.tabled.halting in
      let fails = is.fails in
      let known = refusing_state_known t halts.facts row.start row.sentence (length row.sentence - 1) row.state fails.sentence.known fails.verdict in
      let count = fit.table.states.count in
      let best = some_farthest (kernel_at a row.state).items (fit.automaton.filled row.state (omega arith)) in
      let n = fails.verdict.0 in
      let lines = comments g (kernel_at a row.state).items row.state best.0 (reduced_since t n (initial row.start row.sentence) []) in
      let block = some_block p.order.comment_expected g a t halts row.start row.sentence lines
      (record { state = row.state; fails = fails; item = best.0; farthest = best.1; reduced = reduced_since t n (initial row.start row.sentence) []; trace = record { steps = n; ends = fails.verdict.1; reduced = refl }; is = refl }) in (
        sentence_text g row.start row.sentence ++ codes "\n" ++ block.0 ++ message_placeholder,
        record { comments = block.0; are_comments = block.1; is = refl },
      )

  some_entries : (rows : List CatalogueRow) → AreFailingRows p.tabled.halting rows → (text : Text) × AreEntriesOf p rows text
  some_entries [] fits = ([], refl)
  some_entries (row ∷ rows) fits = let x = some_entry row fits.0 in let y = some_entries rows fits.1 in (x.0 ++ y.0, (x.0, y.0, x.1, y.1, refl))

-- ---- The text of entries, followed by the text of more entries, is the text of all of them.

one_entry : (p : Prepared) (row : CatalogueRow) (x : Text) → IsEntryOf p row x → AreEntriesOf p (row ∷ []) x
one_entry p row x is = (x, [], is, refl, sym (append-nil x))

-- ---- The loop over the rows writes the entry of one row after the other.

-- The invariant: the entries of these rows were written.
pub record Written (p : Prepared) (rows : List CatalogueRow) (out0 out1 : Option Text) : Type 0 where
  pub text : Text
  pub are : AreEntriesOf p rows text
  pub on_out : Appends out0 out1 text

pub none_written : (p : Prepared) (out : Option Text) → Written p [] out out
none_written p out = record { text = []; are = refl; on_out = Appends-nil out }

module _ (p : Prepared) (out0 out1 out2 : Option Text) (rows : List CatalogueRow) (h : Written p rows out0 out1) (row : CatalogueRow) where
  pub one_more : WritesWholeText (IsEntryOf p row) out1 out2 (Ok tt) → Written p (rows ++ row ∷ []) out0 out2
  one_more ran = record {
    text = h.text ++ ran.0;
    are = entries_append p.order.comment_expected p.grammar p.tabled.automaton p.tabled.halting rows (row ∷ []) h.text ran.0 h.are (one_entry p row ran.0 ran.1);
    on_out = Appends-append out0 out1 out2 h.text ran.0 h.on_out ran.2;
  }

  module _ (halts : HaltingFacts p.tabled.halting) (fit : IsConsistent p) (rest : List CatalogueRow) (fits : AreFailingRows p.tabled.halting (row ∷ rest)) where
    -- The entries written so far and a prefix of the next entry are a prefix of all entries.
    cut : (x front : Text) → IsEntryOf p row x → Appends out1 out2 front → IsPrefix front x → (text : Text) × AreEntriesOf p (rows ++ row ∷ rest) text × AppendsPrefix out0 out2 text
    cut x front is on_out is_front =
        let more = some_entries p halts fit rest fits.1 in (
          h.text ++ (x ++ more.0),
          entries_append p.order.comment_expected p.grammar p.tabled.automaton p.tabled.halting rows (row ∷ rest) h.text (x ++ more.0) h.are (x, more.0, is, more.1, refl),
          (
            h.text ++ front,
            Appends-append out0 out1 out2 h.text front h.on_out on_out,
            (is_front.0 ++ more.0, ap (λ (t : Text). h.text ++ (t ++ more.0)) is_front.1 ∙ ap (λ (t : Text). h.text ++ t) (append_assoc front is_front.0 more.0) ∙ sym (append_assoc h.text front (is_front.0 ++ more.0))),
          ),
        )

    pub stops : (stop : Stop) → WritesWholeText (IsEntryOf p row) out1 out2 (Err stop) → WritesTextInParts (AreEntriesOf p (rows ++ row ∷ rest)) out0 out2 (Err stop)
    stops WriteFailed ran = cut ran.0 ran.2.0 ran.1 ran.2.1 ran.2.2
    stops OutOfMemory ran =
        let x = some_entry p halts fit row fits.0 in cut x.0 [] x.1 (subst (λ (o : Option Text). Appends out1 o []) (sym ran) (Appends-nil out1)) (x.0, refl)
    stops (Halted cause) ran = absurd ran
    stops (ShelfFailed name) ran = absurd ran
    stops InputFailed ran = absurd ran

-- ---- The rows as values of the code.

pub entry_ran : (Is : Text → Type 0) (text given : Text) (out0 out1 : Option Text) (r : Result (Unit {0}) Stop) → Is text → given ≡ text → TextIsWritten given out0 out1 r → WritesWholeText Is out0 out1 r
entry_ran Is text given out0 out1 (Ok u) is same wrote = (text, is, subst (Appends out0 out1) same wrote)
entry_ran Is text given out0 out1 (Err WriteFailed) is same wrote = (text, is, subst (AppendsPrefix out0 out1) same wrote)
entry_ran Is text given out0 out1 (Err (Halted cause)) is same wrote = absurd wrote
entry_ran Is text given out0 out1 (Err (ShelfFailed name)) is same wrote = absurd wrote
entry_ran Is text given out0 out1 (Err InputFailed) is same wrote = absurd wrote
entry_ran Is text given out0 out1 (Err OutOfMemory) is same wrote = absurd wrote

rows_of-append : (xs ys : List MadeRow) → rows_of (xs ++ ys) ≡ rows_of xs ++ rows_of ys
rows_of-append [] ys = refl
rows_of-append (x ∷ xs) ys = ap (λ (l : List CatalogueRow). row_of x ∷ l) (rows_of-append xs ys)

-- The rows are those before an index, the row at the index, and those after.
rows_split : (rows : List MadeRow) (i : ℕ) (row : MadeRow) → i < length rows → row ≡ get_or rows i row → rows_of rows ≡ rows_of (take i rows) ++ row_of row ∷ rows_of (drop (suc i) rows)
rows_split rows i row lt is = ap rows_of (split_at rows i row lt is) ∙ rows_of-append (take i rows) (row ∷ drop (suc i) rows)

rows_taken : (rows : List MadeRow) (i : ℕ) (row : MadeRow) → i < length rows → row ≡ get_or rows i row → rows_of (take (i + 1) rows) ≡ rows_of (take i rows) ++ row_of row ∷ []
rows_taken rows i row lt is = ap rows_of (take_step rows i row lt is) ∙ rows_of-append (take i rows) (row ∷ [])

AreFailingRows-suffix : (t : TableData) (xs ys : List CatalogueRow) → AreFailingRows t (xs ++ ys) → AreFailingRows t ys
AreFailingRows-suffix t [] ys h = h
AreFailingRows-suffix t (x ∷ xs) ys h = AreFailingRows-suffix t xs ys h.1

module _ (p : Prepared) (rows : List MadeRow) (i : ℕ) (row : MadeRow) (lt : i < length rows) (is : row ≡ get_or rows i row) where
  pub row_fit : AreFailingRows p.tabled.halting (rows_of rows) → IsFailingRow p.tabled.halting (row_of row)
  row_fit fits = (AreFailingRows-suffix p.tabled.halting (rows_of (take i rows)) (row_of row ∷ rows_of (drop (suc i) rows)) (subst (AreFailingRows p.tabled.halting) (rows_split rows i row lt is) fits)).0

  module _ (out0 out1 out2 : Option Text) (h : Written p (rows_of (take i rows)) out0 out1) where
    pub row_written : WritesWholeText (IsEntryOf p (row_of row)) out1 out2 (Ok tt) → Written p (rows_of (take (i + 1) rows)) out0 out2
    row_written ran = subst (λ (l : List CatalogueRow). Written p l out0 out2) (sym (rows_taken rows i row lt is)) (one_more p out0 out1 out2 (rows_of (take i rows)) h (row_of row) ran)

    pub row_stops : HaltingFacts p.tabled.halting → IsConsistent p → AreFailingRows p.tabled.halting (rows_of rows) → (stop : Stop) → WritesWholeText (IsEntryOf p (row_of row)) out1 out2 (Err stop) → WritesTextInParts (AreEntriesOf p (rows_of rows)) out0 out2 (Err stop)
    row_stops halts fit fits stop ran =
        let same = rows_split rows i row lt is in
        subst (λ (l : List CatalogueRow). WritesTextInParts (AreEntriesOf p l) out0 out2 (Err stop)) (sym same)
        (stops p out0 out1 out2 (rows_of (take i rows)) h (row_of row) halts fit (rows_of (drop (suc i) rows)) (AreFailingRows-suffix p.tabled.halting (rows_of (take i rows)) (row_of row ∷ rows_of (drop (suc i) rows)) (subst (AreFailingRows p.tabled.halting) same fits)) stop ran)

pub all_written : (p : Prepared) (rows : List MadeRow) (i : ℕ) (out0 out1 : Option Text) → length rows ≤ i → Written p (rows_of (take i rows)) out0 out1 → WritesTextInParts (AreEntriesOf p (rows_of rows)) out0 out1 (Ok tt)
all_written p rows i out0 out1 le h = let all : rows_of (take i rows) ≡ rows_of rows = ap rows_of (take_all i rows le) in (h.text, subst (λ (l : List CatalogueRow). AreEntriesOf p l h.text) all h.are, h.on_out)

-- ---- The end of the mode.

rows_fit : (t : TableData) (rows : List CatalogueRow) → AllByRecursion (λ row. FailsFirst t row.start row.sentence row.state) rows → AreShort rows → AreFailingRows t rows
rows_fit t [] each short = tt
rows_fit t (row ∷ rows) each short = (record { fails = each.0.fails; short = short.0 }, rows_fit t rows each.1 short.1)

pub catalogue_fit : (t : TableData) (rows : List CatalogueRow) → Catalogue t rows → AreShort rows → AreFailingRows t rows
catalogue_fit t rows is short = rows_fit t rows is.each short

abbrev Ends : Prepared → ModeEnd → Type 0
Ends p e = IsFinalOutput (Errors p) e

module _ (p : Prepared) (out0 out1 : Option Text) (rows : List CatalogueRow) (is : Catalogue p.tabled.halting rows) (none : (s : ℕ) → TooLongAt p.tabled.halting s → ⊥) where
  list_of : (text : Text) → AreEntriesOf p rows text → Ends p (record { cause = None; out = text })
  list_of text are = Lists none refl (record { rows = rows; catalogue = is; entries = are })

  listed : (r : Result (Unit {0}) Stop) → WritesTextInParts (AreEntriesOf p rows) out0 out1 r → EndIsWritten (Ends p) out0 out1 r
  listed (Ok u) ran = (record { cause = None; out = ran.0 }, list_of ran.0 ran.1, refl, ran.2)
  listed (Err WriteFailed) ran = (record { cause = None; out = ran.0 }, list_of ran.0 ran.1, ran.2)
  listed (Err OutOfMemory) ran = inr (record { cause = None; out = ran.0 }, list_of ran.0 ran.1, ran.2)
  listed (Err (Halted cause)) ran = absurd ran
  listed (Err (ShelfFailed name)) ran = absurd ran
  listed (Err InputFailed) ran = absurd ran

pub rows_listed : (p : Prepared) (rows given : List MadeRow) → given ≡ rows → Catalogue p.tabled.halting (rows_of rows) → ((s : ℕ) → TooLongAt p.tabled.halting s → ⊥) → (out0 out1 : Option Text) (r : Result (Unit {0}) Stop) → WritesTextInParts (AreEntriesOf p (rows_of given)) out0 out1 r → EndIsWritten (Ends p) out0 out1 r
rows_listed p rows given same is none out0 out1 r ran = listed p out0 out1 (rows_of rows) is none r (subst (λ (l : List MadeRow). WritesTextInParts (AreEntriesOf p (rows_of l)) out0 out1 r) same ran)
