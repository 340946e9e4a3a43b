-- The contracts of the calls that write entries and counts.
use Rattle.std.specs.Prelude.{◌≡◌, ◌≤◌, List, length, Option, Result, Ok, Err}
use Rattle.std.specs.List.{AllByRecursion}
use Rattle.std.specs.Io.KnownBytes.{Appends}
use Rattle.mh_outside.specs.Sink.{AppendsPrefix}
use Rattle.mh_tables_core.specs.Table.{TableData}
use Rattle.mh_tables_core.specs.Failing.{CatalogueRow, Fails, max_sentence_cost}
use Rattle.mh_report.specs.Comments.{IsEntryText}
use Rattle.mh_grammar.specs.Text.{Text}
use Rattle.mh_report.specs.CatalogueTexts.{AreEntries}
use Rattle.mh_top_drive.specs.Shapes.{Prepared}
use Rattle.mh_top_drive.specs.declared.stop.Stop.{Stop}
use Rattle.mh_top_drive.specs.declared.stop.Stop.TheVariants.{WriteFailed, OutOfMemory}

-- The sentence of the row fails in the state of the row, and has at most 1,000,000 tokens.
pub record IsFailingRow (t : TableData) (row : CatalogueRow) : Type 0 where
  pub fails : Fails t row.start row.sentence row.state
  pub short : length row.sentence ≤ max_sentence_cost

abbrev pub AreFailingRows : TableData → List CatalogueRow → Type 0
AreFailingRows t rows = AllByRecursion (IsFailingRow t) rows

abbrev pub IsEntryOf : Prepared → CatalogueRow → Text → Type 0
IsEntryOf p row text = IsEntryText p.order.comment_expected p.grammar p.tabled.automaton p.tabled.halting row.start row.sentence text

abbrev pub AreEntriesOf : Prepared → List CatalogueRow → Text → Type 0
AreEntriesOf p rows text = AreEntries p.order.comment_expected p.grammar p.tabled.automaton p.tabled.halting rows text

-- A text with the property `Is` was written whole; or a write failed after a prefix; or memory ran out before anything
-- was written.
abbrev pub WritesWholeText : (Text → Type 0) → Option Text → Option Text → Result (Unit {0}) Stop → Type 0
WritesWholeText Is out0 out1 (Ok _) = (text : Text) × Is text × Appends out0 out1 text
WritesWholeText Is out0 out1 (Err WriteFailed) = (text : Text) × Is text × AppendsPrefix out0 out1 text
WritesWholeText Is out0 out1 (Err OutOfMemory) = out1 ≡ out0
WritesWholeText Is out0 out1 (Err _) = ⊥

-- A text with the property `Is` was written whole; or a write failed or memory ran out after a prefix.
abbrev pub WritesTextInParts : (Text → Type 0) → Option Text → Option Text → Result (Unit {0}) Stop → Type 0
WritesTextInParts Is out0 out1 (Ok _) = (text : Text) × Is text × Appends out0 out1 text
WritesTextInParts Is out0 out1 (Err WriteFailed) = (text : Text) × Is text × AppendsPrefix out0 out1 text
WritesTextInParts Is out0 out1 (Err OutOfMemory) = (text : Text) × Is text × AppendsPrefix out0 out1 text
WritesTextInParts Is out0 out1 (Err _) = ⊥
