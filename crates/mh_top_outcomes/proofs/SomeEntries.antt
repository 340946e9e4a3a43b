-- Proves that a sentence that fails has comment lines and an entry, and that rows have entries.
use Rattle.std.proofs.Common.{ℕ, Bool, ◌-◌, List, [], ◌∷◌, ◌++◌, length, refl, arith}
use Rattle.std.specs.Prelude.{codes}
use Rattle.std.specs.List.{AllByRecursion}
use Rattle.mh_grammar.specs.declared.types.Grammar.{Grammar}
use Rattle.mh_grammar.specs.Plain.{plain_of}
use Rattle.mh_grammar.specs.Text.{Text}
use Rattle.mh_items_kernels.specs.KernelTypes.{Automaton}
use Rattle.mh_items_kernels.specs.Automaton.{IsAutomaton, kernel_at}
use Rattle.mh_msgfile.specs.FileTexts.{sentence_text}
use Rattle.mh_report.specs.CatalogueTexts.{AreEntries}
use Rattle.mh_report.specs.Comments.{IsCommentBlock, IsEntryText, comments, message_placeholder}
use Rattle.mh_report.proofs.CommentParts.{some_block}
use Rattle.mh_report.proofs.HasFarthestDot.{some_farthest}
use Rattle.mh_resolve_cells.specs.declared.kinds.Mode.{Mode}
use Rattle.mh_resolve_cells.specs.States.{IsTableOf}
use Rattle.mh_run.specs.Trace.{reduced_since}
use Rattle.mh_tables_core.specs.Table.{TableData}
use Rattle.mh_tables_core.specs.Halting.{HaltingFacts}
use Rattle.mh_tables_core.specs.Failing.{CatalogueRow, Fails, FailsFirst}
use Rattle.mh_tables_core.specs.Run.{initial}
use Rattle.mh_tables_core.proofs.RefusingState.{refusing_state_known}

module _ (expected : Bool) (g : Grammar) (a : Automaton) (mode : Mode) (t : TableData) (h : HaltingFacts t) (automaton : IsAutomaton (plain_of g) a) (table : IsTableOf g a mode t) where
  pub some_comments : (start : ℕ) (w : List ℕ) (s : ℕ) → Fails t start w s → (text : Text) × IsCommentBlock expected g a t start w text
  some_comments start w s fails =
      let known = refusing_state_known t h.facts start w (length w - 1) s fails.sentence.known fails.verdict in
      let count = table.states.count in
      let item = some_farthest (kernel_at a s).items (automaton.filled s (omega (arith, known, count))) in
      let n = fails.verdict.0 in
      let ps = reduced_since t n (initial start w) [] in
      some_block expected g a t h start w (comments g (kernel_at a s).items s item.0 ps) (record { state = s; fails = fails; item = item.0; farthest = item.1; reduced = ps; trace = record { steps = n; ends = fails.verdict.1; reduced = refl }; is = refl })

  pub some_entry : (start : ℕ) (w : List ℕ) (s : ℕ) → Fails t start w s → (text : Text) × IsEntryText expected g a t start w text
  some_entry start w s fails =
      let lines = some_comments start w s fails in
      (sentence_text g start w ++ codes "\n" ++ lines.0 ++ message_placeholder, record { comments = lines.0; are_comments = lines.1; is = refl })

  pub some_entries : (rows : List CatalogueRow) → AllByRecursion (λ row. FailsFirst t row.start row.sentence row.state) rows → (text : Text) × AreEntries expected g a t rows text
  some_entries [] each = ([], refl)
  some_entries (row ∷ rows) each =
      let here = some_entry row.start row.sentence row.state each.0.fails in
      let rest = some_entries rows each.1 in
      (here.0 ++ rest.0, (here.0, rest.0, here.1, rest.1, refl))
