-- Proves that each line of an examined messages file has a decision, and that a text of what is wrong with the file
-- exists, up to double negation (`NotLacking`).
use Rattle.std.proofs.Common.{◌≡◌, ◌∙◌, List, [], ◌∷◌, ◌++◌, map, refl, ap}
use Rattle.std.specs.Prelude.{filter}
use Rattle.mh_grammar.specs.declared.types.Grammar.{Grammar}
use Rattle.mh_grammar.specs.Plain.{plain_of}
use Rattle.mh_grammar.specs.Text.{Text}
use Rattle.mh_grammar.specs.NotLacking.{NotLacking}
use Rattle.mh_grammar.proofs.NotLacking.{given, chain}
use Rattle.mh_rebase.specs.ErrorLines.{IsLineDecision, AreLineDecisions, IsErrorText, entries_text, missing_texts, unpaired_text}
use Rattle.mh_lint_messages.proofs.DecidesEntries.{decided_append}
use Rattle.mh_msgfile.specs.declared.blocks.LooseBlocks.{LooseBlocks}
use Rattle.mh_msgfile.specs.declared.loose.LooseEntry.{LooseEntry}
use Rattle.mh_msgfile.specs.declared.loose.LooseLine.{LooseLine}
use Rattle.mh_rebase.specs.Decisions.{Decision, Keep, Drop, DecidedLine}
use Rattle.mh_rebase.specs.RebasedText.{DecidedEntry, is_new_row, lines_in, without_decisions}
use Rattle.mh_tables_core.specs.Halting.{HaltingFacts}
use Rattle.mh_tables_core.specs.Table.{TableData}
use Rattle.mh_top_outcomes.proofs.SomeCatalogue.{some_catalogue}
use Rattle.mh_top_outcomes.proofs.SomeDecision.{KeptOrDropped, Kept, Dropped, kept_or_dropped}

module _ (g : Grammar) (t : TableData) (h : HaltingFacts t) (same : t.grammar ≡ plain_of g) where
  abbrev Decides : List DecidedLine → Text → Type 0
  Decides before text = (d : Decision) × IsLineDecision g t before text d

  decision_of : (before : List DecidedLine) (text : Text) → KeptOrDropped g t before text → Decides before text
  decision_of before text (Kept x s read fails first) = (Keep x s [], (read, fails, first, refl))
  decision_of before text (Dropped reason is) = (Drop reason, is)

  decided_lines : (before : List DecidedLine) (xs : List LooseLine) → (js : List DecidedLine) × (map (λ j. j.line) js ≡ xs) × AreLineDecisions g t before js
  decided_lines before [] = ([], refl, tt)
  decided_lines before (x ∷ xs) =
      let d = decision_of before x.text (kept_or_dropped g t h same before x.text) in
      let rest = decided_lines (before ++ record { line = x; decision = d.0 } ∷ []) xs in
      (record { line = x; decision = d.0 } ∷ rest.0, ap (λ (l : List LooseLine). x ∷ l) rest.1, (d.1, rest.2))

  decided_entries : (before : List DecidedLine) (es : List LooseEntry) → (ds : List DecidedEntry) × (map without_decisions ds ≡ es) × AreLineDecisions g t before (lines_in ds)
  decided_entries before [] = ([], refl, tt)
  decided_entries before (e ∷ es) =
      let js = decided_lines before e.sentences in
      let rest = decided_entries (before ++ js.0) es in
      let one : without_decisions (record { sentences = js.0; message = e.message }) ≡ e = (λ i. record { sentences = js.1 i; message = e.message }) in (
        record { sentences = js.0; message = e.message } ∷ rest.0,
        ap (λ (x : LooseEntry). x ∷ map without_decisions rest.0) one ∙ ap (λ (l : List LooseEntry). e ∷ l) rest.1,
        decided_append g t before js.0 (lines_in rest.0) js.2 rest.2,
      )

  pub some_error_text : (name : Text) (blocks : LooseBlocks) → NotLacking ((text : Text) × IsErrorText g t name blocks text)
  some_error_text name blocks = chain (some_catalogue t h.facts) (λ c.
      let ds = decided_entries [] blocks.file.entries in
      given (
        entries_text name ds.0 ++ unpaired_text name blocks.unpaired ++ missing_texts g (filter (is_new_row (lines_in ds.0)) c.0),
        record { entries = ds.0; of_file = ds.1; decided = ds.2; rows = c.0; catalogue = c.1; is = refl },
      ))
