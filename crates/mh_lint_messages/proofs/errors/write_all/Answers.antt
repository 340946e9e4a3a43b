use Rattle.std.proofs.Common.{List, Option, ℕ, ◌≡◌, ◌++◌, subst}
use Rattle.mh_msgfile.specs.declared.loose.LooseEntry.{LooseEntry}
use Rattle.mh_lint_messages.specs.code.Findings.{DecidesEntries}
use Rattle.mh_lint_messages.proofs.MissingTexts.{error_text, missing_row_texts}
use Rattle.mh_lint_messages.proofs.errors.write_all.Goals as goal

pub returns : goal.returns
returns c =
    let to = c.args.to.now in
    let old = c.args.found.now in
    let new = c.add_entries.new.found in
    let rows = c.args.rows.now in
    let first = c.write_unpaired.new.text.items in
    let text = c.write_missing.new.text.items in
    error_text to.grammar.now to.table.now to.name.now c.args.blocks.now rows old new first text c.requires.empty.lines c.requires.empty.text
    (subst (λ (es : List LooseEntry). DecidesEntries to.grammar.now to.table.now to.name.now es old new) c.as_slice.ensures c.in_ok-add_entries.ensures.entries) c.requires.rows c.in_ok-write_unpaired.ensures
    (subst (λ (kept : List (Option ℕ)). text ≡ first ++ missing_row_texts to.grammar.now kept rows) c.as_slice-kept.ensures.value c.in_ok-write_missing.ensures)
