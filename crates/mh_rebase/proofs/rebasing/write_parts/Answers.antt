use Rattle.std.proofs.Common.{List, ap, rules, subst, ◌∙◌, ◌++◌}
use Rattle.mh_grammar.specs.Text.{Text}
use Rattle.mh_msgfile.specs.declared.loose.LooseEntry.{LooseEntry}
use Rattle.mh_rebase.specs.code.Parts.{DecidesEntries}
use Rattle.mh_rebase.specs.code.Rows.{WritesRows}
use Rattle.mh_rebase.proofs.WritesRows.{rows_fit, rebased}
use Rattle.mh_rebase.proofs.rebasing.write_parts.Goals as goal

pub write_rows-requires : goal.write_rows-requires
write_rows-requires g c = (search rules, (c.requires.fits, rows_fit c.args.to.now.expected c.args.to.now.grammar.now c.args.to.now.automaton.now c.args.to.now.table.now c.args.rows.now c.requires.rows.each c.requires.few))

pub returns : goal.returns
returns g c =
    let to = c.args.to.now in
    let old = c.args.parts.now in
    let new = c.add_entries.new.parts in
    rebased to.expected to.grammar.now to.automaton.now to.table.now c.args.file.now c.args.rows.now old new c.extend_from_slice.new.self.items
    (subst (λ (es : List LooseEntry). DecidesEntries to.expected to.grammar.now to.automaton.now to.table.now es old new) c.as_slice.ensures c.in_ok-add_entries.ensures.entries) c.requires.rows c.requires.empty.lines c.requires.empty.kept c.requires.empty.dropped c.write_rows.new.text.items
    (subst (λ lines. WritesRows to.expected to.grammar.now to.automaton.now to.table.now lines c.args.rows.now new.kept.items c.write_rows.new.text.items) c.as_slice-covered.ensures.value c.in_ok-write_rows.ensures)
    (c.in_ok-extend_from_slice.ensures.items ∙ ap (λ (l : Text). c.write_rows.new.text.items ++ l) c.as_slice-2.ensures.value)
