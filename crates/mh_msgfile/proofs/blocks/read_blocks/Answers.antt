use Rattle.std.proofs.Common.{List, subst}
use Rattle.mh_grammar.specs.Text.{Text}
use Rattle.mh_msgfile.specs.Messages.{blocks}
use Rattle.mh_msgfile.specs.code.LooseSteps.{ReadsLooseEntries}
use Rattle.mh_msgfile.proofs.ReadsLooseEntries.{short_entries}
use Rattle.mh_msgfile.proofs.blocks.read_blocks.Goals as goal

pub returns-clause-blocks : goal.returns-clause-blocks
returns-clause-blocks c =
    let read = subst (λ (l : List Text). ReadsLooseEntries l (blocks l) c.put_line_entries.new.entries c.in_ok-unpaired.unpaired) c.as_slice.ensures c.in_ok-unpaired.ensures in
    record { lines = c.put_lines.new.lines; are = c.in_ok-put_lines.ensures.lines; entries = read.entries_are; unpaired = read.unpaired_is }

pub returns-clause-short : goal.returns-clause-short
returns-clause-short c =
    let lines = c.put_lines.new.lines in
    let entries = c.put_line_entries.new.entries in
    let read = subst (λ (l : List Text). ReadsLooseEntries l (blocks l) entries c.in_ok-unpaired.unpaired) c.as_slice.ensures c.in_ok-unpaired.ensures in
    short_entries lines c.args.bytes.now c.in_ok-put_lines.ensures.lines c.requires (blocks lines) entries read.entries_are
