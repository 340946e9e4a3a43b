use Rattle.mh_msgfile.specs.Sentences.{vocabulary_in}
use Rattle.mh_msgfile.proofs.ReadsEntries.{spelled_by, fault_by}
use Rattle.mh_msgfile.proofs.messages.read_file.Goals as goal

pub returns-in-Ok-put_entries : goal.returns-in-Ok-put_entries
returns-in-Ok-put_entries c = λ g same.
    spelled_by (vocabulary_in c.args.lexicon.now) c.put_lines.new.lines g c.args.bytes.now c.in-Ok.ensures.lines same c.put_entries.new.entries (rw c.as_slice.ensures at c.in-Ok-put_entries.ensures)

pub returns-in-Err-put_entries : goal.returns-in-Err-put_entries
returns-in-Err-put_entries c = λ g same.
    fault_by (vocabulary_in c.args.lexicon.now) c.put_lines.new.lines g c.args.bytes.now c.in-Ok.ensures.lines same c.in-Err-put_entries.fault (rw c.as_slice.ensures at c.in-Err-put_entries.ensures)
