use Rattle.std.proofs.Common.{◌+◌, ◌++◌, List, take, take_all, drop, subst, sym}
use Rattle.mh_check.specs.Checks.{FirstFault}
use Rattle.mh_check.specs.Compiling.{ReportsCheckFault}
use Rattle.mh_check.specs.code.Places.{EntrySentence, sentences_of_entry, sentences_of_entries, without_entries, ArePlaces}
use Rattle.mh_msgfile.specs.declared.messages.Entry.{Entry}
use Rattle.mh_msgfile.specs.declared.messages.MsgSentence.{MsgSentence}
use Rattle.mh_check.proofs.ArePlaces.{fault_more}
use Rattle.mh_check.proofs.IsCompiled.{entry_split, entries_push}
use Rattle.mh_check.proofs.places.place_file.Goals as goal

pub returns-in-Err : goal.returns-in-Err
returns-in-Err c =
    let t = c.args.table.now in
    let es = c.args.entries.now in
    let n = c.loop-number.number in
    let e = c.index-entries-number.result in
    let given = c.in-Err.ensures.places (sentences_of_entries 0 (take n es)) c.loop-number.invariant.so_far in
    let told = subst (λ (xs : List MsgSentence). ReportsCheckFault c.in-Err.fault (FirstFault t (without_entries (sentences_of_entries 0 (take n es) ++ sentences_of_entry n xs)))) c.as_slice.ensures given in
    let more = fault_more t (sentences_of_entries 0 (take n es) ++ sentences_of_entry n e.sentences) (sentences_of_entries (n + 1) (drop (n + 1) es)) c.in-Err.fault told in
    subst (λ (l : List EntrySentence). ReportsCheckFault c.in-Err.fault (FirstFault t (without_entries l))) (entry_split es n e c.loop-number-test.true c.index-entries-number.is) more

pub loop-number-preserved : goal.loop-number-preserved
loop-number-preserved c =
    let t = c.args.table.now in
    let es = c.args.entries.now in
    let n = c.loop-number.number in
    let e = c.index-entries-number.result in
    let new = c.place_entry.new.places.items in
    let given = c.in-Ok-place_entry.ensures.places (sentences_of_entries 0 (take n es)) c.loop-number.invariant.so_far in
    let placed = subst (λ (xs : List MsgSentence). ArePlaces t (sentences_of_entries 0 (take n es) ++ sentences_of_entry n xs) new) c.as_slice.ensures given in
    record {
      size = c.in-Ok-place_entry.ensures.size;
      so_far = subst (λ (l : List EntrySentence). ArePlaces t l new) (sym (entries_push es n e c.loop-number-test.true c.index-entries-number.is)) placed;
    }

pub loop-number-init : goal.loop-number-init
loop-number-init c = record { size = rw c.table.ensures.table at c.in-Ok.ensures.size; so_far = rw c.table.ensures.table at c.in-Ok.ensures.none }

pub returns : goal.returns
returns c = (c.loop-number.invariant.size, subst (λ (es : List Entry). ArePlaces c.args.table.now (sentences_of_entries 0 es) c.loop-number.places.items) (take_all c.loop-number.number c.args.entries.now c.loop-number-test.false) c.loop-number.invariant.so_far)
