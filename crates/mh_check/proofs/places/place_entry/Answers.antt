use Rattle.std.proofs.Common.{◌+◌, ◌++◌, ◌∷◌, [], List, take, drop, subst}
use Rattle.mh_check.specs.Checks.{FirstFault}
use Rattle.mh_check.specs.Compiling.{ReportsCheckFault}
use Rattle.mh_check.specs.code.Places.{EntrySentence, entry_sentence, sentences_of_entry, without_entries}
use Rattle.mh_check.proofs.ArePlaces.{fault_more}
use Rattle.mh_check.proofs.IsCompiled.{sentence_split, none_placed, one_placed, all_placed}
use Rattle.mh_check.proofs.places.place_entry.Goals as goal

pub returns-in-Err-clause-places : goal.returns-in-Err-clause-places
returns-in-Err-clause-places c = λ done placed.
    let t = c.args.table.now in
    let xs = c.args.sentences.now in
    let i = c.loop-sentence.sentence-index in
    let before = done ++ sentences_of_entry c.args.entry (take i xs) in
    let told = c.in-Err.ensures.places before (c.loop-sentence.invariant.so_far done placed) in
    let more = fault_more t (before ++ entry_sentence c.args.entry c.sentence-item.result ∷ []) (sentences_of_entry c.args.entry (drop (i + 1) xs)) c.in-Err.fault told in
    subst (λ (l : List EntrySentence). ReportsCheckFault c.in-Err.fault (FirstFault t (without_entries l))) (sentence_split done c.args.entry xs i c.sentence-item.result c.loop-sentence-test.true c.sentence-item.is) more

pub loop-sentence-init : goal.loop-sentence-init
loop-sentence-init c = record {
  size = c.requires.size;
  so_far = λ done placed. none_placed c.args.table.now done c.args.entry c.args.sentences.now c.args.places.now.items placed;
}

pub loop-sentence-preserved : goal.loop-sentence-preserved
loop-sentence-preserved c = record {
  size = c.in-Ok.ensures.size;
  so_far = λ done placed. one_placed c.args.table.now done c.args.entry c.args.sentences.now c.loop-sentence.sentence-index c.sentence-item.result c.place_sentence.new.places.items c.loop-sentence-test.true c.sentence-item.is
      (c.in-Ok.ensures.places (done ++ sentences_of_entry c.args.entry (take c.loop-sentence.sentence-index c.args.sentences.now)) (c.loop-sentence.invariant.so_far done placed));
}

pub returns-clause-size : goal.returns-clause-size
returns-clause-size c = c.loop-sentence.invariant.size

pub returns-clause-places : goal.returns-clause-places
returns-clause-places c = λ done placed. all_placed c.args.table.now done c.args.entry c.args.sentences.now c.loop-sentence.sentence-index c.loop-sentence.places.items c.loop-sentence-test.false (c.loop-sentence.invariant.so_far done placed)
