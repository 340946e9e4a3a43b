use Rattle.std.proofs.Common.{◌≡◌, ◌++◌, List, length, take}
use Rattle.mh_check.specs.code.Places.{EntrySentence, sentences_of_entry, ArePlaces}
use Rattle.mh_check.proofs.places.place_entry.Given as goal

abbrev pub invariant-loop-sentence : goal.invariant-loop-sentence
invariant-loop-sentence l = record {
  size : length l.places.items ≡ length l.table.states;
  so_far : (done : List EntrySentence) → ArePlaces l.table done l.initial.places.items → ArePlaces l.table (done ++ sentences_of_entry l.entry (take l.sentence-index l.sentences)) l.places.items;
}
