use Rattle.std.proofs.Common.{◌≡◌, ◌++◌, [], drop}
use Rattle.mh_reader_places.specs.Places.{bad_costs}
use Rattle.mh_reader_places.specs.code.ScanSteps.{AreCountsWithin, start}
use Rattle.mh_reader_places.specs.code.Walks.{mentions_from}
use Rattle.mh_reader_places.proofs.reading.places_of.Given as goal

abbrev pub invariant-loop-lexeme : goal.invariant-loop-lexeme
invariant-loop-lexeme l = record {
  mentions : mentions_from l.bytes l.places.scan l.places.mentions.items (drop l.lexeme-index l.lexemes) ≡ mentions_from l.bytes start [] l.lexemes;
  costs : l.places.bad_costs.items ++ bad_costs l.bytes (drop l.lexeme-index l.lexemes) ≡ bad_costs l.bytes l.lexemes;
  room : AreCountsWithin l.lexeme-index l.places.scan;
}
