use Rattle.mh_reach_rests.specs.code.RestNumbers.{SpellAll}
use Rattle.mh_reach_rests.proofs.numbering.all_made.Given as goal

abbrev pub invariant-loop-item : goal.invariant-loop-item
invariant-loop-item l = SpellAll l.table l.settled l.words l.items l.item-index l.made.items
