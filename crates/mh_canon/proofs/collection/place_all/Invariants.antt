use Rattle.std.proofs.Common.{◌≤◌, length}
use Rattle.mh_grammar.specs.Plain.{plain_of}
use Rattle.mh_canon.specs.Limits.{max_states}
use Rattle.mh_canon.proofs.AreEdgesOfMoves.{PlacedSoFar}
use Rattle.mh_canon.proofs.collection.place_all.Given as goal

abbrev pub invariant-loop-found : goal.invariant-loop-found
invariant-loop-found g l = record {
  placed : PlacedSoFar (plain_of l.grammar) l.fn.moves.items l.yielded l.initial.kernels.set.keys l.kernels.set.keys l.row.items;
  few : length l.kernels.set.keys ≤ max_states;
}
