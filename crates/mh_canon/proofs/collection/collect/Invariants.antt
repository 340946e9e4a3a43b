use Rattle.std.proofs.Common.{◌≤◌, ◌-◌, length, vec_len}
use Rattle.mh_grammar.specs.Plain.{plain_of}
use Rattle.mh_items.specs.code.MoveBuilder.{IsMoveBuilder}
use Rattle.mh_canon.specs.Limits.{max_states}
use Rattle.mh_canon.proofs.PartialCollection.{PartialCollection}
use Rattle.mh_canon.proofs.collection.collect.Given as goal

abbrev pub invariant-states : goal.invariant-states
invariant-states g l = record {
  building : PartialCollection (plain_of l.grammar) l.kernels.set.keys l.edges.items;
  few : length l.kernels.set.keys ≤ max_states;
  mover : IsMoveBuilder (plain_of l.grammar) l.mover;
}

abbrev pub decreases-states : goal.decreases-states
decreases-states g l = max_states - vec_len l.edges
