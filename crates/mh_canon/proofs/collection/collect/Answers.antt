use Rattle.std.proofs.Common.{◌≡◌, length, ap, arith, rules}
use Rattle.mh_grammar.specs.Plain.{plain_of}
use Rattle.mh_items.specs.code.AllMoves.{symbols_of}
use Rattle.mh_canon.proofs.PartialCollection.{PartialCollection-start, PartialCollection-step}
use Rattle.mh_canon.proofs.CollectionIsCanonical.{IsCanonical-done}
use Rattle.mh_canon.proofs.collection.collect.Goals as goal

pub states-init : goal.states-init
states-init g c = record {
  building = rw c.requires.none (PartialCollection-start (plain_of c.args.grammar.now) c.args.kernels.now.set.keys c.requires.starts);
  few = let l = c.requires.starts.len in omega (arith, l);
  mover = c.in_ok-mover.ensures;
}

pub edges_of-requires : goal.edges_of-requires
edges_of-requires g c =
    let few = c.states.invariant.few in
    (search rules, (search rules, (c.requires.fits, (c.states.invariant.mover, (omega (arith, c.states.edges.ok.0, ap length c.all.ensures), (c.states.invariant.building.states, few))))))

pub states-preserved : goal.states-preserved
states-preserved g c =
    let e = c.in-Ok.ensures.ok in
    let n : length c.states.edges.items ≡ c.len-in-states.result = omega (arith, c.states.edges.ok.0) in
    record {
      building = rw c.in_ok-push-in-Ok.ensures.items (PartialCollection-step (plain_of c.args.grammar.now) c.states.kernels.set.keys c.edges_of.new.kernels.set.keys c.states.edges.items e.kernel e.are_moves.closed (symbols_of e.moves) c.in-Ok.row c.states.invariant.building (rw n e.at) e.are_moves.valid e.are_moves.same e.are_moves.are.rising e.are_moves.are.exact e.edges);
      few = c.in-Ok.ensures.few;
      mover = c.in-Ok.ensures.mover;
    }

pub returns-clause-ok : goal.returns-clause-ok
returns-clause-ok g c =
    let done : length c.states.edges.items ≡ length c.states.kernels.set.keys = omega (arith, c.states.edges.ok.0, c.states.invariant.building.short, ap length c.all.ensures) in
    IsCanonical-done (plain_of c.args.grammar.now) (record { kernels = c.states.kernels.set.keys; edges = c.states.edges.items }) c.states.invariant.building done
