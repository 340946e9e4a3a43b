use Rattle.std.proofs.Common.{◌≡◌, Err, ap, rules, map-id}
use Rattle.std.proofs.lemmas.Iterator.Consumers.{YieldsList-turn, YieldsList-end}
use Rattle.std.proofs.lemmas.Iterator.Adapters.{YieldsList-from_vec}
use Rattle.mh_grammar.specs.Plain.{plain_of}
use Rattle.mh_items_kernels.specs.declared.kernels.StatesFault.TheVariants.{TooManyStates}
use Rattle.mh_canon.specs.Limits.{max_states}
use Rattle.mh_canon.proofs.AreCanonicalStates.{Placed-few}
use Rattle.mh_canon.proofs.AreEdgesOfMoves.{placed-start, placed-more, placed-over}
use Rattle.mh_canon.proofs.collection.place_all.Goals as goal

pub loop-found-init : goal.loop-found-init
loop-found-init g c = record {
  placed = rw c.in_ok-row.ensures.items (placed-start (plain_of c.args.grammar.now) c.args.moves.items c.args.kernels.now.set.keys);
  few = c.requires.few;
}

pub loop-found-preserved : goal.loop-found-preserved
loop-found-preserved g c =
    let turn = YieldsList-turn (YieldsList-from_vec {s = c.into_iter-found-iterator.result} c.args.moves.items (search rules) (search rules))
    c.loop-found.yielded c.loop-found.found-iterator c.loop-found.yielded_by c.next.result c.next.new.self c.in-Some.found c.in-Some.is c.next.ensures.steps in
    let placed = c.in-Ok.ensures.ok in
    record {
      placed = rw c.in_ok-push-in-Ok.ensures.items (placed-more (plain_of c.args.grammar.now) c.args.moves.items c.loop-found.yielded c.args.kernels.now.set.keys c.loop-found.kernels.set.keys c.place.new.self.set.keys c.loop-found.row.items c.in-Some.found c.in-Ok.target c.loop-found.invariant.placed turn placed.0);
      few = Placed-few c.loop-found.kernels.set.keys c.place.new.self.set.keys c.in-Some.found.kernel c.in-Ok.target max_states placed.0 c.loop-found.invariant.few placed.1;
    }

pub returns-in-Err-clause-exceeds : goal.returns-in-Err-clause-exceeds
returns-in-Err-clause-exceeds g c same closed source are =
    let turn = YieldsList-turn (YieldsList-from_vec {s = c.into_iter-found-iterator.result} c.args.moves.items (search rules) (search rules))
    c.loop-found.yielded c.loop-found.found-iterator c.loop-found.yielded_by c.next.result c.next.new.self c.in-Some.found c.in-Some.is c.next.ensures.steps in
    let fault : c.in-Err.fault ≡ TooManyStates = cc in
    let placed = c.in-Err.ensures.exceeds (ap Err fault) in
    placed-over (plain_of c.args.grammar.now) c.args.moves.items c.loop-found.yielded c.args.kernels.now.set.keys c.loop-found.kernels.set.keys c.place.new.self.set.keys c.loop-found.row.items c.in-Some.found placed.0 c.loop-found.invariant.placed turn placed.1 max_states c.requires.states placed.2 closed source are

pub returns-clause-ok : goal.returns-clause-ok
returns-clause-ok g c =
    let end = YieldsList-end (YieldsList-from_vec {s = c.into_iter-found-iterator.result} c.args.moves.items (search rules) (search rules))
    c.loop-found.yielded c.loop-found.found-iterator c.loop-found.yielded_by c.next.result c.next.new.self c.in-None.is c.next.ensures.steps in
    λ closed are. rw (← end.0, map-id, c.from_vec.ensures) (c.loop-found.invariant.placed.edges closed are)
