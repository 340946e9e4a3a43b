use Rattle.std.proofs.Common.{◌≡◌, Err, ap, rules, map-id, length, take}
use Rattle.std.proofs.lemmas.Iterator.Consumers.{YieldsList-turn, YieldsList-so_far, YieldsList-end}
use Rattle.std.proofs.lemmas.Iterator.Adapters.{YieldsList-from_vec}
use Rattle.mh_grammar.specs.Plain.{plain_of}
use Rattle.mh_items_kernels.specs.declared.kernels.StatesFault.TheVariants.{TooManyStates}
use Rattle.mh_canon.specs.Limits.{max_states}
use Rattle.mh_pager.specs.code.Worklist.{merge_state_of}
use Rattle.mh_pager.proofs.IsWellFormed.{put_well_formed}
use Rattle.mh_pager.proofs.PlacesAllMoves.{PutSoFar-start, PutSoFar-more, put-exceeds, found-valid}
use Rattle.mh_pager.proofs.stepping.put_all.Goals as goal

pub loop-found-init : goal.loop-found-init
loop-found-init g c = record {
  row = rw c.in_ok-row.ensures.items (PutSoFar-start (plain_of c.args.grammar.now) c.args.moves.items (merge_state_of c.args.worklist.now));
  ready = c.requires.ready;
  few = c.requires.few;
  kept = c.requires.kept;
}

pub put-requires : goal.put-requires
put-requires g c =
    let turn = YieldsList-turn (YieldsList-from_vec {s = c.into_iter-found-iterator.result} c.args.moves.items (search rules) (search rules))
    c.loop-found.yielded c.loop-found.found-iterator c.loop-found.yielded_by c.next.result c.next.new.self c.in-Some.found c.in-Some.is c.next.ensures.steps in
    let valid = found-valid (plain_of c.args.grammar.now) c.args.moves.items (length c.loop-found.yielded) c.in-Some.found turn c.requires.moves in
    (search rules, (search rules, (c.requires.fits, (valid, (c.loop-found.invariant.ready, (c.loop-found.invariant.few, c.loop-found.invariant.kept))))))

pub loop-found-preserved : goal.loop-found-preserved
loop-found-preserved g c =
    let turn = YieldsList-turn (YieldsList-from_vec {s = c.into_iter-found-iterator.result} c.args.moves.items (search rules) (search rules))
    c.loop-found.yielded c.loop-found.found-iterator c.loop-found.yielded_by c.next.result c.next.new.self c.in-Some.found c.in-Some.is c.next.ensures.steps in
    record {
      row = rw c.in_ok-push-in-Ok.ensures.items (PutSoFar-more (plain_of c.args.grammar.now) c.args.moves.items c.loop-found.yielded (merge_state_of c.args.worklist.now) (merge_state_of c.loop-found.worklist) (merge_state_of c.put.new.self) c.loop-found.row.items c.in-Some.found c.in-Ok.target c.loop-found.invariant.row turn c.in-Ok.ensures.ok);
      ready = put_well_formed (plain_of c.args.grammar.now) c.in-Some.found.kernel (merge_state_of c.loop-found.worklist) (merge_state_of c.put.new.self) c.in-Ok.target (found-valid (plain_of c.args.grammar.now) c.args.moves.items (length c.loop-found.yielded) c.in-Some.found turn c.requires.moves) c.loop-found.invariant.ready c.in-Ok.ensures.ok;
      few = c.in-Ok.ensures.few;
      kept = c.in-Ok.ensures.kept;
    }

pub returns-in-Err-clause-exceeds : goal.returns-in-Err-clause-exceeds
returns-in-Err-clause-exceeds g c same closed is are =
    let list = YieldsList-from_vec {s = c.into_iter-found-iterator.result} c.args.moves.items (search rules) (search rules) in
    let turn = YieldsList-turn list c.loop-found.yielded c.loop-found.found-iterator c.loop-found.yielded_by c.next.result c.next.new.self c.in-Some.found c.in-Some.is c.next.ensures.steps in
    let begins : c.loop-found.yielded ≡ take (length c.loop-found.yielded) c.args.moves.items = rw map-id at (YieldsList-so_far list c.loop-found.yielded c.loop-found.found-iterator c.loop-found.yielded_by) in
    let fault : c.in-Err.fault ≡ TooManyStates = cc in
    let o = c.in-Err.ensures.exceeds (ap Err fault) in
    put-exceeds (plain_of c.args.grammar.now) c.args.moves.items c.loop-found.yielded (merge_state_of c.args.worklist.now) (merge_state_of c.loop-found.worklist) o.1 c.loop-found.row.items c.in-Some.found o.0 c.loop-found.invariant.row turn o.2 begins max_states o.3 closed is are

pub returns-clause-ok : goal.returns-clause-ok
returns-clause-ok g c =
    let end = YieldsList-end (YieldsList-from_vec {s = c.into_iter-found-iterator.result} c.args.moves.items (search rules) (search rules))
    c.loop-found.yielded c.loop-found.found-iterator c.loop-found.yielded_by c.next.result c.next.new.self c.in-None.is c.next.ensures.steps in
    λ closed is are. rw (← end.0, map-id, c.from_vec.ensures) (c.loop-found.invariant.row closed is are)

pub returns-clause-few : goal.returns-clause-few
returns-clause-few g c = c.loop-found.invariant.few

pub returns-clause-kept : goal.returns-clause-kept
returns-clause-kept g c = c.loop-found.invariant.kept

pub returns-clause-exceeds : goal.returns-clause-exceeds
returns-clause-exceeds g c same = cc
