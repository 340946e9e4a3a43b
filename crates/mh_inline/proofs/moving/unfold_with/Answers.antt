use Rattle.std.proofs.lemmas.Result.{on_ok_weaker}
use Rattle.mh_inline.proofs.MovedUnfoldings.{lacks_one, lacks_same}
use Rattle.mh_inline.proofs.moving.unfold_with.Goals as goal

pub unfold_moved-requires-clause-last : goal.unfold_moved-requires-clause-last
unfold_moved-requires-clause-last c = rw c.in-Some.is at c.requires.last

pub returns-in-Some-clause-known : goal.returns-in-Some-clause-known
returns-in-Some-clause-known c = rw c.in-Some.is (on_ok_weaker c.unfold_moved.result (λ e. lacks_one c.in-Some.last_use c.args.known.now.items c.unfold_moved.new.known.items e) c.unfold_moved.ensures.left)
