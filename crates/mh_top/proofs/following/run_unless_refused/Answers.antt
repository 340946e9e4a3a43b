use Rattle.mh_top_claims.proofs.WorkBeforeLastLine.{accepted_followed, refused_followed, refused_read}
use Rattle.mh_top.proofs.following.run_unless_refused.Goals as goal

pub returns-then-is_refused-clause-ran : goal.returns-then-is_refused-clause-ran
returns-then-is_refused-clause-ran g c = refused_followed (g.F.Shelf.files c.args.shelf.now) c.args.prepared.now _ c.refused.result _ _ c.if-is_refused.true c.is_refused.ensures c.refused.ensures

pub returns-then-is_refused-clause-read : goal.returns-then-is_refused-clause-read
returns-then-is_refused-clause-read g c = refused_read _ _ c.refused.result c.refused.ensures

pub returns-clause-ran : goal.returns-clause-ran
returns-clause-ran g c = accepted_followed (g.F.Shelf.files c.args.shelf.now) c.args.prepared.now _ c.if-is_refused.false c.is_refused.ensures _ _ _ _ c.run_mode.result c.run_mode.ensures.ran
