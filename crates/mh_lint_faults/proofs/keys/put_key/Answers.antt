use Rattle.mh_lint_faults.proofs.ContainsKey.{adds, puts}
use Rattle.mh_lint_faults.proofs.keys.put_key.Goals as goal

pub returns-clause-keys : goal.returns-clause-keys
returns-clause-keys g c = puts g.met.K.Eq.laws c.requires.exact c.args.set.now c.insert.new.self c.args.key c.in_ok-is_new.ensures.updates.0

pub returns-clause-is_new : goal.returns-clause-is_new
returns-clause-is_new g c = adds g.met.K.Eq.laws c.requires.exact c.args.set.now c.args.key c.in_ok-is_new.is_new c.in_ok-is_new.ensures.added
