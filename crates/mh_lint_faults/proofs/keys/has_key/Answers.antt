use Rattle.mh_lint_faults.proofs.ContainsKey.{has}
use Rattle.mh_lint_faults.proofs.keys.has_key.Goals as goal

pub returns-then-not-is_empty : goal.returns-then-not-is_empty
returns-then-not-is_empty g c = rw c.contains.ensures (has g.met.K.Eq.laws c.requires.exact c.args.set.now c.args.key.now)
