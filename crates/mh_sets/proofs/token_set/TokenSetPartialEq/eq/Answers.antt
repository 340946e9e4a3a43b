use Rattle.std.proofs.Common.{rules}
use Rattle.mh_sets.proofs.EqualSets.{set_eq-pointwise}
use Rattle.mh_sets.proofs.token_set.TokenSetPartialEq.eq.Goals as goal

pub returns : goal.returns
returns g c = set_eq-pointwise g.row.W c.self.inside.words c.other.inside.words c.self.inside.end c.other.inside.end c.args.self.now c.args.other.now c.self.view_is c.other.view_is c.self.invariant c.other.invariant _ (λ a b. search rules) c.eq.result c.eq.ensures
