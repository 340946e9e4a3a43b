use Rattle.std.proofs.Common.{ap}
use Rattle.mh_opts.specs.Orders.{plain_needs}
use Rattle.mh_opts.specs.Options.{needs}
use Rattle.mh_opts.proofs.jobs.needs.Goals as goal

pub returns : goal.returns
unfolding needs
returns c = ap (λ rows. plain_needs rows (λ name. name.now)) c.as_slice.ensures
