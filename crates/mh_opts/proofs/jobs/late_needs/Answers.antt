use Rattle.std.proofs.Common.{ap}
use Rattle.mh_opts.specs.Orders.{plain_needs}
use Rattle.mh_opts.specs.Options.{late_needs}
use Rattle.mh_opts.proofs.jobs.late_needs.Goals as goal

pub returns : goal.returns
unfolding late_needs
returns c = ap (λ rows. plain_needs rows (λ name. name.now)) c.as_slice.ensures
