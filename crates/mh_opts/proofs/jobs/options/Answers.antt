use Rattle.std.proofs.Common.{ap}
use Rattle.mh_opts.specs.App.{plain_rows}
use Rattle.mh_opts.specs.Options.{options}
use Rattle.mh_opts.proofs.jobs.options.Goals as goal

pub returns : goal.returns
unfolding options
returns c = ap (λ rows. plain_rows rows (λ name. name.now)) c.as_slice.ensures
