-- The modes among the words, before it is checked that there is exactly one.
use Rattle.std.specs.Prelude.{List, Result, Ok, Err, map}
use Rattle.clap.specs.Words.{Row, Text}
use Rattle.mh_opts.specs.declared.modes.FoundModes.{FoundModes}
use Rattle.mh_opts.specs.declared.modes.FoundModes.TheVariants as asked
use Rattle.mh_opts.specs.code.FoundModes.{with_all}
use Rattle.mh_opts.specs.declared.jobs.JobKind.{JobKind}
use Rattle.mh_opts.specs.declared.jobs.Opt.{Opt}
use Rattle.mh_opts.specs.declared.order.UsageFault.{UsageFault}
use Rattle.mh_opts.specs.declared.order.UsageFault.TheVariants.{NoMode, TwoModes}
use Rattle.mh_opts.specs.Orders.{mode_at}

-- The modes of these options.
abbrev pub asked_in : List Row → List (Opt Text) → FoundModes JobKind
asked_in rows options = with_all asked.Nothing (map (mode_at rows) options)

abbrev pub only_of : FoundModes JobKind → Result JobKind UsageFault
only_of asked.Nothing = Err NoMode
only_of (asked.One mode) = Ok mode
only_of asked.Several = Err TwoModes
