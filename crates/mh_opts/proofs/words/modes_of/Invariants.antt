use Rattle.std.proofs.Common.{◌≡◌, drop, map}
use Rattle.clap.specs.Words.{found_of, rows_of}
use Rattle.mh_opts.specs.code.FoundModes.{with_all}
use Rattle.mh_opts.specs.App.{plain_rows}
use Rattle.mh_opts.specs.Options.{options}
use Rattle.mh_opts.specs.code.AllModes.{asked_in}
use Rattle.mh_opts.specs.Orders.{mode_at}
use Rattle.mh_opts.proofs.words.modes_of.Given as goal

abbrev pub invariant-loop-option : goal.invariant-loop-option
invariant-loop-option l =
    let rows = rows_of (found_of l.matches) in
    with_all l.asked (map (mode_at rows) (plain_rows (drop l.option-index l.options) (λ name. name.now))) ≡ asked_in rows options
