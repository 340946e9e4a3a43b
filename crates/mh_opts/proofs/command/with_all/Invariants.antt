use Rattle.std.proofs.Common.{◌≡◌, drop}
use Rattle.clap.specs.Words.{app_of}
use Rattle.mh_opts.specs.App.{plain_rows, with_options}
use Rattle.mh_opts.proofs.command.with_all.Given as goal

abbrev pub invariant-loop-option : goal.invariant-loop-option
invariant-loop-option l =
    with_options (plain_rows (drop l.option-index l.options) (λ name. name.now)) (app_of l.command)
    ≡ with_options (plain_rows l.options (λ name. name.now)) (app_of l.fn.command)
