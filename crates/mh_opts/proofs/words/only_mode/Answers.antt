use Rattle.std.proofs.Common.{ap, sym, ◌∙◌}
use Rattle.clap.specs.Words.{found_of, rows_of}
use Rattle.mh_opts.specs.Options.{options}
use Rattle.mh_opts.specs.code.AllModes.{only_of}
use Rattle.mh_opts.specs.Orders.{mode_in}
use Rattle.mh_opts.proofs.SingleMode.{EqualsUnlessMemory-equal, mode_is_only}
use Rattle.mh_opts.proofs.words.only_mode.Goals as goal

pub returns : goal.returns
returns c =
    let rows = rows_of (found_of c.args.matches.now) in
    EqualsUnlessMemory-equal (mode_in rows options) c.only.result (sym (mode_is_only rows options) ∙ ap only_of (sym c.modes_of.ensures) ∙ sym c.only.ensures)
