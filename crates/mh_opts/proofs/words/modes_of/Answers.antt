use Rattle.std.proofs.Common.{ap}
use Rattle.clap.specs.Words.{found_of, rows_of}
use Rattle.mh_opts.specs.Options.{options}
use Rattle.mh_opts.specs.code.AllModes.{asked_in}
use Rattle.mh_opts.proofs.SingleMode.{one_more}
use Rattle.mh_opts.proofs.words.modes_of.Goals as goal

pub loop-option-init : goal.loop-option-init
loop-option-init c = ap (asked_in (rows_of (found_of c.args.matches.now))) c.options-options.ensures

pub loop-option-preserved : goal.loop-option-preserved
loop-option-preserved c =
    let rows = rows_of (found_of c.args.matches.now) in
    one_more rows c.options-options.result.now (λ name. name.now) c.loop-option.option-index _ c.loop-option.asked c.with_next-asked.result (asked_in rows options) c.mode_of.result c.loop-option-test.true c.mode_of.ensures c.with_next-asked.ensures
    c.loop-option.invariant
