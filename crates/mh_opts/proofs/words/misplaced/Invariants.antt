use Rattle.std.proofs.Common.{◌≡◌, drop}
use Rattle.clap.specs.Words.{found_of, rows_of}
use Rattle.mh_opts.specs.Orders.{misplaced_in, plain_needs}
use Rattle.mh_opts.proofs.words.misplaced.Given as goal

abbrev pub invariant-loop-need : goal.invariant-loop-need
invariant-loop-need l =
    let rows = rows_of (found_of l.matches) in
    misplaced_in rows (plain_needs (drop l.need-index l.needs) (λ name. name.now)) ≡ misplaced_in rows (plain_needs l.needs (λ name. name.now))
