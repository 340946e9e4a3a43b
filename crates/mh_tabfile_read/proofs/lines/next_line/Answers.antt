use Rattle.std.proofs.Common.{◌+◌, arith}
use Rattle.std.proofs.lemmas.List.{take_rest, length-drop}
use Rattle.mh_tabfile_read.proofs.FirstLine.{split_first, split_none}
use Rattle.mh_tabfile_read.proofs.lines.next_line.Goals as goal

pub returns-in_default : goal.returns-in_default
returns-in_default c = split_none 10 c.args.bytes.now (λ k lt e. c.in_default.ensures k (omega arith) lt e)

pub returns : goal.returns
returns c =
    let rest = take_rest c.args.bytes.now (c.in-Some.end + 1) in
    let size = length-drop (c.in-Some.end + 1) c.args.bytes.now in
    let found = c.in-Some.ensures in
    rw rest (split_first 10 c.args.bytes.now c.in-Some.end found.0.high (λ k lt e. found.0.before k (omega arith) lt e) found.1, omega (arith, size, found.0.high))
