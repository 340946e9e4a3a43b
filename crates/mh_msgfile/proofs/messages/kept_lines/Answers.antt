use Rattle.std.proofs.Common.{◌+◌, refl, arith, rules}
use Rattle.mh_msgfile.proofs.KeptLines.{kept_step, kept_all}
use Rattle.mh_msgfile.proofs.messages.kept_lines.Goals as goal

pub loop-place-preserved : goal.loop-place-preserved
loop-place-preserved c =
    kept_step c.args.lines.now c.loop-place.numbers.items c.put_kept.new.numbers.items c.loop-place.place (c.loop-place.place + 1) (omega arith) refl c.in_ok-put_kept.ensures c.loop-place.invariant

pub returns : goal.returns
returns c = kept_all c.args.lines.now c.loop-place.numbers.items c.loop-place.place (search (arith, rules)) c.loop-place.invariant
