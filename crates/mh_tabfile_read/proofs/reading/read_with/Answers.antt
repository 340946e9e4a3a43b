use Rattle.std.proofs.Common.{refl, sym, ap, map}
use Rattle.mh_tabfile_read.specs.code.Lines.{lines_in}
use Rattle.mh_tabfile_read.specs.code.Machine.{run}
use Rattle.mh_tabfile_read.proofs.RunExact.{refused_line_at}
use Rattle.mh_tabfile_read.proofs.reading.read_with.Goals as goal

pub loop-at-init : goal.loop-at-init
loop-at-init c = ap (λ r. run r (lines_in (map (λ x. x.now) c.args.parts.now))) (sym c.requires.fresh)

pub returns-in-Err-Unexpected : goal.returns-in-Err-Unexpected
returns-in-Err-Unexpected c = refused_line_at c.args.parts.now c.loop-at.reader c.loop-at.at _ _ c.loop-at.invariant c.loop-at-test.true refl (rw c.in-Err-Unexpected.field-0-is at c.in-Err-Unexpected.ensures)
