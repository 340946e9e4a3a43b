use Rattle.std.proofs.Common.{arith, length, sym, ◌∙◌, ◌-◌}
use Rattle.mh_tabfile_read.proofs.SplitLines.{refused, unended, finished, some_after, none_after}
use Rattle.mh_tabfile_read.proofs.reading.read_known.Goals as goal

pub returns-in-Err : goal.returns-in-Err
returns-in-Err c = refused c.args.bytes.now c.args.parts.now (length c.args.parts.now - 1) c.in-Err.fault c.requires.cut (omega (arith, c.requires.some)) c.in-Err.ensures

pub returns-then-not-is_empty : goal.returns-then-not-is_empty
returns-then-not-is_empty c = rw c.misplaced.ensures (unended c.args.bytes.now c.args.parts.now (length c.args.parts.now - 1) _ c.in-Ok.reader c.requires.cut (omega (arith, c.requires.some)) c.in-Ok.ensures (some_after _ (sym c.is_empty.ensures ∙ c.if-not-is_empty.true)))

pub returns : goal.returns
returns c = finished c.args.bytes.now c.args.parts.now (length c.args.parts.now - 1) _ _ c.in-Ok.reader _ c.requires.cut (omega (arith, c.requires.some)) c.in-Ok.ensures (none_after _ (sym c.is_empty.ensures ∙ c.if-not-is_empty.false)) c.line_of.ensures c.ended.ensures
