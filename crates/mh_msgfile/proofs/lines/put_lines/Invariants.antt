use Rattle.std.proofs.Common.{◌≡◌, ◌++◌, map}
use Rattle.bstr.specs.Text.{lines_of, without_terminator}
use Rattle.mh_msgfile.proofs.lines.put_lines.Given as goal

abbrev pub invariant-loop-line : goal.invariant-loop-line
invariant-loop-line l = l.lines ++ l.line-iterator ≡ map without_terminator (lines_of l.fn.bytes)
