use Rattle.std.proofs.Common.{◌≡◌, take}
use Rattle.mh_lint_findings.specs.Lines.{lines_of, lines_text}
use Rattle.mh_lint_findings.specs.code.Cursors.{IsAtIn}
use Rattle.mh_top_check.proofs.WrittenPieces.{HasWritten}
use Rattle.mh_top_check.proofs.writing.write_findings.Given as goal

abbrev pub invariant-loop-found : goal.invariant-loop-found
invariant-loop-found g l = record {
  written : HasWritten (lines_text l.files (lines_of (take l.found-index l.findings))) l.text.items (g.O.Sink.written l.fn.out) (g.O.Sink.written l.out);
  here : IsAtIn l.files l.cursor;
  may_write : g.O.Sink.MayWrite l.out;
  calm : g.O.Sink.faults l.out ≡ g.O.Sink.faults l.fn.out;
}
