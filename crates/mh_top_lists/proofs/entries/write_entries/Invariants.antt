use Rattle.std.proofs.Common.{◌≡◌, take}
use Rattle.mh_catalogue.specs.Rows.{rows_of}
use Rattle.mh_top_lists.proofs.WriteEntriesLoop.{Written}
use Rattle.mh_top_lists.proofs.entries.write_entries.Given as goal

abbrev pub invariant-loop-row : goal.invariant-loop-row
invariant-loop-row g l = record {
  written : Written l.prepared (rows_of (take l.row-index l.rows)) (g.O.Sink.written l.fn.out) (g.O.Sink.written l.out);
  may_write : g.O.Sink.MayWrite l.out;
  calm : g.O.Sink.faults l.out ≡ g.O.Sink.faults l.fn.out;
}
