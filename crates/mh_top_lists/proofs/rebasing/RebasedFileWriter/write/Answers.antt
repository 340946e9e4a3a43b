use Rattle.std.proofs.Common.{ap}
use Rattle.std.specs.Prelude.{Err}
use Rattle.mh_top_lists.proofs.CatalogueRefused.{OutCounts-rebase_fault, rebase_stops}
use Rattle.mh_top_lists.proofs.RebasedWritten.{text_ends}
use Rattle.mh_top_lists.proofs.rebasing.RebasedFileWriter.write.Goals as goal

pub returns-in-Ok-clause-text : goal.returns-in-Ok-clause-text
returns-in-Ok-clause-text g c =
    text_ends c.args.self.prepared.now c.args.self.file c.in-Ok.ensures.none c.in-Ok.text.items c.in-Ok.ensures.text _ _ c.write_text.result (rw c.deref.ensures.value at c.write_text.ensures.text)

pub returns-clause-text : goal.returns-clause-text
returns-clause-text g c = rebase_stops c.args.self.prepared.now c.args.self.file _ c.in-Err.fault c.rebase_stop_of.result c.rebase_stop_of.ensures (λ s e. c.in-Err.ensures.long s (ap Err e))

pub returns-clause-counts : goal.returns-clause-counts
returns-clause-counts g c = OutCounts-rebase_fault _ c.in-Err.fault c.rebase_stop_of.result c.rebase_stop_of.ensures
