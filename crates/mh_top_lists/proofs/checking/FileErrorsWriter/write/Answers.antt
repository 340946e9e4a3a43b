use Rattle.std.proofs.Common.{ap}
use Rattle.std.specs.Prelude.{Err}
use Rattle.mh_top_lists.proofs.CatalogueRefused.{OutCounts-errors_fault, errors_stop}
use Rattle.mh_top_lists.proofs.ChecksErrors.{lines_end}
use Rattle.mh_top_lists.proofs.checking.FileErrorsWriter.write.Goals as goal

pub returns-in-Ok-clause-text : goal.returns-in-Ok-clause-text
returns-in-Ok-clause-text g c =
    lines_end c.args.self.prepared.now c.args.self.name.now c.args.self.blocks c.in-Ok.ensures.none c.in-Ok.lines.items c.in-Ok.ensures.text _ _ c.write_lines.result (rw c.deref.ensures.value at c.write_lines.ensures.text)

pub returns-clause-text : goal.returns-clause-text
returns-clause-text g c =
    errors_stop c.args.self.prepared.now c.args.self.name.now c.args.self.blocks _ c.in-Err.fault c.errors_stop_of.result c.errors_stop_of.ensures (λ s e. c.in-Err.ensures.long s (ap Err e))

pub returns-clause-counts : goal.returns-clause-counts
returns-clause-counts g c = OutCounts-errors_fault _ c.in-Err.fault c.errors_stop_of.result c.errors_stop_of.ensures
