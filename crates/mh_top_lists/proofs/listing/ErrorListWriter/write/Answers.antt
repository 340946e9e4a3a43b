use Rattle.std.proofs.Common.{ap, rules}
use Rattle.std.specs.Prelude.{Err}
use Rattle.mh_catalogue.specs.Rows.{rows_of}
use Rattle.mh_top_lists.proofs.WriteEntriesLoop.{catalogue_fit, rows_listed}
use Rattle.mh_top_lists.proofs.CatalogueRefused.{OutCounts-catalogue_fault, list_stops}
use Rattle.mh_top_lists.proofs.listing.ErrorListWriter.write.Goals as goal

pub write_entries-requires : goal.write_entries-requires
write_entries-requires g c = (
  search rules,
  (c.requires.ready.0, (c.requires.ready.1, (rw c.as_slice.ensures.value (catalogue_fit c.args.self.prepared.now.tabled.halting (rows_of c.in-Ok.rows.items) c.in-Ok.ensures.ok c.in-Ok.ensures.short), c.requires.may_write))),
)

pub returns-in-Ok-clause-text : goal.returns-in-Ok-clause-text
returns-in-Ok-clause-text g c =
    rows_listed c.args.self.prepared.now c.in-Ok.rows.items c.as_slice.result.now c.as_slice.ensures.value c.in-Ok.ensures.ok c.in-Ok.ensures.none _ _ c.write_entries.result c.write_entries.ensures.text

pub returns-in-Err-clause-text : goal.returns-in-Err-clause-text
returns-in-Err-clause-text g c =
    list_stops c.args.self.prepared.now _ c.in-Err.fault c.stop_of.result c.stop_of.ensures (λ s e. c.in-Err.ensures.too_long s (ap Err e))

pub returns-in-Err-clause-counts : goal.returns-in-Err-clause-counts
returns-in-Err-clause-counts g c = OutCounts-catalogue_fault _ c.in-Err.fault c.stop_of.result c.stop_of.ensures
