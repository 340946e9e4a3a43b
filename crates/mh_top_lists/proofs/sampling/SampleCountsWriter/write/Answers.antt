use Rattle.std.proofs.Common.{length, ap, sym, ◌∙◌}
use Rattle.std.proofs.lemmas.List.{length-map}
use Rattle.std.specs.Prelude.{Err}
use Rattle.mh_catalogue.specs.Rows.{row_of, rows_of}
use Rattle.mh_top_lists.proofs.CountsSample.{counts_ran}
use Rattle.mh_top_lists.proofs.CatalogueRefused.{sample_stops, OutCounts-catalogue_fault}
use Rattle.mh_top_lists.proofs.sampling.SampleCountsWriter.write.Goals as goal

pub returns-in-Ok-clause-text : goal.returns-in-Ok-clause-text
returns-in-Ok-clause-text g c =
    let rows = c.in-Ok.rows.items in
    counts_ran c.args.self.prepared.now c.args.self.number c.in-Ok.ensures.none (rows_of rows) c.in-Ok.ensures.ok _ (ap length c.as_slice.ensures.value ∙ sym (length-map rows row_of)) _ _ c.write_counts.result c.write_counts.ensures.text

pub returns-in-Err-clause-text : goal.returns-in-Err-clause-text
returns-in-Err-clause-text g c = sample_stops c.args.self.prepared.now _ c.in-Err.fault c.stop_of.result c.stop_of.ensures (λ s e. c.in-Err.ensures.too_long s (ap Err e)) c.args.self.number

pub returns-in-Err-clause-counts : goal.returns-in-Err-clause-counts
returns-in-Err-clause-counts g c = OutCounts-catalogue_fault _ c.in-Err.fault c.stop_of.result c.stop_of.ensures
