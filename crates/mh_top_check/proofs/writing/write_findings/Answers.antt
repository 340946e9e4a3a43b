use Rattle.std.proofs.Common.{refl, ◌∙◌}
use Rattle.std.proofs.lemmas.Result.{err_from_is_err_and}
use Rattle.mh_top_check.proofs.WrittenPieces.{all_written, finding_stops, finding_written, lacks_memory, none_written}
use Rattle.mh_top_check.proofs.writing.write_findings.Goals as goal

pub loop-found-init : goal.loop-found-init
loop-found-init g c = record { written = rw c.new-text.ensures.items (none_written _); here = λ f e. c.new-cursor.ensures.there f.bytes; may_write = c.requires.may_write; calm = refl }

pub returns-in_err-write_finding-clause-text : goal.returns-in_err-write_finding-clause-text
returns-in_err-write_finding-clause-text g c =
    let p = err_from_is_err_and c.from_residual.result c.from_residual.ensures.1 in
    rw (p.1, p.2) (lacks_memory c.args.files.now c.args.findings.now c.loop-found.found-index _ _ _ c.loop-found.invariant.written)

pub returns-in-Err-clause-text : goal.returns-in-Err-clause-text
returns-in-Err-clause-text g c =
    finding_stops c.args.files.now c.args.findings.now c.loop-found.found-index c.found-item.result c.loop-found-test.true c.found-item.is _ _ _ _ c.loop-found.invariant.written c.in_ok-write_finding.ensures.text _ c.loop-found.text.items c.in-Err.stop c.in-Err.ensures.text

pub loop-found-preserved : goal.loop-found-preserved
loop-found-preserved g c = record {
  written = finding_written c.args.files.now c.args.findings.now c.loop-found.found-index c.found-item.result c.loop-found-test.true c.found-item.is _ _ _ _ c.loop-found.invariant.written c.in_ok-write_finding.ensures.text _ _ c.in-Ok.ensures.text;
  here = c.in_ok-write_finding.ensures.there;
  may_write = c.in-Ok.ensures.may_write_on;
  calm = c.in-Ok.ensures.counts ∙ c.loop-found.invariant.calm;
}

pub returns-clause-text : goal.returns-clause-text
returns-clause-text g c = all_written c.args.files.now c.args.findings.now c.loop-found.found-index _ _ _ c.loop-found.invariant.written _ c.write_text.result c.loop-found-test.false (rw c.deref.ensures.value at c.write_text.ensures.text)
