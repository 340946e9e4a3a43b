use Rattle.std.proofs.Common.{◌∙◌, arith}
use Rattle.mh_outside.proofs.ReadsLine.{Consumes-push, HasNoLF-more, length-push, reads_last, reads_fault, counts_fault}
use Rattle.mh_outside.proofs.lines.take_line.Goals as goal

pub loop-line-preserved : goal.loop-line-preserved
loop-line-preserved g c =
    let so_far = c.loop-line.invariant in
    let added = c.in-Ok.ensures in
    record {
      taken = Consumes-push _ _ _ c.loop-line.line.items _ c.in-Some.byte so_far.taken (rw c.in-Some.is at c.in_ok-read_byte.ensures.bytes) added.0;
      no_end = HasNoLF-more _ _ c.in-Some.byte so_far.no_end c.in-Some.byte-test.1 added.0;
      fits = omega (arith, added.1, length-push _ _ _ added.0);
      may = c.in_ok-read_byte.ensures.may_still;
      calm = c.in_ok-read_byte.ensures.counts ∙ so_far.calm;
    }

pub loop-line-smaller : goal.loop-line-smaller
loop-line-smaller g c = omega (arith, c.in-Ok.ensures.1, length-push _ _ _ c.in-Ok.ensures.0)

pub returns-in-None-clause-bytes : goal.returns-in-None-clause-bytes
returns-in-None-clause-bytes g c =
    let so_far = c.loop-line.invariant in
    let read = rw c.in-None.is at c.in_ok-read_byte.ensures.bytes in
    reads_last _ _ _ _ c.loop-line.line.items c.last_line.result so_far.taken so_far.no_end so_far.fits read.0 read.1 c.last_line.ensures

pub returns-in-Err-clause-bytes : goal.returns-in-Err-clause-bytes
returns-in-Err-clause-bytes g c =
    let so_far = c.loop-line.invariant in
    reads_fault _ _ _ _ c.loop-line.line.items c.add_byte.new.line.items c.in-Some.byte c.in-Err.fault so_far.taken so_far.no_end so_far.fits (rw c.in-Some.is at c.in_ok-read_byte.ensures.bytes) c.in-Some.byte-test.1 c.in-Err.ensures

pub returns-in-Err-clause-counts : goal.returns-in-Err-clause-counts
returns-in-Err-clause-counts g c =
    counts_fault c.args.limit _ _ c.loop-line.line.items c.add_byte.new.line.items c.in-Some.byte c.in-Err.fault (c.in_ok-read_byte.ensures.counts ∙ c.loop-line.invariant.calm) c.in-Err.ensures
