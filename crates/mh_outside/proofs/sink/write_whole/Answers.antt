use Rattle.std.proofs.Common.{arith, rules, ◌∙◌}
use Rattle.mh_outside.proofs.Consumes.{appends_more}
use Rattle.mh_outside.proofs.sink.write_whole.Goals as goal

pub loop-rest-preserved : goal.loop-rest-preserved
loop-rest-preserved g c =
    record {
      so_far = appends_more _ _ _ _ _ c.loop-rest.rest.now c.in-Ok.count _ c.loop-rest.invariant.so_far.1 c.loop-rest.invariant.so_far.2 c.in-Ok.ensures.bytes (omega arith);
      may = c.in-Ok.ensures.may_still;
      calm = c.in-Ok.ensures.counts ∙ c.loop-rest.invariant.calm;
    }

pub returns-in-Err-clause-bytes : goal.returns-in-Err-clause-bytes
returns-in-Err-clause-bytes g c = search rules

pub returns-in-Err-clause-counts : goal.returns-in-Err-clause-counts
returns-in-Err-clause-counts g c = search rules
