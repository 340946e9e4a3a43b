use Rattle.mh_sample.proofs.Verdicts.{endings_more}
use Rattle.mh_sample.proofs.counting.put_verdict.Goals as goal

pub returns : goal.returns
returns c = λ done so_far.
    endings_more c.args.table.now done c.args.sentence.now _ c.args.verdicts.now.items c.push.new.self.items c.in_ok-verdict.verdict c.as_slice.ensures c.in_ok-push.ensures.items c.in_ok-verdict.ensures so_far
