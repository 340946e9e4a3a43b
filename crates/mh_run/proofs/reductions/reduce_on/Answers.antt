use Rattle.std.proofs.Common.{sym, ◌∙◌, arith}
use Rattle.mh_run.proofs.ReductionsOfRun.{reduced_is}
use Rattle.mh_run.proofs.reductions.reduce_on.Goals as goal

pub returns : goal.returns
returns c = record {
  ok = reduced_is c.args.table.now c.args.production c.args.stack.now.items c.requires c.len.result c.length_of.result c.index.result.now c.lhs_of.result c.in-Some.target
      c.truncate.new.self.items c.push.new.self.items (omega arith) c.length_of.ensures c.truncate.ensures.items c.index.ensures c.lhs_of.ensures (sym c.goto.ensures ∙ c.in-Some.is)
      c.in_ok-push-in-Some.ensures.items;
}
