use Rattle.std.proofs.Common.{refl}
use Rattle.mh_grammar.specs.Text.{Text}
use Rattle.mh_join_names.specs.Names.{same}
use Rattle.mh_join_names.proofs.Lists.{position_more}
use Rattle.mh_join_names.proofs.formals.formals_of.Goals as goal

pub loop-at-preserved : goal.loop-at-preserved
loop-at-preserved c = position_more same c.loop-at.numbers c.put_first.new.map (λ (k : Text). k) c.args.formals.now c.loop-at.at c.index-formals-at.result (λ x. refl) c.loop-at-test.true c.index-formals-at.is c.loop-at.invariant c.in_ok-put_first.ensures
