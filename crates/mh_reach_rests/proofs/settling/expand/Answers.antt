use Rattle.std.proofs.Common.{subst, sym}
use Rattle.mh_reach_rests.specs.declared.sought.Sought.{Sought}
use Rattle.mh_reach_rests.specs.code.RestLevels.{ExpandsFor, ExpandsGoto, IsInRangeFor, as_goto}
use Rattle.mh_reach_rests.proofs.settling.expand.Goals as goal

pub expand_rest-requires-clause-rest : goal.expand_rest-requires-clause-rest
expand_rest-requires-clause-rest c = subst (λ (k : Sought). IsInRangeFor c.args.table.now k c.args.settled.0.end c.args.settled.1) c.in-Rest.is c.requires.item

pub returns-in_ok-expand_rest-in-Rest : goal.returns-in_ok-expand_rest-in-Rest
returns-in_ok-expand_rest-in-Rest c =
    subst (λ (k : Sought). ExpandsFor c.args.table.now c.args.classes.now c.args.sources.now c.args.work.now c.expand_rest.new.work k c.args.settled.0.end c.args.settled.1) (sym c.in-Rest.is) c.in_ok-expand_rest-in-Rest.ensures

pub expand_goto-requires-clause-goto : goal.expand_goto-requires-clause-goto
expand_goto-requires-clause-goto c = subst (λ (k : Sought). IsInRangeFor c.args.table.now k c.args.settled.0.end c.args.settled.1) c.in-Goto.is c.requires.item

pub returns-in_ok-expand_goto-in-Goto : goal.returns-in_ok-expand_goto-in-Goto
returns-in_ok-expand_goto-in-Goto c =
    let expands : ExpandsGoto c.args.table.now c.args.classes.now c.args.work.now c.expand_goto.new.work (as_goto c.in-Goto.fact c.args.settled.0.end c.args.settled.1) = record { queue = c.in_ok-expand_goto-in-Goto.ensures.queue; gotos = c.in_ok-expand_goto-in-Goto.ensures.gotos; rests = c.in_ok-expand_goto-in-Goto.ensures.rests } in
    subst (λ (k : Sought). ExpandsFor c.args.table.now c.args.classes.now c.args.sources.now c.args.work.now c.expand_goto.new.work k c.args.settled.0.end c.args.settled.1) (sym c.in-Goto.is) expands
