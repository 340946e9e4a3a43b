use Rattle.mh_top_prepare.proofs.ResolvedStage.{tabled_if_halts, refused_if_loops}
use Rattle.mh_top_prepare.proofs.halting.where_halting.Goals as goal

pub returns-in-Ok : goal.returns-in-Ok
returns-in-Ok g c =
    tabled_if_halts c.args.mode c.args.grammar.now c.args.automaton _ c.requires.table c.in-Ok.halting _ _ c.in-Ok.ensures.same c.from_vec.ensures c.requires.conflicts c.in-Ok.ensures.halts

pub returns-in-Err-Loops : goal.returns-in-Err-Loops
returns-in-Err-Loops g c =
    refused_if_loops c.args.mode c.args.grammar.now c.args.automaton _ c.requires.table c.in-Err-Loops.below c.in-Err-Loops.state c.in-Err-Loops.token c.loops.result
    (rw c.in-Err-Loops.field-0-is at c.in-Err-Loops.ensures.fault) (rw c.in-Err-Loops.field-0-is at c.loops.ensures)
