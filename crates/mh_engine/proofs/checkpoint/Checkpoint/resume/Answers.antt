use Rattle.std.proofs.Common.{◌≡◌, ap, sym, subst, ◌∙◌, inl, inr, refl, Some, arith}
use Rattle.std.specs.List.{All}
use Rattle.mh_tables_core.specs.Facts.{Facts}
use Rattle.mh_tables_core.specs.Halting.{look_list}
use Rattle.mh_tables_core.specs.Run.{Refuses, Shifts, Reduces}
use Rattle.mh_engine.specs.Positions.{Position, position_with_look}
use Rattle.mh_engine.specs.Phases.{next_move, phase_of, CanOffer}
use Rattle.mh_engine.specs.Steps.{resumed, offered}
use Rattle.mh_engine.specs.code.IsSound.{IsSound}
use Rattle.mh_tables_core.specs.TooDeep.{too_deep}
use Rattle.mh_engine.specs.code.CanReduce.{CanReduce}
use Rattle.mh_engine.proofs.PhaseMoves.{no_shift_waiting}
use Rattle.mh_engine.proofs.Resumed.{offered_made, resumed_refused, shifted_made, shifted_keeps, shifted_fits, shifted_deep, ReductionValues, reduced_made, reduced_keeps, reduced_low, reduced_deep, can_reduce, resumable_moves}
use Rattle.mh_engine.specs.Branches.{HasPosition, with_step}
use Rattle.mh_engine.proofs.BranchPosition.{HasPosition-step, HasPosition-resumed_ok}
use Rattle.mh_engine.proofs.checkpoint.Checkpoint.resume.Goals as goal

pub reduce-requires-clause-can_reduce : goal.reduce-requires-clause-can_reduce
reduce-requires-clause-can_reduce c =
    can_reduce c.args.self.now c.in-Reduce.production (subst (λ (p : Position). Facts p.table) c.self.view_is c.table-rows.ensures.facts.facts) (subst IsSound c.self.view_is c.self.invariant.0) (sym c.in-Reduce.ensures)

pub unreachable-requires : goal.unreachable-requires
unreachable-requires c = (resumable_moves c.args.self.now c.requires).0 (sym c.in-Accept.ensures)

pub unreachable-requires-in-Ask : goal.unreachable-requires-in-Ask
unreachable-requires-in-Ask c = (resumable_moves c.args.self.now c.requires).1 (sym c.in-Ask.ensures)

pub returns-in-Shift-clause-branch : goal.returns-in-Shift-clause-branch
returns-in-Shift-clause-branch c = HasPosition-resumed_ok c.shift.result c.args.self.now c.requires c.shift.ensures.value

pub returns-in-Reduce-clause-branch : goal.returns-in-Reduce-clause-branch
returns-in-Reduce-clause-branch c = HasPosition-resumed_ok c.reduce.result c.args.self.now c.requires c.reduce.ensures.value

pub returns-in-Ok-clause-value : goal.returns-in-Ok-clause-value
returns-in-Ok-clause-value c = c.in-Ok.ensures ∙ sym (resumed_refused c.args.self.now (sym c.in-Refuse.ensures))

pub returns-in-Ok-clause-branch : goal.returns-in-Ok-clause-branch
returns-in-Ok-clause-branch c = λ b h. subst (HasPosition (with_step b)) (sym (returns-in-Ok-clause-value c)) (HasPosition-step b c.args.self.now h c.requires)

pub returns-in-Ok-clause-fits : goal.returns-in-Ok-clause-fits
returns-in-Ok-clause-fits c =
    let sound = subst IsSound c.self.view_is c.self.invariant.0 in
    ap (λ (p : Position). too_deep p.pairs.trees) (resumed_refused c.args.self.now (sym c.in-Refuse.ensures)) ∙ sound.not_too_deep
