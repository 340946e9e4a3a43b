use Rattle.std.proofs.Common.{◌≡◌, ap, sym, subst, ◌∙◌, inl, inr, refl, Some, arith}
use Rattle.std.specs.List.{All}
use Rattle.mh_tables_core.specs.Facts.{Facts}
use Rattle.mh_tables_core.specs.Halting.{look_list}
use Rattle.mh_tables_core.specs.Run.{Refuses, Shifts, Reduces}
use Rattle.mh_engine.specs.Positions.{Position, position_with_look}
use Rattle.mh_engine.specs.Phases.{next_move, phase_of, CanOffer}
use Rattle.mh_engine.specs.Steps.{resumed, offered}
use Rattle.mh_engine.specs.code.IsSound.{IsSound}
use Rattle.mh_tables_core.specs.TooDeep.{too_deep}
use Rattle.mh_engine.specs.code.CanReduce.{CanReduce}
use Rattle.mh_engine.proofs.PhaseMoves.{no_shift_waiting}
use Rattle.mh_engine.proofs.Resumed.{offered_made, resumed_refused, shifted_made, shifted_keeps, shifted_fits, shifted_deep, ReductionValues, reduced_made, reduced_keeps, reduced_low, reduced_deep, can_reduce, resumable_moves}
use Rattle.mh_engine.specs.Branches.{HasPosition, with_token}
use Rattle.mh_engine.proofs.BranchPosition.{HasPosition-token}
use Rattle.mh_engine.proofs.checkpoint.Checkpoint.offer.Goals as goal

pub returns-clause-value : goal.returns-clause-value
returns-clause-value c =
    let v : Position = position_with_look c.self.inside.table.now c.self.inside.stack c.self.inside.pending c.self.inside.refused in
    offered_made v c.in_ok-share.field-0 c.args.token (subst (λ (p : Position). CanOffer (phase_of p)) (sym c.self.view_is) c.requires.can_offer) c.in_ok-share.ensures ∙ ap (λ (p : Position). offered p c.args.token) c.self.view_is

pub returns-clause-branch : goal.returns-clause-branch
returns-clause-branch c = λ b h. subst (HasPosition (with_token b c.args.token)) (sym (returns-clause-value c)) (HasPosition-token b c.args.self.now c.args.token h)
