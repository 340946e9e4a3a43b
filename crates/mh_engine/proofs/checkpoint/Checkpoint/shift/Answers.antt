use Rattle.std.proofs.Common.{length, ◌≡◌, ap, sym, subst, ◌∙◌, inl, inr, refl, Some, arith}
use Rattle.std.specs.List.{All}
use Rattle.mh_tables_core.specs.Facts.{Facts}
use Rattle.mh_tables_core.specs.Halting.{look_list}
use Rattle.mh_tables_core.specs.Run.{Refuses, Shifts, Reduces}
use Rattle.mh_engine.specs.Positions.{Position, position_with_look}
use Rattle.mh_engine.specs.Phases.{next_move, phase_of, CanOffer}
use Rattle.mh_engine.specs.Steps.{resumed, offered}
use Rattle.mh_engine.specs.code.IsSound.{IsSound}
use Rattle.mh_tables_core.specs.TooDeep.{too_deep}
use Rattle.mh_engine.specs.code.CanReduce.{CanReduce}
use Rattle.mh_engine.proofs.PhaseMoves.{no_shift_waiting}
use Rattle.mh_engine.proofs.Resumed.{not_below_limit, offered_made, resumed_refused, shifted_made, shifted_keeps, shifted_fits, shifted_deep, ReductionValues, reduced_made, reduced_keeps, reduced_low, reduced_deep, can_reduce, resumable_moves}
use Rattle.mh_engine.proofs.checkpoint.Checkpoint.shift.Goals as goal

pub unreachable-requires : goal.unreachable-requires
unreachable-requires c = no_shift_waiting c.args.self.now c.self.inside.pending c.args.target c.in_default.is (ap (λ (p : Position). p.left) c.self.view_is) (sym c.requires)

pub returns-then-not-has_room-clause-deep : goal.returns-then-not-has_room-clause-deep
returns-then-not-has_room-clause-deep c =
    let v : Position = position_with_look c.self.inside.table.now c.self.inside.stack c.self.inside.pending c.self.inside.refused in
    λ e. ap (λ (p : Position). too_deep (resumed p).pairs.trees) (sym c.self.view_is)
    ∙ shifted_deep v c.args.target c.in-Some.token (subst (λ (p : Position). next_move p ≡ Shifts c.args.target) (sym c.self.view_is) c.requires) (ap look_list c.in-Some.is) (not_below_limit (length v.pairs.trees) (λ lt. let told = c.if-not-has_room.ensures.1 lt in cc))

pub invariant_of-result : goal.invariant_of-result
invariant_of-result c =
    let v : Position = position_with_look c.self.inside.table.now c.self.inside.stack c.self.inside.pending c.self.inside.refused in (
      shifted_keeps v c.in_ok-push.field-0 c.args.target c.in-Some.token c.table-rows.ensures.facts.facts c.self.invariant.0 (subst (λ (p : Position). next_move p ≡ Shifts c.args.target) (sym c.self.view_is) c.requires) (ap look_list c.in-Some.is)
          (c.if-not-has_room.ensures.0 refl) (rw (← c.in_ok-share.ensures, ← c.in_ok-tree.ensures) c.in_ok-push.ensures),
      tt,
    )

pub returns-clause-value : goal.returns-clause-value
returns-clause-value c =
    let v : Position = position_with_look c.self.inside.table.now c.self.inside.stack c.self.inside.pending c.self.inside.refused in
    shifted_made v c.in_ok-push.field-0 c.args.target c.in-Some.token (subst (λ (p : Position). next_move p ≡ Shifts c.args.target) (sym c.self.view_is) c.requires) (ap look_list c.in-Some.is) (rw (← c.in_ok-share.ensures, ← c.in_ok-tree.ensures) c.in_ok-push.ensures)
    ∙ ap resumed c.self.view_is

pub returns-clause-fits : goal.returns-clause-fits
returns-clause-fits c =
    let v : Position = position_with_look c.self.inside.table.now c.self.inside.stack c.self.inside.pending c.self.inside.refused in
    ap (λ (p : Position). too_deep (resumed p).pairs.trees) (sym c.self.view_is)
    ∙ shifted_fits v c.args.target c.in-Some.token c.self.invariant.0 (subst (λ (p : Position). next_move p ≡ Shifts c.args.target) (sym c.self.view_is) c.requires) (ap look_list c.in-Some.is) (c.if-not-has_room.ensures.0 refl)
