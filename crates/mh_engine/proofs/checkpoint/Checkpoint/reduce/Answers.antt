use Rattle.std.proofs.Common.{◌≡◌, ap, sym, subst, ◌∙◌, inl, inr, refl, Some, arith}
use Rattle.std.specs.List.{All}
use Rattle.mh_tables_core.specs.Facts.{Facts}
use Rattle.mh_tables_core.specs.Halting.{look_list}
use Rattle.mh_tables_core.specs.Run.{Refuses, Shifts, Reduces}
use Rattle.mh_engine.specs.Positions.{Position, position_with_look}
use Rattle.mh_engine.specs.Phases.{next_move, phase_of, CanOffer}
use Rattle.mh_engine.specs.Steps.{resumed, offered}
use Rattle.mh_engine.specs.code.IsSound.{IsSound}
use Rattle.mh_tables_core.specs.TooDeep.{too_deep}
use Rattle.mh_engine.specs.code.CanReduce.{CanReduce}
use Rattle.mh_engine.proofs.PhaseMoves.{no_shift_waiting}
use Rattle.mh_engine.proofs.Resumed.{not_below_limit, offered_made, resumed_refused, shifted_made, shifted_keeps, shifted_fits, shifted_deep, ReductionValues, reduced_made, reduced_keeps, reduced_low, reduced_deep, can_reduce, resumable_moves}
use Rattle.mh_grammar.specs.declared.types.Symbol.TheVariants.{N}
use Rattle.mh_grammar.specs.Plain.{rhs_of, lhs_of}
use Rattle.mh_tables_core.specs.Table.{TableData}
use Rattle.std.proofs.Common.{ℕ, ◌<◌, length}
use Rattle.mh_grammar.specs.Trees.{height_of, Node, forest_of, SyntaxTree}
use Rattle.mh_engine.specs.code.Cells.{pushed}
use Rattle.mh_engine.proofs.checkpoint.Checkpoint.reduce.Goals.{then-not-has_room-via-then-not-has_room, then-not-has_room-via-else-not-has_room+then-not-can_be_children}
use Rattle.mh_engine.proofs.checkpoint.Checkpoint.reduce.Goals as goal

pub returns-then-not-has_room-clause-deep : goal.returns-then-not-has_room-clause-deep
returns-then-not-has_room-clause-deep c =
    let v : Position = position_with_look c.self.inside.table.now c.self.inside.stack c.self.inside.pending c.self.inside.refused in
    let size = c.length_of-length.ensures ∙ ap (λ (t : TableData). length (rhs_of t.grammar c.args.production)) c.table-table.ensures.table in
    let next = subst (λ (p : Position). next_move p ≡ Reduces c.args.production) (sym c.self.view_is) c.requires.next in
    let can = subst (λ (p : Position). CanReduce p c.args.production) (sym c.self.view_is) c.requires.can_reduce in
    λ e. ap (λ (p : Position). too_deep (resumed p).pairs.trees) (sym c.self.view_is)
    ∙ reduced_deep v c.args.production c.length_of-length.result c.in_ok-kept.kept c.in_ok-kept.children.items c.table-table.ensures.facts.facts c.self.invariant.0 next can size c.in_ok-kept.ensures.below c.in_ok-kept.ensures.trees
    (elim c.then-not-has_room.branch [
      | then-not-has_room-via-then-not-has_room w ↦ inl (not_below_limit (length c.in_ok-kept.kept.trees) (λ lt. let told = w.if-not-has_room.ensures.1 lt in cc))
      | then-not-has_room-via-else-not-has_room+then-not-can_be_children w ↦ inr (λ all. let told = w.if-not-can_be_children.ensures.1 (subst (All (λ t. height_of t < 4000)) (sym w.as_slice.ensures.value) all) in cc)
    ])

pub invariant_of-result : goal.invariant_of-result
invariant_of-result c =
    let v : Position = position_with_look c.self.inside.table.now c.self.inside.stack c.self.inside.pending c.self.inside.refused in
    let size = c.length_of-length.ensures ∙ ap (λ (t : TableData). length (rhs_of t.grammar c.args.production)) c.table-table.ensures.table in
    let next = subst (λ (p : Position). next_move p ≡ Reduces c.args.production) (sym c.self.view_is) c.requires.next in
    let can = subst (λ (p : Position). CanReduce p c.args.production) (sym c.self.view_is) c.requires.can_reduce in
    let found : ReductionValues v c.args.production c.length_of-length.result c.in-Some.target c.in_ok-kept.kept c.in_ok-kept.children.items c.in_ok-push.field-0 = record {
      size_is = size;
      kept_are = c.in_ok-kept.ensures.below;
      children_are = c.in_ok-kept.ensures.trees;
      goto_is = sym (rw (c.lhs_of.ensures, c.top.ensures, c.table-table.ensures.table) at c.in-Some.ensures);
      new_are = c.in_ok-push.ensures ∙ ap (λ (t : SyntaxTree). pushed c.in_ok-kept.kept c.in-Some.target t) c.in_ok-tree.ensures;
    } in (
      reduced_keeps v c.args.production c.length_of-length.result c.in-Some.target c.in_ok-kept.kept c.in_ok-kept.children.items c.in_ok-push.field-0 c.table-table.ensures.facts.facts c.self.invariant.0 next can found
          (c.if-not-has_room.ensures.0 refl) (subst (All (λ t. height_of t < 4000)) c.as_slice.ensures.value (c.if-not-can_be_children.ensures.0 refl)),
      c.self.invariant.1,
    )

pub returns-clause-value : goal.returns-clause-value
returns-clause-value c =
    let v : Position = position_with_look c.self.inside.table.now c.self.inside.stack c.self.inside.pending c.self.inside.refused in
    let size = c.length_of-length.ensures ∙ ap (λ (t : TableData). length (rhs_of t.grammar c.args.production)) c.table-table.ensures.table in
    let next = subst (λ (p : Position). next_move p ≡ Reduces c.args.production) (sym c.self.view_is) c.requires.next in
    let can = subst (λ (p : Position). CanReduce p c.args.production) (sym c.self.view_is) c.requires.can_reduce in
    let found : ReductionValues v c.args.production c.length_of-length.result c.in-Some.target c.in_ok-kept.kept c.in_ok-kept.children.items c.in_ok-push.field-0 = record {
      size_is = size;
      kept_are = c.in_ok-kept.ensures.below;
      children_are = c.in_ok-kept.ensures.trees;
      goto_is = sym (rw (c.lhs_of.ensures, c.top.ensures, c.table-table.ensures.table) at c.in-Some.ensures);
      new_are = c.in_ok-push.ensures ∙ ap (λ (t : SyntaxTree). pushed c.in_ok-kept.kept c.in-Some.target t) c.in_ok-tree.ensures;
    } in
    reduced_made v c.args.production c.length_of-length.result c.in-Some.target c.in_ok-kept.kept c.in_ok-kept.children.items c.in_ok-push.field-0 c.table-table.ensures.facts.facts c.self.invariant.0 next can found ∙ ap resumed c.self.view_is

pub returns-clause-fits : goal.returns-clause-fits
returns-clause-fits c =
    let v : Position = position_with_look c.self.inside.table.now c.self.inside.stack c.self.inside.pending c.self.inside.refused in
    let size = c.length_of-length.ensures ∙ ap (λ (t : TableData). length (rhs_of t.grammar c.args.production)) c.table-table.ensures.table in
    let next = subst (λ (p : Position). next_move p ≡ Reduces c.args.production) (sym c.self.view_is) c.requires.next in
    let can = subst (λ (p : Position). CanReduce p c.args.production) (sym c.self.view_is) c.requires.can_reduce in
    let found : ReductionValues v c.args.production c.length_of-length.result c.in-Some.target c.in_ok-kept.kept c.in_ok-kept.children.items c.in_ok-push.field-0 = record {
      size_is = size;
      kept_are = c.in_ok-kept.ensures.below;
      children_are = c.in_ok-kept.ensures.trees;
      goto_is = sym (rw (c.lhs_of.ensures, c.top.ensures, c.table-table.ensures.table) at c.in-Some.ensures);
      new_are = c.in_ok-push.ensures ∙ ap (λ (t : SyntaxTree). pushed c.in_ok-kept.kept c.in-Some.target t) c.in_ok-tree.ensures;
    } in
    ap (λ (p : Position). too_deep (resumed p).pairs.trees) (sym c.self.view_is)
    ∙ reduced_low v c.args.production c.length_of-length.result c.in-Some.target c.in_ok-kept.kept c.in_ok-kept.children.items c.in_ok-push.field-0 c.table-table.ensures.facts.facts c.self.invariant.0 next can found
    (c.if-not-has_room.ensures.0 refl) (subst (All (λ t. height_of t < 4000)) c.as_slice.ensures.value (c.if-not-can_be_children.ensures.0 refl))
