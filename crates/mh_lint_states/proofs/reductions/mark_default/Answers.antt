use Rattle.std.proofs.Common.{◌≡◌, Some, ap, ◌∙◌, arith}
use Rattle.mh_tables_core.specs.Table.{state_at}
use Rattle.mh_tables_core.specs.declared.parts.Fallback.TheVariants as fallbacks
use Rattle.mh_lint_states.proofs.MarkedFlags.{marks_one}
use Rattle.mh_lint_states.proofs.Reduces.{IsDefault, default_known, fallback_is}
use Rattle.mh_lint_states.proofs.reductions.mark_default.Goals as goal

pub index_mut-requires : goal.index_mut-requires
index_mut-requires c =
    let is : (state_at c.args.table.now c.args.state).fallback ≡ Some (fallbacks.Reduce c.in-Some-Reduce.production) = fallback_is c.args.table.now c.args.state c.in-Some-Reduce.production _ c.fallback.ensures (c.in-Some-Reduce.is ∙ ap Some c.in-Some-Reduce.field-0-is) in
    let known = default_known c.args.table.now c.args.state c.in-Some-Reduce.production c.facts.ensures is in
    omega (arith, known, c.requires.size, c.args.reduced.now.ok.0)

pub returns-in-Some-Reduce : goal.returns-in-Some-Reduce
returns-in-Some-Reduce c =
    let is : (state_at c.args.table.now c.args.state).fallback ≡ Some (fallbacks.Reduce c.in-Some-Reduce.production) = fallback_is c.args.table.now c.args.state c.in-Some-Reduce.production _ c.fallback.ensures (c.in-Some-Reduce.is ∙ ap Some c.in-Some-Reduce.field-0-is) in
    let known = default_known c.args.table.now c.args.state c.in-Some-Reduce.production c.facts.ensures is in
    marks_one (IsDefault c.args.table.now c.args.state) c.args.reduced.now.items c.in-Some-Reduce.production (omega (arith, known, c.requires.size)) is (λ q e. cc)
