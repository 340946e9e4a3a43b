use Rattle.std.proofs.Common.{sym, ◌∙◌, true≢false}
use Rattle.mh_validate_valid.proofs.CellLines.{cells_stop}
use Rattle.mh_validate_valid.proofs.cells.count_right.Goals as goal

pub returns-then-not-has_parts : goal.returns-then-not-has_parts
returns-then-not-has_parts c = cells_stop c.args.grammar.now c.args.raw.now c.args.parts.now c.loop-state.state c.index-parts-state.result c.loop-state-test.true c.index-parts-state.is c.loop-state.invariant (λ told. true≢false (sym ((rw c.cells_at.ensures at c.has_parts.ensures).1 told) ∙ c.if-not-has_parts.true))
