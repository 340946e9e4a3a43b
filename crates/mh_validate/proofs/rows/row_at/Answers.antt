use Rattle.std.proofs.Common.{rules}
use Rattle.std.proofs.lemmas.Result.{IfOk-weaker}
use Rattle.mh_validate.proofs.MatchedEdges.{found_row, moves_at, kernel_right}
use Rattle.mh_validate.proofs.rows.row_at.Goals as goal

pub moves-requires : goal.moves-requires
moves-requires g c = (search rules, (search rules, (c.requires.fits, (c.requires.mover, kernel_right c.args.grammar.now c.args.raw.now c.args.kernels.now c.requires.kernels c.args.state c.index-kernels-state.result c.requires.state c.index-kernels-state.is))))

pub returns-clause-row : goal.returns-clause-row
returns-clause-row g c =
    let of = moves_at c.args.grammar.now c.args.kernels.now c.args.state c.index-kernels-state.result c.in_ok-moves.moves.items c.requires.state c.index-kernels-state.is c.in_ok-moves.ensures.moves in
    IfOk-weaker c.row_of.result _ _ (λ o is. found_row c.args.grammar.now c.args.raw.now c.args.kernels.now c.args.state c.in_ok-moves.moves.items of c.requires.kernels c.edges_at.result.now c.edges_at.ensures o is) (rw c.as_slice.ensures.value at c.row_of.ensures)
