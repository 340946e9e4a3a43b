use Rattle.std.proofs.Common.{[], ◌∷◌, codes}
use Rattle.std.specs.List.{flat_map}
use Rattle.mh_reader_parser.specs.code.Pieces.{actual_pieces}
use Rattle.mh_reader.specs.code.Printed.{keyword, on_error_pieces}
use Rattle.mh_reader.proofs.PrintedText.{Writes-append, Writes-next}
use Rattle.mh_reader.proofs.printing.write_on_error.Goals as goal

pub loop-list-preserved : goal.loop-list-preserved
loop-list-preserved c =
    Writes-next on_error_pieces c.args.lists.now _ _ _ _ _ c.loop-list-test.true c.list-item.is c.loop-list.invariant
    (Writes-append (keyword (codes "on_error_reduce") ∷ []) (flat_map actual_pieces c.list-item.result) _ _ _ c.in_ok-write_lexeme.ensures (rw c.as_slice.ensures at c.in_ok-write_actuals.ensures))
