use Rattle.std.proofs.Common.{[], ◌∷◌, ◌++◌}
use Rattle.std.specs.List.{flat_map}
use Rattle.mh_reader_parser.specs.code.Pieces.{mark, actual_pieces}
use Rattle.mh_reader.specs.code.Printed.{action, prec_pieces}
use Rattle.mh_reader.proofs.PrintedText.{Writes-append}
use Rattle.mh_reader.proofs.printing.write_alternative.Goals as goal

pub returns : goal.returns
returns c =
    let producers = flat_map actual_pieces c.args.alternative.now.producers in
    let prec = prec_pieces c.args.alternative.now.prec in
    Writes-append (mark 124 ∷ []) (producers ++ (prec ++ action ∷ [])) _ _ _ c.in_ok-write_lexeme.ensures
    (Writes-append producers (prec ++ action ∷ []) _ _ _ (rw c.as_slice.ensures at c.in_ok-write_actuals.ensures)
    (Writes-append prec (action ∷ []) _ _ _ c.in_ok-write_prec.ensures c.in_ok-write_lexeme-2.ensures))
