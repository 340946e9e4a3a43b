use Rattle.std.proofs.Common.{[], ◌∷◌, ◌++◌, codes}
use Rattle.std.specs.List.{flat_map}
use Rattle.mh_reader_parser.specs.code.Pieces.{word, mark}
use Rattle.mh_reader.specs.code.Printed.{modifier_pieces, formals_pieces, alternative_pieces}
use Rattle.mh_reader.proofs.PrintedText.{Writes-append}
use Rattle.mh_reader.proofs.printing.write_rule.Goals as goal

pub returns : goal.returns
returns c =
    let modifiers = modifier_pieces c.args.rule.now.public (codes "public") ++ modifier_pieces c.args.rule.now.inlined (codes "inline") in
    let formals = formals_pieces c.args.rule.now.formals in
    let alternatives = mark 58 ∷ flat_map alternative_pieces c.args.rule.now.alternatives in
    Writes-append modifiers (word c.args.rule.now.name ∷ formals ++ alternatives) _ _ _ c.in_ok-write_modifiers.ensures
    (Writes-append (word c.args.rule.now.name ∷ []) (formals ++ alternatives) _ _ _ (rw c.as_slice.ensures at c.in_ok-write_lexeme.ensures)
    (Writes-append formals alternatives _ _ _ (rw c.as_slice-2.ensures at c.in_ok-write_formals.ensures)
    (Writes-append (mark 58 ∷ []) (flat_map alternative_pieces c.args.rule.now.alternatives) _ _ _ c.in_ok-write_lexeme-2.ensures (rw c.as_slice-3.ensures at c.in_ok-write_alternatives.ensures))))
