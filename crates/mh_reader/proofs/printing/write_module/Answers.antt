use Rattle.std.proofs.Common.{[], ◌∷◌, ◌++◌}
use Rattle.std.specs.List.{flat_map}
use Rattle.mh_reader.specs.code.Printed.{percents, token_pieces, start_pieces, level_pieces, on_error_pieces, rule_pieces}
use Rattle.mh_reader.proofs.PrintedText.{Writes-append}
use Rattle.mh_reader.proofs.printing.write_module.Goals as goal

pub returns : goal.returns
returns c =
    let rules = percents ∷ flat_map rule_pieces c.args.«module».now.rules in
    let on_error = flat_map on_error_pieces c.args.«module».now.on_error in
    let levels = flat_map level_pieces c.args.«module».now.levels in
    let starts = flat_map start_pieces c.args.«module».now.starts in
    Writes-append (flat_map token_pieces c.args.«module».now.tokens) (starts ++ (levels ++ (on_error ++ rules))) _ _ _ (rw c.as_slice.ensures at c.in_ok-write_tokens.ensures)
    (Writes-append starts (levels ++ (on_error ++ rules)) _ _ _ (rw c.as_slice-2.ensures at c.in_ok-write_starts.ensures)
    (Writes-append levels (on_error ++ rules) _ _ _ (rw c.as_slice-3.ensures at c.in_ok-write_levels.ensures)
    (Writes-append on_error rules _ _ _ (rw c.as_slice-4.ensures at c.in_ok-write_on_error.ensures)
    (Writes-append (percents ∷ []) (flat_map rule_pieces c.args.«module».now.rules) _ _ _ c.in_ok-write_lexeme.ensures (rw c.as_slice-5.ensures at c.in_ok-write_rules.ensures)))))
