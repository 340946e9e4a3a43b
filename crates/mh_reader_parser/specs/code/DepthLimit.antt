-- The bound on the depth of the actuals that the parser is reading.
use Rattle.std.specs.Prelude.{◌≤◌, ◌+◌, List, [], ◌∷◌, length}
use Rattle.mh_rules.specs.Limits.{max_actual_depth}
use Rattle.mh_reader_parser.specs.declared.parser_states.OpenActual.{OpenActual}
use Rattle.mh_reader_parser.specs.declared.parser_states.ParserState.{ParserState}
use Rattle.mh_reader_parser.specs.declared.parser_states.ParserState.TheVariants as places

-- For each open bracket, the depth of its arguments so far and the number of brackets are within the limit. The
-- innermost bracket comes first.
abbrev pub AreOpenShallow : List OpenActual → Type 0
AreOpenShallow [] = Unit {0}
AreOpenShallow (p ∷ ps) = (p.depth + length (p ∷ ps) ≤ max_actual_depth) × AreOpenShallow ps

abbrev pub IsStateShallow : ParserState → Type 0
IsStateShallow (places.Argument k ps) = (1 + length ps ≤ max_actual_depth) × AreOpenShallow ps
IsStateShallow (places.Head k ps r) = (1 + length ps ≤ max_actual_depth) × AreOpenShallow ps
IsStateShallow (places.After k ps a d) = (1 ≤ d) × (d + length ps ≤ max_actual_depth) × AreOpenShallow ps
IsStateShallow _ = Unit {0}
