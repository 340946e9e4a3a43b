use Rattle.std.proofs.Common.{◌≡◌, ◌<◌, ℕ}
use Rattle.std.specs.Prelude.{codes}
use Rattle.mh_grammar.specs.Names.{token_name}
use Rattle.mh_worked_grammars.proofs.names.are_apart.Given as goal

abbrev pub invariant-loop-token : goal.invariant-loop-token
invariant-loop-token l = record {
  apart : (y z : ℕ) → y < z → z < l.token → token_name l.grammar y ≡ token_name l.grammar z → ⊥;
  no_end : (z : ℕ) → z < l.token → token_name l.grammar z ≡ codes "#" → ⊥;
}
