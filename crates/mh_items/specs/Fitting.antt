-- The precondition of calls on lookahead sets: the sets are wide enough for all tokens of a grammar.
use Rattle.std.specs.Prelude.{◌≤◌, ◌*◌, ℕ, length}
use Rattle.mh_grammar.specs.declared.types.Grammar.{Grammar}
use Rattle.mh_grammar.specs.Plain.{plain_of, IsInRange}

-- The numbers of the grammar are in range, and its tokens fit lookahead sets of W words, at most eight.
pub record FitsSets (W : ℕ) (g : Grammar) : Type 0 where
  pub few : W ≤ 8
  pub width : length g.tokens ≤ 64 * W
  pub range : IsInRange (plain_of g)
