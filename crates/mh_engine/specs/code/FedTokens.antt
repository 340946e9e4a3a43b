-- Definitions of what feeding does to a checkpoint.
use Rattle.std.specs.Prelude.{◌≡◌, ◌+◌, ◌≤◌, ◌⊎◌, ℕ, false, List, [], ◌∷◌, length, drop}
use Rattle.mh_tables_core.specs.Table.{TableData}
use Rattle.mh_tables_core.specs.TooDeep.{too_deep}
use Rattle.mh_engine.specs.Branches.{Branch, HasPosition, position_of}
use Rattle.mh_engine.specs.Feeding.{feeding_of, after_moves, IsFed}
use Rattle.mh_engine.specs.Phases.{phase_of}
use Rattle.mh_engine.specs.Positions.{Position}
use Rattle.mh_engine.specs.Steps.{offered}
use Rattle.mh_engine.specs.code.Settling.{StepsLeadTo}
use Rattle.mh_engine.specs.declared.phase.Phase.TheVariants as phases

-- The token z is offered at the position `asking`, and steps lead to the position c, where the run asks for a token,
-- accepts or refuses z.
pub record IsTokenFed (asking : Position) (z : ℕ) (c : Position) : Type 0 where
  pub steps : ℕ
  pub leads : StepsLeadTo steps (offered asking z) c
  pub not_refused : c.refused ≡ false
  pub settled : (s p : ℕ) → phase_of c ≡ phases.AboutToReduce s p → ⊥
  pub left : (c.left ≡ []) ⊎ ((c.left ≡ z ∷ []) × ((s y : ℕ) → phase_of c ≡ phases.Shifting s y → ⊥))

-- The first i tokens are fed to the branch b and shifted, and c is the position of the branch then.
pub record AreFedSoFar (t : TableData) (b : Branch) (tokens : List ℕ) (i : ℕ) (c : Position) : Type 0 where
  pub moves : ℕ
  pub branch : Branch
  pub reaches : after_moves t moves (feeding_of b tokens) ≡ feeding_of branch (drop i tokens)
  pub has_position : HasPosition branch c
  pub count : length branch.offered ≡ length b.offered + i
  pub fits : (m : ℕ) → m ≤ moves → too_deep (position_of t (after_moves t m (feeding_of b tokens)).branch).pairs.trees ≡ false

-- The invariant of the loop over the tokens, for each branch with the first position.
pub record FeedsSoFar (first : Position) (tokens : List ℕ) (i : ℕ) (c : Position) : Type 0 where
  pub table : c.table ≡ first.table
  pub empty : c.left ≡ []
  pub not_refused : c.refused ≡ false
  pub settled : (s p : ℕ) → phase_of c ≡ phases.AboutToReduce s p → ⊥
  pub within : i ≤ length tokens
  pub fed : (b : Branch) → HasPosition b first → AreFedSoFar first.table b tokens i c

-- For each branch with the first position, feeding the tokens ends with a branch that has the position c.
abbrev pub FeedsTo : Position → List ℕ → Position → ℕ → Type 0
FeedsTo first tokens c shifted = (b : Branch) → HasPosition b first → (next : Branch) × HasPosition next c × IsFed first.table b tokens next shifted
