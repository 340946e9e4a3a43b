-- Definitions of how far the checkpoints have come in the run of a sentence.
use Rattle.std.specs.Prelude.{◌≡◌, ◌+◌, ◌<◌, ◌≤◌, ℕ, List, [], ◌∷◌, length, take, get_or, false}
use Rattle.mh_tables_core.specs.Table.{TableData}
use Rattle.mh_grammar.specs.Trees.{SyntaxTree}
use Rattle.mh_engine.specs.Positions.{Position}
use Rattle.mh_engine.specs.Phases.{phase_of}
use Rattle.mh_engine.specs.Steps.{initial_position}
use Rattle.mh_engine.specs.code.Settling.{StepsLeadTo, SettlesTooDeep}
use Rattle.mh_engine.specs.declared.phase.Phase.{Phase}
use Rattle.mh_engine.specs.declared.phase.Phase.TheVariants as phases
use Rattle.mh_engine.specs.declared.sentence.TokenOutcome.{TokenOutcome}
use Rattle.mh_engine.specs.declared.sentence.TokenOutcome.TheVariants as tokens
use Rattle.mh_engine.specs.declared.sentence.TreeOutcome.{TreeOutcome}
use Rattle.mh_engine.specs.declared.sentence.TreeOutcome.TheVariants as outcomes

-- After some steps, none of them too deep, the run on w is in this phase and has shifted `read` tokens.
pub record ReachesPhase (t : TableData) (start : ℕ) (w : List ℕ) (phase : Phase) (read : ℕ) : Type 0 where
  pub steps : ℕ
  pub position : Position
  pub leads : StepsLeadTo steps (initial_position t start w) position
  pub phase_is : phase_of position ≡ phase
  pub count : read + length position.left ≡ length w

-- The run on w accepts after `read` tokens with this one tree.
pub record AcceptsWithTree (t : TableData) (start : ℕ) (w : List ℕ) (read : ℕ) (tree : SyntaxTree) : Type 0 where
  pub reaches : ReachesPhase t start w phases.Accepted read
  pub one_tree : reaches.position.pairs.trees ≡ tree ∷ []

abbrev pub IsReachedOutcome : TableData → ℕ → List ℕ → TreeOutcome → Type 0
IsReachedOutcome t start w (outcomes.Accept read tree) = AcceptsWithTree t start w read tree
IsReachedOutcome t start w (outcomes.Overshoot state) = ReachesPhase t start w (phases.InputNeeded state) (length w)
IsReachedOutcome t start w (outcomes.Reject at state) = ReachesPhase t start w (phases.HandlingError state) at
IsReachedOutcome t start w outcomes.TooDeep = SettlesTooDeep (initial_position t start w)

-- The run has shifted the first i tokens of w, and no token is offered.
pub record IsBeforeToken (t : TableData) (start : ℕ) (w : List ℕ) (i : ℕ) (c : Position) : Type 0 where
  pub steps : ℕ
  pub leads : StepsLeadTo steps (initial_position t start (take i w)) c
  pub empty : c.left ≡ []
  pub not_refused : c.refused ≡ false
  pub within : i ≤ length w

-- The run has shifted the first i tokens of w, and the token at index i is z.
pub record IsBeforeGivenToken (t : TableData) (start : ℕ) (w : List ℕ) (i z : ℕ) (c : Position) : Type 0 where
  pub reads : IsBeforeToken t start w i c
  pub index_known : i < length w
  pub token_is : z ≡ get_or w i 0

-- The outcome of the token at index i: the run has shifted the token, or the run on w has ended.
abbrev pub IsTokenOutcome : TableData → ℕ → List ℕ → ℕ → TokenOutcome → Type 0
IsTokenOutcome t start w i (tokens.Shifted c) = IsBeforeToken t start w (i + 1) c
IsTokenOutcome t start w i (tokens.Ended outcome) = IsReachedOutcome t start w outcome

-- The outcome is an acceptance after `read` tokens whose tree is the only one of these trees.
abbrev pub IsAcceptOutcome : List SyntaxTree → ℕ → TreeOutcome → Type 0
IsAcceptOutcome trees read (outcomes.Accept n tree) = (n ≡ read) × (trees ≡ tree ∷ [])
IsAcceptOutcome trees read (outcomes.Overshoot state) = ⊥
IsAcceptOutcome trees read (outcomes.Reject at state) = ⊥
IsAcceptOutcome trees read outcomes.TooDeep = ⊥
