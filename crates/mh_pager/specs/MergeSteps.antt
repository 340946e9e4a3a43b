-- The steps that build the merged automaton (Pager 1977; the order in which states are tried is this project's own),
-- and the automaton that they leave.
use Rattle.std.specs.Prelude.{◌≡◌, ◌⊎◌, ◌↔◌, ◌<◌, ℕ, List, [], ◌∷◌, ◌++◌, Some, length, map, set, replicate, slice_get}
use Rattle.std.specs.List.{AllZip, Contains, range_with_len}
use Rattle.mh_grammar.specs.declared.types.Symbol.{Symbol}
use Rattle.mh_grammar.specs.declared.edges.Edge.{Edge}
use Rattle.mh_grammar.specs.Plain.{PlainGrammar}
use Rattle.mh_grammar.specs.Edges.{IsRising, IsSymbolBefore}
use Rattle.mh_grammar.specs.ItemSets.{AreSameItems, Close, Moved}
use Rattle.mh_grammar.specs.Numbering.{IsNumbering}
use Rattle.mh_items_kernels.specs.KernelTypes.{Kernel, Automaton}
use Rattle.mh_items_kernels.specs.Kernels.{Holds, IsItemList}
use Rattle.mh_items_kernels.specs.Collection.{AreStarts, HasItem, edge_symbols, targets_of}
use Rattle.mh_pager.specs.WeakCompatibility.{HaveSameCore, Covers, AreCompatible, IsJoin}
use Rattle.mh_pager.specs.FirstState.{IsFirst, HasNoneWith}

-- A moment of the construction: the kernels of the states, the edges that each state got last, and the queue of the
-- states that need edges, the oldest first.
pub record MergeState : Type 0 where
  pub kernels : List Kernel
  pub rows : List (List Edge)
  pub queue : List ℕ

-- The state has the core of the move and contains its looks.
abbrev pub ContainsMove : Kernel → Kernel → Type 0
ContainsMove move k = HaveSameCore (Holds k) (Holds move) × Covers (Holds k) (Holds move)

-- The state has the core of the move and is weakly compatible with it (Pager 1977).
abbrev pub IsCompatibleWithMove : Kernel → Kernel → Type 0
IsCompatibleWithMove move k = HaveSameCore (Holds k) (Holds move) × AreCompatible (Holds k) (Holds move)

-- The state n is appended to the queue unless it is in the queue already.
abbrev pub Enqueues : List ℕ → ℕ → List ℕ → Type 0
Enqueues old n new = (Contains old n × (new ≡ old)) ⊎ ((Contains old n → ⊥) × (new ≡ old ++ n ∷ []))

-- Case 1: some state contains the move. The first such state is the target, and nothing changes.
pub record ReusesState (move : Kernel) (old new : MergeState) (n : ℕ) : Type 0 where
  pub kernel : Kernel
  pub first : IsFirst (ContainsMove move) old.kernels n kernel
  pub same : new ≡ old

-- Case 2: no state contains the move, but some state is weakly compatible with it. The first such state is the target;
-- it gets the looks of the move, and is queued.
pub record JoinsState (g : PlainGrammar) (move : Kernel) (old new : MergeState) (n : ℕ) : Type 0 where
  pub kernel : Kernel
  pub joined : Kernel
  pub none_contains : HasNoneWith (ContainsMove move) old.kernels
  pub first : IsFirst (IsCompatibleWithMove move) old.kernels n kernel
  pub valid : IsItemList g joined
  pub join : IsJoin (Holds kernel) (Holds move) (Holds joined)
  pub kernels : new.kernels ≡ set old.kernels n joined
  pub rows : new.rows ≡ old.rows
  pub queue : Enqueues old.queue n new.queue

-- Case 3: no state contains the move or is weakly compatible with it. The move is appended as a new state, and is
-- queued.
pub record AppendsState (move : Kernel) (old new : MergeState) (n : ℕ) : Type 0 where
  pub none_contains : HasNoneWith (ContainsMove move) old.kernels
  pub none_compatible : HasNoneWith (IsCompatibleWithMove move) old.kernels
  pub last : n ≡ length old.kernels
  pub kernels : new.kernels ≡ old.kernels ++ move ∷ []
  pub rows : new.rows ≡ old.rows ++ [] ∷ []
  pub queue : new.queue ≡ old.queue ++ n ∷ []

-- The move gets its target by the case that applies.
abbrev pub PlacesMove : PlainGrammar → Kernel → MergeState → MergeState → ℕ → Type 0
PlacesMove g move old new n = ReusesState move old new n ⊎ (JoinsState g move old new n ⊎ AppendsState move old new n)

-- The kernel is the move of the closure of k on X, and is not empty.
pub record IsMoveOf (g : PlainGrammar) (k : Kernel) (X : Symbol) (move : Kernel) : Type 0 where
  pub valid : IsItemList g move
  pub has_item : HasItem (Holds move)
  pub same : AreSameItems (Holds move) (Moved g (Close g (Holds k)) X)

-- The moves on the symbols get their targets one after another.
abbrev pub PlacesMoves : PlainGrammar → Kernel → List Symbol → List ℕ → MergeState → MergeState → Type 0
PlacesMoves g k [] [] old new = new ≡ old
PlacesMoves g k [] (n ∷ targets) old new = ⊥
PlacesMoves g k (X ∷ symbols) [] old new = ⊥
PlacesMoves g k (X ∷ symbols) (n ∷ targets) old new = (move : Kernel) × (mid : MergeState) × IsMoveOf g k X move × PlacesMove g move old mid n × PlacesMoves g k symbols targets mid new

-- The list holds the symbols on which the closure of k has a move, in order.
pub record AreMoveSymbols (g : PlainGrammar) (k : Kernel) (symbols : List Symbol) : Type 0 where
  pub rising : IsRising IsSymbolBefore symbols
  pub exact : (X : Symbol) → Contains symbols X ↔ HasItem (Moved g (Close g (Holds k)) X)

-- One step: the oldest state of the queue gets its edges.
pub record IsMergeStep (g : PlainGrammar) (old new : MergeState) : Type 0 where
  pub state : ℕ
  pub waiting : List ℕ
  pub oldest : old.queue ≡ state ∷ waiting
  pub kernel : Kernel
  pub at : slice_get old.kernels state ≡ Some kernel
  pub row : List Edge
  pub moving : AreMoveSymbols g kernel (edge_symbols row)
  pub placed : MergeState
  pub moves_placed : PlacesMoves g kernel (edge_symbols row) (targets_of row) (record { kernels = old.kernels; rows = old.rows; queue = waiting }) placed
  pub after : new ≡ record { kernels = placed.kernels; rows = set placed.rows state row; queue = placed.queue }

-- A state of the merge that the first one reaches by any number of steps.
pub data MergeSteps (g : PlainGrammar) (first : MergeState) : MergeState → Type 0 where
  none : MergeSteps g first first
  more : {old new : MergeState} → MergeSteps g first old → IsMergeStep g old new → MergeSteps g first new

-- The numbers of the start states.
abbrev pub start_numbers : PlainGrammar → List ℕ
start_numbers g = range_with_len 0 (length g.starts)

-- The first moment: the start kernels, all of them queued.
pub record IsInitial (g : PlainGrammar) (w : MergeState) : Type 0 where
  pub kernels : AreStarts (length g.starts) w.kernels
  pub rows : w.rows ≡ replicate (length g.starts) []
  pub queue : w.queue ≡ start_numbers g

-- The edges of state n lead to the targets, in order.
pub record HasTargets (rows : List (List Edge)) (n : ℕ) (targets : List ℕ) : Type 0 where
  pub row : List Edge
  pub at : slice_get rows n ≡ Some row
  pub targets_are : targets_of row ≡ targets

-- The edges have the same symbols as the row of state n.
pub record HasSymbolsOfRow (rows : List (List Edge)) (n : ℕ) (edges : List Edge) : Type 0 where
  pub row : List Edge
  pub at : slice_get rows n ≡ Some row
  pub same : edge_symbols edges ≡ edge_symbols row

-- The automaton that the steps leave when the queue is empty: the states that the starts reach, numbered breadth-first.
pub record IsMerged (g : PlainGrammar) (a : Automaton) : Type 0 where
  pub first : MergeState
  pub last : MergeState
  pub is_initial : IsInitial g first
  pub steps : MergeSteps g first last
  pub done : last.queue ≡ []
  pub states : List ℕ
  pub numbering : IsNumbering (HasTargets last.rows) (start_numbers g) states (map targets_of a.edges)
  pub kernels : AllZip (λ n k. slice_get last.kernels n ≡ Some k) states a.kernels
  pub symbols : AllZip (HasSymbolsOfRow last.rows) states a.edges

-- During the next step, or at its end, the list holds more states than the limit.
pub record StepExceeds (g : PlainGrammar) (limit : ℕ) (old : MergeState) : Type 0 where
  pub state : ℕ
  pub waiting : List ℕ
  pub oldest : old.queue ≡ state ∷ waiting
  pub kernel : Kernel
  pub at : slice_get old.kernels state ≡ Some kernel
  pub symbols : List Symbol
  pub rest : List Symbol
  pub moving : AreMoveSymbols g kernel (symbols ++ rest)
  pub targets : List ℕ
  pub placed : MergeState
  pub moves_placed : PlacesMoves g kernel symbols targets (record { kernels = old.kernels; rows = old.rows; queue = waiting }) placed
  pub exceeds : limit < length placed.kernels

-- At some time during the construction the list holds more states than the limit.
pub record MergingExceeds (g : PlainGrammar) (limit : ℕ) : Type 0 where
  pub first : MergeState
  pub last : MergeState
  pub is_initial : IsInitial g first
  pub steps : MergeSteps g first last
  pub step_exceeds : StepExceeds g limit last
