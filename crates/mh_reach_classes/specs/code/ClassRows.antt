-- Definitions on the computation of token classes and on the test that classes are sound.
use Rattle.std.specs.Prelude.{◌≡◌, ℕ, List, [], ◌∷◌, ◌++◌, length, slice_get, Some, ◌<◌, ◌≤◌, ◌⊎◌, Bool, true, false}
use Rattle.std.specs.List.{Contains}
use Rattle.std.specs.Global.{Vec}
use Rattle.mh_tables_core.specs.Table.{TableData}
use Rattle.mh_tables_core.specs.Run.{Reduces, run_move_of}
use Rattle.mh_facts.specs.declared.classes.TokenClass.{TokenClass}
use Rattle.mh_facts.specs.declared.classes.TokenClasses.{TokenClasses}
use Rattle.mh_reach_classes.specs.declared.leading_reductions.Reduction.{Reduction}
use Rattle.mh_facts.specs.code.TokenClasses.{IsSized, rep_of, representatives_at}

-- A class for the token z: its number is below the count, and its representative is z or represents itself in the row.
pub record IsClassOf (given : List ℕ) (row : List TokenClass) (z count : ℕ) (k : TokenClass) : Type 0 where
  pub known : k.representative ≤ z
  pub placed : k.place < count
  pub itself : (k.representative ≡ z) ⊎ ((o : TokenClass) × (slice_get row k.representative ≡ Some o) × (o.representative ≡ k.representative))
  pub nothing : given ≡ [] → k.representative ≡ z

-- The class is in the row, at the index of its representative.
abbrev pub IsAtRepresentative : List TokenClass → TokenClass → Type 0
IsAtRepresentative row k = (k.representative < length row) × (slice_get row k.representative ≡ Some k)

abbrev pub IsClassFor : List TokenClass → List ℕ → ℕ → ℕ → ℕ → TokenClass → Type 0
IsClassFor row given z old new k = (old ≤ new) × (((n : ℕ) (o : TokenClass) → slice_get row n ≡ Some o → o.place < old) → IsClassOf given row z new k)

-- The row has the classes of the tokens below n, and the list has their representatives.
pub record IsClassRow (n : ℕ) (given : List ℕ) (row : List TokenClass) (list : List ℕ) (count : ℕ) : Type 0 where
  pub len : length row ≡ n
  pub each : (z : ℕ) (k : TokenClass) → slice_get row z ≡ Some k → (k.representative < n) × (k.place < count) × ((o : TokenClass) × (slice_get row k.representative ≡ Some o) × (o.representative ≡ k.representative))
  pub nothing : given ≡ [] → (z : ℕ) (k : TokenClass) → slice_get row z ≡ Some k → k.representative ≡ z
  pub list_all : (z : ℕ) (k : TokenClass) → slice_get row z ≡ Some k → Contains list k.representative
  pub list_only : (x : ℕ) → Contains list x → (k : TokenClass) × (slice_get row x ≡ Some k) × (k.representative ≡ x)

-- The classes of one more state are appended.
pub record AddsRow (tokens : ℕ) (given : List ℕ) (old new : TokenClasses) : Type 0 where
  pub row : Vec TokenClass
  pub list : Vec ℕ
  pub is : IsClassRow tokens given row.items list.items new.places
  pub grows : old.places ≤ new.places
  pub rows : new.rows.items ≡ old.rows.items ++ row ∷ []
  pub lists : new.lists.items ≡ old.lists.items ++ list ∷ []

-- The tokens of each state are partitioned: each has a representative, which represents itself and is listed.
pub record IsPartition (t : TableData) (c : TokenClasses) : Type 0 where
  pub sized : IsSized t c
  pub in_range : (s z : ℕ) → z < t.grammar.tokens → rep_of c s z < t.grammar.tokens
  pub list_all : (s z : ℕ) → s < length t.states → z < t.grammar.tokens → Contains (representatives_at c s) (rep_of c s z)
  pub list_only : (s x : ℕ) → Contains (representatives_at c s) x → (x < t.grammar.tokens) × (rep_of c s x ≡ x)

-- Each token represents itself.
abbrev pub RepresentThemselves : TableData → TokenClasses → Type 0
RepresentThemselves t c = (s z : ℕ) → z < t.grammar.tokens → rep_of c s z ≡ z

-- The reduction treats a token like its representative in the target state: both are reduced on and have one
-- representative in the reducing state, or neither is.
pub record TreatsAlike (t : TableData) (c : TokenClasses) (r : Reduction) (z : ℕ) : Type 0 where
  pub to_representative : run_move_of t r.end (z ∷ []) ≡ Reduces r.production → (run_move_of t r.end (rep_of c r.target z ∷ []) ≡ Reduces r.production) × (rep_of c r.end z ≡ rep_of c r.end (rep_of c r.target z))
  pub from_representative : run_move_of t r.end (rep_of c r.target z ∷ []) ≡ Reduces r.production → run_move_of t r.end (z ∷ []) ≡ Reduces r.production

abbrev pub TreatsAllAlike : TableData → TokenClasses → Reduction → ℕ → Type 0
TreatsAllAlike t c r n = (z : ℕ) → z < n → TreatsAlike t c r z

abbrev pub are_treated_alike : Bool → Bool → Bool → Bool
are_treated_alike true true same = same
are_treated_alike true false same = false
are_treated_alike false true same = false
are_treated_alike false false same = true
