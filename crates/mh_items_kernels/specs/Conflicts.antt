-- The raw actions of item sets and their conflicts (Knuth 1965), and end-of-stream conflicts (Menhir manual). They are
-- defined over sets of items, so that they need no table.
use Rattle.std.specs.Prelude.{◌≡◌, ◌<◌, ◌⊎◌, ℕ, List, ◌∷◌, length, drop}
use Rattle.mh_grammar.specs.declared.types.Symbol.{Symbol}
use Rattle.mh_grammar.specs.declared.types.Symbol.TheVariants.{T}
use Rattle.mh_grammar.specs.declared.types.Look.{Look}
use Rattle.mh_grammar.specs.declared.types.Look.TheVariants.{Token, End}
use Rattle.mh_grammar.specs.Plain.{PlainGrammar, rhs_of}
use Rattle.mh_grammar.specs.ItemSets.{ItemSet, Close, PathItems}
use Rattle.mh_items_kernels.specs.KernelTypes.{Automaton}
use Rattle.mh_items_kernels.specs.Automaton.{kernel_of}
use Rattle.mh_items_kernels.specs.Collection.{After}

-- The closure of the set has an item with the token z at its dot, so that the set shifts z.
pub record ShiftsOn (g : PlainGrammar) (I : ItemSet) (z : ℕ) : Type 0 where
  pub production : ℕ
  pub dot : ℕ
  pub look : Look
  pub rest : List Symbol
  pub item : Close g I production dot look
  pub token_next : drop dot (rhs_of g production) ≡ T z ∷ rest

-- The closure of the set has the complete item of production p with this look, so that the set reduces p (Knuth 1965).
abbrev pub ReducesOn : PlainGrammar → ItemSet → ℕ → Look → Type 0
ReducesOn g I p look = Close g I p (length (rhs_of g p)) look

-- An item set has two raw actions on one look (Knuth 1965).
pub data HasConflict (g : PlainGrammar) (I : ItemSet) : Type 0 where
  shift_reduce : {z p : ℕ} → ShiftsOn g I z → ReducesOn g I p (Token z) → HasConflict g I
  reduce_reduce : {p q : ℕ} {look : Look} → (p ≡ q → ⊥) → ReducesOn g I p look → ReducesOn g I q look → HasConflict g I

-- An item set has an action at the end of the stream, and another action on a token (Menhir manual).
pub data HasStreamConflict (g : PlainGrammar) (I : ItemSet) : Type 0 where
  shift : {z p : ℕ} → ReducesOn g I p End → ShiftsOn g I z → HasStreamConflict g I
  reduce : {z p q : ℕ} → (p ≡ q → ⊥) → ReducesOn g I p End → ReducesOn g I q (Token z) → HasStreamConflict g I

-- An item set has a conflict or an end-of-stream conflict.
abbrev pub HasAnyConflict : PlainGrammar → ItemSet → Type 0
HasAnyConflict g I = HasConflict g I ⊎ HasStreamConflict g I

-- Some path of symbols leads from the set I to a set with the property Bad (here: with a conflict, or with either kind
-- of conflict).
abbrev pub LeadsToBad : PlainGrammar → (ItemSet → Type 0) → ItemSet → Type 0
LeadsToBad g Bad I = (path : List Symbol) × Bad (After g I path)

-- No item set that is reached from a start has a conflict (Knuth 1965).
abbrev pub IsLR1 : PlainGrammar → Type 0
IsLR1 g = (i : ℕ) (path : List Symbol) → i < length g.starts → HasConflict g (PathItems g i path) → ⊥

-- Some state of the automaton has a conflict. `AutomatonHasAnyConflict` admits end-of-stream conflicts too.
abbrev pub AutomatonHasConflict : PlainGrammar → Automaton → Type 0
AutomatonHasConflict g a = (s : ℕ) × (s < length a.kernels) × HasConflict g (kernel_of a s)

-- Some state of the automaton has a conflict or an end-of-stream conflict.
abbrev pub AutomatonHasAnyConflict : PlainGrammar → Automaton → Type 0
AutomatonHasAnyConflict g a = (s : ℕ) × (s < length a.kernels) × HasAnyConflict g (kernel_of a s)
