-- LR(1) items as triples of a production, a dot and a lookahead; their closure and their goto sets (Knuth 1965).
use Rattle.std.specs.Prelude.{◌≡◌, ◌↔◌, ℕ, suc, List, [], ◌∷◌, drop}
use Rattle.mh_grammar.specs.declared.types.Symbol.{Symbol}
use Rattle.mh_grammar.specs.declared.types.Symbol.TheVariants.{N}
use Rattle.mh_grammar.specs.declared.types.Look.{Look}
use Rattle.mh_grammar.specs.declared.types.Look.TheVariants.{Token, End}
use Rattle.mh_grammar.specs.Plain.{PlainGrammar, rhs_of, IsProductionFor, DerivesAll}
use Rattle.mh_grammar.specs.First.{FirstOf}

-- A set of triples: a production, the position of the dot in its right side, and a lookahead.
abbrev pub ItemSet : Type 1
ItemSet = ℕ → ℕ → Look → Type 0

-- Two sets have the same items.
abbrev pub AreSameItems : ItemSet → ItemSet → Type 0
AreSameItems I J = (p d : ℕ) (a : Look) → I p d a ↔ J p d a

-- The lookaheads with which a word of the symbols y, followed by the lookahead a, may begin (Knuth 1965).
pub data MayBegin (g : PlainGrammar) (y : List Symbol) (a : Look) : Look → Type 0 where
  begins : {z : ℕ} → FirstOf g y z → MayBegin g y a (Token z)
  passes : DerivesAll g y [] → MayBegin g y a a

-- The closure: the least set that has the items of I and, for each item (A → x . B y, a), every item (B → . z, b) where
-- y followed by a may begin with b (Knuth 1965).
pub data Close (g : PlainGrammar) (I : ItemSet) : ℕ → ℕ → Look → Type 0 where
  given : {p d : ℕ} {a : Look} → I p d a → Close g I p d a
  added : {p d n q : ℕ} {y : List Symbol} {a b : Look} → Close g I p d a → drop d (rhs_of g p) ≡ N n ∷ y → IsProductionFor g n q → MayBegin g y a b → Close g I q 0 b

-- The kernel of the goto set on X: the items of I whose dot is before X, with the dot moved past it (Knuth 1965).
pub data Moved (g : PlainGrammar) (I : ItemSet) (X : Symbol) : ℕ → ℕ → Look → Type 0 where
  moved : {p d : ℕ} {y : List Symbol} {a : Look} → I p d a → drop d (rhs_of g p) ≡ X ∷ y → Moved g I X p (suc d) a

-- The start kernel of a start: its production with the dot before the start symbol, and the end of the stream as
-- lookahead.
pub data StartItems (start : ℕ) : ℕ → ℕ → Look → Type 0 where
  begin : StartItems start start 0 End

-- The item set that a path of symbols leads to from the start kernel of a start. The last symbol of the path comes
-- first in the list.
abbrev pub PathItems : PlainGrammar → ℕ → List Symbol → ItemSet
PathItems g start [] = StartItems start
PathItems g start (X ∷ path) = Moved g (Close g (PathItems g start path)) X
