-- Definitions of words that are closed under the rules for rests. The letters are those of `Rests`:
-- - The key (s, p, d, a, z) is a rest of the production p that begins in the state s after d symbols; a is its first
--   token, and z the next token after it.
-- - `rep s z` is the representative of the token z in the state s, `rests` has the words of rests by keys, and `gotos`
--   the words of goto facts by state, nonterminal, first and next token.
use Rattle.std.specs.Prelude.{◌≡◌, ◌<◌, ℕ, zero, suc, List, [], ◌∷◌, ◌++◌, length, slice_get, Option, Some}
use Rattle.mh_grammar.specs.declared.types.Symbol.TheVariants.{T, N}
use Rattle.mh_grammar.specs.Plain.{rhs_of, lhs_of}
use Rattle.mh_tables_core.specs.Table.{TableData, edge_of}
use Rattle.mh_tables_core.specs.Run.{Shifts, Reduces, run_move_of}
use Rattle.mh_facts.specs.declared.store.FactKey.{FactKey}
use Rattle.mh_facts.specs.Search.{leading_token, DerivesFact}
use Rattle.mh_facts.specs.code.BestFirst.{IsPathEnd, SoundGoto, HasNoLater, key}
use Rattle.mh_facts.specs.code.WordCosts.{WordNoLater}
use Rattle.mh_reach_rests.specs.Rests.{DerivesRest}

abbrev pub RestWords : Type 0
RestWords = FactKey → Option (List ℕ)

abbrev pub GotoWords : Type 0
GotoWords = (from nonterminal first next : ℕ) → Option (List ℕ)

-- The word of the goto fact comes no later than w.
abbrev pub GotoNoLater : (List ℕ → List ℕ → Type 0) → GotoWords → (s n a x : ℕ) → List ℕ → Type 0
GotoNoLater Le gotos s n a x w = (u : List ℕ) × (gotos s n a x ≡ Some u) × Le u w

-- The conclusion of a rule on the word w. H holds of the key if symbols are before the rest. If none are, G holds of
-- each goto fact that the complete path gives.
abbrev pub RestHolds : TableData → (ℕ → ℕ → ℕ) → (FactKey → List ℕ → Type 0) → ((s n a x : ℕ) → List ℕ → Type 0) → (s p d a z : ℕ) → List ℕ → Type 0
RestHolds t rep H G s p zero a z w = (e g y : ℕ) → IsPathEnd t s p (length (rhs_of t.grammar p)) e → run_move_of t e (y ∷ []) ≡ Reduces p → edge_of t s (N (lhs_of t.grammar p)) ≡ Some g → y < t.grammar.tokens → rep e y ≡ z → G s (lhs_of t.grammar p) a (rep g y) w
RestHolds t rep H G s p (suc d) a z w = H (key s p (suc d) a z) w

-- Where the premises of a rule have words, the conclusion holds. The tokens of keys are representatives: `first` in the
-- state in which the rest begins, `next` in the state in which it ends.
pub record RestsClosedBy (t : TableData) (rep : ℕ → ℕ → ℕ) (rests : RestWords) (gotos : GotoWords) (H : FactKey → List ℕ → Type 0) (G : (s n a x : ℕ) → List ℕ → Type 0) : Type 0 where
  pub ends : (s p z : ℕ) → s < length t.states → z < t.grammar.tokens → run_move_of t s (z ∷ []) ≡ Reduces p → RestHolds t rep H G s p (length (rhs_of t.grammar p)) (rep s z) (rep s z) []
  pub shifts : (s p d x b z j : ℕ) (v : List ℕ) → s < length t.states → slice_get (rhs_of t.grammar p) d ≡ Some (T x) → run_move_of t s (x ∷ []) ≡ Shifts j → rests (key j p (suc d) b z) ≡ Some v → RestHolds t rep H G s p d (rep s x) z (x ∷ v)
  pub joins : (s p d n a y z g : ℕ) (u v : List ℕ) → s < length t.states → slice_get (rhs_of t.grammar p) d ≡ Some (N n) → edge_of t s (N n) ≡ Some g → gotos s n a y ≡ Some u → rests (key g p (suc d) y z) ≡ Some v → RestHolds t rep H G s p d a z (u ++ v)

-- Words that are closed under the rules have, for each complete path that is reduced, a word of its goto fact that
-- comes no later.
abbrev pub FindLeastGotos : TableData → Type 0
FindLeastGotos t = (rep : ℕ → ℕ → ℕ) (rests : RestWords) (gotos : GotoWords) → RestsClosedBy t rep rests gotos (HasNoLater (WordNoLater t) rests) (GotoNoLater (WordNoLater t) gotos)
    → (s q a z e g : ℕ) (v : List ℕ) → s < length t.states → z < t.grammar.tokens → DerivesFact t s q (length (rhs_of t.grammar q)) a z v e → run_move_of t e (z ∷ []) ≡ Reduces q → edge_of t s (N (lhs_of t.grammar q)) ≡ Some g
    → GotoNoLater (WordNoLater t) gotos s (lhs_of t.grammar q) (rep s a) (rep g z) v

-- The state e is the end of the path of the production p that continues in the state s after d symbols.
abbrev pub IsRestEnd : TableData → (s p d e : ℕ) → Type 0
IsRestEnd t s p d e = (r : ℕ) × IsPathEnd t r p d s × IsPathEnd t r p (length (rhs_of t.grammar p)) e

-- For each token that z represents at the end of the path, v is a word of the rest, and a represents its first token.
abbrev pub IsSoundRest : TableData → (ℕ → ℕ → ℕ) → (s p d a z : ℕ) → List ℕ → Type 0
IsSoundRest t rep s p d a z v = (e y : ℕ) → IsRestEnd t s p d e → y < t.grammar.tokens → rep e y ≡ z → DerivesRest t s p d (leading_token v y) y v e × (rep s (leading_token v y) ≡ a)

-- The word of a goto fact is sound for the target of the goto.
abbrev pub IsSoundGoto : TableData → (ℕ → ℕ → ℕ) → (s n a x : ℕ) → List ℕ → Type 0
IsSoundGoto t rep s n a x v = (g : ℕ) → edge_of t s (N n) ≡ Some g → SoundGoto t rep s n a x g v
