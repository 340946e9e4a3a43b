-- The rules of the search for least failing sentences, as derivations (after Pottier 2016).
use Rattle.std.specs.Prelude.{◌≡◌, ℕ, suc, List, [], ◌∷◌, ◌++◌, length, slice_get, Some, ◌<◌, ◌≤◌}
use Rattle.mh_grammar.specs.declared.types.Symbol.TheVariants.{T, N}
use Rattle.mh_tables_core.specs.Table.{TableData, edge_of}
use Rattle.mh_grammar.specs.Plain.{rhs_of, lhs_of}
use Rattle.mh_tables_core.specs.Facts.{HasGoto}
use Rattle.mh_tables_core.specs.Run.{Refuses, Shifts, Reduces, run_move_of}

-- The first token of the word v followed by z.
abbrev pub leading_token : List ℕ → ℕ → ℕ
leading_token [] z = z
leading_token (x ∷ v) z = x

-- A fact (Pottier 2016). From the state r, with the word v and then the token z to come, a run follows the path along
-- the first d symbols of the production p to the state s and has shifted v. The first token to come is a.
pub data DerivesFact (t : TableData) : (r p d a z : ℕ) (v : List ℕ) (s : ℕ) → Type 0 where
  Empty : {r p a : ℕ} → length t.grammar.starts ≤ p → HasGoto t r p → DerivesFact t r p 0 a a [] r
  Shifted : {r p d a z x s j : ℕ} {v w : List ℕ} → DerivesFact t r p d a x v s → slice_get (rhs_of t.grammar p) d ≡ Some (T x)
      → run_move_of t s (x ∷ []) ≡ Shifts j → w ≡ v ++ x ∷ [] → DerivesFact t r p (suc d) a z w j
  Reduced : {r p d a z y s g e : ℕ} {u v w : List ℕ} (q : ℕ) → DerivesFact t r p d a y u s → slice_get (rhs_of t.grammar p) d ≡ Some (N (lhs_of t.grammar q))
      → DerivesFact t s q (length (rhs_of t.grammar q)) y z v e → run_move_of t e (z ∷ []) ≡ Reduces q → edge_of t s (N (lhs_of t.grammar q)) ≡ Some g
      → w ≡ u ++ v → DerivesFact t r p (suc d) a z w g

-- From the start i, with v and then z to come, a run shifts v and has the state s on top of its stack.
pub data ReachesState (t : TableData) (i : ℕ) : (s z : ℕ) (v : List ℕ) → Type 0 where
  Begins : {z : ℕ} → ReachesState t i i z []
  Steps : {s z y j : ℕ} {v w : List ℕ} → ReachesState t i s y v → run_move_of t s (y ∷ []) ≡ Shifts j → w ≡ v ++ y ∷ [] → ReachesState t i j z w
  Goes : {s z y g e : ℕ} {u v w : List ℕ} (q : ℕ) → ReachesState t i s y u → DerivesFact t s q (length (rhs_of t.grammar q)) y z v e
      → run_move_of t e (z ∷ []) ≡ Reduces q → edge_of t s (N (lhs_of t.grammar q)) ≡ Some g → w ≡ u ++ v → ReachesState t i g z w

-- From the start i the sentence w is refused in the state s at its last token.
pub record IsRefusedSentence (t : TableData) (i : ℕ) (w : List ℕ) (s : ℕ) : Type 0 where
  pub start : i < length t.grammar.starts
  pub last : ℕ
  pub known : last < t.grammar.tokens
  pub before : List ℕ
  pub word : w ≡ before ++ last ∷ []
  pub reaches : ReachesState t i s last before
  pub refuses : run_move_of t s (last ∷ []) ≡ Refuses
