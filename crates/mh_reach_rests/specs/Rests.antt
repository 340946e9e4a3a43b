-- The rules for rests of paths (after Pottier 2016; from the end of a right side to its beginning, this project's own).
use Rattle.std.specs.Prelude.{◌≡◌, ◌↔◌, ℕ, suc, List, [], ◌∷◌, ◌++◌, length, slice_get, Some}
use Rattle.mh_grammar.specs.declared.types.Symbol.TheVariants.{T, N}
use Rattle.mh_grammar.specs.Plain.{rhs_of, lhs_of}
use Rattle.mh_tables_core.specs.Table.{TableData, edge_of}
use Rattle.mh_tables_core.specs.Run.{Shifts, Reduces, run_move_of}
use Rattle.mh_facts.specs.Search.{DerivesFact}

-- The rest of a path. From the state s, with the word v and then the token z to come, a run follows the symbols of the
-- production p after the first d to the state e and has shifted v. The first token to come is a.
pub data DerivesRest (t : TableData) : (s p d a z : ℕ) (v : List ℕ) (e : ℕ) → Type 0 where
  Ended : {s p d z : ℕ} → d ≡ length (rhs_of t.grammar p) → DerivesRest t s p d z z [] s
  Shifted : {s p d x b z e j : ℕ} {v w : List ℕ} → slice_get (rhs_of t.grammar p) d ≡ Some (T x) → run_move_of t s (x ∷ []) ≡ Shifts j → DerivesRest t j p (suc d) b z v e → w ≡ x ∷ v → DerivesRest t s p d x z w e
  Reduced : {s p d a y z g m e : ℕ} {u v w : List ℕ} (q : ℕ) → slice_get (rhs_of t.grammar p) d ≡ Some (N (lhs_of t.grammar q)) → DerivesRest t s q 0 a y u m → run_move_of t m (y ∷ []) ≡ Reduces q → edge_of t s (N (lhs_of t.grammar q)) ≡ Some g
      → DerivesRest t g p (suc d) y z v e → w ≡ u ++ v → DerivesRest t s p d a z w e

-- The path of a production that is reduced at its end is derived as a rest with no symbol before it exactly if it is
-- derived as a complete path.
abbrev pub AreCompletePaths : TableData → Type 0
AreCompletePaths t = (s q a z g e : ℕ) (v : List ℕ) → run_move_of t e (z ∷ []) ≡ Reduces q → edge_of t s (N (lhs_of t.grammar q)) ≡ Some g → DerivesRest t s q 0 a z v e ↔ DerivesFact t s q (length (rhs_of t.grammar q)) a z v e
