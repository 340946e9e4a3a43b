-- Proves that rests and beginnings of paths derive the same complete paths.
use Rattle.std.proofs.Common.{◌≡◌, ℕ, suc, List, [], ◌∷◌, ◌++◌, length, Some, refl, sym, append_assoc, append-nil}
use Rattle.mh_grammar.specs.declared.types.Symbol.TheVariants.{N}
use Rattle.mh_grammar.specs.Plain.{rhs_of, lhs_of}
use Rattle.mh_tables_core.specs.Table.{TableData, edge_of}
use Rattle.mh_tables_core.specs.Facts.{Facts}
use Rattle.mh_tables_core.specs.Run.{Reduces, run_move_of}
use Rattle.mh_tables_core.proofs.Reductions.{reduces_from_move}
use Rattle.mh_facts.specs.Search.{DerivesFact}
use Rattle.mh_facts.specs.Search as paths
use Rattle.mh_reach_rests.specs.Rests.{DerivesRest, AreCompletePaths}
use Rattle.mh_reach_rests.specs.Rests as rests

-- A beginning of a path and the rest of the path are a rest with no symbol before it.
pub rest_after : (t : TableData) (r p d a y : ℕ) (u : List ℕ) (s : ℕ) → DerivesFact t r p d a y u s → (z : ℕ) (v : List ℕ) (e : ℕ) → DerivesRest t s p d y z v e → DerivesRest t r p 0 a z (u ++ v) e
rest_after t r p d a y u s (paths.DerivesFact.Empty o g) z v e rest = rest
rest_after t r p d a y w j (paths.DerivesFact.Shifted {d = d0} {x = x} {s = s} {v = u} h symbol move word) z v e rest =
    let whole = rest_after t r p d0 a x u s h z (x ∷ v) e (rests.DerivesRest.Shifted symbol move rest refl) in
    let is : w ++ v ≡ u ++ x ∷ v = rw word (append_assoc u (x ∷ []) v) in
    rw is whole
rest_after t r p d a y w g (paths.DerivesFact.Reduced {d = d0} {y = b} {s = s} {e = m} {u = u} {v = inner_word} q h symbol inner move edge word) z v e rest =
    let path : DerivesRest t s q 0 b y inner_word m = rw (append-nil inner_word) at (rest_after t s q (length (rhs_of t.grammar q)) b y inner_word m inner y [] m (rests.DerivesRest.Ended refl)) in
    let whole = rest_after t r p d0 a b u s h z (inner_word ++ v) e (rests.DerivesRest.Reduced q symbol path move edge rest refl) in
    let is : w ++ v ≡ u ++ (inner_word ++ v) = rw word (append_assoc u inner_word v) in
    rw is whole

-- A beginning of a path and the rest of the path are a complete path.
pub path_before : (t : TableData) (f : Facts t) (s p d y z : ℕ) (v : List ℕ) (e : ℕ) → DerivesRest t s p d y z v e → (r a : ℕ) (u : List ℕ) → DerivesFact t r p d a y u s → DerivesFact t r p (length (rhs_of t.grammar p)) a z (u ++ v) e
path_before t f s p d y z v e (rests.DerivesRest.Ended is) r a u h = rw (append-nil u, ← is) h
path_before t f s p d y z w e (rests.DerivesRest.Shifted {b = b} {j = j} {v = v} symbol move rest word) r a u h =
    let more : DerivesFact t r p (suc d) a b (u ++ y ∷ []) j = paths.DerivesFact.Shifted h symbol move refl in
    let is : u ++ w ≡ (u ++ y ∷ []) ++ v = rw word (sym (append_assoc u (y ∷ []) v)) in
    rw is (path_before t f j p (suc d) b z v e rest r a (u ++ y ∷ []) more)
path_before t f s p d y z w e (rests.DerivesRest.Reduced {y = b} {g = g} {m = m} {u = inner_word} {v = v} q symbol inner move edge rest word) r a u h =
    let begins : DerivesFact t s q 0 y y [] s = paths.DerivesFact.Empty (f.ordinary m q (reduces_from_move t m (b ∷ []) q move)).0 (g, edge) in
    let path : DerivesFact t s q (length (rhs_of t.grammar q)) y b inner_word m = path_before t f s q 0 y b inner_word m inner s y [] begins in
    let more : DerivesFact t r p (suc d) a b (u ++ inner_word) g = paths.DerivesFact.Reduced q h symbol path move edge refl in
    let is : u ++ w ≡ (u ++ inner_word) ++ v = rw word (sym (append_assoc u inner_word v)) in
    rw is (path_before t f g p (suc d) b z v e rest r a (u ++ inner_word) more)

pub complete_path_of_rest : (t : TableData) (f : Facts t) (s q a z g e : ℕ) (v : List ℕ) → run_move_of t e (z ∷ []) ≡ Reduces q → edge_of t s (N (lhs_of t.grammar q)) ≡ Some g → DerivesRest t s q 0 a z v e → DerivesFact t s q (length (rhs_of t.grammar q)) a z v e
complete_path_of_rest t f s q a z g e v move edge rest = path_before t f s q 0 a z v e rest s a [] (paths.DerivesFact.Empty (f.ordinary e q (reduces_from_move t e (z ∷ []) q move)).0 (g, edge))

pub rest_of_complete_path : (t : TableData) (s q a z e : ℕ) (v : List ℕ) → DerivesFact t s q (length (rhs_of t.grammar q)) a z v e → DerivesRest t s q 0 a z v e
rest_of_complete_path t s q a z e v path = rw (append-nil v) at (rest_after t s q (length (rhs_of t.grammar q)) a z v e path z [] e (rests.DerivesRest.Ended refl))

pub are_complete_paths : (t : TableData) (f : Facts t) → AreCompletePaths t
are_complete_paths t f s q a z g e v move edge = (complete_path_of_rest t f s q a z g e v move edge, rest_of_complete_path t s q a z e v)
