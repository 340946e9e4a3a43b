-- Proves that each rule for rests derives sound words from sound words.
use Rattle.std.proofs.Common.{◌≡◌, ℕ, suc, ◌<◌, List, [], ◌∷◌, ◌++◌, length, Some, refl, sym, ◌∙◌}
use Rattle.std.specs.List.{slice_get}
use Rattle.mh_grammar.specs.declared.types.Symbol.{Symbol}
use Rattle.mh_grammar.specs.declared.types.Symbol.TheVariants.{T, N}
use Rattle.mh_grammar.specs.Plain.{rhs_of, lhs_of}
use Rattle.mh_tables_core.specs.Table.{TableData, edge_of}
use Rattle.mh_tables_core.specs.Facts.{Facts}
use Rattle.mh_tables_core.specs.Run.{Shifts, Reduces, run_move_of}
use Rattle.mh_tables_core.proofs.Reductions.{shifts_from_move}
use Rattle.mh_facts.specs.Search.{leading_token}
use Rattle.mh_facts.specs.code.BestFirst.{IsPathEnd, Congruent}
use Rattle.mh_facts.proofs.StackBuilt.{leading_token-append}
use Rattle.mh_facts.proofs.IsPathEnd.{leading_token_in_range, path_end_unique}
use Rattle.mh_reach_rests.specs.Rests.{DerivesRest}
use Rattle.mh_reach_rests.specs.Rests as rules
use Rattle.mh_reach_rests.specs.code.ClosedRests.{IsRestEnd, IsSoundRest, IsSoundGoto}
use Rattle.mh_reach_rests.proofs.CompletePaths.{complete_path_of_rest, rest_of_complete_path}
use Rattle.mh_reach_rests.proofs.ClosedRests.{rest_known}

module _ (t : TableData) (f : Facts t) (rep : ℕ → ℕ → ℕ) where
  -- The end of a path stays the end after one more symbol.
  end_further : (s p d g e : ℕ) (x : Symbol) → slice_get (rhs_of t.grammar p) d ≡ Some x → edge_of t s x ≡ Some g → IsRestEnd t s p d e → IsRestEnd t g p (suc d) e
  end_further s p d g e x symbol edge (r, end, last) = (r, (s, x, end, symbol, edge), last)

  pub sound_end : (s p z : ℕ) → IsSoundRest t rep s p (length (rhs_of t.grammar p)) (rep s z) (rep s z) []
  sound_end s p z e y (r, end, last) lt same =
      let one : e ≡ s = path_end_unique t r p (length (rhs_of t.grammar p)) e s last end in
      (rw one (rules.DerivesRest.Ended refl), rw one at same)

  pub sound_shift : (s p d x b z j : ℕ) (v : List ℕ) → slice_get (rhs_of t.grammar p) d ≡ Some (T x) → run_move_of t s (x ∷ []) ≡ Shifts j → IsSoundRest t rep j p (suc d) b z v → IsSoundRest t rep s p d (rep s x) z (x ∷ v)
  sound_shift s p d x b z j v symbol move sound e y end lt same =
      let h = sound e y (end_further s p d j e (T x) symbol (f.shifts s x j (shifts_from_move t s x [] j move)) end) lt same in
      (rules.DerivesRest.Shifted symbol move h.0 refl, refl)

  pub sound_join : (s p d n a y z g : ℕ) (u v : List ℕ) → g < length t.states → slice_get (rhs_of t.grammar p) d ≡ Some (N n) → edge_of t s (N n) ≡ Some g → IsSoundGoto t rep s n a y u → IsSoundRest t rep g p (suc d) y z v → IsSoundRest t rep s p d a z (u ++ v)
  sound_join s p d n a y z g u v known symbol edge sound_goto sound e z' end lt same =
      let h = sound e z' (end_further s p d g e (N n) symbol edge end) lt same in
      let first : ℕ = leading_token v z' in
      let first_known : first < t.grammar.tokens = leading_token_in_range t.grammar.tokens v z' (rest_known t f g p (suc d) first z' v e known h.0) lt in
      let way = sound_goto g edge first first_known h.1 in
      let q = way.0 in
      let m = way.1 in
      let is : lhs_of t.grammar q ≡ n = way.2 in
      let path = rest_of_complete_path t s q (leading_token u first) first m u way.3 in
      let front = leading_token-append u v z' in
      let symbol' : slice_get (rhs_of t.grammar p) d ≡ Some (N (lhs_of t.grammar q)) = rw is symbol in
      let edge' : edge_of t s (N (lhs_of t.grammar q)) ≡ Some g = rw is edge in
      (rw front (rules.DerivesRest.Reduced q symbol' path way.4 edge' h.0 refl), rw front way.5)

  -- A sound rest with no symbol before it gives sound goto facts.
  pub sound_goto_of_rest : Congruent t rep → (s p a z e g x : ℕ) (v : List ℕ) → IsSoundRest t rep s p 0 a z v → IsPathEnd t s p (length (rhs_of t.grammar p)) e → run_move_of t e (x ∷ []) ≡ Reduces p → edge_of t s (N (lhs_of t.grammar p)) ≡ Some g → x < t.grammar.tokens → rep e x ≡ z
      → IsSoundGoto t rep s (lhs_of t.grammar p) a (rep g x) v
  sound_goto_of_rest cong s p a z e g x v sound end move edge lt itself g' edge' y y_lt same =
      let one : g' ≡ g = cc in
      let cls : rep g x ≡ rep g y = sym (rw one at same) in
      let c = cong.reduces s p e g x y end edge lt y_lt cls move in
      let h = sound e y (s, refl, end) y_lt (sym c.1 ∙ itself) in
      (p, e, refl, complete_path_of_rest t f s p (leading_token v y) y g e v c.0 edge h.0, c.0, h.1)
