-- Proves that words that are closed under the rules for rests have a least word for each goto fact.
use Rattle.std.proofs.Common.{◌≡◌, ℕ, zero, suc, ◌<◌, List, [], ◌∷◌, ◌++◌, length, Some, refl, ap, ◌∙◌}
use Rattle.std.specs.List.{AllByRecursion}
use Rattle.mh_grammar.specs.declared.types.Symbol.TheVariants.{T, N}
use Rattle.mh_grammar.specs.Plain.{rhs_of, lhs_of}
use Rattle.mh_grammar.proofs.Lists.{recursion-append}
use Rattle.mh_tables_core.specs.Table.{TableData, edge_of}
use Rattle.mh_tables_core.specs.Facts.{Facts}
use Rattle.mh_tables_core.specs.Run.{Reduces, run_move_of}
use Rattle.mh_tables_core.proofs.Reductions.{shifts_from_move}
use Rattle.mh_facts.specs.Search.{leading_token, DerivesFact}
use Rattle.mh_facts.specs.code.BestFirst.{IsPathEnd, WordOrderLaws, HasNoLater}
use Rattle.mh_facts.proofs.StackBuilt.{leading_token-append}
use Rattle.mh_facts.proofs.Sound.{shift_known}
use Rattle.mh_facts.proofs.IsPathEnd.{derives_end, leading_token_in_range}
use Rattle.mh_facts.specs.code.WordCosts.{WordNoLater}
use Rattle.mh_facts.proofs.WordCosts.{order_laws}
use Rattle.mh_reach_rests.specs.Rests.{DerivesRest}
use Rattle.mh_reach_rests.specs.Rests as rules
use Rattle.mh_reach_rests.specs.code.ClosedRests.{RestWords, GotoWords, GotoNoLater, RestHolds, RestsClosedBy, FindLeastGotos}
use Rattle.mh_reach_rests.proofs.CompletePaths.{rest_of_complete_path}

module _ (t : TableData) (f : Facts t) where
  -- A rest ends in the state at the end of its path.
  pub rest_end : (s p d a z : ℕ) (v : List ℕ) (e : ℕ) → DerivesRest t s p d a z v e → (r : ℕ) → IsPathEnd t r p d s → IsPathEnd t r p (length (rhs_of t.grammar p)) e
  rest_end s p d a z v e (rules.DerivesRest.Ended is) r end = rw (← is) end
  rest_end s p d a z w e (rules.DerivesRest.Shifted {b = b} {j = j} {v = v} symbol move rest word) r end =
      rest_end j p (suc d) b z v e rest r (s, T a, end, symbol, f.shifts s a j (shifts_from_move t s a [] j move))
  rest_end s p d a z w e (rules.DerivesRest.Reduced {y = y} {g = g} {v = v} q symbol inner move edge rest word) r end =
      rest_end g p (suc d) y z v e rest r (s, N (lhs_of t.grammar q), end, symbol, edge)

  -- The first token to come at the beginning of a rest.
  pub leading_token-rest : (s p d a z : ℕ) (v : List ℕ) (e : ℕ) → DerivesRest t s p d a z v e → leading_token v z ≡ a
  leading_token-rest s p d a z v e (rules.DerivesRest.Ended is) = refl
  leading_token-rest s p d a z w e (rules.DerivesRest.Shifted {v = v} symbol move rest word) = rw word refl
  leading_token-rest s p d a z w e (rules.DerivesRest.Reduced {y = y} {g = g} {m = m} {u = u} {v = v} q symbol inner move edge rest word) =
      rw word (leading_token-append u v z ∙ ap (leading_token u) (leading_token-rest g p (suc d) y z v e rest) ∙ leading_token-rest s q 0 a y u m inner)

  -- The tokens of a rest's word belong to the table.
  pub rest_known : (s p d a z : ℕ) (v : List ℕ) (e : ℕ) → s < length t.states → DerivesRest t s p d a z v e → AllByRecursion (λ y. y < t.grammar.tokens) v
  rest_known s p d a z v e known (rules.DerivesRest.Ended is) = tt
  rest_known s p d a z w e known (rules.DerivesRest.Shifted {b = b} {j = j} {v = v} symbol move rest word) =
      let target = f.each_target s (T a) j (f.shifts s a j (shifts_from_move t s a [] j move)) in
      rw word (shift_known t f s a j known move, rest_known j p (suc d) b z v e target rest)
  rest_known s p d a z w e known (rules.DerivesRest.Reduced {y = y} {g = g} {m = m} {u = u} {v = v} q symbol inner move edge rest word) =
      let target = f.each_target s (N (lhs_of t.grammar q)) g edge in
      rw word (recursion-append (λ (y : ℕ). y < t.grammar.tokens) u v (rest_known s q 0 a y u m known inner) (rest_known g p (suc d) y z v e target rest))

  -- Closed words.

  module _ (rep : ℕ → ℕ → ℕ) (Le : List ℕ → List ℕ → Type 0) (laws : WordOrderLaws Le) (rests : RestWords) (gotos : GotoWords) (closed : RestsClosedBy t rep rests gotos (HasNoLater Le rests) (GotoNoLater Le gotos)) where
    abbrev Found : (s p d a z : ℕ) → List ℕ → Type 0
    Found s p d a z w = RestHolds t rep (HasNoLater Le rests) (GotoNoLater Le gotos) s p d a z w

    found_later : (s p d a z : ℕ) (u w : List ℕ) → Le u w → Found s p d a z u → Found s p d a z w
    found_later s p zero a z u w le h = λ e g y end move edge lt same. (let b = h e g y end move edge lt same in (b.0, b.1, laws.transitive b.0 u w b.2 le))
    found_later s p (suc d) a z u w le h = (h.0, h.1, laws.transitive h.0 u w h.2 le)

    -- Each rest that is reduced at its end has a word that comes no later.
    pub rest_found : (s p d a z : ℕ) (v : List ℕ) (e : ℕ) → s < length t.states → z < t.grammar.tokens → run_move_of t e (z ∷ []) ≡ Reduces p → DerivesRest t s p d a z v e → Found s p d (rep s a) (rep e z) v
    rest_found s p d a z v e known lt last (rules.DerivesRest.Ended is) = rw is (closed.ends s p z known lt last)
    rest_found s p d a z w e known lt last (rules.DerivesRest.Shifted {b = b} {j = j} {v = v} symbol move rest word) =
        let target = f.each_target s (T a) j (f.shifts s a j (shifts_from_move t s a [] j move)) in
        let h = rest_found j p (suc d) b z v e target lt last rest in
        let le : Le (a ∷ h.0) w = rw word (laws.monotone (a ∷ []) (a ∷ []) h.0 v (laws.reflexive (a ∷ [])) h.2) in
        found_later s p d (rep s a) (rep e z) (a ∷ h.0) w le (closed.shifts s p d a (rep j b) (rep e z) j h.0 known symbol move h.1)
    rest_found s p d a z w e known lt last (rules.DerivesRest.Reduced {y = y} {g = g} {m = m} {u = u} {v = v} q symbol inner move edge rest word) =
        let target = f.each_target s (N (lhs_of t.grammar q)) g edge in
        let front : y < t.grammar.tokens = rw (← leading_token-rest g p (suc d) y z v e rest) (leading_token_in_range t.grammar.tokens v z (rest_known g p (suc d) y z v e target rest) lt) in
        let i = rest_found s q 0 a y u m known front move inner m g y (rest_end s q 0 a y u m inner s refl) move edge front refl in
        let h = rest_found g p (suc d) y z v e target lt last rest in
        let le : Le (i.0 ++ h.0) w = rw word (laws.monotone i.0 u h.0 v i.2 h.2) in
        found_later s p d (rep s a) (rep e z) (i.0 ++ h.0) w le (closed.joins s p d (lhs_of t.grammar q) (rep s a) (rep g y) (rep e z) g i.0 h.0 known symbol edge i.1 h.1)

    -- Each complete path that is reduced has a word of its goto fact that comes no later.
    pub goto_found : (s q a z e g : ℕ) (v : List ℕ) → s < length t.states → z < t.grammar.tokens → DerivesFact t s q (length (rhs_of t.grammar q)) a z v e → run_move_of t e (z ∷ []) ≡ Reduces q → edge_of t s (N (lhs_of t.grammar q)) ≡ Some g → GotoNoLater Le gotos s (lhs_of t.grammar q) (rep s a) (rep g z) v
    goto_found s q a z e g v known lt path move edge =
        rest_found s q 0 a z v e known lt move (rest_of_complete_path t s q a z e v path) e g z (derives_end t f s q (length (rhs_of t.grammar q)) a z v e path) move edge lt refl

pub find_least_gotos : (t : TableData) (f : Facts t) → FindLeastGotos t
find_least_gotos t f rep rests gotos closed s q a z e g v known lt path move edge = goto_found t f rep (WordNoLater t) (order_laws t) rests gotos closed s q a z e g v known lt path move edge
