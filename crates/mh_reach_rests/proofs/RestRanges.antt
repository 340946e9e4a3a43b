-- Proves that the conclusions of the rules are in range.
use Rattle.std.proofs.Common.{◌≡◌, ℕ, zero, suc, ◌+◌, ◌-◌, ◌<◌, Some, arith}
use Rattle.std.specs.Prelude.{[], ◌∷◌, length, min, slice_get}
use Rattle.mh_grammar.specs.declared.types.Symbol.{Symbol}
use Rattle.mh_grammar.specs.declared.types.Symbol.TheVariants.{T, N}
use Rattle.mh_grammar.specs.Plain.{rhs_of}
use Rattle.mh_tables_core.specs.Table.{TableData, cost_of_token, edge_of}
use Rattle.mh_tables_core.specs.Facts.{Facts}
use Rattle.mh_tables_core.specs.Run.{Shifts, Reduces, run_move_of}
use Rattle.mh_tables_core.proofs.Reductions.{reduces_from_move}
use Rattle.mh_facts.specs.Costs.{cap}
use Rattle.mh_facts.specs.declared.classes.TokenClasses.{TokenClasses}
use Rattle.mh_facts.specs.code.BestFirst.{IsPathEnd, key}
use Rattle.mh_facts.specs.code.TokenClasses.{AreTokenClasses, rep_of}
use Rattle.mh_facts.proofs.Edges.{known_token, shift_target}
use Rattle.mh_facts.proofs.WordCosts.{min_cap}
use Rattle.mh_reach_rests.specs.declared.waiting.SettledRest.{SettledRest}
use Rattle.mh_reach_rests.specs.declared.waiting.SettledGoto.{SettledGoto}
use Rattle.mh_reach_rests.specs.code.RestRules.{FitsRest, IsGotoInRange, IsRestInRange, IsRestToJoin, after_goto, after_token}

-- A path goes on over an edge.
path_further : (t : TableData) (r p dot s g : ℕ) (x : Symbol) → 0 < dot → IsPathEnd t r p (dot - 1) s → slice_get (rhs_of t.grammar p) (dot - 1) ≡ Some x → edge_of t s x ≡ Some g → IsPathEnd t r p dot g
path_further t r p zero s g x begun end symbol edge = absurd (omega arith)
path_further t r p (suc d) s g x begun end symbol edge = let one : suc d - 1 ≡ d = omega arith in (s, x, rw one at end, rw one at symbol, edge)

module _ (t : TableData) (f : Facts t) (c : TokenClasses) (cls : AreTokenClasses t c) where
  -- The empty rest at the end of a production that is reduced.
  pub end_range : (s p z : ℕ) → s < length t.states → z < t.grammar.tokens → run_move_of t s (z ∷ []) ≡ Reduces p → IsRestInRange t (key s p (length (rhs_of t.grammar p)) (rep_of c s z) (rep_of c s z)) s 0
  end_range s p z known lt move =
      let ordinary = f.ordinary s p (reduces_from_move t s (z ∷ []) p move) in
      record { from = known; ordinary = ordinary.0; production = ordinary.1; within = omega arith; first = cls.in_range s z lt; next = cls.in_range s z lt; end_known = known; at_end = λ r end. end; most = omega arith }

  pub token_range : (r : SettledRest) (s x : ℕ) → IsRestToJoin t r → s < length t.states → slice_get (rhs_of t.grammar r.key.production) (r.key.dot - 1) ≡ Some (T x) → run_move_of t s (x ∷ []) ≡ Shifts r.key.from → IsRestInRange t (after_token t c r s x).key r.end (min (r.cost + cost_of_token t x) cap)
  token_range r s x h known symbol move =
      let edge = shift_target t f s x r.key.from move in
      let range = h.range in
      let begun = h.begun in
      record {
        from = known;
        ordinary = range.ordinary;
        production = range.production;
        within = (let within = range.within in omega arith);
        first = cls.in_range s x (known_token t f s x r.key.from edge);
        next = range.next;
        end_known = range.end_known;
        at_end = λ b end. range.at_end b (path_further t b r.key.production r.key.dot s r.key.from (T x) begun end symbol edge);
        most = min_cap (r.cost + cost_of_token t x);
      }

  pub goto_range : (g : SettledGoto) (r : SettledRest) → IsGotoInRange t g → IsRestToJoin t r → FitsRest t g r → IsRestInRange t (after_goto g r).key r.end (min (g.cost + r.cost) cap)
  goto_range g r known h fits =
      let range = h.range in
      let begun = h.begun in
      let edge : edge_of t g.fact.from (N g.fact.nonterminal) ≡ Some r.key.from = rw fits.target at known.edge in
      record {
        from = known.from;
        ordinary = range.ordinary;
        production = range.production;
        within = (let within = range.within in omega arith);
        first = known.first;
        next = range.next;
        end_known = range.end_known;
        at_end = λ b end. range.at_end b (path_further t b r.key.production r.key.dot g.fact.from r.key.from (N g.fact.nonterminal) begun end fits.symbol edge);
        most = min_cap (g.cost + r.cost);
      }
