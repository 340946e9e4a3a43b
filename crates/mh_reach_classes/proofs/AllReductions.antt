-- Lemmas on the search for the reductions that lead to states.
use Rattle.std.proofs.Common.{◌≡◌, ℕ, zero, suc, ◌<◌, ◌≤◌, ◌+◌, inl, inr, Bool, true, eqb, ◌&&◌, List, length, Some, None, Option, refl, ap, sym, arith, ◌∙◌}
use Rattle.std.specs.Prelude.{slice_get}
use Rattle.std.specs.List.{Contains}
use Rattle.std.proofs.lemmas.Bool.{cases_lt, and_parts}
use Rattle.std.proofs.lemmas.Bool.Decides.{Decides-eqb}
use Rattle.mh_grammar.specs.declared.types.Symbol.{Symbol}
use Rattle.mh_grammar.specs.declared.types.Symbol.TheVariants.{N}
use Rattle.mh_grammar.specs.declared.edges.Edge.{Edge}
use Rattle.mh_grammar.specs.Edges.{find_edge}
use Rattle.mh_grammar.specs.Plain.{production_count, rhs_of, lhs_of}
use Rattle.mh_tables_core.specs.Table.{TableData, state_at, edge_of}
use Rattle.mh_tables_core.specs.Facts.{Facts}
use Rattle.mh_facts.specs.code.BestFirst.{IsPathEnd}
use Rattle.mh_facts.proofs.IsPathEnd.{path_end_unique, path_end_in_range}
use Rattle.mh_reach_classes.specs.declared.leading_reductions.Reduction.{Reduction}
use Rattle.mh_facts.specs.code.Queues.{ListGains}
use Rattle.mh_reach_classes.specs.code.Reductions.{IsReductionFrom, AreAllReductions}
use Rattle.mh_facts.proofs.Edges.{edge_there, edge_leads}

pub edge_is : (t : TableData) (s : ℕ) (x : Symbol) (es : List Edge) (o : Option ℕ) → es ≡ (state_at t s).edges → o ≡ find_edge es x → edge_of t s x ≡ o
unfolding edge_of
edge_is t s x es o same is = ap (λ (l : List Edge). find_edge l x) (sym same) ∙ sym is

pub path_end_step : (t : TableData) (r p d b s : ℕ) (x : Symbol) → IsPathEnd t r p d b → slice_get (rhs_of t.grammar p) d ≡ Some x → edge_of t b x ≡ Some s → IsPathEnd t r p (d + 1) s
path_end_step t r p d b s x h symbol edge = let e : d + 1 ≡ suc d = omega arith in rw e (b, x, h, symbol, edge)

-- If an edge of the path is missing, the path has no end.
pub no_end : (t : TableData) (r p d b : ℕ) (x : Symbol) → IsPathEnd t r p d b → slice_get (rhs_of t.grammar p) d ≡ Some x → edge_of t b x ≡ None → (n e : ℕ) → d < n → IsPathEnd t r p n e → ⊥
no_end t r p d b x h symbol none zero e lt there = absurd (omega arith)
no_end t r p d b x h symbol none (suc n) e lt (b', x', h', symbol', edge') = elim (cases_lt d n) [
  | inl less ↦ no_end t r p d b x h symbol none n b' less h'
  | inr ge ↦ (
      let is : n ≡ d = omega arith in
      let at : IsPathEnd t r p d b' = rw is at h' in
      let one : b' ≡ b = path_end_unique t r p d b' b at h in
      let there : slice_get (rhs_of t.grammar p) d ≡ Some x' = rw is at symbol' in
      let same : x' ≡ x = (let y : Some x' ≡ Some x = sym there ∙ symbol in cc) in
      let edge : edge_of t b x ≡ Some e = rw (one, same) at edge' in
      let y : None ≡ Some e = sym none ∙ edge in cc)
]

-- The list `past` has the reduction of each path that begins in a state below n, follows a whole right side, and has a
-- goto. All numbers in the list are in range.
pub record AreReductionsBelow (t : TableData) (n : ℕ) (past : List Reduction) : Type 0 where
  pub all : (s q e g : ℕ) → s < n → length t.grammar.starts ≤ q → q < production_count t.grammar → IsPathEnd t s q (length (rhs_of t.grammar q)) e → edge_of t s (N (lhs_of t.grammar q)) ≡ Some g → Contains past (record { end = e; production = q; target = g })
  pub known : (r : Reduction) → Contains past r → (r.end < length t.states) × (r.target < length t.states) × (r.production < production_count t.grammar)

pub reductions_begin : (t : TableData) (past : List Reduction) → length past ≡ 0 → AreReductionsBelow t 0 past
reductions_begin t past z = record { all = λ s q e g lt o k end edge. absurd (omega arith); known = λ r h. absurd (let l = h.1 in omega arith) }

pub reductions_step : (t : TableData) (f : Facts t) (n : ℕ) (old new : List Reduction) → n < length t.states → AreReductionsBelow t n old → ListGains (IsReductionFrom t n) old new → AreReductionsBelow t (n + 1) new
reductions_step t f n old new n_lt h c = record {
  all = λ s q e g lt o k end edge. elim (cases_lt s n) [
    | inl less ↦ c.kept (record { end = e; production = q; target = g }) (h.all s q e g less o k end edge)
    | inr ge ↦ (
        let is : s ≡ n = omega arith in
        let there : Edge = record { symbol = N (lhs_of t.grammar q); target = g } in
        let edge' : edge_of t n (N (lhs_of t.grammar q)) ≡ Some g = rw is at edge in
        let end' : IsPathEnd t n q (length (rhs_of t.grammar q)) e = rw is at end in
        c.all (record { end = e; production = q; target = g }) (there, edge_there t n (N (lhs_of t.grammar q)) g edge', (lhs_of t.grammar q, refl, (q, record { ordinary = o; known = k; lhs = refl }, record { end = e; ends = end'; is = refl }))))
  ];
  known = λ r there. elim (c.only r there) [
    | inl was ↦ h.known r was
    | inr is ↦ (
        let edge = is.0 in
        let deep = (is.2).2 in
        let one = deep.2 in
        let leads = edge_leads t f n edge is.1 in
        rw one.is (path_end_in_range t f n deep.0 (length (rhs_of t.grammar deep.0)) one.end n_lt one.ends, f.each_target n edge.symbol edge.target leads, deep.1.known))
  ];
}

pub reductions_end : (t : TableData) (f : Facts t) (past : List Reduction) → AreReductionsBelow t (length t.states) past → AreAllReductions t past
reductions_end t f past h = record { all = h.all; known = h.known }

pub reduction_same : (x y : Reduction) (r : Bool) → r ≡ (eqb x.end y.end && (eqb x.production y.production && eqb x.target y.target)) → r ≡ true → x ≡ y
reduction_same x y r e t =
    let a = and_parts (eqb x.end y.end) _ (sym e ∙ t) in
    let b = and_parts (eqb x.production y.production) (eqb x.target y.target) a.1 in
    let e1 = (Decides-eqb x.end y.end).0 a.0 in
    let e2 = (Decides-eqb x.production y.production).0 b.0 in
    let e3 = (Decides-eqb x.target y.target).0 b.1 in
    let a : Reduction = record { end = x.end; production = x.production; target = x.target } in
    let b : Reduction = record { end = y.end; production = y.production; target = y.target } in
    let whole : a ≡ b = rw (e1, e2, e3) refl in
    whole
