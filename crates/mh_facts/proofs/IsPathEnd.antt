-- Lemmas on the definition `IsPathEnd`, on leading tokens, and on tokens with one representative.
use Rattle.std.proofs.Common.{◌≡◌, ℕ, zero, suc, ◌<◌, List, [], ◌∷◌, length, refl, ap, sym, ◌∙◌}
use Rattle.std.specs.List.{AllByRecursion}
use Rattle.mh_grammar.specs.declared.types.Symbol.TheVariants.{T, N}
use Rattle.mh_tables_core.specs.Table.{TableData}
use Rattle.mh_grammar.specs.Plain.{lhs_of}
use Rattle.mh_tables_core.specs.Facts.{Facts}
use Rattle.mh_tables_core.specs.Run.{Reduces, run_move_of}
use Rattle.mh_tables_core.proofs.Reductions.{shifts_from_move}
use Rattle.mh_facts.specs.Search.{leading_token, DerivesFact}
use Rattle.mh_facts.specs.Search as rules
use Rattle.mh_facts.specs.code.BestFirst.{IsPathEnd, Congruent, RepresentativesAgree}

-- A derivation of a fact ends in the state at the end of its path.
pub derives_end : (t : TableData) (f : Facts t) (r p d a z : ℕ) (v : List ℕ) (s : ℕ) → DerivesFact t r p d a z v s → IsPathEnd t r p d s
derives_end t f r p d a z v s (rules.DerivesFact.Empty o g) = refl
derives_end t f r p d a z w j (rules.DerivesFact.Shifted {d = d0} {x = x} {s = s} {v = v} h symbol move word) =
    (s, T x, derives_end t f r p d0 a x v s h, symbol, f.shifts s x j (shifts_from_move t s x [] j move))
derives_end t f r p d a z w g (rules.DerivesFact.Reduced {d = d0} {y = y} {s = s} {u = u} q h symbol inner move edge word) =
    (s, N (lhs_of t.grammar q), derives_end t f r p d0 a y u s h, symbol, edge)

pub leading_token_in_range : (n : ℕ) (v : List ℕ) (z : ℕ) → AllByRecursion (λ y. y < n) v → z < n → leading_token v z < n
leading_token_in_range n [] z h lt = lt
leading_token_in_range n (x ∷ v) z h lt = h.0

-- The state at the end of a path is unique.
pub path_end_unique : (t : TableData) (r p d s s' : ℕ) → IsPathEnd t r p d s → IsPathEnd t r p d s' → s ≡ s'
path_end_unique t r p zero s s' e e' = cc
path_end_unique t r p (suc d) s s' (b, x, h, symbol, edge) (b', x', h', symbol', edge') =
    let same : b ≡ b' = path_end_unique t r p d b b' h h' in
    let one : x ≡ x' = cc in
    cc

pub path_end_in_range : (t : TableData) (f : Facts t) (r p d s : ℕ) → r < length t.states → IsPathEnd t r p d s → s < length t.states
path_end_in_range t f r p zero s lt e = rw e lt
path_end_in_range t f r p (suc d) s lt (b, x, h, symbol, edge) = f.each_target b x s edge

pub Congruent-representatives : (t : TableData) (rep : ℕ → ℕ → ℕ) → RepresentativesAgree t rep → Congruent t rep
Congruent-representatives t rep h = record {
  reduces = λ s q e g y z end edge y_lt z_lt same move.
      let a = h.to_representative s q e g y end edge y_lt move in
      let b : run_move_of t e (z ∷ []) ≡ Reduces q = h.from_representative s q e g z end edge z_lt (rw (← same) a.0) in
      let c = h.to_representative s q e g z end edge z_lt b in
      (b, a.1 ∙ ap (rep e) same ∙ sym c.1);
}
