-- Proves that the items of a state on the stack of a run have the same symbols before their dots, compared from the dot
-- backwards.
use Rattle.std.proofs.Common.{◌≡◌, ℕ, zero, suc, ◌+◌, ◌-◌, ◌<◌, List, length, get_or, refl, sym, ◌∙◌, ap, subst, arith, inl, inr}
use Rattle.std.specs.Prelude.{Some, slice_get}
use Rattle.mh_grammar.specs.declared.types.Symbol.{Symbol}
use Rattle.mh_grammar.specs.Plain.{rhs_of}
use Rattle.mh_tables_core.specs.Table.{TableData}
use Rattle.mh_tables_core.specs.Facts.{Facts, InCore}
use Rattle.mh_tables_core.specs.Run.{IsRunStack}
use Rattle.mh_tables_core.specs.Failing.{Fails}
use Rattle.mh_tables_core.proofs.RefusingState.{reached}

module _ (t : TableData) (f : Facts t) where
  module _ (stack : List ℕ) (h : IsRunStack t stack) where
    agree : (k p d q e j : ℕ) → k < length stack → InCore t (get_or stack k 0) p d → InCore t (get_or stack k 0) q e → j < d → j < e → slice_get (rhs_of t.grammar p) (d - 1 - j) ≡ slice_get (rhs_of t.grammar q) (e - 1 - j)
    agree zero p d q e j lt a b in_d in_e = absurd (omega (arith, (f.start_core (get_or stack 0 0) p d h.start a).1))
    agree (suc k) p zero q e j lt a b in_d in_e = absurd (omega arith)
    agree (suc k) p (suc d) q zero j lt a b in_d in_e = absurd (omega arith)
    agree (suc k) p (suc d) q (suc e) j lt a b in_d in_e =
        let within : k + 1 < length stack = omega arith in
        let edge = h.path.edges k within in
        let next : k + 1 ≡ suc k = omega arith in
        let of_p = f.moved_from (get_or stack k 0) edge.0 (get_or stack (k + 1) 0) p (suc d) edge.1 (rw next a) in
        let of_q = f.moved_from (get_or stack k 0) edge.0 (get_or stack (k + 1) 0) q (suc e) edge.1 (rw next b) in
        by j of_p.symbol of_q.symbol in_d in_e (λ i is. elim of_p.source [
          | inl c ↦ elim of_q.source [
            | inl u ↦ (let p_place : suc d - 1 ≡ d = omega arith in let q_place : suc e - 1 ≡ e = omega arith in
                agree k p d q e i (omega arith) (rw p_place at c) (rw q_place at u) (omega arith) (omega arith))
            | inr u ↦ absurd (omega (arith, u.0))
          ]
          | inr c ↦ absurd (omega (arith, c.0))
        ])
      where
        by : (j : ℕ) {x : Symbol} → slice_get (rhs_of t.grammar p) (suc d - 1) ≡ Some x → slice_get (rhs_of t.grammar q) (suc e - 1) ≡ Some x → j < suc d → j < suc e
            → ((i : ℕ) → j ≡ suc i → slice_get (rhs_of t.grammar p) (d - 1 - i) ≡ slice_get (rhs_of t.grammar q) (e - 1 - i)) → slice_get (rhs_of t.grammar p) (suc d - 1 - j) ≡ slice_get (rhs_of t.grammar q) (suc e - 1 - j)
        by zero at_p at_q in_d in_e on =
            let p_place : suc d - 1 - 0 ≡ suc d - 1 = omega arith in
            let q_place : suc e - 1 - 0 ≡ suc e - 1 = omega arith in ap (slice_get (rhs_of t.grammar p)) p_place ∙ at_p ∙ sym at_q ∙ ap (slice_get (rhs_of t.grammar q)) (sym q_place)
        by (suc i) at_p at_q in_d in_e on =
            let p_place : suc d - 1 - suc i ≡ d - 1 - i = omega arith in
            let q_place : suc e - 1 - suc i ≡ e - 1 - i = omega arith in ap (slice_get (rhs_of t.grammar p)) p_place ∙ on i refl ∙ ap (slice_get (rhs_of t.grammar q)) (sym q_place)

  pub suffix_agrees : (start s : ℕ) (w : List ℕ) → Fails t start w s → (p d q e j : ℕ) → InCore t s p d → InCore t s q e → j < d → j < e → slice_get (rhs_of t.grammar p) (d - 1 - j) ≡ slice_get (rhs_of t.grammar q) (e - 1 - j)
  suffix_agrees start s w fails p d q e j a b in_d in_e =
      let r = reached t f start w (length w - 1) s fails.sentence.known fails.verdict in
      let begun = r.run.path.not_empty in
      agree r.stack r.run (length r.stack - 1) p d q e j (omega arith) (subst (λ (r : ℕ). InCore t r p d) r.top a) (subst (λ (r : ℕ). InCore t r q e) r.top b) in_d in_e
