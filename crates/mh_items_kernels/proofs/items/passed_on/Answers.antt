use Rattle.std.proofs.Common.{inl, inr, sym, ◌∙◌}
use Rattle.std.proofs.lemmas.Bool.{false≢true}
use Rattle.mh_items_kernels.proofs.items.passed_on.Goals as goal

pub returns-then-passes : goal.returns-then-passes
returns-then-passes g c b =
    let m = c.union_into.ensures.members b in (
      (λ k. elim (m.0 k) [ inl a ↦ inl (rw c.copied-added.ensures at a) | inr a ↦ inr (c.if-passes.true, a) ]),
      (λ s. elim s [ inl a ↦ m.1 (inl (rw (← c.copied-added.ensures) at a)) | inr a ↦ m.1 (inr a.1) ]),
    )

pub returns-else-passes : goal.returns-else-passes
returns-else-passes g c b = (
  (λ k. inl (rw c.copied-added.ensures at k)),
  (λ s. elim s [ inl a ↦ rw (← c.copied-added.ensures) at a | inr a ↦ absurd (false≢true (sym c.if-passes.false ∙ a.0)) ]),
)
