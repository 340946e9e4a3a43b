-- The producers with a wrong number of arguments: those of an alternative, one after another, and those of all rules.
use Rattle.std.proofs.Common.{◌≡◌, ◌↔◌, ◌⊎◌, ◌<◌, ◌≤◌, ◌+◌, ℕ, List, [], Some, ap, arith, inl, inr, length, refl, subst, sym, ◌∙◌}
use Rattle.std.specs.Prelude.{slice_get}
use Rattle.std.specs.List.{Contains}
use Rattle.std.proofs.lemmas.Option.{same_Some, slice_get_within}
use Rattle.mh_grammar.proofs.Lists.{below_next, contains_none}
use Rattle.mh_grammar.specs.Text.{Text}
use Rattle.mh_rules.specs.declared.joined.Applied.{Applied}
use Rattle.mh_rules.specs.declared.joined.Joined.{Joined}
use Rattle.mh_rules.specs.declared.joined.JoinedAlternative.{JoinedAlternative}
use Rattle.mh_rules.specs.declared.joined.JoinedRule.{JoinedRule}
use Rattle.mh_lint_faults.specs.code.Producers.{IsWrongApplied, IsWrongProducer, IsWrongProducerOf}
use Rattle.mh_lint_faults.specs.declared.arity.ProducerOf.{ProducerOf}
use Rattle.mh_lint_faults.proofs.KeysGained.{Gains}

module _ (j : Joined) (printed : Text) (a : JoinedAlternative) where
  -- The keys are the old ones and the wrong producers below n.
  abbrev pub HaveWrong : List ProducerOf → List ProducerOf → ℕ → Type 0
  HaveWrong old new n = (p : ProducerOf) → Contains new p ↔ (Contains old p ⊎ ((p.producer < n) × IsWrongProducerOf j printed a p))

  pub none_wrong : (old : List ProducerOf) → HaveWrong old old 0
  none_wrong old p = (λ c. inl c, λ h. elim h [ inl c ↦ c | inr x ↦ absurd (let l = x.0 in omega (arith, l)) ])

  abbrev pub producer_at : ℕ → ProducerOf
  producer_at n = record { file = a.file; alternative = a.place; producer = n }

  same_place : (p : ProducerOf) (n : ℕ) → IsWrongProducerOf j printed a p → p.producer ≡ n → p ≡ producer_at n
  same_place p n w same =
      let e = w.file_is in
      let g = w.place_is in
      let whole : record { file = p.file; alternative = p.alternative; producer = p.producer } ≡ producer_at n = rw (e, g, same) refl in
      whole

  pub wrong_next : (old mid new : List ProducerOf) (n : ℕ) (term : Applied) → slice_get a.producers n ≡ Some term → IsWrongApplied j printed term → HaveWrong old mid n → ((p : ProducerOf) → Contains new p ↔ (Contains mid p ⊎ (p ≡ producer_at n))) → HaveWrong old new (n + 1)
  wrong_next old mid new n term at is h puts p = (
    λ c. elim ((puts p).0 c) [
      | inl m ↦ (elim ((h p).0 m) [ inl o ↦ inl o | inr x ↦ inr ((let l = x.0 in omega (arith, l)), x.1) ])
      | inr e ↦ inr (rw e (omega arith, record { term = term; file_is = refl; place_is = refl; of_alternative = at; is_wrong = is }))
    ],
    λ g. elim g [
      | inl o ↦ (puts p).1 (inl ((h p).1 (inl o)))
      | inr x ↦ (elim (below_next p.producer n x.0) [
        | inl less ↦ (puts p).1 (inl ((h p).1 (inr (less, x.1))))
        | inr same ↦ (puts p).1 (inr (same_place p n x.1 same))
      ])
    ],
  )

  pub right_next : (old keys : List ProducerOf) (n : ℕ) (term : Applied) → slice_get a.producers n ≡ Some term → (IsWrongApplied j printed term → ⊥) → HaveWrong old keys n → HaveWrong old keys (n + 1)
  right_next old keys n term at right h p = (
    λ c. elim ((h p).0 c) [ inl o ↦ inl o | inr x ↦ inr ((let l = x.0 in omega (arith, l)), x.1) ],
    λ g. elim g [
      | inl o ↦ (h p).1 (inl o)
      | inr x ↦ (elim (below_next p.producer n x.0) [
        | inl less ↦ (h p).1 (inr (less, x.1))
        | inr same ↦ absurd (let one : (x.1).term ≡ term = same_Some _ _ (sym (x.1).of_alternative ∙ ap (λ k. slice_get a.producers k) same ∙ at) in right (subst (λ (t : Applied). IsWrongApplied j printed t) one (x.1).is_wrong))
      ])
    ],
  )

  -- All producers have been seen.
  pub all_wrong : (old keys : List ProducerOf) (n : ℕ) → length a.producers ≤ n → HaveWrong old keys n → (p : ProducerOf) → Contains keys p ↔ (Contains old p ⊎ IsWrongProducerOf j printed a p)
  all_wrong old keys n le h p = (
    λ c. elim ((h p).0 c) [ inl o ↦ inl o | inr x ↦ inr x.1 ],
    λ g. elim g [
      | inl o ↦ (h p).1 (inl o)
      | inr w ↦ (h p).1 (inr ((let within = slice_get_within a.producers p.producer w.term w.of_alternative in omega (arith, within, le)), w))
    ],
  )

-- ---- All rules.

module _ (j : Joined) (printed : Text) where
  -- The producer is a wrong one of an alternative of the rule.
  abbrev pub IsWrongOfRule : JoinedRule → ProducerOf → Type 0
  IsWrongOfRule r p = (a : JoinedAlternative) × Contains r.alternatives a × IsWrongProducerOf j printed a p

  pub all_producers : (keys : List ProducerOf) → Gains IsWrongOfRule [] keys j.rules → (p : ProducerOf) → Contains keys p ↔ IsWrongProducer j printed p
  all_producers keys h p = (
    λ c. elim ((h p).0 c) [
      | inl o ↦ absurd (contains_none p o)
      | inr g ↦ record { rule = g.0; alternative = (g.2).0; of_joined = g.1; of_rule = (g.2).1; is = (g.2).2 }
    ],
    λ w. (h p).1 (inr (w.rule, w.of_joined, (w.alternative, w.of_rule, w.is))),
  )
