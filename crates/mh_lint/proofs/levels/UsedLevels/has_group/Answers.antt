use Rattle.std.proofs.Common.{◌≡◌, arith, false, inl, inr, refl, subst, true}
use Rattle.std.specs.List.{Contains}
use Rattle.std.proofs.lemmas.Bool.{cases_lt}
use Rattle.mh_grammar.proofs.Lists.{below_next}
use Rattle.mh_lint.specs.code.Uses.{HasPlace}
use Rattle.mh_lint.proofs.levels.UsedLevels.has_group.Goals as goal

pub returns-then-last-first : goal.returns-then-last-first
returns-then-last-first c = (λ e. (let bad : false ≡ true = e in cc), λ h. absurd (let l = h.1 in let m = h.2 in let k = c.if-last-first.true in omega (arith, l, m, k)))

pub loop-alternative-init : goal.loop-alternative-init
loop-alternative-init c = λ n l m free has. omega (arith, l, m)

pub loop-alternative-preserved : goal.loop-alternative-preserved
loop-alternative-preserved c = λ n l m free has.
    elim (below_next n c.loop-alternative.alternative m) [
      | inl before ↦ c.loop-alternative.invariant n l before free has
      | inr here ↦ (let bad : false ≡ true = c.if-has_member.ensures.1 (subst (λ k. Contains c.args.own.now.keys k → ⊥) here free, subst (λ k. HasPlace c.args.self.now.alternatives.keys c.args.file k) here has) in cc)
    ]

pub returns-then-has_member : goal.returns-then-has_member
returns-then-has_member c =
    let member = c.if-has_member.ensures.0 refl in
    (λ e. (c.loop-alternative.alternative, c.loop-alternative.auto.alternative, (let l = c.loop-alternative-test.true in omega (arith, l)), member.0, member.1), λ h. refl)

pub returns : goal.returns
returns c = (
  λ e. (let member = c.has_member-2.ensures.0 e in (c.args.last, c.if-last-first.false, omega arith, member.0, member.1)),
  λ h. elim (cases_lt h.0 c.args.last) [
    | inl l ↦ absurd (c.loop-alternative.invariant h.0 h.1 (let past = c.loop-alternative-test.false in omega (arith, l, past)) h.3 h.4)
    | inr le ↦ (let low = h.2 in let same : h.0 ≡ c.args.last = omega (arith, le, low) in c.has_member-2.ensures.1 (subst (λ k. Contains c.args.own.now.keys k → ⊥) same h.3, subst (λ k. HasPlace c.args.self.now.alternatives.keys c.args.file k) same h.4))
  ],
)
