use Rattle.std.proofs.Common.{◌≡◌, ◌≤◌, ℕ, List, arith, false, inl, inr, length, refl, subst, sym, true}
use Rattle.std.specs.List.{Any, Contains}
use Rattle.mh_rules.specs.declared.joined.JoinedAlternative.{JoinedAlternative}
use Rattle.mh_lint.specs.code.Uses.{HasPlace}
use Rattle.mh_lint.proofs.Gains.{all_any, any_cases, any_none, any_of}
use Rattle.mh_lint.proofs.uses.has_instance.Goals as goal

pub loop-alternative-init : goal.loop-alternative-init
loop-alternative-init c = any_none (λ (a : JoinedAlternative) (k : ℕ). HasPlace c.args.found.now.keys a.file a.place) c.as_slice-alternative-items.result.now 0

pub loop-alternative-preserved : goal.loop-alternative-preserved
loop-alternative-preserved c some =
    elim (any_cases (λ (a : JoinedAlternative) (k : ℕ). HasPlace c.args.found.now.keys a.file a.place) c.as_slice-alternative-items.result.now c.loop-alternative.alternative-index c.alternative-item.result c.loop-alternative-test.true c.alternative-item.is 0 some) [
      | inl before ↦ c.loop-alternative.invariant before
      | inr here ↦ (let bad : false ≡ true = c.if-has_key.ensures.1 here in cc)
    ]

pub returns-then-has_key : goal.returns-then-has_key
returns-then-has_key c =
    let there : Contains c.args.rule.now.alternatives c.alternative-item.result = subst (λ ys. Contains ys c.alternative-item.result) c.as_slice-alternative-items.ensures (c.loop-alternative.alternative-index, c.loop-alternative-test.true, sym c.alternative-item.is) in
    (λ e. any_of (λ (a : JoinedAlternative). HasPlace c.args.found.now.keys a.file a.place) c.args.rule.now.alternatives c.alternative-item.result there (c.if-has_key.ensures.0 refl), λ some. refl)

pub returns : goal.returns
returns c =
    let alternatives = c.as_slice-alternative-items.result.now in
    let past : length alternatives ≤ c.loop-alternative.alternative-index = (let a = c.loop-alternative-test.false in omega (arith, a)) in (
      λ e. (let bad : false ≡ true = e in cc),
      λ some. absurd (c.loop-alternative.invariant (all_any (λ (a : JoinedAlternative) (k : ℕ). HasPlace c.args.found.now.keys a.file a.place) alternatives c.loop-alternative.alternative-index past 0
          (subst (λ (ys : List JoinedAlternative). Any (λ (a : JoinedAlternative). HasPlace c.args.found.now.keys a.file a.place) ys) (sym c.as_slice-alternative-items.ensures) some))),
    )
