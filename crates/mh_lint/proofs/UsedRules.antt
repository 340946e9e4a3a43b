-- The rules that have an instance, as flags.
use Rattle.std.proofs.Common.{◌≡◌, ◌↔◌, ℕ, ◌+◌, ◌<◌, Bool, true, List, [], ◌∷◌, ◌++◌, Some, length, get_or, sym, ap, subst, ◌∙◌, inl, inr, arith}
use Rattle.std.specs.Prelude.{slice_get}
use Rattle.std.specs.List.{Any, Contains}
use Rattle.std.proofs.lemmas.Bool.{cases_lt}
use Rattle.std.proofs.lemmas.List.{length_push}
use Rattle.std.proofs.lemmas.Option.{same_Some, slice_get-get_or, slice_get_within}
use Rattle.mh_grammar.proofs.Lists.{get_cases, get_last, get_left}
use Rattle.mh_rules.specs.declared.instances.Expanded.{Expanded}
use Rattle.mh_rules.specs.declared.instances.Instance.{Instance}
use Rattle.mh_rules.specs.declared.instances.InstanceProduction.{InstanceProduction}
use Rattle.mh_rules.specs.declared.joined.Joined.{Joined}
use Rattle.mh_rules.specs.declared.joined.JoinedAlternative.{JoinedAlternative}
use Rattle.mh_rules.specs.declared.joined.JoinedRule.{JoinedRule}
use Rattle.mh_lint.specs.Uses.{HasInstance}
use Rattle.mh_lint.specs.code.Uses.{AreUsedRules, HasPlace, IsPlaceOfInstances}
use Rattle.mh_lint.specs.declared.alternatives.AlternativeOf.{AlternativeOf}
use Rattle.mh_lint.proofs.Gains.{Gains, any_of, of_any}

-- The alternatives of instances.

abbrev place : ℕ → ℕ → AlternativeOf
place file index = record { file = file; index = index }

abbrev pub IsPlaceOf : InstanceProduction → AlternativeOf → Type 0
IsPlaceOf q k = k ≡ record { file = q.file; index = q.place }

abbrev pub HasPlaceOf : Instance → AlternativeOf → Type 0
HasPlaceOf i k = Any (λ q. IsPlaceOf q k) i.productions

abbrev pub Nothing : AlternativeOf → Type 0
Nothing k = ⊥

pub places_of : (e : Expanded) (found : List AlternativeOf) → Gains (λ k. Any (λ i. HasPlaceOf i k) e.instances) Nothing (Contains found) → (file index : ℕ) → HasPlace found file index ↔ IsPlaceOfInstances e file index
places_of e found g file index = (to, back)
  where
    to : HasPlace found file index → IsPlaceOfInstances e file index
    to h = elim ((g (place file index)).0 h) [
      | inl none ↦ absurd none
      | inr some ↦ (
          let i = of_any (λ i. HasPlaceOf i (place file index)) e.instances some in
          let q = of_any (λ q. IsPlaceOf q (place file index)) (i.0).productions i.2 in
          record { instance = i.0; production = q.0; of_instances = i.1; of_instance = q.1; file_is = ap (λ (a : AlternativeOf). a.file) (sym q.2); index_is = ap (λ (a : AlternativeOf). a.index) (sym q.2) })
    ]

    back : IsPlaceOfInstances e file index → HasPlace found file index
    back p =
        let is : IsPlaceOf p.production (place file index) = λ i. record { file = sym p.file_is i; index = sym p.index_is i } in
        (g (place file index)).1 (inr (any_of (λ i. HasPlaceOf i (place file index)) e.instances p.instance p.of_instances (any_of (λ q. IsPlaceOf q (place file index)) p.instance.productions p.production p.of_instance is)))

-- The instances of a rule.
pub instance_found : (e : Expanded) (found : List AlternativeOf) (r : JoinedRule) (b : Bool) → ((file index : ℕ) → HasPlace found file index ↔ IsPlaceOfInstances e file index) → (b ≡ true) ↔ Any (λ (a : JoinedAlternative). HasPlace found a.file a.place) r.alternatives → (b ≡ true) ↔ HasInstance e r
instance_found e found r b places is = (
  λ t. (
      let a = of_any (λ (a : JoinedAlternative). HasPlace found a.file a.place) r.alternatives (is.0 t) in
      let p = (places (a.0).file (a.0).place).0 a.2 in
      record { instance = p.instance; production = p.production; alternative = a.0; of_instances = p.of_instances; of_instance = p.of_instance; of_rule = a.1; comes = record { file = p.file_is; place = p.index_is } }),
  λ h. is.1 (any_of (λ (a : JoinedAlternative). HasPlace found a.file a.place) r.alternatives h.alternative h.of_rule
      ((places h.alternative.file h.alternative.place).1 (record { instance = h.instance; production = h.production; of_instances = h.of_instances; of_instance = h.of_instance; file_is = h.comes.file; index_is = h.comes.place }))),
)

-- The flags of the first n rules.
pub record AreFirstRules (j : Joined) (e : Expanded) (n : ℕ) (used : List Bool) : Type 0 where
  pub len : length used ≡ n
  pub each : (k : ℕ) (r : JoinedRule) → k < n → slice_get j.rules k ≡ Some r → (slice_get used k ≡ Some true) ↔ HasInstance e r

pub no_rules : (j : Joined) (e : Expanded) (used : List Bool) → used ≡ [] → AreFirstRules j e 0 used
no_rules j e used none = record { len = ap length none; each = λ k r l at. absurd (omega (arith, l)) }

pub next_rule : (j : Joined) (e : Expanded) (n : ℕ) (x : JoinedRule) (b : Bool) (used new : List Bool) → n < length j.rules → x ≡ get_or j.rules n x → AreFirstRules j e n used → (b ≡ true) ↔ HasInstance e x → new ≡ used ++ b ∷ [] → AreFirstRules j e (n + 1) new
next_rule j e n x b used new l at h is pushed = record {
  len = ap length pushed ∙ length_push used b ∙ ap (λ m. m + 1) h.len;
  each = λ k r less there. (to k r less there, back k r less there);
}
  where
    here : slice_get j.rules n ≡ Some x
    here = slice_get-get_or j.rules n x l ∙ ap Some (sym at)

    to : (k : ℕ) (r : JoinedRule) → k < n + 1 → slice_get j.rules k ≡ Some r → slice_get new k ≡ Some true → HasInstance e r
    to k r less there e' = elim (get_cases used b k true (sym (ap (λ ys. slice_get ys k) pushed) ∙ e')) [
      | inl was ↦ (let low : k < n = (let w = slice_get_within used k true was in let m = h.len in omega (arith, w, m)) in (h.each k r low there).0 was)
      | inr last ↦ (
          let place : k ≡ n = last.0 ∙ h.len in
          let same : x ≡ r = same_Some x r (sym here ∙ subst (λ m. slice_get j.rules m ≡ Some r) place there) in
          subst (HasInstance e) same (is.0 (sym last.1)))
    ]

    back : (k : ℕ) (r : JoinedRule) → k < n + 1 → slice_get j.rules k ≡ Some r → HasInstance e r → slice_get new k ≡ Some true
    back k r less there i = ap (λ ys. slice_get ys k) pushed ∙ elim (cases_lt k n) [
      | inl low ↦ get_left used (b ∷ []) k true ((h.each k r low there).1 i)
      | inr ge ↦ (
          let place : k ≡ n = omega (arith, less, ge) in
          let same : x ≡ r = same_Some x r (sym here ∙ subst (λ m. slice_get j.rules m ≡ Some r) place there) in
          get_last used b k (place ∙ sym h.len) ∙ ap Some (is.1 (subst (HasInstance e) (sym same) i)))
    ]

pub all_rules : (j : Joined) (e : Expanded) (n : ℕ) (used : List Bool) → n ≡ length j.rules → AreFirstRules j e n used → AreUsedRules j e used
all_rules j e n used whole h = record { len = h.len ∙ whole; each = λ k r there. h.each k r (let w = slice_get_within j.rules k r there in omega (arith, w, whole)) there }
