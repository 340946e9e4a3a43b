-- Proves that unfoldings are unique and exist, and that those of a part are no more and no longer than those of the
-- whole.
use Rattle.std.proofs.Common.{◌≡◌, ℕ, zero, suc, ◌+◌, ◌*◌, ◌<◌, ◌≤◌, true, false, max, List, [], ◌∷◌, ◌++◌, Some, map, length, refl, sym, ap, ◌∙◌, arith, length-append, subst, zero-mul}
use Rattle.std.specs.List.{slice_get}
use Rattle.std.proofs.lemmas.Bool.{false≢true}
use Rattle.std.proofs.lemmas.Option.{same_Some, none-some, slice_get_within, get_or_from_slice_get}
use Rattle.std.proofs.lemmas.List.{length-map}
use Rattle.mh_inline_unfold.proofs.Monoid.{append_same}
use Rattle.mh_rules.specs.declared.joined.Prec.{Prec}
use Rattle.mh_rules.specs.declared.instances.Part.{Part}
use Rattle.mh_rules.specs.declared.instances.InstanceProduction.{InstanceProduction}
use Rattle.mh_rules.specs.declared.instances.Instance.{Instance}
use Rattle.mh_rules.specs.declared.instances.Expanded.{Expanded}
use Rattle.mh_rules.specs.Ready.{IsExpandedReady, IsInstanceReady}
use Rattle.mh_inline_unfold.specs.declared.unfolding.Unfolding.{Unfolding}
use Rattle.mh_inline_unfold.specs.Instances.{is_inlined}
use Rattle.mh_inline_unfold.specs.Unfoldings as unfoldings
use Rattle.mh_inline_unfold.specs.Unfoldings.{joined, with_own_prec, choices, UnfoldsPart, Unfolds, UnfoldsEach}
use Rattle.mh_inline_unfold.specs.code.Sizes.{longest, AreSmall}

inlined_at : (is : List Instance) (n : ℕ) (i : Instance) → slice_get is n ≡ Some i → i.inlined ≡ true → is_inlined is n ≡ false → ⊥
inlined_at is n i at e f = false≢true (sym (rw at at f) ∙ e)

choices_same : (us us' vs vs' : List Unfolding) → us ≡ us' → vs ≡ vs' → choices us vs ≡ choices us' vs'
choices_same us us' vs vs' e f = λ i. choices (e i) (f i)

module _ (is : List Instance) where
  mutual
    pub part_same : (X : Part) (us vs : List Unfolding) → UnfoldsPart is X us → UnfoldsPart is X vs → us ≡ vs
    part_same X us vs (unfoldings.UnfoldsPart.kept k) (unfoldings.UnfoldsPart.kept l) = refl
    part_same X us vs (unfoldings.UnfoldsPart.kept k) (unfoldings.UnfoldsPart.inlined {n = n} {i = i} at e r) = absurd (inlined_at is n i at e k)
    part_same X us vs (unfoldings.UnfoldsPart.inlined {n = n} {i = i} at e r) (unfoldings.UnfoldsPart.kept k) = absurd (inlined_at is n i at e k)
    part_same X us vs (unfoldings.UnfoldsPart.inlined {i = i} at e r) (unfoldings.UnfoldsPart.inlined {i = j} at' e' r') =
        let one : j ≡ i = same_Some j i (sym at' ∙ at) in
        let again : UnfoldsEach is i.productions vs = subst (λ (q : Instance). UnfoldsEach is q.productions vs) one r' in
        each_same i.productions us vs r again

    pub unfolds_same : (Xs : List Part) (us vs : List Unfolding) → Unfolds is Xs us → Unfolds is Xs vs → us ≡ vs
    unfolds_same Xs us vs unfoldings.Unfolds.none unfoldings.Unfolds.none = refl
    unfolds_same Xs us vs (unfoldings.Unfolds.more e p f) (unfoldings.Unfolds.more e' p' f') = e ∙ choices_same _ _ _ _ (part_same _ _ _ p p') (unfolds_same _ _ _ f f') ∙ sym e'

    pub each_same : (ps : List InstanceProduction) (us vs : List Unfolding) → UnfoldsEach is ps us → UnfoldsEach is ps vs → us ≡ vs
    each_same ps us vs unfoldings.UnfoldsEach.no_alternative unfoldings.UnfoldsEach.no_alternative = refl
    each_same ps us vs (unfoldings.UnfoldsEach.alternative {p = p} e f r) (unfoldings.UnfoldsEach.alternative e' f' r') = e ∙ append_same _ _ _ _ (ap (map (with_own_prec p.prec)) (unfolds_same _ _ _ f f')) (each_same _ _ _ r r') ∙ sym e'

-- LENGTHS

pub length-choices : (us vs : List Unfolding) → length (choices us vs) ≡ length us * length vs
length-choices [] vs = sym (zero-mul (length vs))
length-choices (u ∷ us) vs = length-append (map (joined u) vs) (choices us vs) ∙ (let e = length-map vs (joined u) in let f = length-choices us vs in grind arith)

pub longest-append : (us vs : List Unfolding) → longest (us ++ vs) ≡ max (longest us) (longest vs)
longest-append [] vs = omega arith
longest-append (u ∷ us) vs = let e = longest-append us vs in omega arith

pub longest-own : (p : Prec) (us : List Unfolding) → longest (map (with_own_prec p) us) ≡ longest us
longest-own p [] = refl
longest-own p (u ∷ us) = ap (max (length u.rhs)) (longest-own p us)

longest-joined : (u v : Unfolding) (vs : List Unfolding) → longest (map (joined u) (v ∷ vs)) ≡ length u.rhs + longest (v ∷ vs)
longest-joined u v [] = let e = length-append u.rhs v.rhs in omega arith
longest-joined u v (w ∷ vs) = let e = length-append u.rhs v.rhs in let f = longest-joined u w vs in omega arith

longest-joined_some : (u : Unfolding) (vs : List Unfolding) → 0 < length vs → longest (map (joined u) vs) ≡ length u.rhs + longest vs
longest-joined_some u [] l = absurd (omega arith)
longest-joined_some u (v ∷ vs) l = longest-joined u v vs

longest-choices_cons : (u : Unfolding) (us vs : List Unfolding) → 0 < length vs → longest (choices (u ∷ us) vs) ≡ longest (u ∷ us) + longest vs
longest-choices_cons u [] vs l =
    let e = longest-append (map (joined u) vs) [] in
    let f = longest-joined_some u vs l in
    omega arith
longest-choices_cons u (w ∷ us) vs l =
    let e = longest-append (map (joined u) vs) (choices (w ∷ us) vs) in
    let f = longest-joined_some u vs l in
    let g = longest-choices_cons w us vs l in
    omega arith

pub longest-choices : (us vs : List Unfolding) → 0 < length us → 0 < length vs → longest (choices us vs) ≡ longest us + longest vs
longest-choices [] vs k l = absurd (omega arith)
longest-choices (u ∷ us) vs k l = longest-choices_cons u us vs l

pub times_some : (a b : ℕ) → 0 < a → 0 < b → (a ≤ a * b) × (b ≤ a * b) × (0 < a * b)
times_some (suc a) (suc b) k l = (grind arith, grind arith, grind arith)
times_some zero b k l = absurd (omega arith)
times_some (suc a) zero k l = absurd (omega arith)

-- Each instance has an alternative.
pub record HaveAlternatives (is : List Instance) : Type 0 where
  pub some : (n : ℕ) (i : Instance) → slice_get is n ≡ Some i → 0 < length i.productions

module _ (is : List Instance) (h : HaveAlternatives is) where
  mutual
    pub some_part : (X : Part) (us : List Unfolding) → UnfoldsPart is X us → 0 < length us
    some_part X us (unfoldings.UnfoldsPart.kept k) = omega arith
    some_part X us (unfoldings.UnfoldsPart.inlined {n = n} {i = i} at e r) = let l = h.some n i at in let m = some_each i.productions us r in omega arith

    pub some_side : (Xs : List Part) (us : List Unfolding) → Unfolds is Xs us → 0 < length us
    some_side Xs us unfoldings.Unfolds.none = omega arith
    some_side Xs us (unfoldings.Unfolds.more {us = firsts} {vs = rests} e p f) =
        let len = ap length e ∙ length-choices firsts rests in
        let more = times_some (length firsts) (length rests) (some_part _ firsts p) (some_side _ rests f) in
        omega arith

    pub some_each : (ps : List InstanceProduction) (us : List Unfolding) → UnfoldsEach is ps us → length ps ≤ length us
    some_each ps us unfoldings.UnfoldsEach.no_alternative = omega arith
    some_each ps us (unfoldings.UnfoldsEach.alternative {p = p} {ps = rest} {us = firsts} {vs = rests} e f r) =
        let len = ap length e ∙ length-append (map (with_own_prec p.prec) firsts) rests in
        let same = length-map firsts (with_own_prec p.prec) in
        let one = some_side _ firsts f in
        let more = some_each rest rests r in
        omega arith

  small_choices : (us vs : List Unfolding) → 0 < length us → 0 < length vs → AreSmall (choices us vs) → AreSmall us × AreSmall vs
  small_choices us vs k l s =
      let len = length-choices us vs in
      let more = times_some (length us) (length vs) k l in
      let long = longest-choices us vs k l in
      let few = s.few in
      let short = s.short in
      (record { few = omega arith; short = omega arith }, record { few = omega arith; short = omega arith })

  -- If the unfoldings of a list are within the limits, then so are those of each of its elements: producers in a list,
  -- alternatives in a list.
  pub small_part : (Xs : List Part) (ws : List Unfolding) → Unfolds is Xs ws → AreSmall ws → (j : ℕ) (X : Part) (us : List Unfolding) → slice_get Xs j ≡ Some X → UnfoldsPart is X us → AreSmall us
  small_part Xs ws unfoldings.Unfolds.none s j X us at p = absurd (none-some X at)
  small_part Xs ws (unfoldings.Unfolds.more {X = Y} {us = firsts} {vs = rests} e q f) s zero X us at p =
      let both = small_choices firsts rests (some_part _ firsts q) (some_side _ rests f) (rw e at s) in
      let same : Y ≡ X = same_Some Y X at in
      let one : firsts ≡ us = part_same is X firsts us (rw same at q) p in
      rw one at both.0
  small_part Xs ws (unfoldings.Unfolds.more {us = firsts} {vs = rests} e q f) s (suc j) X us at p =
      let both = small_choices firsts rests (some_part _ firsts q) (some_side _ rests f) (rw e at s) in
      small_part _ rests f both.1 j X us at p

  pub small_alternative : (ps : List InstanceProduction) (ws : List Unfolding) → UnfoldsEach is ps ws → AreSmall ws → (k : ℕ) (p : InstanceProduction) → slice_get ps k ≡ Some p → (us : List Unfolding) × Unfolds is p.rhs us × AreSmall us
  small_alternative ps ws unfoldings.UnfoldsEach.no_alternative s k p at = absurd (none-some p at)
  small_alternative ps ws (unfoldings.UnfoldsEach.alternative {p = q} {us = firsts} {vs = rests} e f r) s zero p at =
      let len = ap length e ∙ length-append (map (with_own_prec q.prec) firsts) rests in
      let same = length-map firsts (with_own_prec q.prec) in
      let long = ap longest e ∙ longest-append (map (with_own_prec q.prec) firsts) rests in
      let long' = longest-own q.prec firsts in
      let few = s.few in
      let short = s.short in
      let one : q ≡ p = same_Some q p at in
      (firsts, subst (λ (x : InstanceProduction). Unfolds is x.rhs firsts) one f, record { few = omega arith; short = omega arith })
  small_alternative ps ws (unfoldings.UnfoldsEach.alternative {p = q} {us = firsts} {vs = rests} e f r) s (suc k) p at =
      let len = ap length e ∙ length-append (map (with_own_prec q.prec) firsts) rests in
      let long = ap longest e ∙ longest-append (map (with_own_prec q.prec) firsts) rests in
      let few = s.few in
      let short = s.short in
      small_alternative _ rests r (record { few = omega arith; short = omega arith }) k p at

-- The instances of an expansion that is in range have alternatives.
pub some_ready : (e : Expanded) → IsExpandedReady e → HaveAlternatives e.instances
some_ready e r = record { some = λ n i at. (subst (IsInstanceReady (length e.tokens) (length e.instances)) (get_or_from_slice_get e.instances n i i at) (r.instances_ready n i (slice_get_within e.instances n i at))).has_some }
