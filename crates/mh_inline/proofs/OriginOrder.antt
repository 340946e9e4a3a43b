-- Lemmas on the order of origins and on their insertion into a sorted set.
use Rattle.std.proofs.Common.{◌≡◌, ℕ, ◌+◌, ◌<◌, ◌≤◌, ◌⊎◌, true, false, List, [], Some, length, refl, sym, ap, ◌∙◌, arith, inl, inr, subst}
use Rattle.std.specs.List.{slice_get}
use Rattle.std.specs.declared.cmp.Ordering.{Ordering}
use Rattle.std.specs.declared.cmp.Ordering.TheVariants.{Less, Equal, Greater}
use Rattle.std.specs.Ordering.{nat_cmp, ordering_then}
use Rattle.std.specs.BTreeSet.{BTreeSet, IsOrdered, insert_key}
use Rattle.std.proofs.lemmas.Bool.{false≢true, cases_eq}
use Rattle.std.proofs.lemmas.Bool.Decides.{nat_tests}
use Rattle.std.proofs.lemmas.Option.{same_Some, slice_get_within}
use Rattle.mh_grammar.specs.Edges.{IsRising}
use Rattle.mh_grammar.proofs.Lists as lists
use Rattle.mh_grammar.proofs.Lists.{contains_none, inserted_contains}
use Rattle.mh_rules.specs.declared.instances.InstanceProduction.{InstanceProduction}
use Rattle.mh_rules.specs.declared.instances.Instance.{Instance}
use Rattle.mh_inline.specs.declared.origins.Origin.{Origin}
use Rattle.mh_inline.specs.contracts.origins.OriginOrd.TheImpl as order
use Rattle.mh_inline_unfold.specs.Instances.{is_inlined}
use Rattle.mh_inline_unfold.specs.FileRanks.{rank_of}
use Rattle.mh_inline.specs.Kept.{IsOrigin, IsOriginBefore, AreOrigins}
use Rattle.mh_inline.specs.code.NumbersAndOrigins.{IsOriginBelow, AreOriginsBelow}

less : (a b : ℕ) → nat_cmp a b ≡ Less → a < b
less a b e = grind (arith, nat_tests)

equal : (a b : ℕ) → nat_cmp a b ≡ Equal → a ≡ b
equal a b e = grind (arith, nat_tests)

then_less : (o p : Ordering) → ordering_then o p ≡ Less → (o ≡ Less) ⊎ ((o ≡ Equal) × (p ≡ Less))
then_less Less p e = inl refl
then_less Equal p e = inr (refl, e)
then_less Greater p e = let u : Greater ≡ Less = e in cc

then_equal : (o p : Ordering) → ordering_then o p ≡ Equal → (o ≡ Equal) × (p ≡ Equal)
then_equal Less p e = let u : Less ≡ Equal = e in cc
then_equal Equal p e = (refl, e)
then_equal Greater p e = let u : Greater ≡ Equal = e in cc

origin_same : (x y : Origin) → x.rank ≡ y.rank → x.place ≡ y.place → x.instance ≡ y.instance → x.alternative ≡ y.alternative → x ≡ y
origin_same x y e f g h = λ i. record { rank = e i; place = f i; instance = g i; alternative = h i }

compared : Origin → Origin → Ordering
compared x y = ordering_then (nat_cmp x.rank y.rank) (ordering_then (nat_cmp x.place y.place) (ordering_then (nat_cmp x.instance y.instance) (nat_cmp x.alternative y.alternative)))

origin_less : (x y : Origin) → order.cmp-value.it x y ≡ Less → IsOriginBefore x y
unfolding compared
origin_less x y e =
    let z : compared x y ≡ Less = e in
    elim (then_less (nat_cmp x.rank y.rank) _ z) [
      | inl l ↦ inl (less x.rank y.rank l)
      | inr r ↦ inr (
        equal x.rank y.rank r.0,
        (elim (then_less (nat_cmp x.place y.place) _ r.1) [
          | inl l ↦ inl (less x.place y.place l)
          | inr s ↦ inr (
            equal x.place y.place s.0,
            (elim (then_less (nat_cmp x.instance y.instance) _ s.1) [
              | inl l ↦ inl (less x.instance y.instance l)
              | inr t ↦ inr (equal x.instance y.instance t.0, less x.alternative y.alternative t.1)
            ]),
          )
        ]),
      )
    ]

origin_equal : (x y : Origin) → order.cmp-value.it x y ≡ Equal → x ≡ y
unfolding compared
origin_equal x y e =
    let z : compared x y ≡ Equal = e in
    let r = then_equal (nat_cmp x.rank y.rank) _ z in
    let s = then_equal (nat_cmp x.place y.place) _ r.1 in
    let t = then_equal (nat_cmp x.instance y.instance) _ s.1 in
    origin_same x y (equal x.rank y.rank r.0) (equal x.place y.place s.0) (equal x.instance y.instance t.0) (equal x.alternative y.alternative t.1)

-- The origins in a sorted set are in rising order.
pub rising_keys : (s : BTreeSet Origin) → IsOrdered order.cmp-value.it s → IsRising IsOriginBefore s.keys
rising_keys s o = lists.rising_keys order.cmp-value.it IsOriginBefore origin_less s o

pub AreOriginsBelow-none : (is : List Instance) → AreOriginsBelow is 0 0 []
AreOriginsBelow-none is = record { rising = tt; exact = λ s. ((λ c. absurd (contains_none s c)), (λ b. elim b.1 [ inl l ↦ absurd (omega arith) | inr r ↦ absurd (let l = r.1 in omega arith) ])) }

-- If the origin of the next alternative is inserted, the list has the origins up to this alternative, in order.
pub AreOriginsBelow-more : (is : List Instance) (n k : ℕ) (i : Instance) (p : InstanceProduction) (old new : List Origin) (x : Origin) → slice_get is n ≡ Some i → is_inlined is n ≡ false → slice_get i.productions k ≡ Some p → x ≡ record { rank = rank_of p.file; place = p.place; instance = n; alternative = k } → IsRising IsOriginBefore new → new ≡ insert_key order.cmp-value.it old x → AreOriginsBelow is n k old → AreOriginsBelow is n (k + 1) new
AreOriginsBelow-more is n k i p old new x at kept here is_x rising e h = record {
  rising = rising;
  exact = λ s. (
    (λ c. elim ((inserted_contains order.cmp-value.it origin_equal old x s).0 (rw e at c)) [
      | inl same ↦ subst (λ y. IsOrigin is y × IsOriginBelow n (k + 1) y) (sym is_x ∙ same) (record { kept = kept; production = p; alternative = record { instance = i; at = at; alternative = here }; rank = refl; place = refl }, inr (refl, omega arith))
      | inr d ↦ (let b = (h.exact s).0 d in (b.0, (elim b.1 [ inl l ↦ inl l | inr r ↦ inr (r.0, (let l = r.1 in omega arith)) ])))
    ]),
    (λ b. rw e ((inserted_contains order.cmp-value.it origin_equal old x s).1 (elim b.1 [
      | inl l ↦ inr ((h.exact s).1 (b.0, inl l))
      | inr r ↦ elim (cases_eq s.alternative k) [
        | inl same ↦ inl (is_x ∙ one s b.0 r.0 same)
        | inr other ↦ inr ((h.exact s).1 (b.0, inr (r.0, (let l = r.1 in omega arith))))
      ]
    ]))),
  );
}
  where
    one : (s : Origin) → IsOrigin is s → s.instance ≡ n → s.alternative ≡ k → ◌≡◌ {A = Origin} (record { rank = rank_of p.file; place = p.place; instance = n; alternative = k }) s
    one s q e f =
        let same_instance : q.alternative.instance ≡ i = same_Some _ _ (sym q.alternative.at ∙ ap (slice_get is) e ∙ at) in
        let there : slice_get i.productions k ≡ Some q.production = ap (λ (j : Instance). slice_get j.productions k) (sym same_instance) ∙ ap (slice_get q.alternative.instance.productions) (sym f) ∙ q.alternative.alternative in
        let same_production : p ≡ q.production = same_Some _ _ (sym here ∙ there) in
        origin_same _ s (ap (λ (r : InstanceProduction). rank_of r.file) same_production ∙ sym q.rank) (ap (λ (r : InstanceProduction). r.place) same_production ∙ sym q.place) (sym e) (sym f)

-- If the list has the origins up to the last alternative of instance n, the list has those of all instances below n +
-- 1.
pub AreOriginsBelow-instance : (is : List Instance) (n k : ℕ) (i : Instance) (xs : List Origin) → slice_get is n ≡ Some i → length i.productions ≤ k → AreOriginsBelow is n k xs → AreOriginsBelow is (n + 1) 0 xs
AreOriginsBelow-instance is n k i xs at all h = record {
  rising = h.rising;
  exact = λ s. (
    (λ c. let b = (h.exact s).0 c in (b.0, inl (elim b.1 [ inl l ↦ omega arith | inr r ↦ (let e = r.0 in omega arith) ]))),
    (λ b. (h.exact s).1 (
      b.0,
      (elim b.1 [
        | inl l ↦ elim (cases_eq s.instance n) [
          | inl same ↦ inr (
            same,
            (let q = b.0.alternative in
                let one : q.instance ≡ i = same_Some _ _ (sym q.at ∙ ap (slice_get is) same ∙ at) in
                let w = slice_get_within q.instance.productions s.alternative b.0.production q.alternative in
                let len = ap (λ (j : Instance). length j.productions) one in
                omega arith),
          )
          | inr other ↦ inl (omega arith)
        ]
        | inr r ↦ absurd (let l = r.1 in omega arith)
      ]),
    )),
  );
}

-- An inline instance adds no origin.
pub AreOriginsBelow-inline : (is : List Instance) (n : ℕ) (xs : List Origin) → is_inlined is n ≡ true → AreOriginsBelow is n 0 xs → AreOriginsBelow is (n + 1) 0 xs
AreOriginsBelow-inline is n xs inline h = record {
  rising = h.rising;
  exact = λ s. (
    (λ c. let b = (h.exact s).0 c in (b.0, inl (elim b.1 [ inl l ↦ omega arith | inr r ↦ absurd (let l = r.1 in omega arith) ]))),
    (λ b. (h.exact s).1 (
      b.0,
      (elim b.1 [
        | inl l ↦ elim (cases_eq s.instance n) [
          | inl same ↦ absurd (false≢true (sym b.0.kept ∙ ap (is_inlined is) same ∙ inline))
          | inr other ↦ inl (omega arith)
        ]
        | inr r ↦ absurd (let l = r.1 in omega arith)
      ]),
    )),
  );
}

pub AreOrigins-all : (is : List Instance) (n : ℕ) (xs : List Origin) → length is ≤ n → AreOriginsBelow is n 0 xs → AreOrigins is xs
AreOrigins-all is n xs all h = record {
  rising = h.rising;
  exact = λ s. (
    (λ c. ((h.exact s).0 c).0),
    (λ b. (h.exact s).1 (b, inl (let w = slice_get_within is s.instance b.alternative.instance b.alternative.at in omega arith))),
  );
}
