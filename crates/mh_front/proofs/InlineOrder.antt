-- Lists the origins of all productions in their order.
use Rattle.std.proofs.Common.{◌≡◌, ℕ, zero, suc, ◌+◌, ◌<◌, ◌≤◌, ◌⊎◌, ◌↔◌, inl, inr, Bool, true, false, List, [], ◌∷◌, Some, length, refl, sym, ap, subst, ◌∙◌, arith}
use Rattle.std.specs.List.{slice_get, Contains}
use Rattle.std.proofs.lemmas.Bool.{cases_lt, cases_eq}
use Rattle.std.proofs.lemmas.Option.{same_Some, slice_get_within}
use Rattle.mh_grammar.specs.Edges.{IsRising}
use Rattle.mh_grammar.proofs.Lists.{contains_here, contains_there, contains_cases, contains_none, recursion-from, recursion-weaker, recursion_contains, get_within}
use Rattle.mh_rules.specs.declared.instances.InstanceProduction.{InstanceProduction}
use Rattle.mh_rules.specs.declared.instances.Instance.{Instance}
use Rattle.mh_inline.specs.declared.origins.Origin.{Origin}
use Rattle.mh_inline_unfold.specs.Instances.{is_inlined}
use Rattle.mh_inline_unfold.specs.FileRanks.{rank_of}
use Rattle.mh_inline.specs.Kept.{IsOrigin, IsOriginBefore, AreOrigins}
use Rattle.mh_inline.specs.code.NumbersAndOrigins.{IsOriginBelow, AreOriginsBelow}
use Rattle.mh_inline.proofs.OriginOrder.{AreOriginsBelow-none, AreOriginsBelow-instance, AreOriginsBelow-inline, AreOrigins-all}

three : (a b : ℕ) → (a < b) ⊎ ((a ≡ b) ⊎ (b < a))
three a b = elim (cases_lt a b) [ inl l ↦ inl l | inr m ↦ elim (cases_eq a b) [ inl e ↦ inr (inl e) | inr d ↦ inr (inr (omega (arith, d))) ] ]

origin_same : (x y : Origin) → x.rank ≡ y.rank → x.place ≡ y.place → x.instance ≡ y.instance → x.alternative ≡ y.alternative → x ≡ y
origin_same x y e f g h = λ i. record { rank = e i; place = f i; instance = g i; alternative = h i }

before_or : (s t : Origin) → IsOriginBefore s t ⊎ ((s ≡ t) ⊎ IsOriginBefore t s)
before_or s t = elim (three s.rank t.rank) [
  | inl l ↦ inl (inl l)
  | inr r ↦ elim r [
    | inr g ↦ inr (inr (inl g))
    | inl e ↦ elim (three s.place t.place) [
      | inl l ↦ inl (inr (e, inl l))
      | inr r ↦ elim r [
        | inr g ↦ inr (inr (inr (sym e, inl g)))
        | inl f ↦ elim (three s.instance t.instance) [
          | inl l ↦ inl (inr (e, inr (f, inl l)))
          | inr r ↦ elim r [
            | inr g ↦ inr (inr (inr (sym e, inr (sym f, inl g))))
            | inl h ↦ elim (three s.alternative t.alternative) [
              | inl l ↦ inl (inr (e, inr (f, inr (h, l))))
              | inr r ↦ elim r [
                | inr g ↦ inr (inr (inr (sym e, inr (sym f, inr (sym h, g)))))
                | inl k ↦ inr (inl (origin_same s t e f h k))
              ]
            ]
          ]
        ]
      ]
    ]
  ]
]

lex_trans : (x y z : ℕ) (P Q R : Type 0) → (P → Q → R) → (x < y) ⊎ ((x ≡ y) × P) → (y < z) ⊎ ((y ≡ z) × Q) → (x < z) ⊎ ((x ≡ z) × R)
lex_trans x y z P Q R h (inl l) (inl m) = inl (omega arith)
lex_trans x y z P Q R h (inl l) (inr m) = inl (omega (arith, l, m.0))
lex_trans x y z P Q R h (inr l) (inl m) = inl (omega (arith, l.0, m))
lex_trans x y z P Q R h (inr l) (inr m) = inr (l.0 ∙ m.0, h l.1 m.1)

before_trans : (a b c : Origin) → IsOriginBefore a b → IsOriginBefore b c → IsOriginBefore a c
before_trans a b c = lex_trans a.rank b.rank c.rank _ _ _ (lex_trans a.place b.place c.place _ _ _ (lex_trans a.instance b.instance c.instance _ _ _ (λ l m. omega (arith, l, m))))

record Inserted (x : Origin) (xs : List Origin) : Type 0 where
  all : List Origin
  rising : IsRising IsOriginBefore all
  exact : (z : Origin) → Contains all z ↔ ((x ≡ z) ⊎ Contains xs z)

insert : (x : Origin) (xs : List Origin) → IsRising IsOriginBefore xs → Inserted x xs
insert x [] r = record {
  all = x ∷ [];
  rising = (tt, tt);
  exact = λ z. (contains_cases x [] z, λ d. elim d [ inl e ↦ subst (λ (y : Origin). Contains (x ∷ []) y) e (contains_here x []) | inr c ↦ absurd (contains_none z c) ]);
}
insert x (y ∷ ys) r = by (before_or x y) (insert x ys r.1)
  where
    by : IsOriginBefore x y ⊎ ((x ≡ y) ⊎ IsOriginBefore y x) → Inserted x ys → Inserted x (y ∷ ys)
    by (inl l) rest = record {
      all = x ∷ y ∷ ys;
      rising = ((l, recursion-weaker (IsOriginBefore y) (IsOriginBefore x) (λ z h. before_trans x y z l h) ys r.0), r);
      exact = λ z. (contains_cases x (y ∷ ys) z, λ d. elim d [ inl e ↦ subst (λ (w : Origin). Contains (x ∷ y ∷ ys) w) e (contains_here x (y ∷ ys)) | inr c ↦ contains_there x (y ∷ ys) z c ]);
    }
    by (inr (inl same)) rest = record {
      all = y ∷ ys;
      rising = r;
      exact = λ z. ((λ c. inr c), λ d. elim d [ inl e ↦ subst (λ (w : Origin). Contains (y ∷ ys) w) (sym same ∙ e) (contains_here y ys) | inr c ↦ c ]);
    }
    by (inr (inr g)) rest = record {
      all = y ∷ rest.all;
      rising = (recursion-from (IsOriginBefore y) rest.all (λ z c. elim ((rest.exact z).0 c) [ inl e ↦ subst (IsOriginBefore y) e g | inr d ↦ recursion_contains (IsOriginBefore y) ys r.0 z d ]), rest.rising);
      exact = λ z. (
        (λ c. elim (contains_cases y rest.all z c) [ inl e ↦ inr (subst (λ (w : Origin). Contains (y ∷ ys) w) e (contains_here y ys)) | inr d ↦ elim ((rest.exact z).0 d) [ inl e ↦ inl e | inr f ↦ inr (contains_there y ys z f) ] ]),
        (λ d. elim d [ inl e ↦ contains_there y rest.all z ((rest.exact z).1 (inl e)) | inr c ↦ elim (contains_cases y ys z c) [ inl e ↦ subst (λ (w : Origin). Contains (y ∷ rest.all) w) e (contains_here y rest.all) | inr f ↦ contains_there y rest.all z ((rest.exact z).1 (inr f)) ] ]),
      );
    }

module _ (is : List Instance) where
  module _ (n : ℕ) (i : Instance) (at : slice_get is n ≡ Some i) (kept : is_inlined is n ≡ false) where
    abbrev origin : ℕ → InstanceProduction → Origin
    origin k p = record { rank = rank_of p.file; place = p.place; instance = n; alternative = k }

    one : (k : ℕ) (p : InstanceProduction) → slice_get i.productions k ≡ Some p → (s : Origin) → IsOrigin is s → s.instance ≡ n → s.alternative ≡ k → origin k p ≡ s
    one k p here s q e f =
        let same_instance : q.alternative.instance ≡ i = same_Some _ _ (sym q.alternative.at ∙ ap (slice_get is) e ∙ at) in
        let there : slice_get i.productions k ≡ Some q.production = ap (λ (j : Instance). slice_get j.productions k) (sym same_instance) ∙ ap (slice_get q.alternative.instance.productions) (sym f) ∙ q.alternative.alternative in
        let same_production : p ≡ q.production = same_Some _ _ (sym here ∙ there) in
        origin_same (origin k p) s (ap (λ (r : InstanceProduction). rank_of r.file) same_production ∙ sym q.rank) (ap (λ (r : InstanceProduction). r.place) same_production ∙ sym q.place) (sym e) (sym f)

    more : (k : ℕ) (p : InstanceProduction) → slice_get i.productions k ≡ Some p → (old : List Origin) → AreOriginsBelow is n k old → (new : List Origin) × AreOriginsBelow is n (k + 1) new
    more k p here old h =
        let made = insert (origin k p) old h.rising in (
          made.all,
          record {
            rising = made.rising;
            exact = λ s. (
              (λ c. elim ((made.exact s).0 c) [
                | inl same ↦ subst (λ (y : Origin). IsOrigin is y × IsOriginBelow n (k + 1) y) same (record { kept = kept; production = p; alternative = record { instance = i; at = at; alternative = here }; rank = refl; place = refl }, inr (refl, omega arith))
                | inr d ↦ (let b = (h.exact s).0 d in (b.0, (elim b.1 [ inl l ↦ inl l | inr r ↦ inr (r.0, (let l = r.1 in omega arith)) ])))
              ]),
              (λ b. (made.exact s).1 (elim b.1 [
                | inl l ↦ inr ((h.exact s).1 (b.0, inl l))
                | inr r ↦ elim (cases_eq s.alternative k) [
                  | inl same ↦ inl (one k p here s b.0 r.0 same)
                  | inr other ↦ inr ((h.exact s).1 (b.0, inr (r.0, (let l = r.1 in omega (arith, l, other)))))
                ]
              ])),
            );
          },
        )

    adds : (m k : ℕ) → k + m ≡ length i.productions → (old : List Origin) → AreOriginsBelow is n k old → (new : List Origin) × AreOriginsBelow is (n + 1) 0 new
    adds zero k e old h = (old, AreOriginsBelow-instance is n k i old at (omega (arith, e)) h)
    adds (suc m) k e old h =
        let p = get_within i.productions k (omega (arith, e)) in
        let made = more k p.0 p.1 old h in
        adds m (k + 1) (omega (arith, e)) made.0 made.1

  from : (m n : ℕ) → n + m ≡ length is → (old : List Origin) → AreOriginsBelow is n 0 old → (all : List Origin) × AreOrigins is all
  from zero n e old h = (old, AreOrigins-all is n old (omega (arith, e)) h)
  from (suc m) n e old h =
      let i = get_within is n (omega (arith, e)) in
      let made = next (is_inlined is n) refl i.0 i.1 in
      from m (n + 1) (omega (arith, e)) made.0 made.1
    where
      next : (b : Bool) → is_inlined is n ≡ b → (i : Instance) → slice_get is n ≡ Some i → (new : List Origin) × AreOriginsBelow is (n + 1) 0 new
      next true inline i at = (old, AreOriginsBelow-inline is n old inline h)
      next false kept i at = adds n i at kept (length i.productions) 0 (omega arith) old h

  pub origins : (all : List Origin) × AreOrigins is all
  origins = from (length is) 0 (omega arith) [] (AreOriginsBelow-none is)
