-- The unfoldings of the instances with the sources of levels: the unfoldings of the instances, each with the source of
-- its `%prec`.
use Rattle.std.proofs.Common.{◌≡◌, ℕ, false, List, [], ◌∷◌, ◌++◌, Option, None, Some, map, refl, sym, ap, subst, ◌∙◌}
use Rattle.std.specs.Prelude.{unwrap_or}
use Rattle.std.specs.List.{AllZip, Contains, slice_get}
use Rattle.std.specs.Option.{option_map}
use Rattle.std.proofs.lemmas.Option.{slice_get-map}
use Rattle.mh_grammar.specs.declared.types.Level.{Level}
use Rattle.mh_grammar.proofs.Lists.{contains_at, contains_here, contains_there, option_map_some}
use Rattle.mh_rules.specs.declared.joined.Prec.{Prec}
use Rattle.mh_rules.specs.declared.joined.Prec.TheVariants as precs
use Rattle.mh_rules.specs.declared.instances.Instance.{Instance}
use Rattle.mh_rules.specs.declared.instances.InstanceProduction.{InstanceProduction}
use Rattle.mh_rules.specs.declared.instances.Part.{Part}
use Rattle.mh_rules.specs.declared.instances.Part.TheVariants as parts
use Rattle.mh_inline_unfold.specs.Instances.{Inlines, IsAlternative, IsKept, Reaches, is_inlined}
use Rattle.mh_inline_unfold.specs.Instances as instances
use Rattle.mh_inline_unfold.specs.Unfoldings.{Unfolds, UnfoldsEach, UnfoldsPart, choices, empty_unfolding, joined, rightmost, unfolding_of_part, with_own_prec}
use Rattle.mh_inline_unfold.specs.Unfoldings as unfoldings
use Rattle.mh_inline_unfold.specs.declared.unfolding.Unfolding.{Unfolding}
use Rattle.mh_lint.specs.LevelSources.{prec_source, source_instance, source_prec, source_production}

-- ---- Pairs of elements at equal indices.

module _ {A B : Type 0} (R : A → B → Type 0) where
  pub zip_append : (xs : List A) (ys : List B) (us : List A) (vs : List B) → AllZip R xs ys → AllZip R us vs → AllZip R (xs ++ us) (ys ++ vs)
  zip_append [] [] us vs z w = w
  zip_append [] (y ∷ ys) us vs z w = absurd z
  zip_append (x ∷ xs) [] us vs z w = absurd z
  zip_append (x ∷ xs) (y ∷ ys) us vs z w = (z.0, zip_append xs ys us vs z.1 w)

module _ {A B C D : Type 0} (R : A → B → Type 0) (S : C → D → Type 0) (f : A → C) (g : B → D) (each : (x : A) (y : B) → R x y → S (f x) (g y)) where
  pub zip_map : (xs : List A) (ys : List B) → AllZip R xs ys → AllZip S (map f xs) (map g ys)
  zip_map [] [] z = tt
  zip_map [] (y ∷ ys) z = absurd z
  zip_map (x ∷ xs) [] z = absurd z
  zip_map (x ∷ xs) (y ∷ ys) z = (each x y z.0, zip_map xs ys z.1)

-- ---- Instances.

module _ (is : List Instance) where
  abbrev pub Sourced : List Instance
  Sourced = map source_instance is

  pub source_at : (n : ℕ) (i : Instance) → slice_get is n ≡ Some i → slice_get Sourced n ≡ Some (source_instance i)
  source_at n i e = slice_get-map source_instance is n ∙ ap (option_map source_instance) e

  pub inlined_same : (n : ℕ) → is_inlined Sourced n ≡ is_inlined is n
  inlined_same n = ap (λ o. unwrap_or (option_map (λ (i : Instance). i.inlined) o) false) (slice_get-map source_instance is n) ∙ go (slice_get is n)
    where
      go : (o : Option Instance) → unwrap_or (option_map (λ (i : Instance). i.inlined) (option_map source_instance o)) false ≡ unwrap_or (option_map (λ (i : Instance). i.inlined) o) false
      go None = refl
      go (Some i) = refl

  pub alternative_to : (n k : ℕ) (p : InstanceProduction) → IsAlternative is n k p → IsAlternative Sourced n k (source_production p)
  alternative_to n k p a = record {
    instance = source_instance a.instance;
    at = source_at n a.instance a.at;
    alternative = slice_get-map source_production (a.instance).productions k ∙ ap (option_map source_production) a.alternative;
  }

  pub alternative_from : (n k : ℕ) (q : InstanceProduction) → IsAlternative Sourced n k q → (p : InstanceProduction) × IsAlternative is n k p × (source_production p ≡ q)
  alternative_from n k q a =
      let one = option_map_some source_instance (slice_get is n) a.instance (sym (slice_get-map source_instance is n) ∙ a.at) in
      let at : slice_get (map source_production (one.0).productions) k ≡ Some q = ap (λ (i : Instance). slice_get i.productions k) one.2 ∙ a.alternative in
      let two = option_map_some source_production (slice_get (one.0).productions k) q (sym (slice_get-map source_production (one.0).productions k) ∙ at) in
      (two.0, record { instance = one.0; at = one.1; alternative = two.1 }, two.2)

  inlines_from : (n m : ℕ) → Inlines Sourced n m → Inlines is n m
  inlines_from n m h =
      let one = alternative_from n h.place h.production h.alternative in
      record {
        user_inlined = sym (inlined_same n) ∙ h.user_inlined;
        place = h.place;
        production = one.0;
        alternative = one.1;
        producer = h.producer;
        at = ap (λ (p : InstanceProduction). slice_get p.rhs h.producer) one.2 ∙ h.at;
        used_inlined = sym (inlined_same m) ∙ h.used_inlined;
      }

  pub reaches_from : (n m : ℕ) → Reaches Sourced n m → Reaches is n m
  reaches_from n m (instances.Reaches.one h) = instances.Reaches.one (inlines_from n m h)
  reaches_from n m (instances.Reaches.more {m = k} r h) = instances.Reaches.more (reaches_from n k r) (inlines_from k m h)

  kept_to : (X : Part) → IsKept is X → IsKept Sourced X
  kept_to (parts.Token a) k = k
  kept_to (parts.Instance n) k = inlined_same n ∙ k

-- ---- Sources of `%prec` and of unfoldings.

-- The production is an alternative of some instance.
abbrev pub IsProductionOf : List Instance → InstanceProduction → Type 0
IsProductionOf is q = (i : Instance) × Contains is i × Contains i.productions q

pub production_at : (is : List Instance) (n k : ℕ) (p : InstanceProduction) → IsAlternative is n k p → IsProductionOf is p
production_at is n k p a = (a.instance, contains_at is n a.instance a.at, contains_at (a.instance).productions k p a.alternative)

-- Both `%prec` are absent, or the second is the source of an alternative with the first.
pub data IsSourceOfPrec (is : List Instance) : Prec → Prec → Type 0 where
  absent : IsSourceOfPrec is precs.Absent precs.Absent
  given : (q : InstanceProduction) (level : Option Level) → IsProductionOf is q → q.prec ≡ precs.Given level → IsSourceOfPrec is (precs.Given level) (precs.Given (Some (prec_source q.file q.place)))

-- The second unfolding is the first with the source of its `%prec`.
pub record IsSourceOf (is : List Instance) (u v : Unfolding) : Type 0 where
  pub rhs : v.rhs ≡ u.rhs
  pub prec : IsSourceOfPrec is u.prec v.prec

module _ (is : List Instance) where
  pub own_source : (q : InstanceProduction) (prec : Prec) → IsProductionOf is q → q.prec ≡ prec → IsSourceOfPrec is prec (source_prec q.file q.place prec)
  own_source q precs.Absent o e = IsSourceOfPrec.absent
  own_source q (precs.Given level) o e = IsSourceOfPrec.given q level o e

  pub rightmost_source : (p q r s : Prec) → IsSourceOfPrec is p q → IsSourceOfPrec is r s → IsSourceOfPrec is (rightmost p r) (rightmost q s)
  rightmost_source p q r s a IsSourceOfPrec.absent = a
  rightmost_source p q r s a (IsSourceOfPrec.given alternative level o e) = IsSourceOfPrec.given alternative level o e

  joined_source : (u v x y : Unfolding) → IsSourceOf is u v → IsSourceOf is x y → IsSourceOf is (joined u x) (joined v y)
  joined_source u v x y a b = record { rhs = λ i. a.rhs i ++ b.rhs i; prec = rightmost_source u.prec v.prec x.prec y.prec a.prec b.prec }

  pub own_prec_source : (p q : Prec) (u v : Unfolding) → IsSourceOfPrec is p q → IsSourceOf is u v → IsSourceOf is (with_own_prec p u) (with_own_prec q v)
  own_prec_source p q u v a b = record { rhs = b.rhs; prec = rightmost_source u.prec v.prec p q b.prec a }

  choices_zip : (us vs xs ys : List Unfolding) → AllZip (IsSourceOf is) us vs → AllZip (IsSourceOf is) xs ys → AllZip (IsSourceOf is) (choices us xs) (choices vs ys)
  choices_zip [] [] xs ys z w = tt
  choices_zip [] (v ∷ vs) xs ys z w = absurd z
  choices_zip (u ∷ us) [] xs ys z w = absurd z
  choices_zip (u ∷ us) (v ∷ vs) xs ys z w = zip_append (IsSourceOf is) (map (joined u) xs) (map (joined v) ys) (choices us xs) (choices vs ys) (zip_map (IsSourceOf is) (IsSourceOf is) (joined u) (joined v) (λ x y b. joined_source u v x y z.0 b) xs ys w) (choices_zip us vs xs ys z.1 w)

  -- ---- The unfoldings of the instances with sources.

  mutual
    part_to : (X : Part) (us : List Unfolding) → UnfoldsPart is X us → (vs : List Unfolding) × UnfoldsPart (Sourced is) X vs × AllZip (IsSourceOf is) us vs
    part_to X us (unfoldings.UnfoldsPart.kept k) = (unfolding_of_part X ∷ [], unfoldings.UnfoldsPart.kept (kept_to is X k), (record { rhs = refl; prec = IsSourceOfPrec.absent }, tt))
    part_to X us (unfoldings.UnfoldsPart.inlined {n = n} {i = i} at flag each) =
        let one = each_to i.productions us (λ q c. (i, contains_at is n i at, c)) each in
        (one.0, unfoldings.UnfoldsPart.inlined {i = source_instance i} (source_at is n i at) flag one.1, one.2)

    pub parts_to : (Xs : List Part) (us : List Unfolding) → Unfolds is Xs us → (vs : List Unfolding) × Unfolds (Sourced is) Xs vs × AllZip (IsSourceOf is) us vs
    parts_to Xs us unfoldings.Unfolds.none = (empty_unfolding ∷ [], unfoldings.Unfolds.none, (record { rhs = refl; prec = IsSourceOfPrec.absent }, tt))
    parts_to Xs us (unfoldings.Unfolds.more {X = X} {Xs = Ys} {us = firsts} {vs = seconds} e p r) =
        let a = part_to X firsts p in
        let b = parts_to Ys seconds r in
        (choices a.0 b.0, unfoldings.Unfolds.more refl a.1 b.1, subst (λ ws. AllZip (IsSourceOf is) ws (choices a.0 b.0)) (sym e) (choices_zip firsts a.0 seconds b.0 a.2 b.2))

    each_to : (ps : List InstanceProduction) (us : List Unfolding) → ((q : InstanceProduction) → Contains ps q → IsProductionOf is q) → UnfoldsEach is ps us → (vs : List Unfolding) × UnfoldsEach (Sourced is) (map source_production ps) vs × AllZip (IsSourceOf is) us vs
    each_to ps us of unfoldings.UnfoldsEach.no_alternative = ([], unfoldings.UnfoldsEach.no_alternative, tt)
    each_to ps us of (unfoldings.UnfoldsEach.alternative {p = p} {ps = qs} {us = firsts} {vs = seconds} e f r) =
        let a = parts_to p.rhs firsts f in
        let b = each_to qs seconds (λ q c. of q (contains_there p qs q c)) r in
        let own = own_source p p.prec (of p (contains_here p qs)) refl in
        let had = map (with_own_prec p.prec) firsts in
        let made = map (with_own_prec (source_production p).prec) a.0 in
        let front : AllZip (IsSourceOf is) had made = zip_map (IsSourceOf is) (IsSourceOf is) (with_own_prec p.prec) (with_own_prec (source_production p).prec) (λ u v s. own_prec_source p.prec (source_production p).prec u v own s) firsts a.0 a.2 in
        (made ++ b.0, unfoldings.UnfoldsEach.alternative refl a.1 b.1, subst (λ ws. AllZip (IsSourceOf is) ws (made ++ b.0)) (sym e) (zip_append (IsSourceOf is) had made seconds b.0 front b.2))
