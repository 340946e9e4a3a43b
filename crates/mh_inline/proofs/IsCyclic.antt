-- Lemmas on inline instances that reach themselves: the search finds them, and they have no unfoldings.
use Rattle.std.proofs.Common.{◌≡◌, ℕ, zero, suc, ◌+◌, ◌<◌, ◌≤◌, ◌⊎◌, Bool, true, false, List, [], ◌∷◌, ◌++◌, Option, Some, None, length, get_or, refl, sym, ap, ◌∙◌, arith, inl, inr, subst, is_some}
use Rattle.std.specs.List.{slice_get, All, Contains}
use Rattle.std.proofs.lemmas.Bool.{false≢true, cases_eq}
use Rattle.std.proofs.lemmas.Option.{none-some, same_Some, slice_get_within, slice_get-get_or}
use Rattle.std.proofs.lemmas.List.{length_push, get_or_default}
use Rattle.std.proofs.lemmas.List.Elements.{All-push, All-contains, Contains-push, Contains-append_left}
use Rattle.mh_grammar.specs.Numbering.{AreDistinct}
use Rattle.mh_grammar.proofs.Pigeonhole.{length-distinct_in}
use Rattle.mh_grammar.proofs.NumberingInvariant.{AreDistinct-push, contains_at, at_contains}
use Rattle.mh_rules.specs.declared.instances.Part.{Part}
use Rattle.mh_rules.specs.declared.instances.Part.TheVariants.{Instance as Applied}
use Rattle.mh_rules.specs.declared.instances.InstanceProduction.{InstanceProduction}
use Rattle.mh_rules.specs.declared.instances.Instance.{Instance}
use Rattle.mh_inline.specs.declared.cycles.FoundInstances.{FoundInstances}
use Rattle.mh_inline_unfold.specs.declared.unfolding.Unfolding.{Unfolding}
use Rattle.mh_inline_unfold.specs.declared.sizes.Size.{Size}
use Rattle.mh_inline_unfold.specs.Instances.{is_inlined, Inlines, Reaches}
use Rattle.mh_inline_unfold.specs.Instances as instances
use Rattle.mh_inline_unfold.specs.Unfoldings as unfoldings
use Rattle.mh_inline_unfold.specs.Unfoldings.{UnfoldsPart, Unfolds, UnfoldsEach}
use Rattle.mh_inline_unfold.specs.code.Sizes.{IsSizeFixedPoint, AreSizes, AreAllSized}
use Rattle.mh_inline_unfold.specs.code.UsedInstances.{UsesInline}
use Rattle.mh_inline.specs.code.FoundInstances.{AddsFound, IsFoundTable}
use Rattle.mh_inline_unfold.proofs.InlineProducers.{inline_instance}
use Rattle.mh_inline.proofs.AddsFound.{kept_contains}

-- The numbers below n.
pub numbers_below : ℕ → List ℕ
numbers_below zero = []
numbers_below (suc n) = numbers_below n ++ n ∷ []

pub length-numbers : (n : ℕ) → length (numbers_below n) ≡ n
unfolding numbers_below
length-numbers zero = refl
length-numbers (suc n) = length_push (numbers_below n) n ∙ (let e = length-numbers n in omega arith)

pub numbers_at : (n r : ℕ) → r < n → Contains (numbers_below n) r
unfolding numbers_below
numbers_at zero r l = absurd (omega arith)
numbers_at (suc n) r l = elim (cases_eq r n) [
  | inl same ↦ rw same (Contains-push (numbers_below n) n)
  | inr other ↦ Contains-append_left (numbers_below n) (n ∷ []) r (numbers_at n r (omega arith))
]

module _ (is : List Instance) where
  pub reaches_user : (n m : ℕ) → Reaches is n m → is_inlined is n ≡ true
  reaches_user n m (instances.Reaches.one i) = i.user_inlined
  reaches_user n m (instances.Reaches.more r i) = reaches_user n _ r

  pub reaches_used : (n m : ℕ) → Reaches is n m → is_inlined is m ≡ true
  reaches_used n m (instances.Reaches.one i) = i.used_inlined
  reaches_used n m (instances.Reaches.more r i) = i.used_inlined

  -- The first step of a path.
  record FirstStep (n m : ℕ) : Type 0 where
    next : ℕ
    inlines : Inlines is n next
    rest : (next ≡ m) ⊎ Reaches is next m

  first_step : (n m : ℕ) → Reaches is n m → FirstStep n m
  first_step n m (instances.Reaches.one i) = record { next = m; inlines = i; rest = inl refl }
  first_step n m (instances.Reaches.more {m = k} r i) = let f = first_step n k r in record {
    next = f.next;
    inlines = f.inlines;
    rest = elim f.rest [
      | inl e ↦ inr (instances.Reaches.one (subst (λ x. Inlines is x m) (sym e) i))
      | inr s ↦ inr (instances.Reaches.more s i)
    ];
  }

  -- An instance that reaches itself uses an instance that reaches itself.
  cyclic_next : (n : ℕ) → Reaches is n n → (c : ℕ) × Inlines is n c × Reaches is c c
  cyclic_next n r = let f = first_step n n r in (
    f.next,
    f.inlines,
    elim f.rest [
      | inl e ↦ subst (λ x. Reaches is x x) (sym e) r
      | inr s ↦ instances.Reaches.more s f.inlines
    ],
  )

  mutual
    pub acyclic_part : (X : Part) (us : List Unfolding) → UnfoldsPart is X us → (m : ℕ) → X ≡ Applied m → Reaches is m m → ⊥
    acyclic_part X us (unfoldings.UnfoldsPart.kept k) m e r = go X k e
      where
        go : (Y : Part) → instances.IsKept is Y → Y ≡ Applied m → ⊥
        go Y l f = let kept = subst (instances.IsKept is) f l in false≢true (sym kept ∙ reaches_user m m r)
    acyclic_part X us (unfoldings.UnfoldsPart.inlined {n = n} {i = i} at inline t) m e r =
        let one : n ≡ m = cc in
        let c = cyclic_next m r in
        let there : slice_get is m ≡ Some i = rw (← one) at in
        let same : c.1.alternative.instance ≡ i = same_Some _ _ (sym c.1.alternative.at ∙ there) in
        let place : slice_get i.productions c.1.place ≡ Some c.1.production = ap (λ (x : Instance). slice_get x.productions c.1.place) (sym same) ∙ c.1.alternative.alternative in
        acyclic_each i.productions us t c.1.place c.1.production place c.1.producer c.0 c.1.at c.2

    pub acyclic_side : (Xs : List Part) (us : List Unfolding) → Unfolds is Xs us → (j m : ℕ) → slice_get Xs j ≡ Some (Applied m) → Reaches is m m → ⊥
    acyclic_side Xs us unfoldings.Unfolds.none j m at r = none-some (Applied m) at
    acyclic_side Xs us (unfoldings.Unfolds.more {X = X} e p f) zero m at r = acyclic_part X _ p m (same_Some X (Applied m) at) r
    acyclic_side Xs us (unfoldings.Unfolds.more e p f) (suc j) m at r = acyclic_side _ _ f j m at r

    pub acyclic_each : (ps : List InstanceProduction) (us : List Unfolding) → UnfoldsEach is ps us → (k : ℕ) (p : InstanceProduction) → slice_get ps k ≡ Some p → (j m : ℕ) → slice_get p.rhs j ≡ Some (Applied m) → Reaches is m m → ⊥
    acyclic_each ps us unfoldings.UnfoldsEach.no_alternative k p here j m at r = none-some p here
    acyclic_each ps us (unfoldings.UnfoldsEach.alternative {p = q} e f t) zero p here j m at r = acyclic_side q.rhs _ f j m (ap (λ (x : InstanceProduction). slice_get x.rhs j) (same_Some q p here) ∙ at) r
    acyclic_each ps us (unfoldings.UnfoldsEach.alternative e f t) (suc k) p here j m at r = acyclic_each _ _ t k p here j m at r

  -- An instance that is not inline, or that has a size, does not reach itself.
  pub acyclic_kept : (n : ℕ) → is_inlined is n ≡ false → Reaches is n n → ⊥
  acyclic_kept n e r = false≢true (sym e ∙ reaches_user n n r)

  pub acyclic_sized : (sizes : List (Option Size)) (n : ℕ) (o : Option Size) → AreSizes is sizes → slice_get sizes n ≡ Some o → is_some o ≡ true → Reaches is n n → ⊥
  acyclic_sized sizes n None a at e r = false≢true e
  acyclic_sized sizes n (Some z) a at e r = let s = a.sound n z at in acyclic_part (Applied n) s.unfoldings s.unfolds n refl r

  -- The invariant of the search from instance n after the first `done` elements of the queue.
  pub record Searched (n : ℕ) (f : FoundInstances) (done : ℕ) : Type 0 where
    pub table : IsFoundTable is f
    pub within : done ≤ length f.queue.items
    pub sound : (m : ℕ) → Contains f.queue.items m → Reaches is n m
    pub start : (m : ℕ) → Inlines is n m → Contains f.queue.items m
    pub steps : (i m k : ℕ) → i < done → slice_get f.queue.items i ≡ Some m → Inlines is m k → Contains f.queue.items k

  made_inlines : (n m : ℕ) → is_inlined is n ≡ true → UsesInline is n m → Inlines is n m
  made_inlines n m u x = record { user_inlined = u; place = x.place; production = x.production; alternative = x.alternative; producer = x.among.producer; at = x.among.at; used_inlined = x.among.used }

  inlines_made : (n m : ℕ) → Inlines is n m → UsesInline is n m
  inlines_made n m x = record { place = x.place; production = x.production; alternative = x.alternative; among = record { producer = x.producer; at = x.at; used = x.used_inlined } }

  pub Searched-start : (n : ℕ) (empty f : FoundInstances) → is_inlined is n ≡ true → IsFoundTable is empty → empty.queue.items ≡ [] → AddsFound (UsesInline is n) empty f → Searched n f 0
  Searched-start n empty f u t none a = record {
    table = record { len = a.len ∙ t.len; sets = a.sets };
    within = omega arith;
    sound = λ m c. elim (a.origin m c) [
      | inl d ↦ absurd (let l = d.1 in let e = ap length none in omega arith)
      | inr x ↦ instances.Reaches.one (made_inlines n m u x)
    ];
    start = λ m i. a.added m (inlines_made n m i);
    steps = λ i m k l e x. absurd (omega arith);
  }

  pub Searched-step : (n : ℕ) (f g : FoundInstances) (done next : ℕ) → Searched n f done → done < length f.queue.items → slice_get f.queue.items done ≡ Some next → AddsFound (UsesInline is next) f g → Searched n g (done + 1)
  Searched-step n f g done next s l at a =
      let reached = s.sound next (contains_at f.queue.items done next at) in
      let here = slice_get_within g.queue.items done next (a.kept done next at) in
      record {
        table = record { len = a.len ∙ s.table.len; sets = a.sets };
        within = omega arith;
        sound = λ m c. elim (a.origin m c) [
          | inl d ↦ s.sound m d
          | inr x ↦ instances.Reaches.more reached (made_inlines next m (reaches_used n next reached) x)
        ];
        start = λ m i. kept_contains f g a.kept m (s.start m i);
        steps = λ i m k below e x. elim (cases_eq i done) [
          | inl same ↦ (let one : m ≡ next = same_Some m next (sym e ∙ ap (slice_get g.queue.items) same ∙ a.kept done next at) in
              a.added k (inlines_made next k (subst (λ y. Inlines is y k) one x)))
          | inr other ↦ (let before : i < done = omega arith in
              let old = slice_get-get_or f.queue.items i m (omega (arith, s.within)) in
              let one : get_or f.queue.items i m ≡ m = same_Some _ _ (sym (a.kept i _ old) ∙ e) in
              kept_contains f g a.kept k (s.steps i m k before (old ∙ ap Some one) x))
        ];
      }

  searched_reaches : (n m : ℕ) (f : FoundInstances) (done : ℕ) → Searched n f done → length f.queue.items ≤ done → Reaches is n m → Contains f.queue.items m
  searched_reaches n m f done s all (instances.Reaches.one i) = s.start m i
  searched_reaches n m f done s all (instances.Reaches.more {m = k} r i) =
      let at = at_contains f.queue.items k (searched_reaches n k f done s all r) in
      s.steps at.0 k m (omega (arith, slice_get_within f.queue.items at.0 k at.1)) at.1 i

  pub searched : (n : ℕ) (f : FoundInstances) (done : ℕ) (cyclic : Bool) → Searched n f done → length f.queue.items ≤ done → n < length f.flags.items → cyclic ≡ get_or f.flags.items n cyclic → (cyclic ≡ true → Reaches is n n) × (Reaches is n n → cyclic ≡ true)
  searched n f done cyclic s all l e = let read = e ∙ get_or_default f.flags.items n cyclic false l in (
    (λ t. s.sound n (s.table.sets.queued n (sym read ∙ t))),
    (λ r. read ∙ s.table.sets.flagged n (searched_reaches n n f done s all r)),
  )

  -- If no instance reaches itself and each instance without a size uses another without a size, then there is no
  -- instance without a size, because a path of them would have no end.
  module _ (sizes : List (Option Size)) (settled : IsSizeFixedPoint is sizes) (acyclic : (n : ℕ) → Reaches is n n → ⊥) where
    record Path (steps : ℕ) : Type 0 where
      last : ℕ
      inline : is_inlined is last ≡ true
      unsized : slice_get sizes last ≡ Some None
      before : List ℕ
      len : length before ≡ steps
      distinct : AreDistinct before
      reach : All (λ x. Reaches is x last) before

    path : (n : ℕ) → is_inlined is n ≡ true → slice_get sizes n ≡ Some None → (steps : ℕ) → Path steps
    path n u e zero = record { last = n; inline = u; unsized = e; before = []; len = refl; distinct = record { same = λ i j x a b. absurd (none-some x a) }; reach = λ k d l. absurd (omega arith) }
    path n u e (suc steps) =
        let p = path n u e steps in
        let next = (settled p.last).settled p.inline p.unsized in
        record {
          last = next.0;
          inline = next.1.used_inlined;
          unsized = next.2;
          before = p.before ++ p.last ∷ [];
          len = length_push p.before p.last ∙ (let l = p.len in omega arith);
          distinct = AreDistinct-push p.before p.last p.distinct (λ c. acyclic p.last (All-contains (λ x. Reaches is x p.last) p.before p.last p.reach c));
          reach = All-push (λ x. Reaches is x next.0) p.before p.last (λ k d l. instances.Reaches.more (p.reach k d l) next.1) (instances.Reaches.one next.1);
        }

    no_unsized : (n : ℕ) → is_inlined is n ≡ true → slice_get sizes n ≡ Some None → ⊥
    no_unsized n u e =
        let p = path n u e (suc (length is)) in
        let few = length-distinct_in (numbers_below (length is)) p.before p.distinct (λ x c. numbers_at (length is) x (inline_instance is x (reaches_user x p.last (All-contains (λ y. Reaches is y p.last) p.before x p.reach c))).within) in
        let l = p.len in
        let m = length-numbers (length is) in
        omega arith

    pub all_sized : AreSizes is sizes → AreAllSized is sizes
    all_sized a n u = go (get_or sizes n None) (slice_get-get_or sizes n None (let w = (inline_instance is n u).within in let l = a.len in omega arith))
      where
        go : (o : Option Size) → slice_get sizes n ≡ Some o → (s : Size) × (slice_get sizes n ≡ Some (Some s))
        go None at = absurd (no_unsized n u at)
        go (Some s) at = (s, at)
