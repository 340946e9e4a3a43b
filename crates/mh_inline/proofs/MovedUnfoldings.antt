-- Lemmas on moving unfoldings into the results that use them, and on the computed unfoldings that remain.
use Rattle.std.proofs.Common.{◌≡◌, ℕ, zero, suc, ◌+◌, ◌<◌, ◌≤◌, ◌==◌, ◌⊎◌, true, List, [], ◌∷◌, ◌++◌, Option, Some, None, map, set, take, drop, length, get_or, refl, sym, ap, ◌∙◌, arith, inl, inr, length-set, append_assoc, subst}
use Rattle.std.specs.List.{slice_get}
use Rattle.std.specs.Option.{IfSome}
use Rattle.std.proofs.lemmas.Bool.{cases_eq, eqb-true}
use Rattle.std.proofs.lemmas.List.{append-nil, take_more}
use Rattle.std.proofs.lemmas.Option.{none-some, same_Some, slice_get_within, slice_get-get_or, get_or_from_slice_get}
use Rattle.mh_grammar.proofs.NumberingUnique.{take_get}
use Rattle.mh_grammar.proofs.Lists.{set_here, set_elsewhere, split_at}
use Rattle.mh_rules.specs.declared.joined.Prec.TheVariants.{Absent}
use Rattle.mh_rules.specs.declared.instances.Part.{Part}
use Rattle.mh_rules.specs.declared.instances.Part.TheVariants.{Instance as Applied}
use Rattle.mh_rules.specs.declared.instances.InstanceProduction.{InstanceProduction}
use Rattle.mh_rules.specs.declared.instances.Instance.{Instance}
use Rattle.mh_inline.specs.declared.moving.LastUse.{LastUse}
use Rattle.mh_inline_unfold.specs.declared.unfolding.Unfolding.{Unfolding}
use Rattle.mh_inline_unfold.specs.Instances.{is_inlined}
use Rattle.mh_inline.specs.code.MovableProducers.{IsCandidate, IsLastUseIn, IsInlineProducerOf, IsLastUse, LacksOnlyMoved}
use Rattle.mh_inline_unfold.specs.Unfoldings as unfoldings
use Rattle.mh_inline_unfold.specs.Unfoldings.{with_own_prec, choices, UnfoldsPart, Unfolds, UnfoldsEach}
use Rattle.mh_inline.specs.code.KnownUnfoldings.{IsKnown, AreKnown, AreEachKnown}
use Rattle.mh_inline.specs.code.LastUses.{DropsUnneeded}
use Rattle.mh_inline_unfold.proofs.Monoid.{choices-nothing_left, choices-nothing_right, choices_assoc}
use Rattle.mh_inline_unfold.proofs.InlineProducers.{inline_some}
use Rattle.mh_inline_unfold.proofs.ChangedUnfoldings.{own-absent}

-- LISTS

get_dropped : {X : Type 0} (xs : List X) (i j : ℕ) (x : X) → slice_get (drop i xs) j ≡ Some x → slice_get xs (i + j) ≡ Some x
get_dropped xs zero j x e = let same : j ≡ 0 + j = omega arith in subst (λ n. slice_get xs n ≡ Some x) same e
get_dropped [] (suc i) j x e = absurd (none-some x e)
get_dropped (y ∷ xs) (suc i) j x e = let same : suc (i + j) ≡ suc i + j = omega arith in subst (λ n. slice_get (y ∷ xs) n ≡ Some x) same (get_dropped xs i j x e)

pub no_items : {X : Type 0} (xs : List X) → (length xs == 0) ≡ true → xs ≡ []
no_items [] e = refl
no_items (x ∷ xs) e = absurd (let none : suc (length xs) ≡ 0 = eqb-true (suc (length xs)) 0 e in omega arith)

pub at_split : {X : Type 0} (xs : List X) (i : ℕ) (x : X) → slice_get xs i ≡ Some x → xs ≡ take i xs ++ x ∷ drop (suc i) xs
at_split xs i x e = split_at xs i x (slice_get_within xs i x e) (sym (get_or_from_slice_get xs i x x e))

pub at_taken : {X : Type 0} (xs : List X) (i : ℕ) (x : X) → slice_get xs i ≡ Some x → take (i + 1) xs ≡ take i xs ++ x ∷ []
at_taken xs i x e = take_more xs i x (slice_get_within xs i x e) ∙ ap (λ y. take i xs ++ y ∷ []) (get_or_from_slice_get xs i x x e)

-- CONCATENATED UNFOLDINGS

module _ (is : List Instance) where
  pub one_unfolds : (X : Part) (us : List Unfolding) → UnfoldsPart is X us → Unfolds is (X ∷ []) us
  one_unfolds X us u = unfoldings.Unfolds.more (sym (choices-nothing_right us)) u unfoldings.Unfolds.none

  pub Unfolds-append : (Xs Ys : List Part) (us vs : List Unfolding) → Unfolds is Xs us → Unfolds is Ys vs → Unfolds is (Xs ++ Ys) (choices us vs)
  Unfolds-append [] Ys us vs unfoldings.Unfolds.none f = subst (Unfolds is Ys) (sym (choices-nothing_left vs)) f
  Unfolds-append (Y ∷ Xs) Ys us vs (unfoldings.Unfolds.more {us = firsts} {vs = rests} e q f) g = unfoldings.Unfolds.more (ap (λ l. choices l vs) e ∙ choices_assoc firsts rests vs) q (Unfolds-append Xs Ys rests vs f g)

  pub UnfoldsEach-append : (ps qs : List InstanceProduction) (us vs : List Unfolding) → UnfoldsEach is ps us → UnfoldsEach is qs vs → UnfoldsEach is (ps ++ qs) (us ++ vs)
  UnfoldsEach-append [] qs us vs unfoldings.UnfoldsEach.no_alternative r = r
  UnfoldsEach-append (p ∷ ps) qs us vs (unfoldings.UnfoldsEach.alternative {us = firsts} {vs = rests} e f r) s = unfoldings.UnfoldsEach.alternative (ap (λ l. l ++ vs) e ∙ append_assoc (map (with_own_prec p.prec) firsts) rests vs) f (UnfoldsEach-append ps qs rests vs r s)

  pub one_alternative : (p : InstanceProduction) (us : List Unfolding) → Unfolds is p.rhs us → UnfoldsEach is (p ∷ []) (map (with_own_prec p.prec) us)
  one_alternative p us f = unfoldings.UnfoldsEach.alternative {p = p} {us = us} (sym (append-nil (map (with_own_prec p.prec) us))) f unfoldings.UnfoldsEach.no_alternative

  -- The unfoldings of a list of producers are made from those of the producers up to index j and those of the rest.
  pub side_done : (Xs : List Part) (j n : ℕ) (us vs : List Unfolding) → slice_get Xs j ≡ Some (Applied n) → Unfolds is (take j Xs ++ Applied n ∷ []) us → Unfolds is (drop (suc j) Xs) vs → Unfolds is Xs (choices us vs)
  side_done Xs j n us vs at f g = subst (λ l. Unfolds is l (choices us vs)) (append_assoc (take j Xs) (Applied n ∷ []) (drop (suc j) Xs) ∙ sym (at_split Xs j (Applied n) at)) (Unfolds-append (take j Xs ++ Applied n ∷ []) (drop (suc j) Xs) us vs f g)

  pub side_ends : (Xs : List Part) (j n : ℕ) (us : List Unfolding) → slice_get Xs j ≡ Some (Applied n) → drop (suc j) Xs ≡ [] → Unfolds is (take j Xs ++ Applied n ∷ []) us → Unfolds is Xs us
  side_ends Xs j n us at none f = subst (λ l. Unfolds is l us) (sym (at_split Xs j (Applied n) at ∙ ap (λ l. take j Xs ++ Applied n ∷ l) none)) f

  -- The unfoldings of a list of alternatives are those of the alternatives up to index k, and those of the rest.
  pub each_done : (ps : List InstanceProduction) (k : ℕ) (p : InstanceProduction) (us vs : List Unfolding) → slice_get ps k ≡ Some p → UnfoldsEach is (take (k + 1) ps) us → UnfoldsEach is (drop (suc k) ps) vs → UnfoldsEach is ps (us ++ map (with_own_prec Absent) vs)
  each_done ps k p us vs at r s = subst (λ l. UnfoldsEach is ps (us ++ l)) (own-absent vs) (subst (λ l. UnfoldsEach is l (us ++ vs)) (ap (λ l. l ++ drop (suc k) ps) (at_taken ps k p at) ∙ append_assoc (take k ps) (p ∷ []) (drop (suc k) ps) ∙ sym (at_split ps k p at)) (UnfoldsEach-append (take (k + 1) ps) (drop (suc k) ps) us vs r s))

  -- The unfoldings of the alternatives up to index k are those of the alternatives before k, and those of the
  -- alternative k.
  pub each_then : (ps : List InstanceProduction) (k : ℕ) (p : InstanceProduction) (us vs : List Unfolding) → slice_get ps k ≡ Some p → UnfoldsEach is (take k ps) us → Unfolds is p.rhs vs → UnfoldsEach is (take (k + 1) ps) (us ++ map (with_own_prec p.prec) vs)
  each_then ps k p us vs at r f = subst (λ l. UnfoldsEach is l (us ++ map (with_own_prec p.prec) vs)) (sym (at_taken ps k p at)) (UnfoldsEach-append (take k ps) (p ∷ []) us (map (with_own_prec p.prec) vs) r (one_alternative p vs f))

  -- COMPUTED UNFOLDINGS OF PARTS OF A LIST

  module _ (known : List (List Unfolding)) where
    pub known_prefix : (Xs : List Part) (i : ℕ) → AreKnown is known Xs → AreKnown is known (take i Xs)
    known_prefix Xs i k = record { each = λ j n at e. k.each j n (take_get i Xs j (Applied n) at) e }

    pub known_rest : (Xs : List Part) (i : ℕ) → AreKnown is known Xs → AreKnown is known (drop i Xs)
    known_rest Xs i k = record { each = λ j n at e. k.each (i + j) n (get_dropped Xs i j (Applied n) at) e }

    pub each_prefix : (ps : List InstanceProduction) (i : ℕ) → AreEachKnown is known ps → AreEachKnown is known (take i ps)
    each_prefix ps i k = record { each = λ j p at. k.each j p (take_get i ps j p at) }

    pub each_rest : (ps : List InstanceProduction) (i : ℕ) → AreEachKnown is known ps → AreEachKnown is known (drop i ps)
    each_rest ps i k = record { each = λ j p at. k.each (i + j) p (get_dropped ps i j p at) }

    -- The list that is taken out of the computed unfoldings has the unfoldings of the instance.
    pub known_unfolds : (n : ℕ) (us : List Unfolding) → IsKnown is known n → slice_get known n ≡ Some us → UnfoldsPart is (Applied n) us
    known_unfolds n us k at = subst (UnfoldsPart is (Applied n)) (same_Some k.unfoldings us (sym k.at ∙ at)) k.unfolds

-- PRODUCERS THAT MAY BE MOVED

pub candidate_in : (is : List Instance) (last : List ℕ) (place k j : ℕ) (Xs : List Part) (X : Part) (o : Option LastUse) → slice_get Xs j ≡ Some X → IfSome o (IsCandidate is last place k j X) → IfSome o (IsLastUseIn is last place k Xs)
candidate_in is last place k j Xs X None at h = tt
candidate_in is last place k j Xs X (Some q) at h = let i = inline_some is X q.number h.number in record { alternative = h.alternative; at = ap (slice_get Xs) h.producer ∙ at ∙ ap Some i.same; inlined = i.inlined; unneeded = h.unneeded }

pub candidate_of : (is : List Instance) (last : List ℕ) (place k : ℕ) (ps : List InstanceProduction) (p : InstanceProduction) (o : Option LastUse) → slice_get ps k ≡ Some p → IfSome o (IsLastUseIn is last place k p.rhs) → IfSome o (IsLastUse is last place ps)
candidate_of is last place k ps p None at h = tt
candidate_of is last place k ps p (Some q) at h = record { is_last = record { production = p; alternative = ap (slice_get ps) h.alternative ∙ at; at = h.at; inlined = h.inlined }; unneeded = h.unneeded }

pub larger_one : (P : LastUse → Type 0) (best next result : Option LastUse) → IfSome best P → IfSome next P → (result ≡ best) ⊎ (result ≡ next) → IfSome result P
larger_one P best next result h k (inl e) = subst (λ o. IfSome o P) (sym e) h
larger_one P best next result h k (inr e) = subst (λ o. IfSome o P) (sym e) k

pub lacks_same : (q : Option LastUse) (known : List (List Unfolding)) → LacksOnlyMoved q known known
lacks_same q known = record { len = refl; kept = λ m other. refl }

pub lacks_one : (q : LastUse) (known new : List (List Unfolding)) → new ≡ set known q.number [] → LacksOnlyMoved (Some q) known new
lacks_one q known new e = subst (LacksOnlyMoved (Some q) known) (sym e) (record { len = length-set known q.number []; kept = λ m other. set_elsewhere known q.number [] m (λ s. other q refl (sym s)) })

-- Unfoldings that are not used after a position may be moved at this position.
pub lacks_kept : (last : List ℕ) (place n : ℕ) (us : List Unfolding) (known left new : List (List Unfolding)) (q : Option LastUse) → n < length known → ((u : LastUse) → q ≡ Some u → get_or last u.number 0 ≤ place) → LacksOnlyMoved q known left → DropsUnneeded last place (set left n us) new → DropsUnneeded last place (set known n us) new
lacks_kept last place n us known left new q within unneeded lacks f = record {
  len = f.len ∙ length-set left n us ∙ lacks.len ∙ sym (length-set known n us);
  kept = λ m needed. f.kept m needed ∙ elim (cases_eq m n) [
    | inl same ↦ rw same (set_here left n us (let e = lacks.len in omega arith) ∙ sym (set_here known n us within))
    | inr other ↦ set_elsewhere left n us m other ∙ lacks.kept m (λ u e s. let w = unneeded u e in let f : get_or last u.number 0 ≡ get_or last m 0 = ap (λ k. get_or last k 0) s in omega arith) ∙ sym (set_elsewhere known n us m other)
  ];
}

pub last_unneeded : (is : List Instance) (last : List ℕ) (place : ℕ) (ps : List InstanceProduction) (q : Option LastUse) → IfSome q (IsLastUse is last place ps) → (u : LastUse) → q ≡ Some u → get_or last u.number 0 ≤ place
last_unneeded is last place ps None h u e = absurd (none-some u e)
last_unneeded is last place ps (Some q) h u e = rw (← same_Some q u e) h.unneeded

pub last_of : (is : List Instance) (last : List ℕ) (place : ℕ) (ps : List InstanceProduction) (q : Option LastUse) → IfSome q (IsLastUse is last place ps) → IfSome q (IsInlineProducerOf is ps)
last_of is last place ps None h = tt
last_of is last place ps (Some q) h = h.is_last
