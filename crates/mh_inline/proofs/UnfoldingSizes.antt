-- Lemmas on computing the sizes of unfoldings without making them.
use Rattle.std.proofs.Common.{◌≡◌, ℕ, zero, suc, ◌+◌, ◌*◌, ◌<◌, true, min, max, List, [], ◌∷◌, ◌++◌, Option, Some, None, map, take, length, get_or, sym, ap, ◌∙◌, arith, inl, inr, length-append, subst, zero-mul, mul-zero, MatchOption, OnSome}
use Rattle.std.specs.List.{slice_get}
use Rattle.std.proofs.lemmas.List.{take_more, length-map}
use Rattle.std.proofs.lemmas.Bool.{cases_lt, false≢true}
use Rattle.std.proofs.lemmas.Option.{none-some, same_Some, slice_get-get_or}
use Rattle.mh_rules.specs.declared.instances.Part.{Part}
use Rattle.mh_rules.specs.declared.instances.Part.TheVariants.{Instance as Applied}
use Rattle.mh_rules.specs.declared.instances.InstanceProduction.{InstanceProduction}
use Rattle.mh_rules.specs.declared.instances.Instance.{Instance}
use Rattle.mh_inline_unfold.specs.declared.sizes.Size.{Size}
use Rattle.mh_inline_unfold.specs.Instances.{inline_number, is_inlined, IsKept}
use Rattle.mh_inline_unfold.specs.Unfoldings as unfoldings
use Rattle.mh_inline_unfold.specs.Unfoldings.{unfolding_of_part, with_own_prec, empty_unfolding, choices}
use Rattle.mh_inline_unfold.specs.code.Sizes.{IsPartSize, IsSideSize, IsEachSize, HasUnsizedProducer, AreSizes, AreSized, AreEachSized}
use Rattle.mh_grammar.proofs.NumberingInvariant.{get_cases}
use Rattle.mh_inline_unfold.proofs.Monoid.{Unfolds-push, UnfoldsEach-push}
use Rattle.mh_inline_unfold.proofs.UniqueUnfoldings.{length-choices, longest-choices, longest-append, longest-own, times_some}
use Rattle.mh_inline_unfold.proofs.InlineProducers.{inline_some, inline_none}

min_times : (m a b : ℕ) → min (min a m * min b m) m ≡ min (a * b) m
min_times m a b = elim (cases_lt 0 m) [
  | inr none ↦ omega arith
  | inl m_some ↦ elim (cases_lt 0 a) [
    | inr none ↦ (let e : a ≡ 0 = omega arith in
        let f : min a m ≡ 0 = omega arith in
        let p : min a m * min b m ≡ 0 = ap (λ n. n * min b m) f ∙ zero-mul (min b m) in
        let q : a * b ≡ 0 = ap (λ n. n * b) e ∙ zero-mul b in
        omega arith)
    | inl a_some ↦ elim (cases_lt 0 b) [
      | inr none ↦ (let e : b ≡ 0 = omega arith in
          let f : min b m ≡ 0 = omega arith in
          let p : min a m * min b m ≡ 0 = ap (λ n. min a m * n) f ∙ mul-zero (min a m) in
          let q : a * b ≡ 0 = ap (λ n. a * n) e ∙ mul-zero a in
          omega arith)
      | inl b_some ↦ (let s : 0 < min a m = omega arith in
          let t : 0 < min b m = omega arith in
          let u = times_some (min a m) (min b m) s t in
          let v = times_some a b a_some b_some in
          elim (cases_lt m a) [
            | inl over ↦ omega arith
            | inr within ↦ elim (cases_lt m b) [
              | inl over ↦ omega arith
              | inr within' ↦ (let e : min a m ≡ a = omega arith in
                  let f : min b m ≡ b = omega arith in
                  let same : min a m * min b m ≡ a * b = (λ i. e i * f i) in
                  ap (λ n. min n m) same)
            ]
          ])
    ]
  ]
]

pub side_none : (is : List Instance) (s : Size) → s.count ≡ 1 → s.longest ≡ 0 → IsSideSize is [] s
side_none is s e f = record { unfoldings = empty_unfolding ∷ []; unfolds = unfoldings.Unfolds.none; some = omega arith; size = record { count = e; longest = f } }

pub side_times : (is : List Instance) (Xs : List Part) (X : Part) (s z t : Size) → IsSideSize is Xs s → IsPartSize is X z → t.count ≡ min (s.count * z.count) 20001 → t.longest ≡ min (s.longest + z.longest) 10001 → IsSideSize is (Xs ++ X ∷ []) t
side_times is Xs X s z t h k e f =
    let us = h.unfoldings in
    let vs = k.unfoldings in
    let len = length-choices us vs in
    let some = times_some (length us) (length vs) h.some k.some in
    let long = longest-choices us vs h.some k.some in
    let a = h.size.longest in
    let b = k.size.longest in
    record {
      unfoldings = choices us vs;
      unfolds = Unfolds-push is Xs X us vs h.unfolds k.unfolds;
      some = omega arith;
      size = record {
        count = e ∙ ap (λ n. min (n * z.count) 20001) h.size.count ∙ ap (λ n. min (min (length us) 20001 * n) 20001) k.size.count ∙ min_times 20001 (length us) (length vs) ∙ ap (λ n. min n 20001) (sym len);
        longest = omega arith;
      };
    }

pub side_more : (is : List Instance) (Xs : List Part) (i : ℕ) (d : Part) (s z t : Size) → i < length Xs → IsSideSize is (take i Xs) s → IsPartSize is (get_or Xs i d) z → t.count ≡ min (s.count * z.count) 20001 → t.longest ≡ min (s.longest + z.longest) 10001 → IsSideSize is (take (i + 1) Xs) t
side_more is Xs i d s z t l h k e f = rw (take_more Xs i d l) (side_times is (take i Xs) (get_or Xs i d) s z t h k e f)

pub each_none : (is : List Instance) (s : Size) → s.count ≡ 0 → s.longest ≡ 0 → IsEachSize is [] s
each_none is s e f = record { unfoldings = []; unfolds = unfoldings.UnfoldsEach.no_alternative; some = omega arith; size = record { count = e; longest = f } }

pub each_plus : (is : List Instance) (ps : List InstanceProduction) (p : InstanceProduction) (s z t : Size) → IsEachSize is ps s → IsSideSize is p.rhs z → t.count ≡ min (s.count + z.count) 20001 → t.longest ≡ max s.longest z.longest → IsEachSize is (ps ++ p ∷ []) t
each_plus is ps p s z t h k e f =
    let us = h.unfoldings in
    let vs = k.unfoldings in
    let len = length-append us (map (with_own_prec p.prec) vs) in
    let same = length-map vs (with_own_prec p.prec) in
    let long = longest-append us (map (with_own_prec p.prec) vs) in
    let long' = longest-own p.prec vs in
    let ps_len = length-append ps (p ∷ []) in
    let some = h.some in
    let one = k.some in
    let a = h.size.longest in
    let b = k.size.longest in
    let a' = h.size.count in
    let b' = k.size.count in
    record {
      unfoldings = us ++ map (with_own_prec p.prec) vs;
      unfolds = UnfoldsEach-push is ps p us vs h.unfolds k.unfolds;
      some = omega arith;
      size = record { count = omega arith; longest = omega arith };
    }

pub each_more : (is : List Instance) (ps : List InstanceProduction) (i : ℕ) (p : InstanceProduction) (s z t : Size) → i < length ps → p ≡ get_or ps i p → IsEachSize is (take i ps) s → IsSideSize is p.rhs z → t.count ≡ min (s.count + z.count) 20001 → t.longest ≡ max s.longest z.longest → IsEachSize is (take (i + 1) ps) t
each_more is ps i p s z t l at h k e f = rw (take_more ps i p l, ← at) (each_plus is (take i ps) p s z t h k e f)

-- A producer that is not inline has one unfolding, of length 1.
pub kept_size : (is : List Instance) (X : Part) (s : Size) → inline_number is X ≡ None → s.count ≡ 1 → s.longest ≡ 1 → IsPartSize is X s
kept_size is X s e f g = record { unfoldings = unfolding_of_part X ∷ []; unfolds = unfoldings.UnfoldsPart.kept (inline_none is X e); some = omega arith; size = record { count = f; longest = g } }

pub inline_size : (is : List Instance) (sizes : List (Option Size)) (X : Part) (n : ℕ) (s : Size) → AreSizes is sizes → inline_number is X ≡ Some n → slice_get sizes n ≡ Some (Some s) → IsPartSize is X s
inline_size is sizes X n s a e at = subst (λ Y. IsPartSize is Y s) (sym (inline_some is X n e).same) (a.sound n s at)

pub unsized_producer : (is : List Instance) (sizes : List (Option Size)) (X : Part) (n : ℕ) → inline_number is X ≡ Some n → slice_get sizes n ≡ Some None → HasUnsizedProducer is sizes (X ∷ [])
unsized_producer is sizes X n e at = let h = inline_some is X n e in record { place = 0; number = n; at = ap Some h.same; inlined = h.inlined; unsized = at }

pub unsized_producer_at : (is : List Instance) (sizes : List (Option Size)) (Xs : List Part) (i : ℕ) (d : Part) → i < length Xs → HasUnsizedProducer is sizes (get_or Xs i d ∷ []) → HasUnsizedProducer is sizes Xs
unsized_producer_at is sizes Xs i d l b = record { place = i; number = b.number; at = slice_get-get_or Xs i d l ∙ first b.place b.at; inlined = b.inlined; unsized = b.unsized }
  where
    first : (j : ℕ) → slice_get (get_or Xs i d ∷ []) j ≡ Some (Applied b.number) → Some (get_or Xs i d) ≡ Some (Applied b.number)
    first zero e = e
    first (suc j) e = absurd (none-some _ e)

-- The size of an inline producer is that of the table of sizes.
pub part_sized : (is : List Instance) (sizes : List (Option Size)) (X : Part) (n : ℕ) → AreSizes is sizes → inline_number is X ≡ Some n → n < length sizes → MatchOption (get_or sizes n None) (HasUnsizedProducer is sizes (X ∷ [])) (IsPartSize is X)
part_sized is sizes X n a e l = go (get_or sizes n None) (slice_get-get_or sizes n None l)
  where
    go : (o : Option Size) → slice_get sizes n ≡ Some o → MatchOption o (HasUnsizedProducer is sizes (X ∷ [])) (IsPartSize is X)
    go None at = unsized_producer is sizes X n e at
    go (Some s) at = inline_size is sizes X n s a e at

sized_one : (is : List Instance) (sizes : List (Option Size)) (X : Part) → ((n : ℕ) → X ≡ Applied n → is_inlined is n ≡ true → (z : Size) × (slice_get sizes n ≡ Some (Some z))) → AreSized is sizes (X ∷ [])
sized_one is sizes X h = record { each = go }
  where
    go : (j n : ℕ) → slice_get (X ∷ []) j ≡ Some (Applied n) → is_inlined is n ≡ true → (z : Size) × (slice_get sizes n ≡ Some (Some z))
    go zero n at e = h n (same_Some X (Applied n) at) e
    go (suc j) n at e = absurd (none-some (Applied n) at)

pub sized_inline : (is : List Instance) (sizes : List (Option Size)) (X : Part) (n : ℕ) → inline_number is X ≡ Some n → n < length sizes → OnSome (get_or sizes n None) (AreSized is sizes (X ∷ []))
sized_inline is sizes X n e l = go (get_or sizes n None) (slice_get-get_or sizes n None l)
  where
    go : (o : Option Size) → slice_get sizes n ≡ Some o → OnSome o (AreSized is sizes (X ∷ []))
    go None at = tt
    go (Some s) at = sized_one is sizes X (λ m same f.
        let g : Applied n ≡ Applied m = sym (inline_some is X n e).same ∙ same in
        let one : n ≡ m = cc in
        (s, rw (← one) at))

pub sized_kept : (is : List Instance) (sizes : List (Option Size)) (X : Part) → inline_number is X ≡ None → AreSized is sizes (X ∷ [])
sized_kept is sizes X e = sized_one is sizes X (λ n same f.
    absurd (let kept = subst (IsKept is) same (inline_none is X e) in false≢true (sym kept ∙ f)))

pub sized_none : (is : List Instance) (sizes : List (Option Size)) → AreSized is sizes []
sized_none is sizes = record { each = λ j n at e. absurd (none-some (Applied n) at) }

pub sized_more : (is : List Instance) (sizes : List (Option Size)) (Xs : List Part) (i : ℕ) (d : Part) → i < length Xs → AreSized is sizes (take i Xs) → AreSized is sizes (get_or Xs i d ∷ []) → AreSized is sizes (take (i + 1) Xs)
sized_more is sizes Xs i d l h k = record {
  each = λ j n at e. elim (get_cases (take i Xs) (get_or Xs i d) j (Applied n) (rw (take_more Xs i d l) at at)) [
    | inl before ↦ h.each j n before e
    | inr last ↦ k.each 0 n (ap Some (sym last.1)) e
  ];
}

pub sized_alternatives_none : (is : List Instance) (sizes : List (Option Size)) → AreEachSized is sizes []
sized_alternatives_none is sizes = record { each = λ k p at. absurd (none-some p at) }

pub sized_alternatives_more : (is : List Instance) (sizes : List (Option Size)) (ps : List InstanceProduction) (i : ℕ) (p : InstanceProduction) → i < length ps → p ≡ get_or ps i p → AreEachSized is sizes (take i ps) → AreSized is sizes p.rhs → AreEachSized is sizes (take (i + 1) ps)
sized_alternatives_more is sizes ps i p l at h s = record {
  each = λ k q here. elim (get_cases (take i ps) p k q (rw (take_more ps i p l, ← at) at here)) [
    | inl before ↦ h.each k q before
    | inr last ↦ rw last.1 s
  ];
}
