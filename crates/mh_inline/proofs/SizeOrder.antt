-- Lemmas on the order of sizes, in which each instance comes after those that it uses.
use Rattle.std.proofs.Common.{◌≡◌, ◌≢◌, ℕ, ◌+◌, ◌<◌, ◌≤◌, Bool, true, false, ◌||◌, List, [], ◌∷◌, ◌++◌, Option, Some, None, take, set, length, refl, sym, ap, ◌∙◌, arith, inl, inr, length-set, cond, is_some}
use Rattle.std.specs.List.{slice_get}
use Rattle.std.proofs.lemmas.Bool.{cases_eq, false≢true}
use Rattle.std.proofs.lemmas.List.{take_at, take-append-le}
use Rattle.std.proofs.lemmas.List.Elements.{Contains-append_left, Contains-push}
use Rattle.std.proofs.lemmas.Option.{same_Some, none-some, slice_get_within}
use Rattle.mh_grammar.proofs.Lists.{get_cases, set_here, set_elsewhere}
use Rattle.mh_rules.specs.declared.instances.Part.TheVariants.{Instance as Applied}
use Rattle.mh_rules.specs.declared.instances.Instance.{Instance}
use Rattle.mh_inline_unfold.specs.declared.sizes.Size.{Size}
use Rattle.mh_inline_unfold.specs.Instances.{is_inlined}
use Rattle.mh_inline_unfold.specs.Unfoldings as unfoldings
use Rattle.mh_inline_unfold.specs.code.Sizes.{IsPartSize, IsEachSize, AreEachSized, HasUnsizedAlternative, AreOrdered, IsOrdered, IsFixedAt}
use Rattle.mh_inline_unfold.proofs.UniqueUnfoldings.{HaveAlternatives}

module _ (is : List Instance) (h : HaveAlternatives is) (sizes : List (Option Size)) (order : List ℕ) (s : AreOrdered is sizes order) where
  module _ (n : ℕ) (i : Instance) (z : Size) (at : slice_get is n ≡ Some i) (inline : is_inlined is n ≡ true) (open_ : slice_get sizes n ≡ Some None) (size : IsEachSize is i.productions z) (sized : AreEachSized is sizes i.productions) where
    within : n < length sizes
    within = slice_get_within sizes n None open_

    inlined_at : i.inlined ≡ true
    inlined_at = rw at at inline

    part : IsPartSize is (Applied n) z
    part = let some = h.some n i at in let more = size.some in record { unfoldings = size.unfoldings; unfolds = unfoldings.UnfoldsPart.inlined at inlined_at size.unfolds; some = omega arith; size = size.size }

    was : (m : ℕ) (w : Size) → slice_get sizes m ≡ Some (Some w) → m ≢ n
    was m w e same = let f : Some (Some w) ≡ Some None = sym e ∙ ap (slice_get sizes) same ∙ open_ in none-some w (sym (same_Some _ _ f))

    sized_new : (m : ℕ) (w : Size) → slice_get sizes m ≡ Some (Some w) → slice_get (set sizes n (Some z)) m ≡ Some (Some w)
    sized_new m w e = set_elsewhere sizes n (Some z) m (was m w e) ∙ e

    last : IsOrdered is (set sizes n (Some z)) order n
    last = record {
      inlined = inline;
      size = z;
      sized = set_here sizes n (Some z) within;
      inlined_before = λ q inl.
          let one : inl.alternative.instance ≡ i = same_Some _ _ (sym inl.alternative.at ∙ at) in
          let there : slice_get i.productions inl.place ≡ Some inl.production = ap (λ (x : Instance). slice_get x.productions inl.place) (sym one) ∙ inl.alternative.alternative in
          let found = (sized.each inl.place inl.production there).each inl.producer q inl.at inl.used_inlined in
          s.listed q found.0 found.1;
    }

    pub AreOrdered-push : AreOrdered is (set sizes n (Some z)) (order ++ n ∷ [])
    AreOrdered-push = record {
      are_sizes = record {
        len = length-set sizes n (Some z) ∙ s.are_sizes.len;
        sound = λ m w e. elim (cases_eq m n) [
          | inl same ↦ (let f : Some (Some z) ≡ Some (Some w) = sym (set_here sizes n (Some z) within) ∙ ap (slice_get (set sizes n (Some z))) (sym same) ∙ e in
              let one : z ≡ w = same_Some _ _ (same_Some _ _ f) in
              rw (same, ← one) part)
          | inr other ↦ s.are_sizes.sound m w (sym (set_elsewhere sizes n (Some z) m other) ∙ e)
        ];
      };
      listed = λ m w e. elim (cases_eq m n) [
        | inl same ↦ rw same (Contains-push order n)
        | inr other ↦ Contains-append_left order (n ∷ []) m (s.listed m w (sym (set_elsewhere sizes n (Some z) m other) ∙ e))
      ];
      ordered = λ j m e. elim (get_cases order n j m e) [
        | inl before ↦ (let o = s.ordered j m before in
            let l : j ≤ length order = omega (arith, slice_get_within order j m before) in
            record { inlined = o.inlined; size = o.size; sized = sized_new m o.size o.sized; inlined_before = λ q inl. rw (take-append-le j order (n ∷ []) l) (o.inlined_before q inl) })
        | inr here ↦ (let e' : take j (order ++ n ∷ []) ≡ order = take_at order (n ∷ []) j (sym here.0) in rw (e', here.1) last)
      ];
    }

-- An inline instance whose alternatives have an inline instance without a size uses an instance without a size.
pub uses_unsized_if_unsized : (is : List Instance) (sizes : List (Option Size)) (n : ℕ) (i : Instance) → slice_get is n ≡ Some i → HasUnsizedAlternative is sizes i.productions → IsFixedAt is sizes n
uses_unsized_if_unsized is sizes n i at b = record {
  settled = λ inline e. (
    b.blocked.number,
    record { user_inlined = inline; place = b.place; production = b.production; alternative = record { instance = i; at = at; alternative = b.at }; producer = b.blocked.place; at = b.blocked.at; used_inlined = b.blocked.inlined },
    b.blocked.unsized,
  );
}

-- Each of x and y is less than the next number if a flag is true, and equal to it otherwise. If one of the flags is
-- true, x is less than z.
pub less_by_either : (a b : Bool) (x y z : ℕ) → (a ≡ true → y < z) → (a ≡ false → y ≡ z) → (b ≡ true → x < y) → (b ≡ false → x ≡ y) → (a || b) ≡ true → x < z
less_by_either true true x y z f g h k e = let p = f refl in let q = h refl in omega arith
less_by_either true false x y z f g h k e = let p = f refl in let q = k refl in omega arith
less_by_either false true x y z f g h k e = let p = g refl in let q = h refl in omega arith
less_by_either false false x y z f g h k e = absurd (false≢true e)

pub measure_falls : (b c : Bool) (x y : ℕ) → c ≡ true → (b ≡ true → x < y) → (b ≡ false → x ≡ y) → x + cond b 1 0 < y + cond c 1 0
measure_falls true true x y e f g = let p = f refl in omega arith
measure_falls false true x y e f g = let p = g refl in omega arith
measure_falls b false x y e f g = absurd (false≢true e)

pub none_of : (o : Option Size) → is_some o ≡ false → o ≡ None
none_of None e = refl
none_of (Some z) e = absurd (false≢true (sym e))
