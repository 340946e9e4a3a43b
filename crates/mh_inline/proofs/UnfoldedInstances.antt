-- Lemmas on making the unfoldings of inline instances from those of the instances that they use.
use Rattle.std.proofs.Common.{◌≡◌, ℕ, ◌≤◌, true, List, Option, Some, take, sym, ◌∙◌, arith, subst}
use Rattle.std.specs.List.{slice_get}
use Rattle.std.proofs.lemmas.Bool.{false≢true}
use Rattle.std.proofs.lemmas.Option.{same_Some}
use Rattle.mh_rules.specs.declared.instances.Part.TheVariants.{Instance as Applied}
use Rattle.mh_rules.specs.declared.instances.Instance.{Instance}
use Rattle.mh_grammar.proofs.NumberingUnique.{take_get}
use Rattle.mh_grammar.proofs.NumberingInvariant.{at_contains}
use Rattle.mh_inline_unfold.specs.declared.unfolding.Unfolding.{Unfolding}
use Rattle.mh_inline_unfold.specs.declared.sizes.Size.{Size}
use Rattle.mh_inline_unfold.specs.declared.sizes.SizeTable.{SizeTable}
use Rattle.mh_inline_unfold.specs.Instances.{is_inlined, Inlines}
use Rattle.mh_inline_unfold.specs.Unfoldings as unfoldings
use Rattle.mh_inline_unfold.specs.Unfoldings.{UnfoldsPart, UnfoldsEach}
use Rattle.mh_inline_unfold.specs.code.Sizes.{IsSize, IsSizeTable, AreSmall}
use Rattle.mh_inline.specs.code.KnownUnfoldings.{AreEachKnown, IsNextToUnfold}
use Rattle.mh_inline.specs.code.LastUses.{AreLastUses, KnowsNeeded}
use Rattle.mh_inline_unfold.proofs.UniqueUnfoldings.{HaveAlternatives, small_part, small_alternative}

-- Unfoldings whose size is within the limits are small.
pub small_if_size_within : (us : List Unfolding) (s : Size) → IsSize us s → s.count ≤ 20000 → s.longest ≤ 10000 → AreSmall us
small_if_size_within us s z k l = let e = z.count in let f = z.longest in record { few = omega arith; short = omega arith }

-- The size of small unfoldings is within the limits.
pub size_within_if_small : (us : List Unfolding) (s : Size) → IsSize us s → AreSmall us → (s.count ≤ 20000) × (s.longest ≤ 10000)
size_within_if_small us s z a = let e = z.count in let f = z.longest in let few = a.few in let short = a.short in (omega arith, omega arith)

module _ (is : List Instance) where
  -- The unfoldings of an inline instance are those of its alternatives.
  pub each_of_part : (n : ℕ) (i : Instance) (us : List Unfolding) → slice_get is n ≡ Some i → is_inlined is n ≡ true → UnfoldsPart is (Applied n) us → UnfoldsEach is i.productions us
  each_of_part n i us at e (unfoldings.UnfoldsPart.kept k) = absurd (false≢true (sym k ∙ e))
  each_of_part n i us at e (unfoldings.UnfoldsPart.inlined {i = j} at' e' r) = subst (λ (q : Instance). UnfoldsEach is q.productions us) (same_Some j i (sym at' ∙ at)) r

  pub next_from : (s : SizeTable) (last : List ℕ) (known : List (List Unfolding)) (i n : ℕ) → IsSizeTable is s → AreLastUses is s.order.items last → KnowsNeeded is s.order.items last i known → slice_get s.order.items i ≡ Some n → IsNextToUnfold is s.sizes.items known n
  next_from s last known i n z a k at =
      let o = z.ordered i n at in
      record {
        inlined = o.inlined;
        size = o.size;
        sized = o.sized;
        size_is = z.are_sizes.sound n o.size o.sized;
        some = λ m inl.
            let place = at_contains (take i s.order.items) m (o.inlined_before m inl) in
            let p = z.ordered place.0 m (take_get i s.order.items place.0 m place.1) in
            let right = z.are_sizes.sound m p.size p.sized in
            (right.unfoldings, right.unfolds);
        inlined_known = λ m us inl u small. k.each m us (a.inline i n m at (record { place = inl.place; production = inl.production; alternative = inl.alternative; among = record { producer = inl.producer; at = inl.at; used = inl.used_inlined } })) (o.inlined_before m inl) u small;
      }

  -- If the unfoldings of the next instance are within the limits, then those of the inline producers in its
  -- alternatives have been computed.
  pub each_known : HaveAlternatives is → (sizes : List (Option Size)) (known : List (List Unfolding)) (n : ℕ) (i : Instance) → slice_get is n ≡ Some i → (next : IsNextToUnfold is sizes known n) → next.size.count ≤ 20000 → next.size.longest ≤ 10000 → AreEachKnown is known i.productions
  each_known h sizes known n i at next few short =
      let each = each_of_part n i next.size_is.unfoldings at next.inlined next.size_is.unfolds in
      let small = small_if_size_within next.size_is.unfoldings next.size next.size_is.size few short in
      record {
        each = λ k p here. record {
          each = λ j m part inlined.
              let inl : Inlines is n m = record { user_inlined = next.inlined; place = k; production = p; alternative = record { instance = i; at = at; alternative = here }; producer = j; at = part; used_inlined = inlined } in
              let side = small_alternative is h i.productions next.size_is.unfoldings each small k p here in
              let one = next.some m inl in
              record {
                unfoldings = one.0;
                unfolds = one.1;
                at = next.inlined_known m one.0 inl one.1 (small_part is h p.rhs side.0 side.1 side.2 j (Applied m) one.0 part one.1);
              };
        };
      }
