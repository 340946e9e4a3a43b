-- Lemmas on producers and their computed unfoldings.
use Rattle.std.proofs.Common.{◌≡◌, ℕ, zero, suc, ◌+◌, ◌<◌, true, List, [], ◌∷◌, ◌++◌, Some, None, length, get_or, sym, ap, ◌∙◌, take, map, subst}
use Rattle.std.specs.List.{slice_get}
use Rattle.std.proofs.lemmas.Option.{none-some, slice_get-get_or, get_or_from_slice_get}
use Rattle.std.proofs.lemmas.List.{take_more}
use Rattle.mh_inline_unfold.proofs.InlineProducers.{inline_some, inline_none}
use Rattle.mh_inline_unfold.proofs.Monoid.{Unfolds-push, UnfoldsEach-push}
use Rattle.mh_rules.specs.declared.instances.Part.{Part}
use Rattle.mh_rules.specs.declared.instances.Part.TheVariants.{Instance as Applied}
use Rattle.mh_rules.specs.declared.instances.InstanceProduction.{InstanceProduction}
use Rattle.mh_rules.specs.declared.instances.Instance.{Instance}
use Rattle.mh_inline_unfold.specs.declared.unfolding.Unfolding.{Unfolding}
use Rattle.mh_inline_unfold.specs.Instances.{is_inlined, inline_number}
use Rattle.mh_inline_unfold.specs.Unfoldings as unfoldings
use Rattle.mh_inline_unfold.specs.Unfoldings.{unfolding_of_part, with_own_prec, choices, UnfoldsPart, Unfolds, UnfoldsEach}
use Rattle.mh_inline.specs.code.KnownUnfoldings.{IsKnown, AreKnown, ExtendsByProducer}

module _ (is : List Instance) (known : List (List Unfolding)) where
  pub known_part : (X : Part) (n : ℕ) → AreKnown is known (X ∷ []) → inline_number is X ≡ Some n → IsKnown is known n
  known_part X n k e = let h = inline_some is X n e in k.each 0 n (ap Some h.same) h.inlined

  pub extends_known : (X : Part) (n : ℕ) (old new r : List Unfolding) → AreKnown is known (X ∷ []) → inline_number is X ≡ Some n → r ≡ get_or known n r → new ≡ choices old r → ExtendsByProducer is X old new
  extends_known X n old new r k e at same =
      let h = inline_some is X n e in
      let one = known_part X n k e in
      let read : one.unfoldings ≡ r = sym (get_or_from_slice_get known n one.unfoldings r one.at) ∙ sym at in
      record {
        unfoldings = one.unfoldings;
        unfolds = subst (λ Y. UnfoldsPart is Y one.unfoldings) (sym h.same) one.unfolds;
        same = same ∙ ap (choices old) (sym read);
      }

  pub known_at : (Xs : List Part) (i : ℕ) (d : Part) → i < length Xs → AreKnown is known Xs → AreKnown is known (get_or Xs i d ∷ [])
  known_at Xs i d l k = record { each = λ j n at e. go j n at e }
    where
      go : (j n : ℕ) → slice_get (get_or Xs i d ∷ []) j ≡ Some (Applied n) → is_inlined is n ≡ true → IsKnown is known n
      go zero n at e = k.each i n (slice_get-get_or Xs i d l ∙ at) e
      go (suc j) n at e = absurd (none-some (Applied n) at)

pub extends_kept : (is : List Instance) (X : Part) (old new : List Unfolding) → inline_number is X ≡ None → new ≡ choices old (unfolding_of_part X ∷ []) → ExtendsByProducer is X old new
extends_kept is X old new e same = record { unfoldings = unfolding_of_part X ∷ []; unfolds = unfoldings.UnfoldsPart.kept (inline_none is X e); same = same }

-- The invariants still hold after one more producer and after one more alternative.
pub Unfolds-more : (is : List Instance) (Xs : List Part) (i : ℕ) (d : Part) (us vs : List Unfolding) → i < length Xs → Unfolds is (take i Xs) us → ExtendsByProducer is (get_or Xs i d) us vs → Unfolds is (take (i + 1) Xs) vs
Unfolds-more is Xs i d us vs l f e = rw (take_more Xs i d l, e.same) (Unfolds-push is (take i Xs) (get_or Xs i d) us e.unfoldings f e.unfolds)

pub UnfoldsEach-more : (is : List Instance) (ps : List InstanceProduction) (i : ℕ) (p : InstanceProduction) (us vs ws : List Unfolding) → i < length ps → p ≡ get_or ps i p → UnfoldsEach is (take i ps) us → Unfolds is p.rhs vs → ws ≡ us ++ map (with_own_prec p.prec) vs → UnfoldsEach is (take (i + 1) ps) ws
UnfoldsEach-more is ps i p us vs ws l at r f e = rw (take_more ps i p l, ← at, e) (UnfoldsEach-push is (take i ps) p us vs r f)
