-- Lemmas on the heads in an actual.
use Rattle.std.proofs.Common.{◌≡◌, ℕ, suc, ◌<◌, ◌≤◌, List, [], ◌∷◌, ◌++◌, length, get_or, refl, sym, ap, ◌∙◌, arith}
use Rattle.std.specs.List.{flat_map}
use Rattle.std.proofs.lemmas.List.Concat.{flat_map-append}
use Rattle.std.proofs.lemmas.List.Folds.{flat_map-map, length-flat_map-take}
use Rattle.mh_rules.specs.declared.modules.Ref.{Ref}
use Rattle.mh_rules.specs.declared.modules.Actual.{Actual}
use Rattle.mh_rules.specs.declared.modules.Actual.TheViews.{out-Actual}
use Rattle.mh_rules.specs.declared.modules.Actual.TheFolds.{fold_out-Actual}
use Rattle.mh_join_names.specs.Faults.{refs, refs_step}

pub refs_out : (a : Actual) → refs a ≡ (out-Actual a).head ∷ flat_map refs (out-Actual a).args
refs_out a = fold_out-Actual (List Ref) refs_step a ∙ ap (λ k. (out-Actual a).head ∷ k) (flat_map-map (λ (rs : List Ref). rs) refs (out-Actual a).args)

pub flat_refs : {B : Type 0} (f : Ref → List B) (actuals : List Actual) → flat_map f (flat_map refs actuals) ≡ flat_map (λ b. flat_map f (refs b)) actuals
flat_refs f [] = refl
flat_refs f (a ∷ actuals) = flat_map-append f (refs a) (flat_map refs actuals) ∙ ap (λ k. flat_map f (refs a) ++ k) (flat_refs f actuals)

-- The number of heads in an actual is one more than the number of heads in its arguments.
pub size_out : (a : Actual) → length (refs a) ≡ suc (length (flat_map refs (out-Actual a).args))
size_out a = ap length (refs_out a)

pub size_item : (actuals : List Actual) (i : ℕ) (a : Actual) → i < length actuals → a ≡ get_or actuals i a → length (refs a) ≤ length (flat_map refs actuals)
size_item actuals i a h at = omega (arith, length-flat_map-take refs actuals i a h, ap (λ k. length (refs k)) at)

-- A function over the heads of an actual gives the values for its head followed by those for its arguments.
pub actual_out : {B : Type 0} (f : Ref → List B) (a : Actual) → f (out-Actual a).head ++ flat_map (λ b. flat_map f (refs b)) (out-Actual a).args ≡ flat_map f (refs a)
actual_out f a = ap (λ k. f (out-Actual a).head ++ k) (sym (flat_refs f (out-Actual a).args)) ∙ ap (flat_map f) (sym (refs_out a))
