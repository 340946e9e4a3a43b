-- Lemmas on the depth of actuals: a bound on an actual from its arguments, and on the arguments from the actual.
use Rattle.std.proofs.Common.{◌≡◌, ◌≤◌, ℕ, suc, max, List, [], ◌∷◌, map, arith}
use Rattle.std.specs.List.{All, AllByRecursion}
use Rattle.std.proofs.Math.Nat.{le-max_left, le-max_right, le_trans, max-le}
use Rattle.std.proofs.lemmas.List.Elements.{All-from_recursion}
use Rattle.mh_rules.specs.declared.modules.Ref.{Ref}
use Rattle.mh_rules.specs.declared.modules.Actual.{Actual}
use Rattle.mh_rules.specs.declared.modules.Actual.TheViews.{out-Actual}
use Rattle.mh_rules.specs.declared.modules.Actual.TheFolds.{fold-roll-Actual, fold_out-Actual}
use Rattle.mh_rules.specs.declared.joined.Applied.{Applied}
use Rattle.mh_rules.specs.declared.joined.Applied.TheViews.{out-Applied}
use Rattle.mh_rules.specs.declared.joined.Applied.TheFolds.{fold_out-Applied}
use Rattle.mh_rules.specs.Modules.{applied}
use Rattle.mh_rules.specs.Depth.{greatest, actual_depth, actual_depth_step, applied_depth, applied_depth_step, IsActualShallow, IsAppliedShallow}

module _ {X : Type 0} (f : X → ℕ) (n : ℕ) where
  pub greatest_within : (xs : List X) → AllByRecursion (λ x. f x ≤ n) xs → greatest (map f xs) ≤ n
  greatest_within [] h = omega arith
  greatest_within (x ∷ xs) h = max-le h.0 (greatest_within xs h.1)

  each_within : (xs : List X) → greatest (map f xs) ≤ n → AllByRecursion (λ x. f x ≤ n) xs
  each_within [] h = tt
  each_within (x ∷ xs) h = (le_trans (le-max_left (f x) (greatest (map f xs))) h, each_within xs (le_trans (le-max_right (f x) (greatest (map f xs))) h))

pub depth_of : (r : Ref) (ks : List Actual) → actual_depth (applied r ks) ≡ suc (greatest (map actual_depth ks))
depth_of r ks = fold-roll-Actual ℕ actual_depth_step (record { head = r; args = ks })

-- The depth of an actual is at most one more than a bound of its arguments' depths.
pub depth_within : (n : ℕ) (r : Ref) (ks : List Actual) → AllByRecursion (λ k. actual_depth k ≤ n) ks → actual_depth (applied r ks) ≤ suc n
depth_within n r ks h =
    let args : greatest (map actual_depth ks) ≤ n = greatest_within actual_depth n ks h in
    let whole : actual_depth (applied r ks) ≡ suc (greatest (map actual_depth ks)) = depth_of r ks in
    omega arith

pub args_shallow : (a : Actual) → IsActualShallow a → All IsActualShallow (out-Actual a).args
args_shallow a h =
    let whole : actual_depth a ≡ suc (greatest (map actual_depth (out-Actual a).args)) = fold_out-Actual ℕ actual_depth_step a in
    let within : actual_depth a ≤ 1000 = h in
    let args : greatest (map actual_depth (out-Actual a).args) ≤ 1000 = omega arith in
    All-from_recursion IsActualShallow (out-Actual a).args (each_within actual_depth 1000 (out-Actual a).args args)

pub applied_args_shallow : (a : Applied) → IsAppliedShallow a → All IsAppliedShallow (out-Applied a).args
applied_args_shallow a h =
    let whole : applied_depth a ≡ suc (greatest (map applied_depth (out-Applied a).args)) = fold_out-Applied ℕ applied_depth_step a in
    let within : applied_depth a ≤ 1000 = h in
    let args : greatest (map applied_depth (out-Applied a).args) ≤ 1000 = omega arith in
    All-from_recursion IsAppliedShallow (out-Applied a).args (each_within applied_depth 1000 (out-Applied a).args args)
