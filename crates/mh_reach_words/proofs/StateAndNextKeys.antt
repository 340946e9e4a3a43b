-- Lemmas on spots (states with a next token) as keys of a map.
use Rattle.std.proofs.Common.{◌≡◌, ℕ, true, nat_eq, refl, arith}
use Rattle.std.proofs.lemmas.Grind.{common_steps}
use Rattle.std.proofs.lemmas.Bool.{and_parts}
use Rattle.mh_reach_words.specs.declared.arrivals.StateAndNext.{StateAndNext}
use Rattle.mh_reach_words.specs.code.Arrivals.{same_spot, spot}
use Rattle.mh_facts.proofs.AssociationLists.{AreKeys}

same_number : (a b : ℕ) → nat_eq a b ≡ true → a ≡ b
same_number a b e = grind (arith, common_steps)

number_same : (n : ℕ) → nat_eq n n ≡ true
number_same n = grind (arith, common_steps)

pub equal_from_same_spot : (x y : StateAndNext) → same_spot x y ≡ true → x ≡ y
equal_from_same_spot x y e =
    let a = and_parts (nat_eq x.state y.state) (nat_eq x.next y.next) e in
    let e1 = same_number x.state y.state a.0 in
    let e2 = same_number x.next y.next a.1 in
    let whole : spot x.state x.next ≡ spot y.state y.next = rw (e1, e2) refl in
    whole

pub same_spot_refl : (k : StateAndNext) → same_spot k k ≡ true
same_spot_refl k = rw (number_same k.state, number_same k.next) refl

pub spot_keys : AreKeys same_spot
spot_keys = record { equal = equal_from_same_spot; agree = same_spot_refl }
