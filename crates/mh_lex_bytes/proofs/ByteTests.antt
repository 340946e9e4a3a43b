-- Lemmas on tests in sequence, and on tests of the first bytes.
use Rattle.std.proofs.Common.{◌≡◌, ℕ, ◌==◌, Bool, true, false, cond, List, [], ◌∷◌, drop, refl, ap, ◌∙◌}
use Rattle.std.proofs.lemmas.Bool.Decides.{Decides-eqb}
use Rattle.std.proofs.lemmas.Bool.{both_ways}
use Rattle.mh_lex_bytes.specs.Bytes.{has}

-- The result of tests in sequence is that of the first test that is true.
pub second_branch : {X : Type 0} (p q : Bool) (x y z : X) → p ≡ false → q ≡ true → cond p x (cond q y z) ≡ y
second_branch p q x y z e f = rw (e, f) refl

pub third_branch : {X : Type 0} (p q r : Bool) (x y z w : X) → p ≡ false → q ≡ false → r ≡ true → cond p x (cond q y (cond r z w)) ≡ z
third_branch p q r x y z w e f g = rw (e, f, g) refl

pub fourth_branch : {X : Type 0} (p q r k : Bool) (x y z u v : X) → p ≡ false → q ≡ false → r ≡ false → k ≡ true → cond p x (cond q y (cond r z (cond k u v))) ≡ u
fourth_branch p q r k x y z u v e f g h = rw (e, f, g, h) refl

-- If tests of the first bytes are true, the list begins with these bytes.
pub first_byte_is : (s : List ℕ) (c : ℕ) → (256 == c) ≡ false → has s 0 c ≡ true → s ≡ c ∷ drop 1 s
first_byte_is [] c e h = absurd (both_ways (256 == c) e h)
first_byte_is (b ∷ bs) c e h = ap (λ k. k ∷ bs) ((Decides-eqb b c).0 h)

pub first_two_are : (s : List ℕ) (c d : ℕ) → (256 == c) ≡ false → (256 == d) ≡ false → has s 0 c ≡ true → has s 1 d ≡ true → s ≡ c ∷ d ∷ drop 2 s
first_two_are [] c d e f h k = absurd (both_ways (256 == c) e h)
first_two_are (a ∷ bs) c d e f h k = ap (λ b. b ∷ bs) ((Decides-eqb a c).0 h) ∙ ap (λ l. c ∷ l) (first_byte_is bs d f k)

pub first_three_are : (s : List ℕ) (c d g : ℕ) → (256 == c) ≡ false → (256 == d) ≡ false → (256 == g) ≡ false → has s 0 c ≡ true → has s 1 d ≡ true → has s 2 g ≡ true → s ≡ c ∷ d ∷ g ∷ drop 3 s
first_three_are [] c d g e f i h k l = absurd (both_ways (256 == c) e h)
first_three_are (a ∷ bs) c d g e f i h k l = ap (λ b. b ∷ bs) ((Decides-eqb a c).0 h) ∙ ap (λ t. c ∷ t) (first_two_are bs d g f i k l)
