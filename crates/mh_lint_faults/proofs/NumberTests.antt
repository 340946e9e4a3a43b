-- Tests on numbers that may be missing.
use Rattle.std.proofs.Common.{◌≡◌, ℕ, Bool, true, false, Option, Some, None, nat_eq, refl, ap, sym, arith, ◌∙◌}
use Rattle.std.specs.Option.{option_eq}
use Rattle.std.proofs.lemmas.Grind.{common_steps}

same_number : (m n : ℕ) → nat_eq m n ≡ true → m ≡ n
same_number m n e = grind (arith, common_steps)

number_same : (n : ℕ) → nat_eq n n ≡ true
number_same n = grind (arith, common_steps)

pub is_number : (o : Option ℕ) (n : ℕ) → option_eq nat_eq o (Some n) ≡ true → o ≡ Some n
is_number None n e = absurd (let y : false ≡ true = e in cc)
is_number (Some m) n e = ap (λ (k : ℕ). Some k) (same_number m n e)

pub not_number : (o : Option ℕ) (n : ℕ) → option_eq nat_eq o (Some n) ≡ false → o ≡ Some n → ⊥
not_number o n e is = (let both : true ≡ false = sym (number_same n) ∙ (rw is at e) in cc)

pub no_number : {X : Type 0} (o : Option X) → ((x : X) → o ≡ Some x → ⊥) → o ≡ None
no_number None h = refl
no_number (Some x) h = absurd (h x refl)
