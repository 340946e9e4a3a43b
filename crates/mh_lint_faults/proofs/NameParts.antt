-- Whether a printed name is a name, alone or with arguments after it.
use Rattle.std.proofs.Common.{◌≡◌, ◌↔◌, ℕ, Bool, true, false, List, [], ◌∷◌, ◌++◌, length, drop, Some, None, nat_eq, refl, ap, sym, inl, inr, arith, ◌∙◌}
use Rattle.std.specs.Prelude.{IsTrue, slice_get}
use Rattle.std.specs.List.{starts_with}
use Rattle.std.proofs.lemmas.Bool.Decides.{Decides-eqb}
use Rattle.std.proofs.lemmas.Grind.{common_steps}
use Rattle.std.proofs.lemmas.List.{append-nil}
use Rattle.std.proofs.lemmas.Slice.Eq.{starts_is}
use Rattle.mh_lint_faults.specs.FaultLines.{IsNamePart}

at_length : (xs ys : List ℕ) → slice_get (xs ++ ys) (length xs) ≡ slice_get ys 0
at_length [] ys = refl
at_length (x ∷ xs) ys = at_length xs ys

same_number : (m n : ℕ) → nat_eq m n ≡ true → m ≡ n
same_number m n e = grind (arith, common_steps)

number_same : (m n : ℕ) → m ≡ n → nat_eq m n ≡ true
number_same m n e = grind (arith, common_steps)

module _ (printed name : List ℕ) where
  begins : IsNamePart name printed → starts_with nat_eq printed name ≡ true
  begins (inl e) = (starts_is Decides-eqb printed name (starts_with nat_eq printed name) refl).1 [] (e ∙ sym (append-nil name))
  begins (inr (arguments, e)) = (starts_is Decides-eqb printed name (starts_with nat_eq printed name) refl).1 (40 ∷ arguments) e

  split : starts_with nat_eq printed name ≡ true → printed ≡ name ++ drop (length name) printed
  split yes' = (starts_is Decides-eqb printed name (starts_with nat_eq printed name) refl).0 yes'

  pub not_part : starts_with nat_eq printed name ≡ false → IsTrue false ↔ IsNamePart name printed
  not_part e = (λ f. absurd (let y : false ≡ true = f in cc), λ h. sym e ∙ begins h)

  alone : (rest : List ℕ) → printed ≡ name ++ rest → slice_get printed (length name) ≡ None → printed ≡ name
  alone [] e none = e ∙ append-nil name
  alone (x ∷ rest) e none = absurd (let y : None ≡ Some x = sym none ∙ ap (λ l. slice_get l (length name)) e ∙ at_length name (x ∷ rest) in cc)

  pub part_alone : starts_with nat_eq printed name ≡ true → slice_get printed (length name) ≡ None → IsTrue true ↔ IsNamePart name printed
  part_alone e none = (λ t. inl (alone (drop (length name) printed) (split e) none), λ h. refl)

  next_byte : (byte : ℕ) (rest : List ℕ) → printed ≡ name ++ rest → slice_get printed (length name) ≡ Some byte → slice_get rest 0 ≡ Some byte
  next_byte byte rest e at = sym (ap (λ l. slice_get l (length name)) e ∙ at_length name rest) ∙ at

  with_arguments : (byte : ℕ) (rest : List ℕ) → printed ≡ name ++ rest → slice_get rest 0 ≡ Some byte → byte ≡ 40 → IsNamePart name printed
  with_arguments byte [] e at is = absurd (let y : None ≡ Some byte = at in cc)
  with_arguments byte (x ∷ rest) e at is = (let y : Some x ≡ Some byte = at in let one : x ≡ byte = cc in inr (rest, e ∙ ap (λ z. name ++ z ∷ rest) (one ∙ is)))

  pub part_before : (byte : ℕ) → starts_with nat_eq printed name ≡ true → slice_get printed (length name) ≡ Some byte → IsTrue (nat_eq byte 40) ↔ IsNamePart name printed
  part_before byte e at = (λ t. with_arguments byte (drop (length name) printed) (split e) (next_byte byte (drop (length name) printed) (split e) at) (same_number byte 40 t), λ h. back h)
    where
      back : IsNamePart name printed → nat_eq byte 40 ≡ true
      back (inl same) = absurd (let y : None ≡ Some byte = next_byte byte [] (same ∙ sym (append-nil name)) at in cc)
      back (inr (arguments, is)) = number_same byte 40 (let y : Some 40 ≡ Some byte = next_byte byte (40 ∷ arguments) is at in let one : 40 ≡ byte = cc in sym one)
