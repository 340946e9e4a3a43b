-- The actuals of `%on_error_reduce` declarations, by the numbers of the declarations.
use Rattle.std.proofs.Common.{◌≡◌, ℕ, ◌+◌, ◌<◌, ◌≤◌, Bool, true, false, cond, List, Option, None, Some, length, arith, refl, sym, ap, subst, ◌∙◌, inl, inr}
use Rattle.std.specs.Prelude.{nat_lt}
use Rattle.std.specs.List.{slice_get}
use Rattle.std.specs.Option.{option_and_then}
use Rattle.std.proofs.lemmas.Bool.{cases_lt, lt-ltb, ltb-true}
use Rattle.std.proofs.lemmas.Option.{same_Some, slice_get_past}
use Rattle.mh_grammar.specs.Text.{Text}
use Rattle.mh_expand.specs.Terms.{term_of, text}
use Rattle.mh_rules.specs.declared.joined.Applied.{Applied}
use Rattle.mh_rules.specs.declared.joined.Joined.{Joined}
use Rattle.mh_lint.specs.code.Declarations.{IsDeclaredAt, actual_of, declared, number_below}
use Rattle.mh_lint.specs.code.Declarations as declarations

pub number_here : (n number : ℕ) → number < n → Some number ≡ number_below n number
number_here n number l = sym (ap (λ b. cond b (Some number) None) (lt-ltb number n l))

pub number_past : (n number : ℕ) → n ≤ number → None ≡ number_below n number
number_past n number le = by (nat_lt number n) refl
  where
    by : (b : Bool) → nat_lt number n ≡ b → None ≡ cond b (Some number) None
    by true t = (let l = ltb-true number n t in absurd (omega (arith, l, le)))
    by false t = refl

pub number_some : (n number k : ℕ) → Some k ≡ number_below n number → (k ≡ number) × (number < n)
number_some n number k e = by (nat_lt number n) refl e
  where
    by : (b : Bool) → nat_lt number n ≡ b → Some k ≡ cond b (Some number) None → (k ≡ number) × (number < n)
    by true t f = (same_Some k number f, ltb-true number n t)
    by false t f = cc

pub number_none : (n number : ℕ) → None ≡ number_below n number → n ≤ number
number_none n number e = elim (cases_lt number n) [
  | inl l ↦ (let some = number_here n number l in let bad : Some number ≡ None = some ∙ sym e in cc)
  | inr le ↦ le
]

module _ (j : Joined) (before rank item : ℕ) where
  pub none_declared : length j.on_error ≤ before + rank → IsDeclaredAt j before rank item None
  none_declared past = declarations.IsDeclaredAt.none (ap (option_and_then (λ (actuals : List Applied). slice_get actuals item)) (slice_get_past j.on_error (before + rank) past))

  pub actual_at : (actuals : List Applied) (found : Option Applied) → slice_get j.on_error (before + rank) ≡ Some actuals → slice_get actuals item ≡ found → actual_of j before rank item ≡ found
  actual_at actuals found at is = ap (option_and_then (λ (xs : List Applied). slice_get xs item)) at ∙ is

  pub some_declared : (actual : Applied) (number : ℕ) (name : Text) → actual_of j before rank item ≡ Some actual → number ≡ before + rank → name ≡ text j (term_of actual) → IsDeclaredAt j before rank item (Some (declared number name))
  some_declared actual number name at same is = subst (λ x. IsDeclaredAt j before rank item (Some x)) (λ i. declared (sym same i) (sym is i)) (declarations.IsDeclaredAt.some actual at)
