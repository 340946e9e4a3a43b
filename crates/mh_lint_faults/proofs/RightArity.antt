-- Whether a term has as many arguments as its head takes.
use Rattle.std.proofs.Common.{◌≡◌, ◌↔◌, ℕ, Bool, true, false, List, [], length, Option, Some, None, nat_eq, map, ap, sym, subst, arith, ◌∙◌}
use Rattle.std.specs.Prelude.{IsTrue, slice_get}
use Rattle.std.specs.Option.{option_map}
use Rattle.std.proofs.lemmas.Grind.{common_steps}
use Rattle.std.proofs.lemmas.List.{length-map, nil_from_length}
use Rattle.mh_rules.specs.declared.joined.Head.{Head}
use Rattle.mh_rules.specs.declared.joined.Head.TheVariants as heads
use Rattle.mh_rules.specs.declared.joined.Joined.{Joined}
use Rattle.mh_rules.specs.declared.joined.JoinedRule.{JoinedRule}
use Rattle.mh_rules.specs.declared.joined.Applied.{Applied}
use Rattle.mh_rules.specs.declared.joined.Applied.TheViews.{out-Applied}
use Rattle.mh_expand.specs.Terms.{Term, Atom, arguments, head_of, term_of}
use Rattle.mh_expand.specs.Expansion.{HasRightArity, TakesArguments}
use Rattle.mh_expand.proofs.ApplyAll.{arguments-apply_all, head_of-apply_all}
use Rattle.mh_expand.proofs.ReplacedActuals.{term_of-out}

head_is : (a : Applied) → head_of (term_of a) ≡ (out-Applied a).head
head_is a = ap head_of (term_of-out a) ∙ head_of-apply_all (Atom (out-Applied a).head) (map term_of (out-Applied a).args)

count_is : (a : Applied) → length (arguments (term_of a)) ≡ length (out-Applied a).args
count_is a = ap (λ (t : Term). length (arguments t)) (term_of-out a) ∙ ap length (arguments-apply_all (Atom (out-Applied a).head) (map term_of (out-Applied a).args)) ∙ length-map (out-Applied a).args term_of

-- The term has the right number of arguments exactly if its head takes the number of arguments of the actual.
arity_by : (j : Joined) (a : Applied) (h : Head) → (out-Applied a).head ≡ h → TakesArguments j h (length (out-Applied a).args) ↔ HasRightArity j (term_of a)
arity_by j a h is = (
  λ t. subst (λ (n : ℕ). TakesArguments j (head_of (term_of a)) n) (sym (count_is a)) (subst (λ (k : Head). TakesArguments j k (length (out-Applied a).args)) (sym (head_is a ∙ is)) t),
  λ t. subst (λ (k : Head). TakesArguments j k (length (out-Applied a).args)) (head_is a ∙ is) (subst (λ (n : ℕ). TakesArguments j (head_of (term_of a)) n) (count_is a) t),
)

same_number : (m n : ℕ) → IsTrue (nat_eq m n) ↔ (m ≡ n)
same_number m n = (λ e. grind (arith, common_steps), λ e. grind (arith, common_steps))

module _ (j : Joined) (a : Applied) where
  pub of_token : (z : ℕ) (b : Bool) → (out-Applied a).head ≡ heads.Token z → IsTrue b ↔ ((out-Applied a).args ≡ []) → IsTrue b ↔ HasRightArity j (term_of a)
  of_token z b is test = (λ e. (arity_by j a (heads.Token z) is).0 (ap length (test.0 e)), λ h. test.1 (nil_from_length (out-Applied a).args ((arity_by j a (heads.Token z) is).1 h)))

  pub of_formal : (k : ℕ) → (out-Applied a).head ≡ heads.Formal k → IsTrue false ↔ HasRightArity j (term_of a)
  of_formal k is = (λ e. absurd (let y : false ≡ true = e in cc), λ h. absurd ((arity_by j a (heads.Formal k) is).1 h))

  pub of_rule : (n count : ℕ) (r : JoinedRule) → (out-Applied a).head ≡ heads.Rule n → slice_get j.rules n ≡ Some r → count ≡ length (out-Applied a).args → IsTrue (nat_eq r.formals count) ↔ HasRightArity j (term_of a)
  of_rule n count r is there counted = (
    λ e. (arity_by j a (heads.Rule n) is).0 (ap (option_map (λ (q : JoinedRule). q.formals)) there ∙ ap (λ (m : ℕ). Some m) ((same_number r.formals count).0 e ∙ counted)),
    λ h. (same_number r.formals count).1 (let both : Some r.formals ≡ Some (length (out-Applied a).args) = sym (ap (option_map (λ (q : JoinedRule). q.formals)) there) ∙ (arity_by j a (heads.Rule n) is).1 h in let one : r.formals ≡ length (out-Applied a).args = cc in one ∙ sym counted),
  )

  pub of_no_rule : (n : ℕ) → (out-Applied a).head ≡ heads.Rule n → slice_get j.rules n ≡ None → IsTrue false ↔ HasRightArity j (term_of a)
  of_no_rule n is none = (
    λ e. absurd (let y : false ≡ true = e in cc),
    λ h. absurd (let both : None ≡ Some (length (out-Applied a).args) = sym (ap (option_map (λ (q : JoinedRule). q.formals)) none) ∙ (arity_by j a (heads.Rule n) is).1 h in cc),
  )
