-- Proves that nodes that compare equal are equal.
use Rattle.std.proofs.Common.{◌≡◌, ℕ, List, Bool, false, ◌&&◌, eqb, Decides, refl, sym, ap, ◌∙◌}
use Rattle.std.specs.Cmp.Lexicographic.{pointwise}
use Rattle.std.proofs.lemmas.Slice.Eq.{slice_eq-Decides}
use Rattle.std.proofs.lemmas.Bool.Decides.{Decides-eqb}
use Rattle.std.proofs.lemmas.Bool.{and_parts, and_from}
use Rattle.mh_rules.specs.declared.joined.Head.{Head}
use Rattle.mh_rules.specs.declared.joined.Head.TheVariants.{Formal, Token, Rule}
use Rattle.mh_expand.specs.declared.applications.Application.{Application}

abbrev pub node : Head → List ℕ → Application
node h ns = record { head = h; args = ns }

abbrev pub head_eq : Head → Head → Bool
head_eq (Formal k) (Formal l) = eqb k l
head_eq (Token k) (Token l) = eqb k l
head_eq (Rule k) (Rule l) = eqb k l
head_eq (Formal k) (Token l) = false
head_eq (Formal k) (Rule l) = false
head_eq (Token k) (Formal l) = false
head_eq (Token k) (Rule l) = false
head_eq (Rule k) (Formal l) = false
head_eq (Rule k) (Token l) = false

head_Decides : (h g : Head) → Decides (head_eq h g) (h ≡ g)
head_Decides (Formal k) (Formal l) = ((λ e. ap Formal ((Decides-eqb k l).0 e)), (λ e. let f : k ≡ l = cc in (Decides-eqb k l).1 f))
head_Decides (Token k) (Token l) = ((λ e. ap Token ((Decides-eqb k l).0 e)), (λ e. let f : k ≡ l = cc in (Decides-eqb k l).1 f))
head_Decides (Rule k) (Rule l) = ((λ e. ap Rule ((Decides-eqb k l).0 e)), (λ e. let f : k ≡ l = cc in (Decides-eqb k l).1 f))
head_Decides (Formal k) (Token l) = ((λ e. cc), (λ e. cc))
head_Decides (Formal k) (Rule l) = ((λ e. cc), (λ e. cc))
head_Decides (Token k) (Formal l) = ((λ e. cc), (λ e. cc))
head_Decides (Token k) (Rule l) = ((λ e. cc), (λ e. cc))
head_Decides (Rule k) (Formal l) = ((λ e. cc), (λ e. cc))
head_Decides (Rule k) (Token l) = ((λ e. cc), (λ e. cc))

node_Decides : (a b : Application) (r : Bool) → r ≡ (head_eq a.head b.head && pointwise eqb a.args b.args) → Decides r (a ≡ b)
node_Decides a b r e =
    let args = slice_eq-Decides Decides-eqb a.args b.args (pointwise eqb a.args b.args) refl in (
      (λ h. let t = and_parts _ _ (sym e ∙ h) in
          let p = (head_Decides a.head b.head).0 t.0 in
          let q = args.0 t.1 in
          λ i. record { head = p i; args = q i }),
      (λ h. e ∙ and_from _ _ ((head_Decides a.head b.head).1 (ap (λ (x : Application). x.head) h)) (args.1 (ap (λ (x : Application). x.args) h))),
    )

-- The function decides equality of nodes.
pub record Compares (E : Application → Application → Bool) : Type 0 where
  pub formals : (k l : ℕ) (xs ys : List ℕ) → E (node (Formal k) xs) (node (Formal l) ys) ≡ (eqb k l && pointwise eqb xs ys)
  pub tokens : (k l : ℕ) (xs ys : List ℕ) → E (node (Token k) xs) (node (Token l) ys) ≡ (eqb k l && pointwise eqb xs ys)
  pub rules : (k l : ℕ) (xs ys : List ℕ) → E (node (Rule k) xs) (node (Rule l) ys) ≡ (eqb k l && pointwise eqb xs ys)
  pub formal_token : (k l : ℕ) (xs ys : List ℕ) → E (node (Formal k) xs) (node (Token l) ys) ≡ false
  pub formal_rule : (k l : ℕ) (xs ys : List ℕ) → E (node (Formal k) xs) (node (Rule l) ys) ≡ false
  pub token_formal : (k l : ℕ) (xs ys : List ℕ) → E (node (Token k) xs) (node (Formal l) ys) ≡ false
  pub token_rule : (k l : ℕ) (xs ys : List ℕ) → E (node (Token k) xs) (node (Rule l) ys) ≡ false
  pub rule_formal : (k l : ℕ) (xs ys : List ℕ) → E (node (Rule k) xs) (node (Formal l) ys) ≡ false
  pub rule_token : (k l : ℕ) (xs ys : List ℕ) → E (node (Rule k) xs) (node (Token l) ys) ≡ false

compares : (E : Application → Application → Bool) → Compares E → (h g : Head) (xs ys : List ℕ) → E (node h xs) (node g ys) ≡ (head_eq h g && pointwise eqb xs ys)
compares E c (Formal k) (Formal l) xs ys = c.formals k l xs ys
compares E c (Token k) (Token l) xs ys = c.tokens k l xs ys
compares E c (Rule k) (Rule l) xs ys = c.rules k l xs ys
compares E c (Formal k) (Token l) xs ys = c.formal_token k l xs ys
compares E c (Formal k) (Rule l) xs ys = c.formal_rule k l xs ys
compares E c (Token k) (Formal l) xs ys = c.token_formal k l xs ys
compares E c (Token k) (Rule l) xs ys = c.token_rule k l xs ys
compares E c (Rule k) (Formal l) xs ys = c.rule_formal k l xs ys
compares E c (Rule k) (Token l) xs ys = c.rule_token k l xs ys

pub compares_Decides : (E : Application → Application → Bool) → Compares E → (a b : Application) → Decides (E a b) (a ≡ b)
compares_Decides E c a b = node_Decides a b (E a b) (compares E c a.head b.head a.args b.args)
