-- Lemmas on the files that define a name.
use Rattle.std.proofs.Common.{◌≡◌, ℕ, Bool, false, cond, Some, sym, ap, subst, ◌∙◌, inl, inr}
use Rattle.std.specs.Prelude.{◌&&◌, ◌||◌, ◌==◌, not}
use Rattle.std.specs.HashMap.{HashMap, get}
use Rattle.std.proofs.Math.Bool.{and-false, and-or_distrib_left, and-true, or-false, or_assoc}
use Rattle.mh_join_names.specs.declared.names.DefiningFiles.{DefiningFiles}
use Rattle.mh_grammar.specs.Text.{Text}
use Rattle.mh_join_names.specs.Names.{same}
use Rattle.mh_join_names.specs.code.DefiningFiles.{elsewhere_by, AddsDefiningFile}
use Rattle.mh_grammar.proofs.TextEquality.{same_cases, same_refl}

module _ {S : Type 0} where
  pub AddsDefiningFile-one : (old new : HashMap Text DefiningFiles S) (file : ℕ) (name : Text) (more : DefiningFiles) → ((k : ℕ) → elsewhere_by (Some more) k ≡ (elsewhere_by (get same old name) k || not (file == k)))
      → ((q : Text) → get same new q ≡ cond (same name q) (Some more) (get same old q)) → AddsDefiningFile file (λ x. same x name) old new
  AddsDefiningFile-one old new file name more says at = record {
    elsewhere = λ k x. elim (same_cases name x) [
      | inl e ↦ subst (λ z. elsewhere_by (get same new z) k ≡ (elsewhere_by (get same old z) k || (not (file == k) && same z name))) e (here k)
      | inr apart ↦ ap (λ o. elsewhere_by o k) (at x ∙ ap (λ b. cond b (Some more) (get same old x)) apart.0) ∙ sym (or-false (elsewhere_by (get same old x) k))
          ∙ ap (λ b. elsewhere_by (get same old x) k || b) (sym (and-false (not (file == k)))) ∙ ap (λ b. elsewhere_by (get same old x) k || (not (file == k) && b)) (sym apart.1)
    ];
  }
    where
      stored : get same new name ≡ Some more
      stored = at name ∙ ap (λ b. cond b (Some more) (get same old name)) (same_refl name)

      here : (k : ℕ) → elsewhere_by (get same new name) k ≡ (elsewhere_by (get same old name) k || (not (file == k) && same name name))
      here k = ap (λ o. elsewhere_by o k) stored ∙ says k ∙ ap (λ b. elsewhere_by (get same old name) k || b) (sym (and-true (not (file == k))))
          ∙ ap (λ b. elsewhere_by (get same old name) k || (not (file == k) && b)) (sym (same_refl name))

  pub AddsDefiningFile-none : (m : HashMap Text DefiningFiles S) (file : ℕ) → AddsDefiningFile file (λ x. false) m m
  AddsDefiningFile-none m file = record {
    elsewhere = λ k x. sym (or-false (elsewhere_by (get same m x) k)) ∙ ap (λ b. elsewhere_by (get same m x) k || b) (sym (and-false (not (file == k))));
  }

  pub AddsDefiningFile-both : (a b c : HashMap Text DefiningFiles S) (file : ℕ) (f g h : Text → Bool) → ((x : Text) → (f x || g x) ≡ h x) → AddsDefiningFile file f a b → AddsDefiningFile file g b c → AddsDefiningFile file h a c
  AddsDefiningFile-both a b c file f g h both p q = record {
    elsewhere = λ k x. q.elsewhere k x ∙ ap (λ v. v || (not (file == k) && g x)) (p.elsewhere k x) ∙ or_assoc (elsewhere_by (get same a x) k) (not (file == k) && f x) (not (file == k) && g x)
        ∙ ap (λ v. elsewhere_by (get same a x) k || v) (sym (and-or_distrib_left (not (file == k)) (f x) (g x)) ∙ ap (λ v. not (file == k) && v) (both x));
  }
