-- Lemmas on lists of values by name from which a name is removed.
use Rattle.std.proofs.Common.{◌≡◌, Bool, true, false, cond, List, [], ◌∷◌, Option, Some, None, refl, sym, ap, ◌∙◌}
use Rattle.std.proofs.lemmas.Bool.{cond-false}
use Rattle.mh_grammar.specs.Text.{Text}
use Rattle.mh_grammar.proofs.TextEquality.{equal_from_same}
use Rattle.mh_session_branches.specs.Names.{same, at_name, without_name}

module _ {X : Type 0} where
  self_step : (b : Bool) (name : Text) (e : Text × X) (es : List (Text × X)) → same name e.0 ≡ b → at_name name (without_name name es) ≡ None → at_name name (cond b (without_name name es) (e ∷ without_name name es)) ≡ None
  self_step true name e es h rest = rest
  self_step false name e es h rest = cond-false (same name e.0) (Some e.1) (at_name name (without_name name es)) h ∙ rest

  -- The removed name has no value.
  pub without_self : (name : Text) (es : List (Text × X)) → at_name name (without_name name es) ≡ None
  without_self name [] = refl
  without_self name (e ∷ es) = self_step (same name e.0) name e es refl (without_self name es)

  other_step : (b : Bool) (q name : Text) (e : Text × X) (es : List (Text × X)) → same name e.0 ≡ b → same q name ≡ false → at_name q (without_name name es) ≡ at_name q es → at_name q (cond b (without_name name es) (e ∷ without_name name es)) ≡ at_name q (e ∷ es)
  other_step true q name e es f h rest = rest ∙ sym (cond-false (same q e.0) (Some e.1) (at_name q es) (ap (same q) (sym (equal_from_same name e.0 f)) ∙ h))
  other_step false q name e es f h rest = ap (λ (o : Option X). cond (same q e.0) (Some e.1) o) rest

  -- Each other name has its old value.
  pub without_other : (q name : Text) (es : List (Text × X)) → same q name ≡ false → at_name q (without_name name es) ≡ at_name q es
  without_other q name [] h = refl
  without_other q name (e ∷ es) h = other_step (same name e.0) q name e es refl h (without_other q name es h)
