-- Lemmas on the replacement of formals in an actual.
use Rattle.std.proofs.Common.{◌≡◌, ℕ, ◌<◌, List, [], ◌∷◌, ◌++◌, Some, length, map, refl, sym, ap, ◌∙◌, arith, inl, inr}
use Rattle.std.specs.List.{slice_get, All}
use Rattle.std.proofs.lemmas.List.{map-append, append-nil, append_assoc, length-append}
use Rattle.std.proofs.lemmas.List.Elements.{All-push}
use Rattle.std.proofs.lemmas.Option.{slice_get_within}
use Rattle.mh_rules.specs.declared.joined.Applied.{Applied}
use Rattle.mh_rules.specs.declared.joined.Applied.TheViews.{out-Applied}
use Rattle.mh_rules.specs.declared.joined.Applied.TheFolds.{fold_out-Applied}
use Rattle.mh_grammar.specs.Placed.{Placed}
use Rattle.mh_expand.specs.declared.applications.Application.{Application}
use Rattle.mh_expand.specs.Terms.{Term, Atom, Apply, apply_all, term_step, term_of, replaced, replaced_head}
use Rattle.mh_expand.specs.code.SharedTerms.{term_at, terms_at, node_term, IsNode, IsExtendedBy}
use Rattle.mh_expand.proofs.ApplyAll.{apply_all-push, replaced-apply_all}
use Rattle.mh_expand.proofs.SharedTerms.{node_term-kept, term_at-slice_get}

pub IsExtendedBy-refl : (ts : List Term) → IsExtendedBy ts ts
IsExtendedBy-refl ts = ([], sym (append-nil ts))

pub IsExtendedBy-trans : (a b c : List Term) → IsExtendedBy a b → IsExtendedBy b c → IsExtendedBy a c
IsExtendedBy-trans a b c g h = (g.0 ++ h.0, h.1 ∙ ap (λ l. l ++ h.0) g.1 ∙ append_assoc a g.0 h.0)

pub IsExtendedBy-placed : (a b : List Term) (t : Term) (n : ℕ) → Placed a b t n → IsExtendedBy a b
IsExtendedBy-placed a b t n p = elim p.grown [ inl g ↦ ([], g.0 ∙ sym (append-nil a)) | inr g ↦ (t ∷ [], g.0) ]

-- The term of an actual with its formals replaced.
abbrev pub replaced_term_of : List Term → Applied → Term
replaced_term_of fs a = replaced fs (term_of a)

-- Invariant: the node applied to the remaining actuals is the term.
pub record IsReplacing (old new fs : List Term) (n : Application) (rest : List Applied) (t : Term) : Type 0 where
  pub grows : IsExtendedBy old new
  pub below : All (λ a. a < length new) n.args
  pub term_is : apply_all (node_term new n) (map (replaced_term_of fs) rest) ≡ t

map_map : {X Y Z : Type 0} (f : Y → Z) (g : X → Y) (xs : List X) → map f (map g xs) ≡ map (λ x. f (g x)) xs
map_map f g [] = refl
map_map f g (x ∷ xs) = let rest = map_map f g xs in λ i. f (g x) ∷ rest i

pub term_of-out : (a : Applied) → term_of a ≡ apply_all (Atom (out-Applied a).head) (map term_of (out-Applied a).args)
term_of-out a = fold_out-Applied Term term_step a

pub IsReplacing-start : (ts fs : List Term) (n : Application) (a : Applied) → IsNode ts n (replaced_head fs (out-Applied a).head) → IsReplacing ts ts fs n (out-Applied a).args (replaced_term_of fs a)
IsReplacing-start ts fs n a w = record {
  grows = IsExtendedBy-refl ts;
  below = w.below;
  term_is =
      let whole = ap (replaced fs) (term_of-out a) ∙ replaced-apply_all fs (Atom (out-Applied a).head) (map term_of (out-Applied a).args) in
      ap (λ t. apply_all t (map (replaced_term_of fs) (out-Applied a).args)) w.term_is ∙ ap (apply_all (replaced_head fs (out-Applied a).head)) (sym (map_map (replaced fs) term_of (out-Applied a).args)) ∙ sym whole;
}

-- The invariant still holds after the formals of one more actual are replaced.
pub IsReplacing-step : (old mid new fs : List Term) (n : Application) (a : Applied) (rest : List Applied) (t : Term) (number : ℕ) → IsReplacing old mid fs n (a ∷ rest) t → IsExtendedBy mid new → slice_get new number ≡ Some (replaced_term_of fs a) → IsReplacing old new fs (record { head = n.head; args = n.args ++ number ∷ [] }) rest t
IsReplacing-step old mid new fs n a rest t number w g e = record {
  grows = IsExtendedBy-trans old mid new w.grows g;
  below = All-push (λ x. x < length new) n.args number (λ k d l. omega (arith, w.below k d l, ap length g.1, length-append mid g.0)) (slice_get_within new number (replaced_term_of fs a) e);
  term_is =
      let kept = node_term-kept mid new n g w.below in
      let push : node_term new (record { head = n.head; args = n.args ++ number ∷ [] }) ≡ Apply (node_term mid n) (replaced_term_of fs a) =
      ap (apply_all (Atom n.head)) (map-append (term_at new) n.args (number ∷ []))
      ∙ apply_all-push (Atom n.head) (terms_at new n.args) (term_at new number)
      ∙ ap (λ f. Apply f (term_at new number)) kept
      ∙ ap (Apply (node_term mid n)) (term_at-slice_get new number (replaced_term_of fs a) e) in
      ap (λ f. apply_all f (map (replaced_term_of fs) rest)) push ∙ w.term_is;
}

-- When all actuals are replaced and the term is placed, the term list only grew, and the term has the number.
pub IsReplacing-done : (old mid new fs : List Term) (n : Application) (t : Term) (number : ℕ) → IsReplacing old mid fs n [] t → Placed mid new (node_term mid n) number → IsExtendedBy old new × (slice_get new number ≡ Some t)
IsReplacing-done old mid new fs n t number w p = (IsExtendedBy-trans old mid new w.grows (IsExtendedBy-placed mid new (node_term mid n) number p), p.at ∙ ap Some w.term_is)
