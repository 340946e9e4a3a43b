-- Proves that the sentences over terms are the sentences over instances.
use Rattle.std.proofs.Common.{◌≡◌, ℕ, zero, suc, List, [], ◌∷◌, Some, length, refl, sym, ap, ◌∙◌}
use Rattle.std.specs.List.{slice_get, AllZip}
use Rattle.std.specs.Option.{option_map}
use Rattle.std.proofs.lemmas.Option.{slice_get-map}
use Rattle.std.proofs.lemmas.List.{length-map}
use Rattle.mh_grammar.proofs.Lists.{contains_none, zip_left, zip_length, zip_right}
use Rattle.mh_grammar.proofs.NumberingInvariant.{contains_at, at_contains}
use Rattle.mh_rules.specs.declared.joined.Head.TheVariants.{Token}
use Rattle.mh_rules.specs.declared.joined.Joined.{Joined}
use Rattle.mh_rules.specs.declared.instances.Part.{Part}
use Rattle.mh_rules.specs.declared.instances.Part.TheVariants as parts
use Rattle.mh_rules.specs.declared.instances.Expanded.{Expanded}
use Rattle.mh_expand.specs.Terms.{Term, Atom}
use Rattle.mh_expand.specs.Expansion as expansion
use Rattle.mh_expand.specs.Expansion.{IsInstance, IsReached, IsPart, IsProduction, IsInstanceOf, IsExpanded, alternatives_of, right_side, start_term, start_terms}
use Rattle.mh_rules.specs.Sentences.{IsTokenPart, PartProduces}
use Rattle.mh_expand.specs.Sentences.{IsTokenTerm, TermProduces, HasSameSentences}
use Rattle.mh_expand.proofs.IsExpanding.{start_rule}
use Rattle.mh_expand.proofs.Simulation.{derivation_along}

zip_flip : {A B : Type 0} (R : A → B → Type 0) (xs : List A) (ys : List B) → AllZip R xs ys → AllZip (λ y x. R x y) ys xs
zip_flip R [] [] z = tt
zip_flip R [] (w ∷ ys) z = absurd z
zip_flip R (v ∷ xs) [] z = absurd z
zip_flip R (v ∷ xs) (w ∷ ys) z = (z.0, zip_flip R xs ys z.1)

pub IsReached-instance : (j : Joined) (t : Term) → IsReached j t → IsInstance t
IsReached-instance j t (expansion.IsReached.start c) = start_rule j t c
IsReached-instance j t (expansion.IsReached.producer r c i) = i

module _ (j : Joined) (e : Expanded) (w : IsExpanded j e) where
  no_token : (n z : ℕ) (t : Term) → slice_get w.terms n ≡ Some t → t ≡ Atom (Token z) → ⊥
  no_token n z t at is = let i = IsReached-instance j t ((w.exact t).0 (contains_at w.terms n t at)) in rw is at i

  to_token : (t : Term) (p : Part) (a : ℕ) → IsPart w.terms t p → IsTokenTerm t a → IsTokenPart p a
  to_token t (parts.Token z) a r is = let f : Atom (Token z) ≡ Atom (Token a) = sym r ∙ is in let g : Token z ≡ Token a = cc in cc
  to_token t (parts.Instance n) a r is = no_token n a t r is

  to_step : (t : Term) (p : Part) (rhs : List Term) → IsPart w.terms t p → TermProduces j t rhs → (side : List Part) × PartProduces e p side × AllZip (IsPart w.terms) rhs side
  to_step t (parts.Token z) rhs r s = absurd (contains_none s.0 (rw r at s.1))
  to_step t (parts.Instance n) rhs r s =
      let i = zip_left (IsInstanceOf j w.terms) w.terms e.instances w.each n t r in
      let at = at_contains (alternatives_of j t) s.0 s.1 in
      let p = zip_left (IsProduction w.terms t) (alternatives_of j t) i.0.productions i.2.productions at.0 s.0 at.1 in
      (p.0.rhs, (i.0, p.0, i.1, contains_at i.0.productions at.0 p.0 p.1, refl), rw (← s.2) p.2.rhs)

  from_token : (p : Part) (t : Term) (a : ℕ) → IsPart w.terms t p → IsTokenPart p a → IsTokenTerm t a
  from_token (parts.Token z) t a r is = r ∙ ap (λ y. Atom (Token y)) is
  from_token (parts.Instance n) t a r is = absurd is

  from_step : (p : Part) (t : Term) (side : List Part) → IsPart w.terms t p → PartProduces e p side → (rhs : List Term) × TermProduces j t rhs × AllZip (λ q u. IsPart w.terms u q) side rhs
  from_step (parts.Token z) t side r s = absurd s
  from_step (parts.Instance n) t side r s =
      let i = zip_left (IsInstanceOf j w.terms) w.terms e.instances w.each n t r in
      let same : i.0 ≡ s.0 = (let a = i.1 in let b = s.2 in cc) in
      let at = at_contains s.0.productions s.1 s.3 in
      let made : IsInstanceOf j w.terms t s.0 = rw same at i.2 in
      let a = zip_right (IsProduction w.terms t) (alternatives_of j t) s.0.productions made.productions at.0 s.1 at.1 in
      (right_side t a.0, (a.0, contains_at (alternatives_of j t) at.0 a.0 a.1, refl), rw (← s.4) (zip_flip (IsPart w.terms) (right_side t a.0) s.1.rhs a.2.rhs))

  pub has_same_sentences : HasSameSentences j e
  has_same_sentences = record {
    starts = zip_length (λ n t. slice_get w.terms n ≡ Some t) e.starts (start_terms j) w.starts ∙ length-map j.starts start_term;
    same = λ k r n word a b.
        let term = zip_left (λ m t. slice_get w.terms m ≡ Some t) e.starts (start_terms j) w.starts k n b in
        let here : slice_get (start_terms j) k ≡ Some (start_term r) = slice_get-map start_term j.starts k ∙ ap (option_map start_term) a in
        let same : term.0 ≡ start_term r = (let x = term.1 in cc) in
        let part : IsPart w.terms (start_term r) (parts.Instance n) = rw (← same) term.2 in (
          (λ d. derivation_along IsTokenTerm (TermProduces j) IsTokenPart (PartProduces e) (IsPart w.terms) to_token to_step (start_term r) word d (parts.Instance n) part),
          (λ d. derivation_along IsTokenPart (PartProduces e) IsTokenTerm (TermProduces j) (λ q u. IsPart w.terms u q) from_token from_step (parts.Instance n) word d (start_term r) part),
        );
  }
