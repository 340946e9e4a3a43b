-- Lemmas on productions by their numbers, and by their indices in the list of ordinary productions.
use Rattle.std.proofs.Common.{◌≡◌, ℕ, ◌+◌, ◌-◌, ◌<◌, [], ◌∷◌, Some, length, get_or, refl, sym, ap, ◌∙◌, arith, inl, inr}
use Rattle.std.specs.List.{slice_get}
use Rattle.std.proofs.lemmas.Bool.{lt-ltb, le-ltb}
use Rattle.std.proofs.lemmas.Option.{slice_get_within, slice_get_cases}
use Rattle.mh_grammar.specs.declared.types.Symbol.TheVariants.{N}
use Rattle.mh_grammar.specs.declared.types.Production.{Production}
use Rattle.mh_grammar.specs.Plain.{PlainGrammar, Produces, IsProductionFor, rhs_of, lhs_of}

after : (s k : ℕ) → s + k - s ≡ k
after s k = omega arith

pub rhs_of-ordinary : (g : PlainGrammar) (k : ℕ) (p : Production) → slice_get g.productions k ≡ Some p → rhs_of g (length g.starts + k) ≡ p.rhs
unfolding rhs_of
rhs_of-ordinary g k p at = rw (le-ltb (length g.starts + k) (length g.starts) (omega arith), after (length g.starts) k, at) refl

pub lhs_of-ordinary : (g : PlainGrammar) (k : ℕ) (p : Production) → slice_get g.productions k ≡ Some p → lhs_of g (length g.starts + k) ≡ p.lhs
unfolding lhs_of
lhs_of-ordinary g k p at = rw (after (length g.starts) k, at) refl

pub rhs_of-start : (g : PlainGrammar) (p : ℕ) → p < length g.starts → rhs_of g p ≡ N (get_or g.starts p 0) ∷ []
unfolding rhs_of
rhs_of-start g p l = rw (lt-ltb p (length g.starts) l) refl

-- The production at an index of the list is an ordinary production, with the number of starts added to the index as its
-- number.
pub IsProductionFor-ordinary : (g : PlainGrammar) (k : ℕ) (p : Production) → slice_get g.productions k ≡ Some p → IsProductionFor g p.lhs (length g.starts + k)
IsProductionFor-ordinary g k p at = let l = slice_get_within g.productions k p at in record {
  ordinary = omega arith;
  known = omega arith;
  lhs = lhs_of-ordinary g k p at;
}

pub Produces-ordinary : (g : PlainGrammar) (k : ℕ) (p : Production) → slice_get g.productions k ≡ Some p → Produces g (N p.lhs) p.rhs
Produces-ordinary g k p at = (length g.starts + k, IsProductionFor-ordinary g k p at, rhs_of-ordinary g k p at)

pub produces_at : (g : PlainGrammar) (k : ℕ) (p : Production) (n : ℕ) → slice_get g.productions k ≡ Some p → p.lhs ≡ n → Produces g (N n) p.rhs
produces_at g k p n at e = rw e at (Produces-ordinary g k p at)

-- The index and the production of an ordinary production's number.
pub record IsListed (g : PlainGrammar) (n q : ℕ) : Type 0 where
  pub place : ℕ
  pub production : Production
  pub at : slice_get g.productions place ≡ Some production
  pub number : q ≡ length g.starts + place
  pub lhs : production.lhs ≡ n
  pub rhs : rhs_of g q ≡ production.rhs

pub listed_from_for : (g : PlainGrammar) (n q : ℕ) → IsProductionFor g n q → IsListed g n q
listed_from_for g n q h =
    let k = q - length g.starts in
    let number : q ≡ length g.starts + k = omega (arith, h.ordinary) in
    let l : k < length g.productions = omega (arith, h.ordinary, h.known) in
    elim (slice_get_cases g.productions k).1 [
      | inl found ↦ record {
        place = k;
        production = found.0;
        at = found.2;
        number = number;
        lhs = sym (lhs_of-ordinary g k found.0 found.2) ∙ ap (lhs_of g) (sym number) ∙ h.lhs;
        rhs = ap (rhs_of g) number ∙ rhs_of-ordinary g k found.0 found.2;
      }
      | inr past ↦ absurd (omega (arith, past.0))
    ]
