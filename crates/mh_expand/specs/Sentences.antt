-- Sentences over terms and over instances, by derivation trees (textbook); the formals in a term's alternatives are
-- replaced where an alternative is used.
use Rattle.std.specs.Prelude.{◌≡◌, ◌↔◌, ℕ, List, Some, length, slice_get}
use Rattle.std.specs.List.{Contains}
use Rattle.mh_grammar.specs.Derivations.{Derivation}
use Rattle.mh_rules.specs.declared.joined.Head.TheVariants.{Token}
use Rattle.mh_rules.specs.declared.joined.JoinedAlternative.{JoinedAlternative}
use Rattle.mh_rules.specs.declared.joined.Joined.{Joined}
use Rattle.mh_rules.specs.declared.instances.Expanded.{Expanded}
use Rattle.mh_rules.specs.Sentences.{IsInstanceSentence}
use Rattle.mh_expand.specs.Terms.{Term, Atom}
use Rattle.mh_expand.specs.Expansion.{alternatives_of, right_side, start_term}

-- The term is a token.
abbrev pub IsTokenTerm : Term → ℕ → Type 0
IsTokenTerm t z = t ≡ Atom (Token z)

-- The terms rhs are an alternative of the term's rule with its formals replaced.
abbrev pub TermProduces : Joined → Term → List Term → Type 0
TermProduces j t rhs = (a : JoinedAlternative) × Contains (alternatives_of j t) a × (right_side t a ≡ rhs)

-- The start symbol with rule r derives the word.
abbrev pub IsTermSentence : Joined → ℕ → List ℕ → Type 0
IsTermSentence j r w = Derivation IsTokenTerm (TermProduces j) (start_term r) w

-- Each start symbol has the same sentences over terms and over instances.
pub record HasSameSentences (j : Joined) (e : Expanded) : Type 0 where
  pub starts : length e.starts ≡ length j.starts
  pub same : (k r n : ℕ) (w : List ℕ) → slice_get j.starts k ≡ Some r → slice_get e.starts k ≡ Some n → IsTermSentence j r w ↔ IsInstanceSentence e n w
