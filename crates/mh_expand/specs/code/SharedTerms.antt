-- Terms as numbered nodes that share their subterms.
use Rattle.std.specs.Prelude.{◌≡◌, ◌<◌, ℕ, List, [], ◌∷◌, ◌++◌, Some, map, length, slice_get}
use Rattle.std.specs.Option.{unwrap_or}
use Rattle.std.specs.List.{All}
use Rattle.mh_grammar.specs.Numbering.{AreDistinct}
use Rattle.mh_rules.specs.declared.joined.Head.TheVariants.{Token}
use Rattle.mh_expand.specs.declared.applications.Application.{Application}
use Rattle.mh_expand.specs.Terms.{Term, Atom, apply_all}

-- The term with this number. The number is always in range where this is used.
abbrev pub term_at : List Term → ℕ → Term
term_at ts n = unwrap_or (slice_get ts n) (Atom (Token 0))

abbrev pub terms_at : List Term → List ℕ → List Term
terms_at ts ns = map (term_at ts) ns

-- The term of a node whose arguments are among the terms ts.
abbrev pub node_term : List Term → Application → Term
node_term ts n = apply_all (Atom n.head) (terms_at ts n.args)

-- The terms ts followed by the terms of the nodes.
abbrev pub terms_from : List Term → List Application → List Term
terms_from ts [] = ts
terms_from ts (n ∷ ns) = terms_from (ts ++ node_term ts n ∷ []) ns

unfoldable pub terms_of : List Application → List Term
terms_of ns = terms_from [] ns

-- All nodes differ, and the arguments of each node have smaller numbers than the node.
pub record AreNodes (ns : List Application) : Type 0 where
  pub distinct : AreDistinct ns
  pub below : (i : ℕ) (n : Application) → slice_get ns i ≡ Some n → All (λ a. a < i) n.args

-- The new list is the old list with terms appended.
abbrev pub IsExtendedBy : List Term → List Term → Type 0
IsExtendedBy old new = (more : List Term) × (new ≡ old ++ more)

-- The node n is that of the term t over the terms ts.
pub record IsNode (ts : List Term) (n : Application) (t : Term) : Type 0 where
  pub below : All (λ a. a < length ts) n.args
  pub term_is : node_term ts n ≡ t
