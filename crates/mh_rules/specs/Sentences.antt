-- Sentences over instances, by derivation trees (textbook).
use Rattle.std.specs.Prelude.{◌≡◌, ℕ, List, Some, slice_get}
use Rattle.std.specs.List.{Contains}
use Rattle.mh_grammar.specs.Derivations.{Derivation}
use Rattle.mh_rules.specs.declared.instances.Part.{Part}
use Rattle.mh_rules.specs.declared.instances.Part.TheVariants as parts
use Rattle.mh_rules.specs.declared.instances.InstanceProduction.{InstanceProduction}
use Rattle.mh_rules.specs.declared.instances.Instance.{Instance}
use Rattle.mh_rules.specs.declared.instances.Expanded.{Expanded}

abbrev pub IsTokenPart : Part → ℕ → Type 0
IsTokenPart (parts.Token y) z = y ≡ z
IsTokenPart (parts.Instance n) z = ⊥

abbrev pub PartProduces : Expanded → Part → List Part → Type 0
PartProduces e (parts.Token y) rhs = ⊥
PartProduces e (parts.Instance n) rhs = (i : Instance) × (p : InstanceProduction) × (slice_get e.instances n ≡ Some i) × Contains i.productions p × (p.rhs ≡ rhs)

-- The start symbol with this instance derives the word.
abbrev pub IsInstanceSentence : Expanded → ℕ → List ℕ → Type 0
IsInstanceSentence e n w = Derivation IsTokenPart (PartProduces e) (parts.Instance n) w
