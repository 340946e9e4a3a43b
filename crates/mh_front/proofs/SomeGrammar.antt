-- Proves, as a double negation, that modules in range have a grammar or a first fault.
use Rattle.std.proofs.Common.{◌⊎◌, inl, inr, Bool, List, Ok}
use Rattle.mh_grammar.specs.declared.types.Grammar.{Grammar}
use Rattle.mh_grammar.specs.NotLacking.{NotLacking}
use Rattle.mh_grammar.proofs.NotLacking.{given, chain}
use Rattle.mh_rules.specs.declared.modules.Module.{Module}
use Rattle.mh_rules.specs.declared.joined.Joined.{Joined}
use Rattle.mh_rules.specs.Ready.{AreModulesReady}
use Rattle.mh_join_names.specs.Joining.{Joins}
use Rattle.mh_join.proofs.JoinedReady as joins
use Rattle.mh_expand.proofs.MaxInstances.{few_instances}
use Rattle.mh_expand.proofs.InstancesInRange.{IsExpandedReady-expanded}
use Rattle.mh_front.specs.declared.fault.GrammarFault.{GrammarFault}
use Rattle.mh_front.specs.declared.fault.GrammarFault.TheVariants.{Join, Expand, Inline}
use Rattle.mh_front.specs.Stages.{IsGrammarFault, IsGrammarOfModules}
use Rattle.mh_front.proofs.JoinedOrFault.{joined_or_fault}
use Rattle.mh_front.proofs.ExpandedOrFault.{expanded_or_fault}
use Rattle.mh_front.proofs.SomeInlined.{inlined_or_fault}

module _ (prelude : Bool) (modules : List Module) (ready : AreModulesReady modules) where
  abbrev pub GrammarOrFault : Type 0
  GrammarOrFault = ((g : Grammar) × IsGrammarOfModules prelude modules g) ⊎ ((fault : GrammarFault) × IsGrammarFault prelude modules fault)

  of_joined : (j : Joined) → Joins prelude modules (Ok j) → NotLacking GrammarOrFault
  of_joined j joined = elim (expanded_or_fault j) [
    | inl e ↦ chain (inlined_or_fault e.0 (IsExpandedReady-expanded j e.0 e.1 (joins.ready prelude modules j ready joined) (few_instances j e.0 e.1))) (λ r. elim r [
      | inl g ↦ given (inl (g.0, record { joined = j; joins = joined; grammar = record { expanded = e.0; expands = e.1; grammar = g.1 } }))
      | inr fault ↦ given (inr (Inline fault.0, record { joined = j; joins = joined; is_fault = record { expanded = e.0; expands = e.1; is_fault = fault.2; not_memory = fault.1 } }))
    ])
    | inr fault ↦ given (inr (Expand fault.0, record { joined = j; joins = joined; is_fault = fault.1 }))
  ]

  pub some_grammar : NotLacking GrammarOrFault
  some_grammar = elim (joined_or_fault prelude modules) [
    | inl j ↦ of_joined j.0 j.1
    | inr fault ↦ given (inr (Join fault.0, fault.1))
  ]
