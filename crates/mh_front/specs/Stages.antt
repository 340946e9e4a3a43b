-- The grammar of several files and their faults, stage by stage: joining, expansion, inlining (Menhir manual on
-- grammars split into files, parameterized rules and inline rules, of which this project supports a part).
use Rattle.std.specs.Prelude.{◌≡◌, Bool, List, Some, Ok}
use Rattle.mh_grammar.specs.declared.types.Grammar.{Grammar}
use Rattle.mh_rules.specs.declared.modules.Module.{Module}
use Rattle.mh_join_names.specs.declared.fault.JoinFault.{JoinFault}
use Rattle.mh_join_names.specs.declared.fault.JoinFault.TheVariants as joining
use Rattle.mh_rules.specs.declared.joined.Joined.{Joined}
use Rattle.mh_join_names.specs.Faults.{join_faults, first}
use Rattle.mh_join_names.specs.Joining.{Joins}
use Rattle.mh_expand.specs.declared.fault.ExpandFault.{ExpandFault}
use Rattle.mh_expand.specs.declared.fault.ExpandFault.TheVariants as expanding
use Rattle.mh_rules.specs.declared.instances.Expanded.{Expanded}
use Rattle.mh_expand.specs.Expansion.{IsExpanded, IsFirstFault}
use Rattle.mh_inline.specs.declared.fault.InlineFault.{InlineFault}
use Rattle.mh_inline.specs.declared.fault.InlineFault.TheVariants as inlining
use Rattle.mh_inline.specs.GrammarOfInstances.{IsGrammarOf}
use Rattle.mh_inline.specs.Faults.{IsFault, IsNotMemory}
use Rattle.mh_front.specs.declared.fault.GrammarFault.{GrammarFault}
use Rattle.mh_front.specs.declared.fault.GrammarFault.TheVariants.{Join, Expand, Inline, Memory}

-- The faults of the stages as faults of all stages together. Lack of memory is one fault for all stages.
abbrev pub of_join : JoinFault → GrammarFault
of_join joining.Memory = Memory
of_join fault = Join fault

abbrev pub of_expand : ExpandFault → GrammarFault
of_expand expanding.Memory = Memory
of_expand fault = Expand fault

abbrev pub of_inline : InlineFault → GrammarFault
of_inline inlining.Memory = Memory
of_inline fault = Inline fault

-- The grammar and the faults of joined rules.

-- The grammar of the instances of the joined rules.
pub record IsGrammarOfJoined (j : Joined) (g : Grammar) : Type 0 where
  pub expanded : Expanded
  pub expands : IsExpanded j expanded
  pub grammar : IsGrammarOf expanded g

-- The joined rules have instances, and this is the first fault of the instances. Lack of memory is not their fault.
pub record IsInstancesFault (j : Joined) (fault : InlineFault) : Type 0 where
  pub expanded : Expanded
  pub expands : IsExpanded j expanded
  pub is_fault : IsFault expanded fault
  pub not_memory : IsNotMemory fault

-- The first fault of expansion, or the first fault of the instances. Joined rules have no other faults, and lack of
-- memory is not their fault.
abbrev pub IsJoinedFault : Joined → GrammarFault → Type 0
IsJoinedFault j (Expand fault) = IsFirstFault j fault
IsJoinedFault j (Inline fault) = IsInstancesFault j fault
IsJoinedFault j _ = ⊥

-- The grammar and the faults of modules.

-- The modules have joined rules, and this is their grammar.
pub record IsGrammarOfModules (prelude : Bool) (modules : List Module) (g : Grammar) : Type 0 where
  pub joined : Joined
  pub joins : Joins prelude modules (Ok joined)
  pub grammar : IsGrammarOfJoined joined g

-- The first fault of joining.
abbrev pub IsJoinFault : Bool → List Module → JoinFault → Type 0
IsJoinFault prelude modules fault = first (join_faults prelude modules) ≡ Some fault

-- The modules have joined rules, and this is the first fault of these.
pub record IsLaterFault (prelude : Bool) (modules : List Module) (fault : GrammarFault) : Type 0 where
  pub joined : Joined
  pub joins : Joins prelude modules (Ok joined)
  pub is_fault : IsJoinedFault joined fault

-- The fault of the first stage that has one. Lack of memory is not a fault of the modules.
abbrev pub IsGrammarFault : Bool → List Module → GrammarFault → Type 0
IsGrammarFault prelude modules (Join fault) = IsJoinFault prelude modules fault
IsGrammarFault prelude modules Memory = ⊥
IsGrammarFault prelude modules fault = IsLaterFault prelude modules fault

-- Faults of calls, which include lack of memory.

-- The fault has this cause. Lack of memory has no cause, and may occur anywhere.
abbrev pub HasCauseOrMemory : (GrammarFault → Type 0) → GrammarFault → Type 0
HasCauseOrMemory P Memory = Unit {0}
HasCauseOrMemory P fault = P fault
