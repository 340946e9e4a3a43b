-- Lemmas that the fault of one stage is the fault of all stages together.
use Rattle.std.proofs.Common.{◌≡◌, Bool, List, Ok, Err, inl, inr}
use Rattle.mh_rules.specs.declared.modules.Module.{Module}
use Rattle.mh_join_names.specs.declared.fault.JoinFault.{JoinFault}
use Rattle.mh_join_names.specs.declared.fault.JoinFault.TheVariants as joining
use Rattle.mh_rules.specs.declared.joined.Joined.{Joined}
use Rattle.mh_join_names.specs.Joining.{Joins}
use Rattle.mh_expand.specs.declared.fault.ExpandFault.{ExpandFault}
use Rattle.mh_expand.specs.declared.fault.ExpandFault.TheVariants as expanding
use Rattle.mh_rules.specs.declared.instances.Expanded.{Expanded}
use Rattle.mh_expand.specs.Expansion as expansion
use Rattle.mh_expand.specs.Expansion.{IsExpanded, IsFirstFault}
use Rattle.mh_inline.specs.declared.fault.InlineFault.{InlineFault}
use Rattle.mh_inline.specs.declared.fault.InlineFault.TheVariants as inlining
use Rattle.mh_inline.specs.Faults.{IsFault}
use Rattle.mh_front.specs.declared.fault.GrammarFault.{GrammarFault}
use Rattle.mh_front.specs.declared.fault.GrammarFault.TheVariants.{Join, Expand, Inline, Memory}
use Rattle.mh_front.specs.Stages.{HasCauseOrMemory, of_join, of_expand, of_inline, IsJoinFault, IsJoinedFault, IsGrammarFault}

-- A fault other than lack of memory is the first fault of joining.
other : (p : Bool) (ms : List Module) (f : JoinFault) → Joins p ms (Err f) → (f ≡ joining.Memory → ⊥) → IsJoinFault p ms f
other p ms f (inl e) told = absurd (told e)
other p ms f (inr is) told = is

pub join_fault : (p : Bool) (ms : List Module) (f : JoinFault) → Joins p ms (Err f) → HasCauseOrMemory (IsGrammarFault p ms) (of_join f)
join_fault p ms (joining.Undefined name) h = other p ms _ h (λ e. cc)
join_fault p ms (joining.Duplicate name) h = other p ms _ h (λ e. cc)
join_fault p ms joining.NoStart h = other p ms _ h (λ e. cc)
join_fault p ms joining.ErrorToken h = other p ms _ h (λ e. cc)
join_fault p ms (joining.UnknownLevel name) h = other p ms _ h (λ e. cc)
join_fault p ms (joining.TooManyTokens count) h = other p ms _ h (λ e. cc)
join_fault p ms joining.Memory h = tt

pub expand_fault : (j : Joined) (f : ExpandFault) → expansion.IsMemoryOr (IsFirstFault j) f → HasCauseOrMemory (IsJoinedFault j) (of_expand f)
expand_fault j (expanding.Arity instance) h = h
expand_fault j (expanding.Expansion name) h = h
expand_fault j expanding.Memory h = tt

pub inline_fault : (j : Joined) (e : Expanded) (f : InlineFault) → IsExpanded j e → IsFault e f → HasCauseOrMemory (IsJoinedFault j) (of_inline f)
inline_fault j e (inlining.InlineCycle instance) x h = record { expanded = e; expands = x; is_fault = h; not_memory = tt }
inline_fault j e (inlining.InlineStart name) x h = record { expanded = e; expands = x; is_fault = h; not_memory = tt }
inline_fault j e inlining.TooManyProductions x h = record { expanded = e; expands = x; is_fault = h; not_memory = tt }
inline_fault j e (inlining.EmptyLanguage name) x h = record { expanded = e; expands = x; is_fault = h; not_memory = tt }
inline_fault j e inlining.Memory x h = tt

pub later_fault : (p : Bool) (ms : List Module) (j : Joined) (f : GrammarFault) → Joins p ms (Ok j) → HasCauseOrMemory (IsJoinedFault j) f → HasCauseOrMemory (IsGrammarFault p ms) f
later_fault p ms j (Join fault) x h = absurd h
later_fault p ms j (Expand fault) x h = record { joined = j; joins = x; is_fault = h }
later_fault p ms j (Inline fault) x h = record { joined = j; joins = x; is_fault = h }
later_fault p ms j Memory x h = tt
