-- The text that reports a fault, after the program's name (a rule of this project).
use Rattle.std.specs.Prelude.{ℕ, List, ◌++◌, codes, decimal}
use Rattle.mh_join_names.specs.declared.fault.JoinFault.{JoinFault}
use Rattle.mh_join_names.specs.declared.fault.JoinFault.TheVariants as joining
use Rattle.mh_expand.specs.declared.fault.ExpandFault.{ExpandFault}
use Rattle.mh_expand.specs.declared.fault.ExpandFault.TheVariants as expanding
use Rattle.mh_inline.specs.declared.fault.InlineFault.{InlineFault}
use Rattle.mh_inline.specs.declared.fault.InlineFault.TheVariants as inlining
use Rattle.mh_front.specs.declared.fault.GrammarFault.{GrammarFault}
use Rattle.mh_front.specs.declared.fault.GrammarFault.TheVariants.{Join, Expand, Inline, Memory}

abbrev pub no_memory_text : List ℕ
no_memory_text = codes "out of memory"

abbrev pub join_text : JoinFault → List ℕ
join_text (joining.Undefined name) = codes "undefined: " ++ name
join_text (joining.Duplicate name) = codes "duplicate: " ++ name
join_text joining.NoStart = codes "no start symbol"
join_text joining.ErrorToken = codes "the error token is refused"
join_text (joining.UnknownLevel name) = codes "unknown level: " ++ name
join_text (joining.TooManyTokens count) = codes "too many tokens: " ++ decimal count
join_text joining.Memory = no_memory_text

abbrev pub expand_text : ExpandFault → List ℕ
expand_text (expanding.Arity instance) = codes "arity: " ++ instance
expand_text (expanding.Expansion name) = codes "expansion: " ++ name
expand_text expanding.Memory = no_memory_text

abbrev pub inline_text : InlineFault → List ℕ
inline_text (inlining.InlineCycle instance) = codes "inline cycle: " ++ instance
inline_text (inlining.InlineStart name) = codes "inline start: " ++ name
inline_text inlining.TooManyProductions = codes "too many productions"
inline_text (inlining.EmptyLanguage name) = codes "empty language: " ++ name
inline_text inlining.Memory = no_memory_text

abbrev pub grammar_fault_text : GrammarFault → List ℕ
grammar_fault_text (Join fault) = join_text fault
grammar_fault_text (Expand fault) = expand_text fault
grammar_fault_text (Inline fault) = inline_text fault
grammar_fault_text Memory = no_memory_text
