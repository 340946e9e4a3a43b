-- The grammar of instances that have no fault (Menhir manual, `%inline`; the limits are this project's own).
use Rattle.std.specs.Prelude.{◌≡◌, ◌≤◌, false, length}
use Rattle.std.specs.List.{All}
use Rattle.mh_grammar.specs.declared.types.Production.{Production}
use Rattle.mh_grammar.specs.declared.types.Grammar.{Grammar}
use Rattle.mh_grammar.specs.Plain.{plain_of, IsProductive}
use Rattle.mh_rules.specs.declared.instances.Expanded.{Expanded}
use Rattle.mh_inline_unfold.specs.Limits.{max_productions, max_symbols}
use Rattle.mh_inline_unfold.specs.Instances.{is_inlined}
use Rattle.mh_inline.specs.Cycles.{HasNoCycle}
use Rattle.mh_inline.specs.Inlined.{IsInlined}

-- No start symbol is inline.
abbrev pub HasNoInlineStart : Expanded → Type 0
HasNoInlineStart e = All (λ s. is_inlined e.instances s ≡ false) e.starts

-- The grammar is within the limits.
pub record IsWithinLimits (g : Grammar) : Type 0 where
  pub few : length g.productions ≤ max_productions
  pub short : All (λ (p : Production). length p.rhs ≤ max_symbols) g.productions

-- The grammar of the instances, if they have no fault.
pub record IsGrammarOf (e : Expanded) (g : Grammar) : Type 0 where
  pub acyclic : HasNoCycle e
  pub kept : HasNoInlineStart e
  pub inlined : IsInlined e g
  pub within_limits : IsWithinLimits g
  pub productive : All (IsProductive (plain_of g)) g.starts
