-- Start symbols that have been marked as productive, and the first without a mark.
use Rattle.std.specs.Prelude.{◌≡◌, ◌<◌, ℕ, Bool, true, false, List, Some, slice_get, slice_index_or}
use Rattle.mh_grammar.specs.declared.types.Grammar.{Grammar}
use Rattle.mh_rules.specs.declared.instances.Expanded.{Expanded}
use Rattle.mh_inline.specs.Cycles.{HasNoCycle}
use Rattle.mh_inline.specs.GrammarOfInstances.{HasNoInlineStart, IsWithinLimits}
use Rattle.mh_inline.specs.Faults.{IsFirstEmptyAt}
use Rattle.mh_inline.specs.Inlined.{IsInlined}

-- The position of the first start symbol without a mark.
pub record IsFirstUnmarked (marks : List Bool) (starts : List ℕ) (place : ℕ) : Type 0 where
  pub start : ℕ
  pub at : slice_get starts place ≡ Some start
  pub unmarked : slice_index_or marks start false ≡ false
  pub first : (k s : ℕ) → k < place → slice_get starts k ≡ Some s → slice_index_or marks s false ≡ true

-- The start symbol at this position is the first without a finite tree, and there is no earlier fault.
pub record HasEmptyStart (e : Expanded) (place : ℕ) : Type 0 where
  pub acyclic : HasNoCycle e
  pub kept : HasNoInlineStart e
  pub grammar : Grammar
  pub inlined : IsInlined e grammar
  pub within_limits : IsWithinLimits grammar
  pub number : ℕ
  pub at : slice_get e.starts place ≡ Some number
  pub first : IsFirstEmptyAt e grammar number
