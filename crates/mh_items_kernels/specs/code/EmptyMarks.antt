-- The nonterminals from which a closure may reach empty productions, and the complete items of closures.
use Rattle.std.specs.Prelude.{◌≡◌, ◌↔◌, ℕ, Bool, true, false, List, [], ◌∷◌, Some, length, slice_get, slice_index_or}
use Rattle.mh_grammar.specs.declared.types.Symbol.{Symbol}
use Rattle.mh_grammar.specs.declared.types.Symbol.TheVariants.{T, N}
use Rattle.mh_grammar.specs.declared.types.Production.{Production}
use Rattle.mh_grammar.specs.declared.types.Look.{Look}
use Rattle.mh_grammar.specs.Plain.{PlainGrammar, rhs_of}
use Rattle.mh_grammar.specs.ItemSets.{Close}
use Rattle.mh_items_kernels.specs.KernelTypes.{Kernel}
use Rattle.mh_items_kernels.specs.Kernels.{Holds}

-- The right side is empty, or begins with a marked nonterminal.
abbrev pub begins_empty : List Bool → List Symbol → Bool
begins_empty marks [] = true
begins_empty marks (T a ∷ Xs) = false
begins_empty marks (N n ∷ Xs) = slice_index_or marks n false

-- The marks are closed: a production whose right side is empty or begins with a marked nonterminal has a marked left
-- side.
pub record AreMarksClosed (ps : List Production) (marks : List Bool) : Type 0 where
  pub closed : (k : ℕ) (p : Production) → slice_get ps k ≡ Some p → begins_empty marks p.rhs ≡ true → slice_index_or marks p.lhs false ≡ true

-- A list of items has the same complete items as the closure of a kernel; its other items do not matter.
abbrev pub HasCompleteItems : PlainGrammar → Kernel → Kernel → Type 0
HasCompleteItems g kernel list = (p : ℕ) (look : Look) → Holds list p (length (rhs_of g p)) look ↔ Close g (Holds kernel) p (length (rhs_of g p)) look
