-- The text for an actual of an `%on_error_reduce` declaration, by the printed name of the actual.
use Rattle.std.proofs.Common.{◌++◌, ℕ, List, None, Some}
use Rattle.std.specs.Prelude.{codes}
use Rattle.std.specs.List.{Contains}
use Rattle.mh_rules.specs.declared.joined.Joined.{Joined}
use Rattle.mh_lint.specs.code.Declarations.{IsDeclaredAt}
use Rattle.mh_lint.specs.code.Declarations as declarations
use Rattle.mh_lint.specs.code.MentionUses.{IsUnusedDeclaration}
use Rattle.mh_lint.specs.code.MentionUses as uses
use Rattle.mh_lint.specs.declared.on_error.DeclaredName.{DeclaredName}

module _ (j : Joined) (used : List DeclaredName) (before rank item : ℕ) where
  -- There is no such actual.
  pub no_actual : IsDeclaredAt j before rank item None → IsUnusedDeclaration j used before rank item None
  no_actual (declarations.IsDeclaredAt.none e) = uses.IsUnusedDeclaration.absent e

  -- The actual is used.
  pub used_actual : (found : DeclaredName) → IsDeclaredAt j before rank item (Some found) → Contains used found → IsUnusedDeclaration j used before rank item None
  used_actual found (declarations.IsDeclaredAt.some actual at) has = uses.IsUnusedDeclaration.used actual at has

  -- The actual is not used.
  pub unused_actual : (found : DeclaredName) → IsDeclaredAt j before rank item (Some found) → (Contains used found → ⊥) → IsUnusedDeclaration j used before rank item (Some (codes "reduction on errors without use: " ++ found.name))
  unused_actual found (declarations.IsDeclaredAt.some actual at) lacks = uses.IsUnusedDeclaration.unused actual at lacks
