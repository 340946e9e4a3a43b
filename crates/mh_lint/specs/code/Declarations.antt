-- The actuals of `%on_error_reduce` declarations, and those that are used.
use Rattle.std.specs.Prelude.{◌≡◌, ◌+◌, ℕ, Bool, true, if◌then◌else◌, nat_lt, List, Option, None, Some, slice_get}
use Rattle.std.specs.Option.{option_and_then}
use Rattle.mh_grammar.specs.Text.{Text}
use Rattle.mh_grammar.specs.declared.types.Grammar.{Grammar}
use Rattle.mh_grammar.specs.declared.types.NontermInfo.{NontermInfo}
use Rattle.mh_expand.specs.Terms.{term_of, text}
use Rattle.mh_rules.specs.declared.joined.Applied.{Applied}
use Rattle.mh_rules.specs.declared.joined.Joined.{Joined}
use Rattle.mh_lint.specs.declared.on_error.DeclaredName.{DeclaredName}

abbrev pub declared : ℕ → Text → DeclaredName
declared n name = record { declaration = n; name = name }

-- The number, if it is below n.
abbrev pub number_below : ℕ → ℕ → Option ℕ
number_below n number = if nat_lt number n then Some number else None

-- The actual with this number in the declaration that comes this many declarations after the first `before`.
abbrev pub actual_of : Joined → ℕ → ℕ → ℕ → Option Applied
actual_of j before rank item = option_and_then (λ (actuals : List Applied). slice_get actuals item) (slice_get j.on_error (before + rank))

-- The printed name of the actual, with the number of its declaration, if there is the actual.
pub data IsDeclaredAt (j : Joined) (before rank item : ℕ) : Option DeclaredName → Type 0 where
  none : actual_of j before rank item ≡ None → IsDeclaredAt j before rank item None
  some : (actual : Applied) → actual_of j before rank item ≡ Some actual → IsDeclaredAt j before rank item (Some (declared (before + rank) (text j (term_of actual))))

-- The nonterminal has this printed name, and its rank by declaration n.
pub record HasRank (info : NontermInfo) (n : ℕ) (name : Text) : Type 0 where
  pub name_is : info.name ≡ name
  pub rank_is : info.on_error ≡ Some n

-- The nonterminal with this printed name has its rank by this declaration, and is reduced on errors.
pub record IsUsedDeclaration (g : Grammar) (reduced : List Bool) (n : ℕ) (name : Text) : Type 0 where
  pub number : ℕ
  pub info : NontermInfo
  pub of_grammar : slice_get g.nonterminals number ≡ Some info
  pub name_is : info.name ≡ name
  pub rank_is : info.on_error ≡ Some n
  pub is_reduced : slice_get reduced number ≡ Some true
