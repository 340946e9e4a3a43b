-- The numbers of the rules in hash maps.
use Rattle.std.specs.Prelude.{◌≡◌, ◌<◌, ◌&&◌, ◌++◌, ℕ, if◌then◌else◌, List, map, Option, Some, None, option_and_then, position, slice_get, length}
use Rattle.std.specs.List.{flat_map}
use Rattle.std.specs.Option.{option_or}
use Rattle.std.specs.HashMap.{get}
use Rattle.mh_rules.specs.declared.modules.Rule.{Rule}
use Rattle.mh_rules.specs.declared.modules.Module.{Module}
use Rattle.mh_join_names.specs.declared.outlines.Outline.{Outline}
use Rattle.mh_join_names.specs.declared.numbering.Numbering.{Numbering}
use Rattle.mh_grammar.specs.Text.{Text}
use Rattle.mh_join_names.specs.Names.{same, insert_all, firsts, files, is_rule, same_rule, same_owner, owner_in}

abbrev pub number_in : Numbering → Option ℕ → Text → Option ℕ
number_in n None x = get same n.public x
number_in n (Some k) x = option_and_then (λ m. get same m x) (slice_get n.own.items k)

-- The maps give each rule its position in the list of rules.
pub record IsNumbered (n : Numbering) : Type 0 where
  pub placed : (owner : Option ℕ) (x : Text) → number_in n owner x ≡ position (is_rule owner x) n.rules.items

-- The numbering has a map for this owner.
abbrev pub IsOwner : Numbering → Option ℕ → Type 0
IsOwner n None = Unit {0}
IsOwner n (Some k) = k < length n.own.items

-- The outline of the rule r with this owner.
abbrev pub outline_by : Option ℕ → Rule → Outline
outline_by owner r = record { name = r.name; owner = owner; inlined = r.inlined; formals = length r.formals }

-- The new numbering has these outlines inserted in order, each unless its rule is there already.
pub record InsertsRules (old new : Numbering) (outlines : List Outline) : Type 0 where
  pub rules : new.rules.items ≡ insert_all same_rule old.rules.items outlines
  pub numbered : IsNumbered new
  pub owners : length new.own.items ≡ length old.own.items

-- The new numbering gives this number to the rule of this owner and name, if the rule had no number.
pub record AddsNumber (old : Numbering) (owner : Option ℕ) (name : Text) (number : ℕ) (new : Numbering) : Type 0 where
  pub numbers : (o : Option ℕ) (x : Text) → number_in new o x ≡ option_or (number_in old o x) (if same_owner o owner && same x name then Some number else None)
  pub rules : new.rules.items ≡ old.rules.items
  pub owners : length new.own.items ≡ length old.own.items

-- The outline of the rule r of file k, where `all` are the rules of the file and `starts` the names of the start
-- symbols, which are public.
abbrev pub outline_in : List Text → ℕ → List Rule → Rule → Outline
outline_in starts k all r = outline_by (owner_in starts k all r.name) r

-- The outlines of the rules of a file, which is given by its number and its module; `starts` are the names of the start
-- symbols.
abbrev pub outlines_in : List Text → ℕ × Module → List Outline
outlines_in starts f = map (outline_in starts f.0 f.1.rules) f.1.rules

-- The outlines of the rules of these files and of this prelude, in order of their first definitions.
abbrev pub outlines_of : List Text → List Module → List Rule → List Outline
outlines_of starts ms from_prelude = firsts same_rule (flat_map (outlines_in starts) (files ms) ++ map (outline_by (Some 0)) from_prelude)
