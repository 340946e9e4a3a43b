-- The hash tables of names as the look-ups that joining needs.
use Rattle.std.specs.Prelude.{◌≡◌, ◌||◌, ℕ, List, Option, option_and_then, Bool, slice_get, position}
use Rattle.std.specs.HashMap.{HashMap, get}
use Rattle.std.specs.HashSet.{HashSet, contains}
use Rattle.std.specs.List.{list_any}
use Rattle.mh_rules.specs.declared.modules.Module.{Module}
use Rattle.mh_join_names.specs.declared.names.SymbolTables.{SymbolTables}
use Rattle.mh_grammar.specs.Text.{Text}
use Rattle.mh_join_names.specs.Names.{same, NameNumbers, is_elsewhere, rules}
use Rattle.mh_join_names.specs.Faults.{Meanings, meanings}
use Rattle.mh_join_names.specs.code.DefiningFiles.{elsewhere_by}
use Rattle.mh_join_names.specs.code.Numbering.{number_in, IsNumbered}

-- ALL TABLES

abbrev pub numbers_in : SymbolTables → NameNumbers
numbers_in n = record { token = (λ x. position (same x) n.tokens.keys); rule = number_in n.numbering }

-- The number of a formal, by the map of the formals.
abbrev pub formals_in : {S : Type 0} → HashMap Text ℕ S → Text → Option ℕ
formals_in m x = get same m x

-- The rules of this name are public: the name is a start symbol, or the file marks it `%public`.
abbrev pub is_public_in : {S : Type 0} → SymbolTables → HashSet Text S → Text → Bool
is_public_in n marked x = list_any (same x) n.starts.keys || contains same marked x

abbrev pub elsewhere_in : SymbolTables → ℕ → Text → Bool
elsewhere_in n k x = elsewhere_by (get same n.definers x) k

abbrev pub meanings_in : SymbolTables → Meanings
meanings_in n = record {
  tokens = n.tokens.keys;
  starts = n.starts.keys;
  aliased = (λ x. get same n.aliases x);
  level = (λ x. get same n.levels x);
  cost = (λ x. get same n.costs x);
  kind = (λ x. get same n.kinds x);
  joined = (λ x. option_and_then (λ i. slice_get n.numbering.rules.items i) (get same n.numbering.public x));
  numbers = numbers_in n;
}

-- The tables give the meanings that the files define.
pub record HasMeanings (p : Bool) (ms : List Module) (n : SymbolTables) : Type 0 where
  pub meanings_are : meanings_in n ≡ meanings p ms
  pub elsewhere_is : elsewhere_in n ≡ is_elsewhere ms
  pub rules_are : n.numbering.rules.items ≡ rules p ms
  pub numbered : IsNumbered n.numbering
