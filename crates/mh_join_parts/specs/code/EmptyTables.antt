-- Tables of names that are empty.
use Rattle.std.specs.Prelude.{◌≡◌, []}
use Rattle.std.specs.HashMap.{IsEmpty}
use Rattle.mh_join_names.specs.declared.names.SymbolTables.{SymbolTables}
use Rattle.mh_join_names.specs.declared.numbering.Numbering.{Numbering}

-- The numbering has no rules, and no maps for files.
pub record HasNoRules (numbering : Numbering) : Type 0 where
  pub public : IsEmpty numbering.public
  pub own : numbering.own.items ≡ []
  pub rules : numbering.rules.items ≡ []

-- The tables have no names.
pub record HasNoNames (names : SymbolTables) : Type 0 where
  pub tokens : names.tokens.keys ≡ []
  pub starts : names.starts.keys ≡ []
  pub aliases : IsEmpty names.aliases
  pub levels : IsEmpty names.levels
  pub costs : IsEmpty names.costs
  pub kinds : IsEmpty names.kinds
  pub definers : IsEmpty names.definers
  pub numbering : HasNoRules names.numbering
