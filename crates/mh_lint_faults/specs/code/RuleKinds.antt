-- What the tables of names know of the kinds of names, so that the name of a rule need not be looked up among all names.
use Rattle.std.specs.Prelude.{◌≡◌, false, true}
use Rattle.std.specs.List.{list_any}
use Rattle.mh_grammar.specs.Text.{Text}
use Rattle.mh_join_names.specs.Faults.{agrees, same_kind}
use Rattle.mh_join_names.specs.Names.{same}
use Rattle.mh_join_names.specs.code.SymbolTables.{meanings_in}
use Rattle.mh_join_names.specs.declared.kinds.NameKind.TheVariants as kinds
use Rattle.mh_join_names.specs.declared.names.SymbolTables.{SymbolTables}

-- A name that is no token's is that of rules alone, if it is that of anything.
abbrev pub HasRuleKinds : SymbolTables → Type 0
HasRuleKinds n = (x : Text) → list_any (same x) n.tokens.keys ≡ false → agrees same_kind ((meanings_in n).kind x) kinds.Rule ≡ true
