use Rattle.std.proofs.Common.{◌≡◌, drop}
use Rattle.std.specs.List.{flat_map}
use Rattle.mh_rules.specs.declared.modules.TokenDecl.{TokenDecl}
use Rattle.mh_join_names.specs.Faults.{other_token}
use Rattle.mh_join_names.specs.code.SymbolTables.{meanings_in}
use Rattle.mh_join_faults.proofs.duplicates.check_aliases.Given as goal

abbrev pub invariant-loop-token : goal.invariant-loop-token
invariant-loop-token l = flat_map (λ (t : TokenDecl). other_token (meanings_in l.names) t.name t.alias) (drop l.token-index l.token-items) ≡ flat_map (λ (t : TokenDecl). other_token (meanings_in l.names) t.name t.alias) l.token-items
