use Rattle.std.proofs.Common.{◌≡◌, drop}
use Rattle.std.specs.List.{flat_map}
use Rattle.mh_rules.specs.declared.modules.TokenDecl.{TokenDecl}
use Rattle.mh_join_names.specs.declared.kinds.NameKind.TheVariants as kinds
use Rattle.mh_join_names.specs.Faults.{other_kind}
use Rattle.mh_join_names.specs.code.SymbolTables.{meanings_in}
use Rattle.mh_join_faults.proofs.duplicates.check_token_kinds.Given as goal

abbrev pub invariant-loop-token : goal.invariant-loop-token
invariant-loop-token l = flat_map (λ (t : TokenDecl). other_kind (meanings_in l.names) kinds.Token t.name) (drop l.token-index l.tokens) ≡ flat_map (λ (t : TokenDecl). other_kind (meanings_in l.names) kinds.Token t.name) l.tokens
