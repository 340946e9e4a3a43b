use Rattle.std.proofs.Common.{◌≡◌, map, drop}
use Rattle.mh_join_names.specs.Names.{same, insert_all}
use Rattle.mh_join_parts.proofs.tokens.add_tokens.Given as goal

abbrev pub invariant-loop-token : goal.invariant-loop-token
invariant-loop-token l = insert_all same l.names.keys (map (λ t. t.name) (drop l.token-index l.tokens)) ≡ insert_all same l.initial.names.keys (map (λ t. t.name) l.tokens)
