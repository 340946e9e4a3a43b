use Rattle.std.proofs.Common.{◌≡◌, drop}
use Rattle.mh_join_names.specs.Names.{same, insert_all}
use Rattle.mh_join_parts.proofs.tokens.add_names.Given as goal

abbrev pub invariant-loop-name : goal.invariant-loop-name
invariant-loop-name l = insert_all same l.names.keys (drop l.name-index l.more) ≡ insert_all same l.initial.names.keys l.more
