use Rattle.std.proofs.Common.{◌≡◌, drop, []}
use Rattle.mh_join_names.specs.Names.{same, insert_all}
use Rattle.std.specs.List.{flat_map}
use Rattle.mh_join_parts.proofs.tokens.put_starts.Given as goal

abbrev pub invariant-loop-file : goal.invariant-loop-file
invariant-loop-file l = insert_all same l.names.keys (flat_map (λ m. m.starts) (drop l.file-index l.files)) ≡ insert_all same [] (flat_map (λ m. m.starts) l.files)
