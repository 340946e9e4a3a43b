use Rattle.std.proofs.Common.{◌≡◌, drop, map, string_bytes}
use Rattle.mh_opts.specs.RepeatedOption.{is_reserved}
use Rattle.mh_opts.proofs.repeated_option.is_reserved.Given as goal

abbrev pub invariant-loop-word : goal.invariant-loop-word
invariant-loop-word l = is_reserved (map string_bytes (drop l.word-index l.words)) ≡ is_reserved (map string_bytes l.words)
