use Rattle.std.proofs.Common.{◌≡◌, ◌++◌, drop, map, string_bytes}
use Rattle.mh_opts.specs.RepeatedOption as twice
use Rattle.mh_opts.proofs.repeated_option.renamed.Given as goal

abbrev pub invariant-loop-word : goal.invariant-loop-word
invariant-loop-word l =
    map string_bytes l.renamed.items ++ twice.renamed_from l.seen (map string_bytes (drop l.word-index l.words)) ≡ twice.renamed (map string_bytes l.words)
