use Rattle.std.proofs.Common.{map, rules, string_bytes}
use Rattle.mh_opts.proofs.OrderFiles.{answer_limits}
use Rattle.mh_opts.proofs.words.read_words.Goals as goal

pub returns-clause-limits : goal.returns-clause-limits
returns-clause-limits c = answer_limits (map string_bytes c.args.words.now) c.read_renamed.result (search rules)
