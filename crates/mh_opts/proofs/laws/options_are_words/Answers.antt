use Rattle.std.proofs.Common.{map, string_bytes}
use Rattle.mh_opts.proofs.FollowsOptions.{follows_options}
use Rattle.mh_opts.proofs.laws.options_are_words.Goals as goal

pub returns : goal.returns
returns c = follows_options (map string_bytes c.args.words.now) c.args.order.now c.requires
