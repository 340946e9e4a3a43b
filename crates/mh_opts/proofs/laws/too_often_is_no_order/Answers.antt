use Rattle.std.proofs.Common.{map, string_bytes}
use Rattle.mh_opts.proofs.OrderFiles.{order_twice}
use Rattle.mh_opts.proofs.laws.too_often_is_no_order.Goals as goal

pub returns : goal.returns
returns c = order_twice c.args.option.now (map string_bytes c.args.words.now) c.requires.listed c.requires.too_often
