use Rattle.std.proofs.Common.{map, string_bytes}
use Rattle.mh_opts.proofs.OrderFiles.{order_files}
use Rattle.mh_opts.proofs.laws.files_are_words.Goals as goal

pub returns : goal.returns
returns c = order_files (map string_bytes c.args.words.now) c.args.order.now c.requires
