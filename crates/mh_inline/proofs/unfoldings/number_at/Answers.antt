use Rattle.std.proofs.Common.{length, refl}
use Rattle.std.proofs.lemmas.Option.{slice_get_read}
use Rattle.mh_inline.proofs.unfoldings.number_at.Goals as goal

pub returns : goal.returns
returns c = slice_get_read c.args.sizing.now.order.items (length c.args.sizing.now.order.items) c.args.place c.index.result.now refl c.requires c.index.ensures
