use Rattle.std.proofs.Common.{length, refl}
use Rattle.std.proofs.lemmas.Option.{slice_get_read}
use Rattle.std.proofs.lemmas.Result.{on_ok_weaker}
use Rattle.mh_inline.proofs.AddsFound.{adds_uses}
use Rattle.mh_inline.proofs.cycles.add_inlined.Goals as goal

pub returns : goal.returns
returns c = on_ok_weaker c.add_alternatives.result (λ a. adds_uses c.args.expanded.now.instances c.args.number c.index.result.now c.args.found.now c.add_alternatives.new.found (slice_get_read c.args.expanded.now.instances (length c.args.expanded.now.instances) c.args.number c.index.result.now refl c.requires.number c.index.ensures) (rw c.as_slice.ensures at a)) c.add_alternatives.ensures
