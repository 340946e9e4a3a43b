use Rattle.std.proofs.Common.{refl, sym}
use Rattle.mh_inline.proofs.AddsFound.{AddsFound-new}
use Rattle.mh_inline.proofs.cycles.add_one.Goals as goal

pub returns-in_ok-push : goal.returns-in_ok-push
returns-in_ok-push c = AddsFound-new c.args.found.now _ c.args.number c.requires.sets c.requires.number (rw c.if-not-index.true at (sym c.index.ensures)) refl c.in_ok-push.ensures.items
