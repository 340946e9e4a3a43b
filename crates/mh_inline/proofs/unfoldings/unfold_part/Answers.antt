use Rattle.std.proofs.Common.{sym, ap, ◌∙◌}
use Rattle.std.proofs.lemmas.Option.{slice_get_within}
use Rattle.std.proofs.lemmas.Result.{on_ok_weaker}
use Rattle.mh_inline_unfold.specs.Unfoldings.{choices}
use Rattle.mh_inline.proofs.AreKnown.{known_part, extends_known, extends_kept}
use Rattle.mh_inline.proofs.unfoldings.unfold_part.Goals as goal

pub bounds-known-number : goal.bounds-known-number
bounds-known-number c = let k = known_part c.args.expanded.now.instances c.args.known.now c.args.part c.in-Some.number c.requires (sym c.inline_part.ensures ∙ c.in-Some.is) in slice_get_within c.args.known.now c.in-Some.number k.unfoldings k.at

pub returns-in-Some : goal.returns-in-Some
returns-in-Some c = on_ok_weaker c.put_after.result
    (λ e. extends_known c.args.expanded.now.instances c.args.known.now c.args.part c.in-Some.number c.args.all.now.items c.put_after.new.all.items c.index-known-number.result c.requires (sym c.inline_part.ensures ∙ c.in-Some.is) c.index-known-number.is
    (e ∙ ap (choices c.args.all.now.items) c.as_slice.ensures)) c.put_after.ensures

pub returns-in-None : goal.returns-in-None
returns-in-None c = on_ok_weaker c.put_part.result
    (λ e. extends_kept c.args.expanded.now.instances c.args.part c.args.all.now.items c.put_part.new.all.items (sym c.inline_part.ensures ∙ c.in-None.is) e) c.put_part.ensures
