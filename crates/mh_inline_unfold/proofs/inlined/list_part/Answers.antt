use Rattle.std.proofs.Common.{sym, ◌∙◌}
use Rattle.mh_inline_unfold.proofs.AddsToList.{part_listed, part_passed}
use Rattle.mh_inline_unfold.proofs.inlined.list_part.Goals as goal

pub returns-in_ok-push-in-Some : goal.returns-in_ok-push-in-Some
returns-in_ok-push-in-Some c = rw c.in_ok-push-in-Some.ensures.items (part_listed c.args.expanded.now.instances c.args.part c.in-Some.number c.args.list.now.items (sym c.inline_part.ensures ∙ c.in-Some.is))

pub returns-in-None : goal.returns-in-None
returns-in-None c = part_passed c.args.expanded.now.instances c.args.part c.args.list.now.items (sym c.inline_part.ensures ∙ c.in-None.is)
