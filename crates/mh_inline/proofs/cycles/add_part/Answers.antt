use Rattle.std.proofs.Common.{sym, ◌∙◌}
use Rattle.std.proofs.lemmas.Result.{on_ok_weaker}
use Rattle.mh_inline_unfold.proofs.InlineProducers.{inline_within}
use Rattle.mh_inline.proofs.AddsFound.{part_inline, part_kept}
use Rattle.mh_inline.proofs.cycles.add_part.Goals as goal

pub add_one-requires-clause-number : goal.add_one-requires-clause-number
add_one-requires-clause-number c = inline_within c.args.expanded.now.instances c.args.part c.in-Some.number _ (sym c.inline_part.ensures ∙ c.in-Some.is) c.requires.len

pub returns-in-Some : goal.returns-in-Some
returns-in-Some c = on_ok_weaker c.add_one.result (part_inline c.args.expanded.now.instances c.args.part c.in-Some.number c.args.found.now c.add_one.new.found (sym c.inline_part.ensures ∙ c.in-Some.is)) c.add_one.ensures

pub returns-in-None : goal.returns-in-None
returns-in-None c = part_kept c.args.expanded.now.instances c.args.part c.args.found.now (sym c.inline_part.ensures ∙ c.in-None.is) c.requires.sets
