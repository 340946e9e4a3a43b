use Rattle.std.proofs.Common.{ℕ, ap, sym, ◌∙◌}
use Rattle.std.specs.Global.{Vec}
use Rattle.mh_facts.proofs.QueueRows.{row_is}
use Rattle.mh_reach_rests.proofs.joins.states_before.Goals as goal

pub returns : goal.returns
returns c = sym (row_is c.args.sources.now c.args.state c.index-sources-place.result c.requires ∙ ap (λ (v : Vec ℕ). v.items) (sym c.index-sources-place.is) ∙ sym c.as_slice.ensures.value)
