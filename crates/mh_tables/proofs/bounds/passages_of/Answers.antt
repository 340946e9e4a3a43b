use Rattle.mh_tables.proofs.BoundsProveHalting.{states_more}
use Rattle.mh_tables.proofs.bounds.passages_of.Goals as goal

pub states-preserved : goal.states-preserved
states-preserved c =
    let added = c.in_ok-add_state.ensures in
    record {
      known = added.known;
      units = λ p ordinary known x one at. added.kept _ (c.states.invariant.units p ordinary known x one at);
      each = states_more c.args.table.now c.states.passages.items c.add_state.new.passages.items c.states.state added.kept added.covered c.states.invariant.each;
    }
