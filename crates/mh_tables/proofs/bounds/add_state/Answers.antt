use Rattle.std.proofs.lemmas.Result.{on_ok_weaker}
use Rattle.mh_tables.proofs.BoundsProveHalting.{state_covered}
use Rattle.mh_tables.proofs.bounds.add_state.Goals as goal

pub returns-in-Some-clause-covered : goal.returns-in-Some-clause-covered
returns-in-Some-clause-covered c =
    on_ok_weaker c.add_looks.result (state_covered c.args.table.now c.add_looks.new.passages.items c.place_of-from.result c.args.state c.in-Some.symbol c.place_of-from.ensures.place c.in-Some.ensures.symbol) c.add_looks.ensures.covered
