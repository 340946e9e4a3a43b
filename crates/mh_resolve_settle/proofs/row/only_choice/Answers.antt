use Rattle.mh_resolve_settle.proofs.AreCells.{choice_of}
use Rattle.mh_resolve_settle.proofs.row.only_choice.Goals as goal

pub returns-in-Refuse-Merged : goal.returns-in-Refuse-Merged
returns-in-Refuse-Merged c = choice_of c.args.kept c.args.mode c.args.cells.now c.first_reduction.result c.in-Refuse-Merged.is-0 c.in-Refuse-Merged.is-1 c.first_reduction.ensures
