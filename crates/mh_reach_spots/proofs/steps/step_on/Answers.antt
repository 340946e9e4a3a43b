use Rattle.std.proofs.Common.{◌≡◌, [], ◌∷◌, sym, ◌∙◌}
use Rattle.std.proofs.lemmas.Result.{on_ok_weaker}
use Rattle.mh_grammar.specs.declared.types.Symbol.TheVariants.{T}
use Rattle.mh_tables_core.specs.Run.{Shifts, run_move_of}
use Rattle.mh_facts.specs.code.TokenClasses.{rep_of}
use Rattle.mh_facts.proofs.Edges.{shift_target}
use Rattle.mh_reach_spots.proofs.StepsShift.{along_gains}
use Rattle.mh_reach_spots.proofs.steps.step_on.Goals as goal

pub representatives_of-requires-clause-state : goal.representatives_of-requires-clause-state
representatives_of-requires-clause-state c =
    let move : run_move_of c.args.table.now c.args.from.spot.state (c.args.token ∷ []) ≡ Shifts c.in-Shift.end = sym (rw c.in-Shift.is at c.choose.ensures) in
    c.facts.ensures.each_target c.args.from.spot.state (T c.args.token) c.in-Shift.end (shift_target c.args.table.now c.facts.ensures c.args.from.spot.state c.args.token c.in-Shift.end move)

pub returns-in-Shift : goal.returns-in-Shift
returns-in-Shift c =
    let move : run_move_of c.args.table.now c.args.from.spot.state (c.args.token ∷ []) ≡ Shifts c.in-Shift.end = sym (rw c.in-Shift.is at c.choose.ensures) in
    let like : rep_of c.args.classes.now c.args.from.spot.state c.args.token ≡ c.args.from.spot.next = sym c.class_of.ensures.representative ∙ c.if-class_of-from.false in
    on_ok_weaker c.push_each.result (along_gains c.args.table.now c.args.classes.now c.args.from c.args.token c.in-Shift.end c.add_token-cost.result like move c.add_token-cost.ensures c.args.queue.now.buckets.items c.push_each.new.queue.buckets.items) (rw c.representatives_of.ensures at c.push_each.ensures)
