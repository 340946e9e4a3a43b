use Rattle.std.proofs.lemmas.Result.{on_ok_weaker}
use Rattle.mh_explain.specs.code.ChosenItems.{IsBeforeLook, IsCompleteOn}
use Rattle.mh_explain.proofs.ChosenItems.{actions_written, places_in}
use Rattle.mh_explain.proofs.actions.write_actions.Goals as goal

pub write_shifts-requires : goal.write_shifts-requires
write_shifts-requires g c = rw c.deref.ensures.value (places_in c.args.grammar.now (IsBeforeLook c.args.grammar.now c.args.look) c.args.items.now c.in_ok-shifts.shifts.items c.requires.items.items c.in_ok-shifts.ensures)

pub write_reductions-requires : goal.write_reductions-requires
write_reductions-requires g c = rw c.deref-2.ensures.value (places_in c.args.grammar.now (IsCompleteOn c.args.grammar.now c.args.look) c.args.items.now c.in_ok-reductions.reductions.items c.requires.items.items c.in_ok-reductions.ensures)

pub returns : goal.returns
returns g c =
    on_ok_weaker c.write_reductions.result
    (λ written. actions_written c.args.grammar.now c.args.items.now c.args.edges.now c.args.look c.in_ok-shifts.shifts.items c.in_ok-reductions.reductions.items c.in_ok-shifts.ensures c.in_ok-reductions.ensures c.shift_on.result c.shift_on.ensures
    c.args.text.now.items c.write_shifts.new.text.items c.write_reductions.new.text.items (rw c.deref.ensures.value at c.in_ok-write_shifts.ensures) (rw c.deref-2.ensures.value at written)) c.write_reductions.ensures
