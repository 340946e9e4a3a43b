use Rattle.std.proofs.Common.{take}
use Rattle.mh_explain.specs.code.ChosenItems.{AreChosen, GivesAction}
use Rattle.mh_explain.proofs.actions.items_for.Given as goal

abbrev pub invariant-loop-item : goal.invariant-loop-item
invariant-loop-item g l = AreChosen (GivesAction l.kind l.grammar l.look) (take l.item-index l.items) l.places.items
