-- The move of a run that a value of the Rust type `NextAction` denotes.
use Rattle.mh_tables_core.specs.Run.{RunMove, Accepts, Asks, Refuses, Shifts, Reduces}
use Rattle.mh_tables_core.specs.declared.moves.NextAction.{NextAction}
use Rattle.mh_tables_core.specs.declared.moves.NextAction.TheVariants as choices

abbrev pub move_for : NextAction → RunMove
move_for choices.Accept = Accepts
move_for choices.Ask = Asks
move_for choices.Refuse = Refuses
move_for (choices.Shift j) = Shifts j
move_for (choices.Reduce p) = Reduces p
