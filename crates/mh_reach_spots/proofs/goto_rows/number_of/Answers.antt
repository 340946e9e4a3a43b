use Rattle.std.proofs.Common.{◌∙◌, ap, sym}
use Rattle.mh_reach_spots.specs.code.GotoRows.{number_in}
use Rattle.mh_reach_spots.proofs.goto_rows.number_of.Goals as goal

pub returns-in-None : goal.returns-in-None
returns-in-None c = ap number_in (sym c.in-None.is ∙ c.word_of_goto.ensures)

pub returns-in-Some : goal.returns-in-Some
returns-in-Some c = ap number_in (sym c.in-Some.is ∙ c.word_of_goto.ensures)
