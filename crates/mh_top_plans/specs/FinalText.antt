-- The end of a mode that writes one text on out, or refuses the work with a line on err (the texts and their layout are
-- this project's own).
use Rattle.std.specs.Prelude.{[], None, Some}
use Rattle.mh_top_drive.specs.ModeBehavior.{ModeEnd}
use Rattle.mh_top_drive.specs.declared.stop.Cause.TheVariants.{Refused}
use Rattle.mh_top_plans.specs.declared.at_end.FinalText.{FinalText}
use Rattle.mh_top_plans.specs.declared.at_end.FinalText.TheVariants.{Written, Refusal}

-- The end of a mode with this final text.
abbrev pub end_of_final_text : FinalText → ModeEnd
end_of_final_text (Written text) = record { cause = None; out = text }
end_of_final_text (Refusal line) = record { cause = Some (Refused line); out = [] }
