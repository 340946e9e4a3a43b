-- Lemmas on the lines that report faults, written to an empty text.
use Rattle.std.proofs.Common.{◌≡◌, ◌++◌, ℕ, List, [], ap, ◌∙◌, append_assoc}
use Rattle.mh_msgfile.specs.declared.messages.MsgFault.{MsgFault}
use Rattle.mh_msgfile.specs.declared.messages.MsgFault.TheVariants as file_faults
use Rattle.mh_msgfile.specs.Messages.{MessagesFault as FileFault, ReportsFault as ReportsFileFault, BadShape, NamesNoStartAt, LacksStartAt, NamesUnknownAt}
use Rattle.mh_run.specs.Verdicts.{ending_for}
use Rattle.mh_check.specs.declared.compiling.CheckFault.{CheckFault}
use Rattle.mh_check.specs.declared.compiling.CheckFault.TheVariants as check_faults
use Rattle.mh_check.specs.Checks.{SoundnessFault, NotRefusedAt, RefusedEarlyAt, SharedBy}
use Rattle.mh_check.specs.Compiling.{ReportsCheckFault}

text_after_empty : (start text line : List ℕ) → start ≡ [] → text ≡ start ++ line → text ≡ line
text_after_empty start text line none written = written ∙ ap (λ (front : List ℕ). front ++ line) none

-- The text of a fault is its line alone, if the text before the line is empty.
pub ReportsFileFault-empty_start : (fault : MsgFault) (line : FileFault → List ℕ) (start text : List ℕ) → start ≡ [] → ReportsFileFault fault (λ found. text ≡ start ++ line found) → ReportsFileFault fault (λ found. text ≡ line found)
ReportsFileFault-empty_start (file_faults.Shape n) line start text none written = text_after_empty start text (line (BadShape n)) none written
ReportsFileFault-empty_start (file_faults.UnknownStart n name) line start text none written = text_after_empty start text (line (NamesNoStartAt n name)) none written
ReportsFileFault-empty_start (file_faults.MissingStart n) line start text none written = text_after_empty start text (line (LacksStartAt n)) none written
ReportsFileFault-empty_start (file_faults.UnknownToken n name) line start text none written = text_after_empty start text (line (NamesUnknownAt n name)) none written
ReportsFileFault-empty_start file_faults.Memory line start text none written = written

pub ReportsCheckFault-empty_start : (fault : CheckFault) (line : SoundnessFault → List ℕ) (start text : List ℕ) → start ≡ [] → ReportsCheckFault fault (λ found. text ≡ start ++ line found) → ReportsCheckFault fault (λ found. text ≡ line found)
ReportsCheckFault-empty_start (check_faults.NotRefused n verdict) line start text none written = text_after_empty start text (line (NotRefusedAt n (ending_for verdict))) none written
ReportsCheckFault-empty_start (check_faults.RefusedEarly n at) line start text none written = text_after_empty start text (line (RefusedEarlyAt n at)) none written
ReportsCheckFault-empty_start (check_faults.SharedState first second state) line start text none written = text_after_empty start text (line (SharedBy first second state)) none written
ReportsCheckFault-empty_start check_faults.Memory line start text none written = written

-- The text after the place of a fault is appended in one part, or in three.
pub text_after_place : (text place placed line new : List ℕ) → placed ≡ text ++ place → new ≡ placed ++ line → new ≡ text ++ (place ++ line)
text_after_place text place placed line new at written = written ∙ ap (λ (front : List ℕ). front ++ line) at ∙ append_assoc text place line

pub name_after_place : (text place placed words told slice name named end new : List ℕ) → placed ≡ text ++ place → told ≡ placed ++ words → slice ≡ name → named ≡ told ++ slice → new ≡ named ++ end → new ≡ text ++ (place ++ words ++ name ++ end)
name_after_place text place placed words told slice name named end new at first same second third =
    let one = text_after_place text place placed words told at first in
    let two = text_after_place text (place ++ words) told name named one (second ∙ ap (λ (part : List ℕ). told ++ part) same) in
    text_after_place text (place ++ words ++ name) named end new two third
