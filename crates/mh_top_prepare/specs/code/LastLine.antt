-- The contracts of the calls that write the last line on err and give the exit status.
use Rattle.std.specs.Prelude.{◌≡◌, ◌⊎◌, ℕ, Option}
use Rattle.std.specs.Io.KnownBytes.{Appends}
use Rattle.mh_outside.specs.Faults.{HasRisen}
use Rattle.mh_outside.specs.Sink.{AppendsPrefix}
use Rattle.mh_grammar.specs.Text.{Text}
use Rattle.mh_top_drive.specs.Text.{cannot_read, cannot_read_input, out_of_memory}
use Rattle.mh_top_drive.specs.Statuses.{status_of_cause, line_of_cause}
use Rattle.mh_top_drive.specs.declared.stop.Stop.{Stop}
use Rattle.mh_top_drive.specs.declared.stop.Stop.TheVariants.{Halted, ShelfFailed, InputFailed, WriteFailed, OutOfMemory}

-- The last line on err and its status, by the reason for which the work stopped. There is no last line after a failed
-- write.
abbrev pub IsLastLine : Stop → ℕ → Text → Type 0
IsLastLine (Halted cause) status line = (status ≡ status_of_cause cause) × (line ≡ line_of_cause cause)
IsLastLine (ShelfFailed name) status line = (status ≡ 3) × (line ≡ cannot_read name)
IsLastLine InputFailed status line = (status ≡ 3) × (line ≡ cannot_read_input)
IsLastLine WriteFailed status line = ⊥
IsLastLine OutOfMemory status line = (status ≡ 6) × (line ≡ out_of_memory)

-- The last line was written, and its status is given; or the work had stopped for a failed write, and nothing was
-- written; or the write of the last line failed. In the last two cases the status is that of a failed write.
pub data ReportsStop (stop : Stop) (err0 err1 : Option Text) (faults0 faults1 : ℕ) (result : ℕ) : Type 0 where
  Said : (line : Text) → IsLastLine stop result line → Appends err0 err1 line → faults1 ≡ faults0 → ReportsStop stop err0 err1 faults0 faults1 result
  Silent : stop ≡ WriteFailed → result ≡ 4 → err1 ≡ err0 → faults1 ≡ faults0 → ReportsStop stop err0 err1 faults0 faults1 result
  Failed : (line : Text) (status : ℕ) → IsLastLine stop status line → result ≡ 4 → AppendsPrefix err0 err1 line → HasRisen faults0 faults1 → ReportsStop stop err0 err1 faults0 faults1 result

-- The line was written, and its status is given; or a write failed after a prefix, and the status is that of a failed
-- write.
abbrev pub WritesLastLine : ℕ → Text → Option Text → Option Text → ℕ → ℕ → ℕ → Type 0
WritesLastLine status line err0 err1 faults0 faults1 result =
    ((result ≡ status) × Appends err0 err1 line × (faults1 ≡ faults0)) ⊎ ((result ≡ 4) × AppendsPrefix err0 err1 line × HasRisen faults0 faults1)
