-- Lemmas on reading the bytes of a file, for known and unknown files.
use Rattle.std.proofs.Common.{◌≡◌, ◌≤◌, ℕ, true, false, length, Option, None, Some, Bool, if◌then◌else◌, nat_le, refl, ap, arith, Vec, Ok, Err}
use Rattle.std.proofs.lemmas.Bool.Decides.{nat_tests}
use Rattle.std.specs.declared.alloc.Global.{Global}
use Rattle.mh_outside.specs.Shelf.{Files, NoFile, Long, Bytes, file_at, file_within, ReadsFile}
use Rattle.mh_outside.specs.declared.shelf.ShelfFault.TheVariants as shelf_faults
use Rattle.mh_grammar.specs.Text.{Text}
use Rattle.mh_top_drive.specs.StageResults.{Go, Halt}
use Rattle.mh_top_drive.specs.FileContents.{IsLoaded}
use Rattle.mh_top_drive.specs.Limits.{file_limit}
use Rattle.mh_top_drive.specs.code.StageCalls.{FileStageGives, ShelfFailsAt, StopsWith}
use Rattle.mh_top_drive.specs.declared.stop.Cause.TheVariants.{Missing, LongFile}
use Rattle.mh_top_drive.specs.declared.stop.Stop.{Stop}
use Rattle.mh_top_drive.specs.declared.stop.Stop.TheVariants.{Halted, ShelfFailed, InputFailed, WriteFailed, OutOfMemory}

abbrev IsIt : Text → Text → Type 0
IsIt name other = other ≡ name

pub loads : (files : Option Files) (name : Text) (v : Vec ℕ Global) → ReadsFile files name file_limit (Ok v) → IsLoaded files name (Go v.items)
loads None name v reads = (Bytes v.items, reads, refl)
loads (Some fs) name v reads = (Bytes v.items, reads, refl)

pub is_missing : (files : Option Files) (name : Text) (stop : Stop) → ReadsFile files name file_limit (Err shelf_faults.Absent) → StopsWith (Missing name) stop → FileStageGives {A = Text} (IsLoaded files name) (IsIt name) (Err stop)
is_missing None name stop reads is = absurd reads
is_missing (Some fs) name (Halted cause) reads is = (NoFile, reads, ap Halt is)
is_missing (Some fs) name OutOfMemory reads is = tt
is_missing (Some fs) name (ShelfFailed other) reads is = absurd is
is_missing (Some fs) name InputFailed reads is = absurd is
is_missing (Some fs) name WriteFailed reads is = absurd is

pub is_long : (files : Option Files) (name : Text) (stop : Stop) → ReadsFile files name file_limit (Err shelf_faults.TooBig) → StopsWith (LongFile name) stop → FileStageGives {A = Text} (IsLoaded files name) (IsIt name) (Err stop)
is_long None name (Halted cause) reads is = (Long, tt, ap Halt is)
is_long (Some fs) name (Halted cause) reads is = (Long, reads, ap Halt is)
is_long files name OutOfMemory reads is = tt
is_long files name (ShelfFailed other) reads is = absurd is
is_long files name InputFailed reads is = absurd is
is_long files name WriteFailed reads is = absurd is

pub has_failed : (files : Option Files) (name : Text) (stop : Stop) → ShelfFailsAt name stop → FileStageGives {A = Text} (IsLoaded files name) (IsIt name) (Err stop)
has_failed files name (ShelfFailed other) is = is
has_failed files name OutOfMemory is = tt
has_failed files name (Halted cause) is = absurd is
has_failed files name InputFailed is = absurd is
has_failed files name WriteFailed is = absurd is

fits_within : (limit : ℕ) (file bytes : Text) (small : Bool) → nat_le (length file) limit ≡ small → (if small then Bytes file else Long) ≡ Bytes bytes → length bytes ≤ limit
fits_within limit file bytes true e is =
    let same : file ≡ bytes = cc in
    let le : length file ≤ limit = grind (arith, nat_tests) in
    omega (arith, le, ap length same)
fits_within limit file bytes false e is = absurd (cc)

pub found_fits : (limit : ℕ) (file : Option Text) (bytes : Text) → file_within limit file ≡ Bytes bytes → length bytes ≤ limit
found_fits limit None bytes is = absurd (cc)
found_fits limit (Some file) bytes is = fits_within limit file bytes (nat_le (length file) limit) refl is

-- The bytes that were read are within the limit.
pub loads_short : (files : Option Files) (name : Text) (v : Vec ℕ Global) → ReadsFile files name file_limit (Ok v) → length v.items ≤ file_limit
loads_short None name v reads = reads
loads_short (Some fs) name v reads = found_fits file_limit (file_at fs name) v.items reads
