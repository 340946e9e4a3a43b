use Rattle.mh_top_drive.proofs.IsLoaded.{has_failed, is_long, is_missing, loads, loads_short}
use Rattle.mh_top_drive.proofs.files.load.Goals as goal

pub returns-in-Ok-clause-bytes : goal.returns-in-Ok-clause-bytes
returns-in-Ok-clause-bytes g c = loads _ _ c.in-Ok.bytes (rw c.in-Ok.bytes-is at c.in-Ok.ensures.answer)

pub returns-in-Ok-clause-short : goal.returns-in-Ok-clause-short
returns-in-Ok-clause-short g c = loads_short _ _ c.in-Ok.bytes (rw c.in-Ok.bytes-is at c.in-Ok.ensures.answer)

pub returns-in-Err-Absent-clause-bytes : goal.returns-in-Err-Absent-clause-bytes
returns-in-Err-Absent-clause-bytes g c = is_missing _ _ _ (rw c.in-Err-Absent.field-0-is at c.in-Err-Absent.ensures.answer) c.missing.ensures

pub returns-in-Err-TooBig-clause-bytes : goal.returns-in-Err-TooBig-clause-bytes
returns-in-Err-TooBig-clause-bytes g c = is_long _ _ _ (rw c.in-Err-TooBig.field-0-is at c.in-Err-TooBig.ensures.answer) c.long_file.ensures

pub returns-in-Err-Failed-clause-bytes : goal.returns-in-Err-Failed-clause-bytes
returns-in-Err-Failed-clause-bytes g c = has_failed _ _ _ c.shelf_failed.ensures
