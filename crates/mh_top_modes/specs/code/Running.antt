-- The premises of the modes that read the input and no file.
use Rattle.std.specs.Prelude.{ℕ, ◌≤◌}
use Rattle.mh_top_drive.specs.Shapes.{Prepared}
use Rattle.mh_top_drive.specs.code.Prepared.{IsConsistent}

-- A mode may run on what is prepared, with sets of tokens of `width` words: the parts of what is prepared agree, and
-- the input (`Reads`) and out (`Writes`) may be used.
pub record MayRun (width : ℕ) (p : Prepared) (Reads Writes : Type 0) : Type 0 where
  pub few : width ≤ 8
  pub consistent : IsConsistent p
  pub may_read : Reads
  pub may_write : Writes
