-- The calls of a fake device, and which of them fail.
use Rattle.std.specs.Prelude.{ℕ, ◌==◌, Bool, List, if◌then◌else◌}
use Rattle.std.specs.List.{list_any}
use Rattle.mh_outside.specs.Faults.{count_after_fault}

-- The numbers of the calls that fail, counted from 1, how many calls were made, and how many of them failed.
pub record DeviceCalls : Type 0 where
  pub listed : List ℕ
  pub made : ℕ
  pub faults : ℕ

-- The calls of a device that was not called yet.
abbrev pub no_calls : List ℕ → DeviceCalls
no_calls listed = record { listed = listed; made = 0; faults = 0 }

-- True if the list has the number of the next call.
abbrev pub fails_next : DeviceCalls → Bool
fails_next calls = list_any (λ n. n == count_after_fault calls.made) calls.listed

-- The calls after one more call, which failed or did not.
abbrev pub after_call : Bool → DeviceCalls → DeviceCalls
after_call failed calls = record {
  listed = calls.listed;
  made = count_after_fault calls.made;
  faults = if failed then count_after_fault calls.faults else calls.faults;
}
