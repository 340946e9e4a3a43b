-- The contents of the adapters over real readers and writers.
use Rattle.std.specs.Prelude.{◌≡◌, ◌<◌, ℕ, List, [], Option}
use Rattle.std.specs.Io.Buffered.{reader_remaining, reader_inner, reader_buffer, reader_capacity}
use Rattle.mh_outside.specs.declared.std_source.StdSource.{StdSource}
use Rattle.mh_outside.specs.declared.std_sink.StdSink.{StdSink}

abbrev pub source_faults : {R : Type 0} → StdSource R → ℕ
source_faults s = s.faults

-- The bytes that were read ahead, followed by the bytes that the reader has left, if they are known.
abbrev pub std_source_left : {R : Type 0} → (R → Option (List ℕ)) → StdSource R → Option (List ℕ)
std_source_left remaining s = reader_remaining remaining s.inner

-- A new source: nothing was read from the reader yet, and the buffer has room.
pub record IsFresh {R : Type 0} (s : StdSource R) (inner : R) : Type 0 where
  pub inner_is : reader_inner s.inner ≡ inner
  pub unread : reader_buffer s.inner ≡ []
  pub has_capacity : 0 < reader_capacity s.inner
  pub no_faults : s.faults ≡ 0

abbrev pub sink_inner : {W : Type 0} → StdSink W → W
sink_inner s = s.inner

abbrev pub sink_faults : {W : Type 0} → StdSink W → ℕ
sink_faults s = s.faults
