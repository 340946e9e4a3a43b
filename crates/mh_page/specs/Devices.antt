-- The contents of the devices over what a caller gives.
use Rattle.std.specs.Prelude.{◌≡◌, ◌≤◌, ◌⊎◌, ℕ, length}
use Rattle.mh_grammar.specs.Text.{Text}
use Rattle.mh_outside.specs.Shelf.{Files}
use Rattle.mh_page.specs.Given.{files_given}
use Rattle.mh_page.specs.declared.file_list.FileList.{FileList}
use Rattle.mh_page.specs.declared.input.InputBytes.{InputBytes}
use Rattle.mh_page.specs.declared.room_sink.RoomSink.{RoomSink}

abbrev pub files_listed : FileList → Files
files_listed s = files_given s.files.now

abbrev pub bytes_left : InputBytes → Text
bytes_left s = s.rest.now

-- The whole text that was written.
abbrev pub text_written : RoomSink → Text
text_written s = s.text.bytes

-- The output has kept the whole text.
abbrev pub IsWhole : RoomSink → Type 0
IsWhole s = s.first.items ≡ s.text.bytes

-- The output has kept as many first bytes of the text as a room of this size holds.
abbrev pub KeepsFor : RoomSink → ℕ → Type 0
KeepsFor s room = (room ≤ length s.first.items) ⊎ IsWhole s
