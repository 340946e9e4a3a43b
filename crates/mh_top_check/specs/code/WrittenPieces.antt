-- The contracts of the calls that write a text in pieces.
use Rattle.std.specs.Prelude.{◌≡◌, ◌++◌, Option, Result, Ok, Err}
use Rattle.std.specs.Io.KnownBytes.{Appends}
use Rattle.mh_grammar.specs.Text.{Text}
use Rattle.mh_outside.specs.Sink.{AppendsPrefix}
use Rattle.mh_top_drive.specs.declared.stop.Stop.{Stop}
use Rattle.mh_top_drive.specs.declared.stop.Stop.TheVariants.{WriteFailed, OutOfMemory}

-- The old text is what was written and the new text; or a write failed after a prefix of the old text.
abbrev pub WritesFront : Text → Text → Option Text → Option Text → Result (Unit {0}) Stop → Type 0
WritesFront old new out0 out1 (Ok _) = (front : Text) × Appends out0 out1 front × (old ≡ front ++ new)
WritesFront old new out0 out1 (Err WriteFailed) = AppendsPrefix out0 out1 old
WritesFront old new out0 out1 (Err _) = ⊥

-- The text was written whole; or a write failed or memory ran out after a prefix.
abbrev pub WritesInPieces : Text → Option Text → Option Text → Result (Unit {0}) Stop → Type 0
WritesInPieces text out0 out1 (Ok _) = Appends out0 out1 text
WritesInPieces text out0 out1 (Err WriteFailed) = AppendsPrefix out0 out1 text
WritesInPieces text out0 out1 (Err OutOfMemory) = AppendsPrefix out0 out1 text
WritesInPieces text out0 out1 (Err _) = ⊥
