-- A text that is written in pieces.
use Rattle.std.proofs.Common.{◌≡◌, ◌∙◌, ◌+◌, ◌<◌, ◌≤◌, ℕ, List, [], ◌++◌, length, take, drop, get_or, Option, refl, sym, ap, subst, append_assoc, take-append-drop}
use Rattle.std.proofs.KnownBytes.{Appends-nil}
use Rattle.std.proofs.lemmas.Grind.{flat_map-append}
use Rattle.std.proofs.lemmas.List.{map-append, take_all}
use Rattle.std.specs.Io.KnownBytes.{Appends}
use Rattle.std.specs.Prelude.{Result, Ok, Err}
use Rattle.mh_grammar.specs.Text.{Text}
use Rattle.mh_lint_findings.specs.Lines.{line_of, line_text, lines_of, lines_text}
use Rattle.mh_lint_findings.specs.declared.findings.Finding.{Finding}
use Rattle.mh_lint_findings.specs.declared.findings.GrammarFile.{GrammarFile}
use Rattle.mh_outside.specs.Sink.{AppendsPrefix}
use Rattle.mh_outside.proofs.Consumes.{Appends-append}
use Rattle.mh_top_drive.specs.code.ModeCalls.{TextIsWritten}
use Rattle.mh_top_drive.specs.declared.stop.Stop.{Stop}
use Rattle.mh_top_drive.specs.declared.stop.Stop.TheVariants.{Halted, InputFailed, OutOfMemory, ShelfFailed, WriteFailed}
use Rattle.mh_top_check.proofs.LinesText.{lines_more}
use Rattle.mh_top_check.specs.code.WrittenPieces.{WritesFront, WritesInPieces}

-- ---- The pieces so far.

-- The text so far is what was written and what waits to be written.
pub record HasWritten (text waits : Text) (out0 out1 : Option Text) : Type 0 where
  pub written : Text
  pub on_out : Appends out0 out1 written
  pub split : text ≡ written ++ waits

pub none_written : (out : Option Text) → HasWritten [] [] out out
none_written out = record { written = []; on_out = Appends-nil out; split = refl }

module _ (text waits : Text) (out0 out1 : Option Text) (h : HasWritten text waits out0 out1) where
  longer : (line : Text) → HasWritten (text ++ line) (waits ++ line) out0 out1
  longer line = record { written = h.written; on_out = h.on_out; split = ap (λ (t : Text). t ++ line) h.split ∙ append_assoc h.written waits line }

  moved : (out2 : Option Text) (new : Text) → WritesFront waits new out1 out2 (Ok tt) → HasWritten text new out0 out2
  moved out2 new wrote = record {
    written = h.written ++ wrote.0;
    on_out = Appends-append out0 out1 out2 h.written wrote.0 h.on_out wrote.1;
    split = h.split ∙ ap (λ (t : Text). h.written ++ t) wrote.2 ∙ sym (append_assoc h.written wrote.0 new);
  }

  -- What was written is a prefix of every text that goes on after the text so far.
  prefix_so_far : (rest : Text) → AppendsPrefix out0 out1 (text ++ rest)
  prefix_so_far rest = (h.written, h.on_out, (waits ++ rest, ap (λ (t : Text). t ++ rest) h.split ∙ append_assoc h.written waits rest))

  prefix_more : (out2 : Option Text) (rest : Text) → AppendsPrefix out1 out2 waits → AppendsPrefix out0 out2 (text ++ rest)
  prefix_more out2 rest part =
      let front = part.0 in
      let back = part.2.0 in
      let whole : text ≡ (h.written ++ front) ++ back = h.split ∙ ap (λ (t : Text). h.written ++ t) part.2.1 ∙ sym (append_assoc h.written front back) in (
        h.written ++ front,
        Appends-append out0 out1 out2 h.written front h.on_out part.1,
        (back ++ rest, ap (λ (t : Text). t ++ rest) whole ∙ append_assoc (h.written ++ front) back rest),
      )

-- ---- The loop over the findings.

module _ (files : List GrammarFile) where
  abbrev text_of : List Finding → Text
  text_of found = lines_text files (lines_of found)

  text_split : (found : List Finding) (i : ℕ) → text_of found ≡ text_of (take i found) ++ text_of (drop i found)
  text_split found i =
      ap text_of (sym (take-append-drop i found)) ∙ ap (lines_text files) (map-append line_of (take i found) (drop i found)) ∙ flat_map-append (line_text files) (lines_of (take i found)) (lines_of (drop i found))

  module _ (found : List Finding) (i : ℕ) (x : Finding) (lt : i < length found) (at : x ≡ get_or found i x) (waits next : Text) (out0 out1 : Option Text) (h : HasWritten (text_of (take i found)) waits out0 out1) (more : next ≡ waits ++ line_text files (line_of x)) where
    line_waits : HasWritten (text_of (take (i + 1) found)) next out0 out1
    line_waits =
        let whole : text_of (take i found) ++ line_text files (line_of x) ≡ text_of (take (i + 1) found) = lines_more files found i x (text_of (take i found)) (text_of (take i found) ++ line_text files (line_of x)) lt at refl refl in
        subst (λ (t : Text). HasWritten t next out0 out1) whole
        (subst (λ (w : Text). HasWritten (text_of (take i found) ++ line_text files (line_of x)) w out0 out1) (sym more) (longer (text_of (take i found)) waits out0 out1 h (line_text files (line_of x))))

    pub finding_written : (out2 : Option Text) (new : Text) → WritesFront next new out1 out2 (Ok tt) → HasWritten (text_of (take (i + 1) found)) new out0 out2
    finding_written out2 new wrote = moved (text_of (take (i + 1) found)) next out0 out1 line_waits out2 new wrote

    pub finding_stops : (out2 : Option Text) (new : Text) (stop : Stop) → WritesFront next new out1 out2 (Err stop) → WritesInPieces (text_of found) out0 out2 (Err stop)
    finding_stops out2 new WriteFailed part = subst (AppendsPrefix out0 out2) (sym (text_split found (i + 1))) (prefix_more (text_of (take (i + 1) found)) next out0 out1 line_waits out2 (text_of (drop (i + 1) found)) part)
    finding_stops out2 new (Halted cause) part = absurd part
    finding_stops out2 new OutOfMemory part = absurd part
    finding_stops out2 new (ShelfFailed name) part = absurd part
    finding_stops out2 new InputFailed part = absurd part

  module _ (found : List Finding) (i : ℕ) (waits : Text) (out0 out1 : Option Text) (h : HasWritten (text_of (take i found)) waits out0 out1) where
    pub lacks_memory : WritesInPieces (text_of found) out0 out1 (Err OutOfMemory)
    lacks_memory = subst (AppendsPrefix out0 out1) (sym (text_split found i)) (prefix_so_far (text_of (take i found)) waits out0 out1 h (text_of (drop i found)))

    -- The last piece is written.
    pub all_written : (out2 : Option Text) (r : Result (Unit {0}) Stop) → length found ≤ i → TextIsWritten waits out1 out2 r → WritesInPieces (text_of found) out0 out2 r
    all_written out2 (Ok u) le wrote =
        let all : text_of found ≡ h.written ++ waits = ap text_of (sym (take_all i found le)) ∙ h.split in
        subst (Appends out0 out2) (sym all) (Appends-append out0 out1 out2 h.written waits h.on_out wrote)
    all_written out2 (Err WriteFailed) le part = subst (AppendsPrefix out0 out2) (sym (text_split found i)) (prefix_more (text_of (take i found)) waits out0 out1 h out2 (text_of (drop i found)) part)
    all_written out2 (Err (Halted cause)) le part = absurd part
    all_written out2 (Err OutOfMemory) le part = absurd part
    all_written out2 (Err (ShelfFailed name)) le part = absurd part
    all_written out2 (Err InputFailed) le part = absurd part
