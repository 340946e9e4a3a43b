-- The lines on known grammar files are unique.
use Rattle.std.proofs.Common.{◌≡◌, ◌++◌, true, false, List, Some, map, codes, sym, ◌∙◌, ap, subst, refl}
use Rattle.std.proofs.lemmas.List.{append_cancel_left, append_cancel_right}
use Rattle.mh_grammar.specs.Text.{Text}
use Rattle.mh_outside.specs.Shelf.{Files}
use Rattle.mh_opts.specs.declared.order.Order.{Order}
use Rattle.mh_lint_findings.specs.Lines.{Line}
use Rattle.mh_lint_findings.specs.declared.findings.GrammarFile.{GrammarFile}
use Rattle.mh_lint_faults.specs.Stages.{AreAccepted, Stages}
use Rattle.mh_lint_faults.proofs.FaultLinesUnique.{accepted_faultless, accepted_once, fault_lines_once}
use Rattle.mh_lint.specs.Warnings.{AreWarningLines}
use Rattle.mh_lint.proofs.WarningLinesUnique.{warning_lines_once}
use Rattle.mh_top_check.proofs.AcceptedGrammar.{distinct_names}
use Rattle.mh_top_check.specs.Examination.{AreExamined, IsBareLine, IsExamination, IsGrammarFile, built_of, faulty, front_of, meanings_of, of_program, other, refused, stopped, warned}
use Rattle.mh_top_drive.specs.FileContents.{AreFileContents}
use Rattle.mh_top_drive.specs.StageResults.{StageResult, Gives, Go, Halt, Then}
use Rattle.mh_top_drive.specs.declared.stop.Cause.TheVariants.{Refused}
use Rattle.mh_top_drive.proofs.LoadedUnique.{gives_once}
use Rattle.mh_top_drive.proofs.Then.{IsOne, then_once}
use Rattle.mh_top_prepare.specs.PreparedStage.{IsPreparedFromFiles}
use Rattle.mh_top_drive.specs.Shapes.{Prepared}
use Rattle.mh_top_claims.proofs.OrderAndGrammarUnique.{contents_once}
use Rattle.mh_top_claims.proofs.TableUnique.{tabled_front_once}

-- The bytes are one grammar file.
file_once : (name bytes : Text) → IsOne (IsGrammarFile name bytes)
file_once name bytes (Go f) (Go g) p q =
    let names : f.name ≡ g.name = p.0 ∙ sym q.0 in
    let contents : f.bytes ≡ g.bytes = p.1 ∙ sym q.1 in
    ap Go (λ i. record { name = names i; bytes = contents i })
file_once name bytes (Go f) (Halt cause) p q = absurd q
file_once name bytes (Halt cause) s p q = absurd p

-- A line has one form without the name of the program.
bare_once : (whole x y : Text) → IsBareLine whole x → IsBareLine whole y → x ≡ y
bare_once whole x y (of_program b is) (of_program c so) =
    append_cancel_left (codes "menhir: ") b c (append_cancel_right (codes "menhir: " ++ b) (codes "menhir: " ++ c) (codes "\n") (sym is ∙ so))
bare_once whole x y (of_program b is) (other none) = absurd (none b is)
bare_once whole x y (other none) (of_program c so) = absurd (none c so)
bare_once whole x y (other none) (other also) = refl

module _ (files : Files) (order : Order) (found : List GrammarFile) where
  abbrev Accepts : Stages → Type 0
  Accepts s = AreAccepted order.stdlib found s

  -- The stages after the grammar have one result.
  pub prepared_same : (s t : Stages) → Accepts s → Accepts t → (x y : StageResult Prepared) → IsPreparedFromFiles (Some files) (front_of order s) x → IsPreparedFromFiles (Some files) (front_of order t) y → x ≡ y
  prepared_same s t a b x y p q =
      tabled_front_once files (front_of order s) (distinct_names order.stdlib found s a) x y p
      (subst (λ (k : Stages). IsPreparedFromFiles (Some files) (front_of order k) y) (sym (accepted_once order.stdlib found s t a b)) q)

  lines_same : (s t : Stages) (p q : Prepared) → s ≡ t → p ≡ q → (xs ys : List Line)
      → AreWarningLines (map (λ (f : GrammarFile). f.name) found) s (built_of p) (meanings_of order s) xs → AreWarningLines (map (λ (f : GrammarFile). f.name) found) t (built_of q) (meanings_of order t) ys → xs ≡ ys
  lines_same s t p q stages prepared xs ys is so =
      let names : List Text = map (λ (f : GrammarFile). f.name) found in
      let at : AreWarningLines names s (built_of q) (meanings_of order s) ys = subst (λ (k : Stages). AreWarningLines names k (built_of q) (meanings_of order k) ys) (sym stages) so in
      warning_lines_once names s (built_of p) (meanings_of order s) xs ys is (subst (λ (r : Prepared). AreWarningLines names s (built_of r) (meanings_of order s) ys) (sym prepared) at)

  examination_once : IsOne (IsExamination (Some files) order found)
  examination_once x y (faulty xs is) (faulty ys so) = ap (λ (l : List Line). Go (true, l)) (fault_lines_once order.stdlib found xs ys is so)
  examination_once x y (faulty xs is) (refused t b whole bare halt line) = absurd (accepted_faultless order.stdlib found t xs b is)
  examination_once x y (faulty xs is) (stopped t b cause halt not) = absurd (accepted_faultless order.stdlib found t xs b is)
  examination_once x y (faulty xs is) (warned t q b made ys so) = absurd (accepted_faultless order.stdlib found t xs b is)
  examination_once x y (refused s a whole bare halt line) (faulty ys so) = absurd (accepted_faultless order.stdlib found s ys a so)
  examination_once x y (refused s a whole bare halt line) (refused t b text short too also) =
      let same : Halt (Refused whole) ≡ Halt (Refused text) = prepared_same s t a b (Halt (Refused whole)) (Halt (Refused text)) halt too in
      let one : whole ≡ text = cc in
      rw (bare_once whole bare short line (subst (λ (w : Text). IsBareLine w short) (sym one) also)) refl
  examination_once x y (refused s a whole bare halt line) (stopped t b cause too not) =
      let same : Halt (Refused whole) ≡ Halt cause = prepared_same s t a b (Halt (Refused whole)) (Halt cause) halt too in
      let one : cause ≡ Refused whole = cc in
      absurd (not whole one)
  examination_once x y (refused s a whole bare halt line) (warned t q b made ys so) =
      let same : Halt (Refused whole) ≡ Go q = prepared_same s t a b (Halt (Refused whole)) (Go q) halt made in
      absurd (cc)
  examination_once x y (stopped s a cause halt not) (faulty ys so) = absurd (accepted_faultless order.stdlib found s ys a so)
  examination_once x y (stopped s a cause halt not) (refused t b whole bare too line) =
      let same : Halt cause ≡ Halt (Refused whole) = prepared_same s t a b (Halt cause) (Halt (Refused whole)) halt too in
      let one : cause ≡ Refused whole = cc in
      absurd (not whole one)
  examination_once x y (stopped s a cause halt not) (stopped t b reason too also) =
      let same : Halt cause ≡ Halt reason = prepared_same s t a b (Halt cause) (Halt reason) halt too in
      let one : cause ≡ reason = cc in
      ap Halt one
  examination_once x y (stopped s a cause halt not) (warned t q b made ys so) =
      let same : Halt cause ≡ Go q = prepared_same s t a b (Halt cause) (Go q) halt made in
      absurd (cc)
  examination_once x y (warned s p a made xs is) (faulty ys so) = absurd (accepted_faultless order.stdlib found s ys a so)
  examination_once x y (warned s p a made xs is) (refused t b whole bare halt line) =
      let same : Go p ≡ Halt (Refused whole) = prepared_same s t a b (Go p) (Halt (Refused whole)) made halt in
      absurd (cc)
  examination_once x y (warned s p a made xs is) (stopped t b cause halt not) =
      let same : Go p ≡ Halt cause = prepared_same s t a b (Go p) (Halt cause) made halt in
      absurd (cc)
  examination_once x y (warned s p a made xs is) (warned t q b again ys so) =
      let same : Go p ≡ Go q = prepared_same s t a b (Go p) (Go q) made again in
      let one : p ≡ q = cc in
      ap (λ (l : List Line). Go (false, l)) (lines_same s t p q (accepted_once order.stdlib found s t a b) one xs ys is so)

-- The files of an order have one examination.
pub examined_once : (order : Order) (files : Files) → IsOne (AreExamined (Some files) order)
examined_once order files =
    then_once (AreFileContents (Some files) IsGrammarFile order.grammars) (λ found. Then (IsExamination (Some files) order found) (λ result. Gives (found, result)))
    (contents_once IsGrammarFile file_once files order.grammars)
    (λ found. then_once (IsExamination (Some files) order found) (λ result. Gives (found, result)) (examination_once files order found) (λ result. gives_once (found, result)))
