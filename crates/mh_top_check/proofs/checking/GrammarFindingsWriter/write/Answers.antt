use Rattle.std.proofs.Common.{◌≡◌, ◌∙◌, sym}
use Rattle.mh_grammar.specs.Text.{Text}
use Rattle.mh_lint_findings.specs.Lines.{lines_of, lines_text}
use Rattle.mh_top_check.proofs.FindingsEnd.{failed_end, refused_end, whole_end}
use Rattle.mh_top_check.proofs.checking.GrammarFindingsWriter.write.Goals as goal

pub returns-in-Ok-clause-text : goal.returns-in-Ok-clause-text
returns-in-Ok-clause-text g c =
    let s = c.args.self in
    let text : Text = lines_text s.files.now (lines_of c.as_slice-findings.result.now) in
    let is : text ≡ lines_text s.files.now (lines_of s.found.findings.items) = (λ i. lines_text s.files.now (lines_of (c.as_slice-findings.ensures.value i))) in
    refused_end s.files.now s.strict s.found.are_faults s.found.findings.items text is _ _ c.refused.result (sym c.is_refused.ensures ∙ c.if-is_refused.true) c.in-Ok.ensures.text c.refused.ensures

pub returns-in-Ok-2-clause-text : goal.returns-in-Ok-2-clause-text
returns-in-Ok-2-clause-text g c =
    let s = c.args.self in
    let text : Text = lines_text s.files.now (lines_of c.as_slice-findings.result.now) in
    let is : text ≡ lines_text s.files.now (lines_of s.found.findings.items) = (λ i. lines_text s.files.now (lines_of (c.as_slice-findings.ensures.value i))) in
    whole_end s.files.now s.strict s.found.are_faults s.found.findings.items text is _ _ c.in-Ok-2.field-0 (sym c.is_refused.ensures ∙ c.if-is_refused.false) c.in-Ok-2.ensures.text

pub returns-clause-text : goal.returns-clause-text
returns-clause-text g c =
    let s = c.args.self in
    let text : Text = lines_text s.files.now (lines_of c.as_slice-findings.result.now) in
    let is : text ≡ lines_text s.files.now (lines_of s.found.findings.items) = (λ i. lines_text s.files.now (lines_of (c.as_slice-findings.ensures.value i))) in
    failed_end s.files.now s.strict s.found.are_faults s.found.findings.items text is _ _ c.in-Err.stop c.in-Err.ensures.text
