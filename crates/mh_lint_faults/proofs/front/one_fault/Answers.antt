use Rattle.std.proofs.Common.{◌++◌, ◌∷◌, [], ap, refl, ◌∙◌}
use Rattle.mh_front.specs.Texts.{grammar_fault_text}
use Rattle.mh_lint_findings.specs.Lines.{line, lines_of}
use Rattle.mh_lint_faults.proofs.front.one_fault.Goals as goal

pub returns : goal.returns
returns c = record {
  at = c.args.at;
  here = refl;
  lines = c.in_ok-put_fault.ensures ∙ ap (λ fs. lines_of fs ++ line c.args.at (grammar_fault_text c.args.fault.now) ∷ []) c.new-findings.ensures.items;
}
