-- All warnings on an accepted grammar, by what the code is given.
use Rattle.std.proofs.Common.{◌≡◌, ℕ, ◌+◌, Bool, List, [], ◌∷◌, ◌++◌, Some, length, flat_map, refl, sym, ap, ◌∙◌, length-append}
use Rattle.std.specs.List.{enumerate_from}
use Rattle.std.proofs.lemmas.List.{length-map}
use Rattle.mh_grammar.specs.Text.{Text}
use Rattle.mh_grammar.specs.declared.types.Grammar.{Grammar}
use Rattle.mh_join_names.specs.Faults.{Meanings, meanings, meant_by}
use Rattle.mh_join_names.specs.Joining.{all_resolved, on_error_in}
use Rattle.mh_join_names.specs.Names.{formal_number}
use Rattle.mh_reader_places.specs.declared.reading.PlacedModule.{PlacedModule}
use Rattle.mh_lint_findings.specs.Lines.{lines_of}
use Rattle.mh_lint_findings.specs.LinesInOrder.{AreInOrder}
use Rattle.mh_lint_findings.specs.code.AppendedLines.{AppendsLines}
use Rattle.mh_lint_findings.specs.declared.findings.Finding.{Finding}
use Rattle.mh_lint_findings.specs.declared.findings.GrammarFile.{GrammarFile}
use Rattle.mh_lint_faults.specs.Stages.{Stages, modules_of}
use Rattle.mh_lint_faults.specs.code.Examining.{AreStages}
use Rattle.mh_lint_faults.specs.declared.front.AcceptedFiles.{AcceptedFiles}
use Rattle.mh_lint_states.specs.AutomatonLines.{AreAutomatonLines}
use Rattle.mh_lint.specs.Built.{Built}
use Rattle.mh_lint.specs.Warnings.{AreLinesOfFile, AreNameLines, AreWarningLines}
use Rattle.mh_lint.specs.code.MentionUses.{AreStagesOf, Checked}

-- ---- The declarations of the files are those of the joined rules.

declared_in : (w : Meanings) (n : ℕ) (found : List PlacedModule) → length (flat_map (on_error_in w) (enumerate_from n (modules_of found))) ≡ length (flat_map (λ (p : PlacedModule). p.module.on_error) found)
declared_in w n [] = refl
declared_in w n (p ∷ found) =
    length-append (on_error_in w (n, p.module)) (flat_map (on_error_in w) (enumerate_from (n + 1) (modules_of found)))
    ∙ (λ i. length-map p.module.on_error (all_resolved (meant_by w n (formal_number []))) i + declared_in w (n + 1) found i)
    ∙ sym (length-append p.module.on_error (flat_map (λ (q : PlacedModule). q.module.on_error) found))

-- ---- The stages.

-- The stages of files without the prelude or with it, with what is made of their grammar.
abbrev pub checked_of : Bool → Stages → Built → Checked
checked_of prelude s b = record { stages = s; built = b; meanings = meanings prelude (modules_of s.found); file = 0 }

pub stages_of : (prelude : Bool) (given : List GrammarFile) (accepted : AcceptedFiles) (g : Grammar) (s : Stages) (b : Built) → AreStages prelude given accepted g s → AreStagesOf (checked_of prelude s b) accepted
stages_of prelude given accepted g s b h =
    let w = meanings prelude (modules_of s.found) in
    let joins = h.accepts.joined.joins.1.on_error_is in
    record {
      read = h.read;
      names = h.names.meanings_are;
      joined = h.joined;
      expanded = h.expanded;
      declarations = sym (declared_in w 1 s.found) ∙ sym (ap length joins) ∙ length-map s.joined.on_error Some ∙ sym (ap (λ j. length j.on_error) h.joined);
    }

-- ---- All lines.

pub warnings_are : (names : List Text) (s : Stages) (b : Built) (w : Meanings) (a c d e : List Finding) → lines_of a ≡ [] → AppendsLines (AreInOrder (AreLinesOfFile s b w) (enumerate_from 0 s.found)) a c → AppendsLines (AreInOrder (AreNameLines names) (enumerate_from 0 names)) c d → AppendsLines (AreAutomatonLines s.grammar b.automaton b.table b.conflicts) d e → AreWarningLines names s b w (lines_of e)
warnings_are names s b w a c d e none placed of_files of_automaton = record {
  placed = placed.lines;
  of_files = of_files.lines;
  of_automaton = of_automaton.lines;
  are_placed = placed.are;
  are_of_files = of_files.are;
  are_of_automaton = of_automaton.are;
  is = of_automaton.is ∙ ap (λ ls. ls ++ of_automaton.lines) (of_files.is ∙ ap (λ ls. ls ++ of_files.lines) (placed.is ∙ ap (λ ls. ls ++ placed.lines) none));
}
