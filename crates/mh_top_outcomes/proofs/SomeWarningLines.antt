-- Proves, as a double negation, that an accepted grammar has lines on its warnings.
use Rattle.std.proofs.Common.{◌⊎◌, ◌++◌, inl, inr, ℕ, List, [], ◌∷◌, refl}
use Rattle.std.specs.List.{enumerate_from}
use Rattle.std.proofs.lemmas.Bool.{cases_lt}
use Rattle.mh_grammar.specs.Text.{Text}
use Rattle.mh_grammar.proofs.NotLacking.{chain, decided, given}
use Rattle.mh_grammar.specs.NotLacking.{NotLacking}
use Rattle.mh_join_names.specs.Faults.{Meanings}
use Rattle.mh_lint.specs.Built.{Built}
use Rattle.mh_lint.specs.MentionWarnings.{IsWarning}
use Rattle.mh_lint.specs.Warnings.{AreFileLines, AreLinesOfFile, AreNameLines, AreWarningLines, IsNamedBefore, IsNoneBefore}
use Rattle.mh_lint.specs.Warnings as lines
use Rattle.mh_lint_faults.specs.Stages.{Stages}
use Rattle.mh_lint_findings.specs.Lines.{Line}
use Rattle.mh_reader_places.specs.declared.mentions.Mention.{Mention}
use Rattle.mh_reader_places.specs.declared.reading.PlacedModule.{PlacedModule}
use Rattle.mh_top_outcomes.proofs.SomeAutomatonLines.{some_automaton_lines, some_in_order}

module _ (s : Stages) (b : Built) (w : Meanings) where
  module _ (file : ℕ) where
    abbrev HasLines : List Mention → List Mention → List ℕ → Type 0
    HasLines before xs costs = (l : List Line) × AreFileLines s b w file before xs costs l

    abbrev IsWarned : List Mention → Mention → Type 0
    IsWarned before x = (text : Text) × IsWarning s b w file before x text

    -- The lines from a mention on, if no attribute is before the mention.
    at_mention : (before xs : List Mention) (x : Mention) (costs : List ℕ) → IsNoneBefore costs x.start → IsWarned before x ⊎ (IsWarned before x → ⊥) → HasLines (before ++ x ∷ []) xs costs → HasLines before (x ∷ xs) costs
    at_mention before xs x costs none (inl warned) rest = (_, lines.AreFileLines.warned warned.0 none warned.1 rest.1)
    at_mention before xs x costs none (inr clear) rest = (_, lines.AreFileLines.clear none (λ text is. clear (text, is)) rest.1)

    from_mention : (before xs : List Mention) (x : Mention) → ((costs : List ℕ) → NotLacking (HasLines (before ++ x ∷ []) xs costs)) → (costs : List ℕ) → NotLacking (HasLines before (x ∷ xs) costs)
    from_mention before xs x again [] = chain (decided (IsWarned before x)) (λ d. chain (again []) (λ rest. given (at_mention before xs x [] tt d rest)))
    from_mention before xs x again (cost ∷ costs) = elim (cases_lt cost x.start) [
      | inl first ↦ chain (from_mention before xs x again costs) (λ rest. given (_, lines.AreFileLines.attribute first rest.1))
      | inr none ↦ chain (decided (IsWarned before x)) (λ d. chain (again (cost ∷ costs)) (λ rest. given (at_mention before xs x (cost ∷ costs) none d rest)))
    ]

    some_file_lines : (before xs : List Mention) (costs : List ℕ) → NotLacking (HasLines before xs costs)
    some_file_lines before [] costs = given (_, lines.AreFileLines.ended)
    some_file_lines before (x ∷ xs) costs = from_mention before xs x (λ left. some_file_lines (before ++ x ∷ []) xs left) costs

  name_lines : (names : List Text) (e : ℕ × Text) → IsNamedBefore names e.0 ⊎ (IsNamedBefore names e.0 → ⊥) → (l : List Line) × AreNameLines names e l
  name_lines names e (inl again) = (_, lines.AreNameLines.again again)
  name_lines names e (inr new) = (_, lines.AreNameLines.new new)

  pub some_warning_lines : (names : List Text) → NotLacking ((l : List Line) × AreWarningLines names s b w l)
  some_warning_lines names =
      chain (some_in_order (AreLinesOfFile s b w) (λ (e : ℕ × PlacedModule). some_file_lines e.0 [] e.1.mentions e.1.bad_costs) (enumerate_from 0 s.found)) (λ placed.
      chain (some_in_order (AreNameLines names) (λ (e : ℕ × Text). chain (decided (IsNamedBefore names e.0)) (λ d. given (name_lines names e d))) (enumerate_from 0 names)) (λ of_files.
      chain (some_automaton_lines s.grammar b.automaton b.table b.conflicts) (λ of_automaton. given (
        placed.0 ++ of_files.0 ++ of_automaton.0,
        record { placed = placed.0; of_files = of_files.0; of_automaton = of_automaton.0; are_placed = placed.1; are_of_files = of_files.1; are_of_automaton = of_automaton.1; is = refl },
      ))))
