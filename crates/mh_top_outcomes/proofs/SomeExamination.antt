-- Proves, as a double negation, that the files of an order have an examination, and so that all words and files ask for
-- some work.
use Rattle.std.proofs.Common.{◌≡◌, ◌⊎◌, ◌≤◌, ◌++◌, inl, inr, ℕ, Bool, true, false, List, [], ◌∷◌, length, map, codes, Option, None, Some, refl, sym, ◌∙◌, subst, arith}
use Rattle.std.specs.Prelude.{nat_le, if◌then◌else◌}
use Rattle.std.proofs.lemmas.Bool.{leb-true}
use Rattle.mh_grammar.specs.Text.{Text}
use Rattle.mh_grammar.proofs.NotLacking.{chain, decided, given}
use Rattle.mh_grammar.specs.NotLacking.{NotLacking}
use Rattle.mh_lint_faults.specs.Stages.{AreAccepted, Stages, modules_of}
use Rattle.mh_lint_findings.specs.Lines.{Line}
use Rattle.mh_lint_findings.specs.declared.findings.GrammarFile.{GrammarFile}
use Rattle.mh_opts.specs.declared.jobs.Job.TheVariants.{Check}
use Rattle.mh_opts.specs.declared.order.Order.{Order}
use Rattle.mh_outside.specs.Shelf.{Bytes, FileFound, Files, Long, NoFile, file_at, file_within, found_file}
use Rattle.mh_top_check.proofs.AcceptedGrammar as accepted_grammar
use Rattle.mh_top_check.specs.Examination.{AreExamined, IsBareLine, IsExamination, IsGrammarFile, built_of, front_of, meanings_of, plan_of_check}
use Rattle.mh_top_check.specs.Examination as examination
use Rattle.mh_top_claims.proofs.AnswerAtLine.{some_work}
use Rattle.mh_top_claims.proofs.IsGrammarReady.{IsGrammarReady}
use Rattle.mh_top_claims.proofs.PreparedWork.{order_needs}
use Rattle.mh_top_claims.specs.Work.{Examining, IsWork, Work}
use Rattle.mh_top_drive.specs.FileContents.{AreFileContents, IsFileContent, IsFound, IsLoaded, loaded}
use Rattle.mh_top_drive.specs.Limits.{file_limit}
use Rattle.mh_top_drive.specs.StageResults.{Gives, Go, Halt, StageResult, Then}
use Rattle.mh_top_drive.specs.declared.stop.Cause.TheVariants.{LongFile, LongInput, Missing, Misused, Refused}
use Rattle.mh_top_load.proofs.AreModulesReady.{spelled_words}
use Rattle.mh_top_load.proofs.HasFileNames.{has_file_names}
use Rattle.mh_top_load.proofs.AreModulesReady.{spelled_capitals}
use Rattle.mh_top_load.specs.Order.{staged_order}
use Rattle.mh_top_load.specs.code.CapitalTokens.{HasCapitalTokens}
use Rattle.mh_top_load.specs.code.ModuleNames.{HasWordsAsNames}
use Rattle.mh_top_prepare.specs.PreparedStage.{IsPreparedFromFiles}
use Rattle.mh_top_drive.specs.Shapes.{Prepared}
use Rattle.mh_top_outcomes.proofs.SomeFaultLines.{AreFaultyOrAccepted, faulty_or_accepted}
use Rattle.mh_top_outcomes.proofs.SomeWarningLines.{some_warning_lines}
use Rattle.mh_top_outcomes.proofs.SomeWork.{some_prepared, some_tabled, then_some}

-- ---- The files are read.

-- A file that can be read is within the limit.
within_limit : (limit : ℕ) (found : Option (List ℕ)) (bytes : List ℕ) → file_within limit found ≡ Bytes bytes → length bytes ≤ limit
within_limit limit None bytes e = absurd cc
within_limit limit (Some all) bytes e = by (nat_le (length all) limit) refl e
  where
    by : (b : Bool) → b ≡ nat_le (length all) limit → (if b then Bytes all else Long) ≡ Bytes bytes → length bytes ≤ limit
    by false test same = absurd cc
    by true test same = let one : all ≡ bytes = cc in subst (λ (l : List ℕ). length l ≤ limit) one (leb-true (length all) limit (sym test))

module _ (files : Option Files) (name bytes : Text) where
  found_within : (what : FileFound) → IsFound files name what → Go bytes ≡ loaded name what → length bytes ≤ file_limit
  found_within NoFile is e = absurd cc
  found_within Long is e = absurd cc
  found_within (Bytes all) is e = let one : all ≡ bytes = cc in subst (λ (l : Text). length l ≤ file_limit) one (by files is)
    where
      by : (shelf : Option Files) → IsFound shelf name (Bytes all) → length all ≤ file_limit
      by None is = is
      by (Some fs) is = within_limit file_limit (file_at fs name) all is

loads : (files : Option Files) (name : Text) → (s : StageResult Text) × IsLoaded files name s
loads None name = (_, (Long, tt, refl))
loads (Some fs) name = (_, (found_file fs name file_limit, refl, refl))

some_grammar_file : (files : Option Files) (name : Text) → NotLacking ((s : StageResult GrammarFile) × IsFileContent files IsGrammarFile name s)
some_grammar_file files name = then_some (IsLoaded files name) (IsGrammarFile name) (given (loads files name)) (λ bytes is.
    let short = found_within files name bytes is.0 is.1 is.2 in
    given (Go (record { name = name; bytes = bytes }), (refl, refl, omega (arith, short))))

some_grammar_files : (files : Option Files) (names : List Text) → NotLacking ((s : StageResult (List GrammarFile)) × AreFileContents files IsGrammarFile names s)
some_grammar_files files [] = given (Go [], refl)
some_grammar_files files (name ∷ names) = then_some (IsFileContent files IsGrammarFile name) (λ x. Then (AreFileContents files IsGrammarFile names) (λ xs. Gives (x ∷ xs))) (some_grammar_file files name) (λ x is.
    then_some (AreFileContents files IsGrammarFile names) (λ xs. Gives (x ∷ xs)) (some_grammar_files files names) (λ xs are. given (Go (x ∷ xs), refl)))

-- ---- The files are examined.

module _ (prelude : Bool) (files : List GrammarFile) (s : Stages) (accepted : AreAccepted prelude files s) where
  grammar_ready : IsGrammarReady s.grammar
  grammar_ready = record {
    range = accepted_grammar.range prelude files s accepted;
    start = accepted_grammar.start prelude files s accepted;
    costs = accepted_grammar.costs prelude files s accepted;
    distinct_names = accepted_grammar.distinct_names prelude files s accepted;
    names =
        has_file_names prelude (modules_of s.found) s.grammar (accepted_grammar.read_modules HasCapitalTokens spelled_capitals files s.found accepted.joined.read)
        (accepted_grammar.read_modules HasWordsAsNames spelled_words files s.found accepted.joined.read) (accepted_grammar.of_modules prelude files s accepted);
  }

some_bare_line : (whole : Text) → NotLacking ((bare : Text) × IsBareLine whole bare)
some_bare_line whole = chain (decided ((bare : Text) × (whole ≡ (codes "menhir: " ++ bare) ++ codes "\n"))) (λ d. elim d [
  | inl of ↦ given (of.0, examination.IsBareLine.of_program of.0 of.1)
  | inr none ↦ given (whole, examination.IsBareLine.other (λ bare is. none (bare, is)))
])

module _ (files : Option Files) (order : Order) (found : List GrammarFile) where
  abbrev HasExamination : Type 0
  HasExamination = (r : StageResult (Bool × List Line)) × IsExamination files order found r

  module _ (s : Stages) (accepted : AreAccepted order.stdlib found s) where
    of_table : (r : StageResult Prepared) → IsPreparedFromFiles files (front_of order s) r → NotLacking HasExamination
    of_table (Go p) made = chain (some_warning_lines s (built_of p) (meanings_of order s) (map (λ (f : GrammarFile). f.name) found)) (λ l. given (Go (false, l.0), examination.IsExamination.warned s p accepted made l.0 l.1))
    of_table (Halt (Refused whole)) made = chain (some_bare_line whole) (λ bare. given (_, examination.IsExamination.refused s accepted whole bare.0 made bare.1))
    of_table (Halt (Misused line)) made = given (_, examination.IsExamination.stopped s accepted (Misused line) made (λ whole e. cc))
    of_table (Halt (Missing name)) made = given (_, examination.IsExamination.stopped s accepted (Missing name) made (λ whole e. cc))
    of_table (Halt (LongFile name)) made = given (_, examination.IsExamination.stopped s accepted (LongFile name) made (λ whole e. cc))
    of_table (Halt LongInput) made = given (_, examination.IsExamination.stopped s accepted LongInput made (λ whole e. cc))

  of_files : AreFaultyOrAccepted order.stdlib found → NotLacking HasExamination
  of_files (inl lines) = given (Go (true, lines.0), examination.IsExamination.faulty lines.0 lines.1)
  of_files (inr s) = chain (some_tabled files (front_of order s.0) (grammar_ready order.stdlib found s.0 s.1)) (λ r. of_table s.0 s.1 r.0 r.1)

  some_examination : NotLacking HasExamination
  some_examination = chain (faulty_or_accepted order.stdlib found) of_files

some_examined : (files : Option Files) (order : Order) → NotLacking ((s : StageResult (List GrammarFile × (Bool × List Line))) × AreExamined files order s)
some_examined files order = then_some (AreFileContents files IsGrammarFile order.grammars) (λ found. Then (IsExamination files order found) (λ result. Gives (found, result))) (some_grammar_files files order.grammars) (λ found are.
    then_some (IsExamination files order found) (λ result. Gives (found, result)) (some_examination files order found) (λ result is. given (Go (found, result), refl)))

-- ---- The work.

module _ (words : List Text) (files : Option Files) where
  abbrev HasWork : Type 0
  HasWork = (w : Work) × IsWork words files w

  check_or_table : (order : Order) → staged_order words ≡ Go order → (order.job ≡ Check) ⊎ (order.job ≡ Check → ⊥) → NotLacking HasWork
  check_or_table order on (inl job) = chain (some_examined files order) (λ s. given (
    record { warnings = []; plan = plan_of_check order s.0 },
    Examining order on job (record { warnings = refl; plan = (s.0, s.1, refl) }),
  ))
  check_or_table order on (inr other) = chain (some_prepared words files) (λ p. given (some_work words files (order_needs words order on other) p.0 p.1))

  by_order : (s : StageResult Order) → staged_order words ≡ s → NotLacking HasWork
  by_order (Go order) on = chain (decided (order.job ≡ Check)) (λ d. check_or_table order on d)
  by_order (Halt cause) on = chain (some_prepared words files) (λ p. given (some_work words files (λ order is job. (let never : Halt cause ≡ Go order = sym on ∙ is in absurd cc)) p.0 p.1))

  pub some_asked_work : NotLacking HasWork
  some_asked_work = by_order (staged_order words) refl
