-- Proves that the stage that updates a messages file has a result, that the result is unique if the files are known,
-- and that the stage stops the work only for an allowed cause.
use Rattle.std.proofs.Common.{inl, inr, [], ◌∷◌, length, ap, refl, subst, sym, ◌∙◌}
use Rattle.mh_check.specs.Checks.{SoundnessFault, sentences_of}
use Rattle.mh_check.specs.Texts.{check_line}
use Rattle.mh_msgfile.specs.declared.messages.MsgFile.{MsgFile}
use Rattle.mh_msgfile.specs.Messages.{AreSentencesOf}
use Rattle.mh_update.proofs.UpdatedAgain.{updated_once}
use Rattle.mh_update.proofs.UpdatedOrUnfit.{unfit_once, updated_fits, updated_or_unfit}
use Rattle.mh_grammar.specs.Text.{Text}
use Rattle.mh_top_drive.specs.StageResults.{StageResult, Go, Halt}
use Rattle.mh_top_drive.specs.declared.stop.Cause.{Cause}
use Rattle.mh_top_drive.specs.declared.stop.Cause.TheVariants.{Refused}
use Rattle.mh_top_drive.proofs.Then.{IsOne}
use Rattle.mh_top_drive.specs.FileContents.{IsFileContent}
use Rattle.mh_top_drive.specs.Shapes.{Prepared}
use Rattle.mh_top_plans.specs.MessagesFiles.{IsMessagesFile, IsUpdatedFile, IsUpdatedOf}
use Rattle.mh_top_plans.proofs.MessagesFileLines.{file_of_table, some_spelled, messages_file_facts}
use Rattle.mh_top_plans.proofs.FilesOfMode.{ReadFacts, PreparedFacts, StopsAllowed, one_file, read_then}

module _ (p : Prepared) where
  of_file_once : (name : Text) (file : MsgFile) → IsOne (IsUpdatedOf p name file)
  of_file_once name file (Go x) (Go y) is so = ap Go (updated_once p.order.comment_expected p.grammar p.tabled.automaton p.tabled.halting file x y is so)
  of_file_once name file (Go x) (Halt cause) is so = absurd (updated_fits p.tabled.halting p.order.comment_expected p.grammar p.tabled.automaton file x so.fault is so.first)
  of_file_once name file (Halt cause) (Go y) is so = absurd (updated_fits p.tabled.halting p.order.comment_expected p.grammar p.tabled.automaton file y is.fault so is.first)
  of_file_once name file (Halt cause) (Halt cause') is so =
      ap Halt (is.cause_is ∙ ap (λ (f : SoundnessFault). Refused (check_line name f)) (unfit_once p.tabled.halting (sentences_of file) is.fault so.fault is.first so.first) ∙ sym so.cause_is)

  of_file_right : (Right : Cause → Type 0) → ((line : Text) → Right (Refused line)) → (name : Text) (file : MsgFile) (s : StageResult Text) → IsUpdatedOf p name file s → StopsAllowed Right s
  of_file_right Right may name file (Go text) is = tt
  of_file_right Right may name file (Halt cause) is = subst Right (sym is.cause_is) (may (check_line name is.fault))

  some_updated : PreparedFacts p → (name : Text) (file : MsgFile) → AreSentencesOf (length p.tabled.halting.grammar.starts) p.tabled.halting.grammar.tokens file → (s : StageResult Text) × IsUpdatedOf p name file s
  some_updated runs name file of = elim (updated_or_unfit p.tabled.halting p.order.comment_expected p.grammar p.tabled.automaton runs.halts runs.consistent.automaton runs.consistent.table.states.count file of) [
    | inl text ↦ (Go text.0, text.1)
    | inr f ↦ (Halt (Refused (check_line name f.0)), record { fault = f.0; first = f.1; cause_is = refl })
  ]

  spelled : (name : Text) → ReadFacts p (name ∷ []) (λ files. IsFileContent files (IsMessagesFile p.grammar) name)
  spelled name = one_file p name (IsMessagesFile p.grammar) (messages_file_facts p.grammar) (λ runs other bytes short. some_spelled p.grammar other bytes)

  pub one_updated : (name : Text) → ReadFacts p (name ∷ []) (λ files. IsUpdatedFile files p name)
  one_updated name =
      read_then p (name ∷ []) (λ files. IsFileContent files (IsMessagesFile p.grammar) name) (spelled name) (IsUpdatedOf p name) (of_file_once name) (λ Right may file s is. of_file_right Right may name file s is)
      (λ files runs file is. some_updated runs name file (file_of_table p.grammar p.tabled.halting runs.consistent.table.grammar files name file is))
