-- Lemmas on messages files: reading and checking a file has exactly one result, which is a value or a refusal.
use Rattle.std.proofs.Common.{◌≡◌, inl, inr, ◌≤◌, List, [], ◌∷◌, length, Option, None, Some, Err, refl, sym, ◌∙◌, ap, subst, arith}
use Rattle.mh_grammar.specs.declared.types.Grammar.{Grammar}
use Rattle.mh_grammar.specs.Plain.{PlainGrammar, plain_of}
use Rattle.mh_tables_core.specs.Table.{TableData}
use Rattle.mh_tables_core.specs.Halting.{HaltingFacts}
use Rattle.mh_msgfile.specs.declared.messages.MsgFile.{MsgFile}
use Rattle.mh_msgfile.specs.Messages.{MessagesFault as FileFault, MsgSpells, AreSentencesOf}
use Rattle.mh_msgfile.proofs.MsgSpells as spelled
use Rattle.mh_msgfile.proofs.AreSentencesOf.{file_fits}
use Rattle.mh_check.specs.Checks.{SoundnessFault, sentences_of}
use Rattle.mh_check.specs.Texts.{file_line, check_line}
use Rattle.mh_check.proofs.CheckedOnce as checked
use Rattle.mh_check.proofs.CompiledOrFault.{compiled_or_fault}
use Rattle.mh_outside.specs.Shelf.{Files, FileFound}
use Rattle.mh_grammar.specs.Text.{Text}
use Rattle.mh_top_drive.specs.StageResults.{StageResult, Go, Halt, Then, Gives, AfterStage}
use Rattle.mh_top_drive.specs.code.StageCalls.{FileStageGives}
use Rattle.mh_top_drive.specs.declared.stop.Cause.{Cause}
use Rattle.mh_top_drive.specs.declared.stop.Cause.TheVariants.{Refused}
use Rattle.mh_top_drive.specs.declared.stop.Stop.{Stop}
use Rattle.mh_top_drive.specs.declared.stop.Stop.TheVariants.{Halted, ShelfFailed, InputFailed, WriteFailed, OutOfMemory}
use Rattle.mh_top_drive.proofs.Then.{IsOne, names_wider, then_once, then_stops}
use Rattle.mh_top_drive.specs.FileContents.{IsFileContent, IsFound, IsLoaded, loaded}
use Rattle.mh_top_drive.specs.Shapes.{Prepared}
use Rattle.mh_top_drive.specs.NextFile.{IsNextFile}
use Rattle.mh_top_drive.specs.Limits.{file_limit}
use Rattle.mh_top_drive.proofs.ReadFilesLoop.{turn_first}
use Rattle.mh_top_plans.specs.Files.{optional_file}
use Rattle.mh_top_plans.specs.MessagesFiles.{AreMessages, AreMessagesOf, IsMessagesFile, Messages}
use Rattle.mh_top_plans.specs.code.Modes.{Opens}
use Rattle.mh_top_plans.specs.Plan.{Plan, AreOptionalMessages, plan_of_stage}
use Rattle.mh_top_plans.proofs.FilesOfMode.{ContentFacts, StopsAllowed, file_once, file_right, loaded_short, some_file, unread_halts}

-- ---- The stage that reads a messages file has exactly one result.

module _ (g : Grammar) where
  spelled_once : (name bytes : Text) → IsOne (IsMessagesFile g name bytes)
  spelled_once name bytes (Go a) (Go b) p q = ap Go (spelled.spelled_once g bytes a b p q)
  spelled_once name bytes (Go a) (Halt cause) p q = absurd (spelled.spelled_has_no_fault g bytes a q.fault p q.has_fault)
  spelled_once name bytes (Halt cause) (Go b) p q = absurd (spelled.spelled_has_no_fault g bytes b p.fault q p.has_fault)
  spelled_once name bytes (Halt cause) (Halt cause') p q = ap Halt (p.cause_is ∙ ap (λ (f : FileFault). Refused (file_line name f)) (spelled.fault_once g bytes p.fault q.fault p.has_fault q.has_fault) ∙ sym q.cause_is)

  spelled_right : (Right : Cause → Type 0) → ((line : Text) → Right (Refused line)) → (name bytes : Text) (s : StageResult MsgFile) → IsMessagesFile g name bytes s → StopsAllowed Right s
  spelled_right Right may name bytes (Go file) is = tt
  spelled_right Right may name bytes (Halt cause) is = subst Right (sym is.cause_is) (may (file_line name is.fault))

  pub messages_file_facts : ContentFacts (IsMessagesFile g)
  messages_file_facts = record { unique = spelled_once; allowed = spelled_right }

  pub some_spelled : (name bytes : Text) → (s : StageResult MsgFile) × IsMessagesFile g name bytes s
  some_spelled name bytes = elim (spelled.spelled_or_not g bytes) [ inl is ↦ (Go is.0, is.1) | inr f ↦ (Halt (Refused (file_line name f.0)), record { fault = f.0; has_fault = f.1; cause_is = refl }) ]

-- ---- The numbers in a messages file are those of the table.

module _ (g : Grammar) (t : TableData) (same : t.grammar ≡ plain_of g) where
  pub fits : (bytes : Text) (file : MsgFile) → length bytes ≤ file_limit → MsgSpells g bytes file → AreSentencesOf (length t.grammar.starts) t.grammar.tokens file
  fits bytes file short spells = subst (λ (p : PlainGrammar). AreSentencesOf (length p.starts) p.tokens file) (sym same) (file_fits g bytes file (omega arith) spells)

  -- The numbers in a messages file that was read are in range for the table.
  pub file_of_table : (files : Option Files) (name : Text) (file : MsgFile) → IsFileContent files (IsMessagesFile g) name (Go file) → AreSentencesOf (length t.grammar.starts) t.grammar.tokens file
  file_of_table files name file is = at is.0 is.1 is.2
    where
      at : (read : StageResult Text) → IsLoaded files name read → AfterStage read (IsMessagesFile g name) (Go file) → AreSentencesOf (length t.grammar.starts) t.grammar.tokens file
      at (Go bytes) loads spells = fits bytes file (loaded_short files name bytes loads) spells
      at (Halt cause) loads same = absurd (cc)

-- ---- The stage that compiles the messages of a messages file has exactly one result.

of_file_once : (t : TableData) (name : Text) (file : MsgFile) → IsOne (AreMessagesOf t name file)
of_file_once t name file (Go a) (Go b) p q = ap Go (checked.compiled_once t file a b p q)
of_file_once t name file (Go a) (Halt cause) p q = absurd (checked.sound_has_no_fault t (sentences_of file) q.fault p.sound q.first)
of_file_once t name file (Halt cause) (Go b) p q = absurd (checked.sound_has_no_fault t (sentences_of file) p.fault q.sound p.first)
of_file_once t name file (Halt cause) (Halt cause') p q =
    ap Halt (p.cause_is ∙ ap (λ (f : SoundnessFault). Refused (check_line name f)) (checked.fault_once t (sentences_of file) p.fault q.fault p.first q.first) ∙ sym q.cause_is)

of_file_right : (t : TableData) (Right : Cause → Type 0) → ((line : Text) → Right (Refused line)) → (name : Text) (file : MsgFile) (s : StageResult Messages) → AreMessagesOf t name file s → StopsAllowed Right s
of_file_right t Right may name file (Go messages) is = tt
of_file_right t Right may name file (Halt cause) is = subst Right (sym is.cause_is) (may (check_line name is.fault))

on_right : (t : TableData) (Right : Cause → Type 0) → ((line : Text) → Right (Refused line)) → (name : Text) (first : StageResult MsgFile) (s : StageResult Messages) → StopsAllowed Right first → AfterStage first (AreMessagesOf t name) s → StopsAllowed Right s
on_right t Right may name (Go file) s right on = of_file_right t Right may name file s on
on_right t Right may name (Halt cause) s right on = subst (StopsAllowed Right) (sym on) right

module _ (g : Grammar) (t : TableData) where
  pub messages_facts : ContentFacts (AreMessages g t)
  messages_facts = record {
    unique = λ name bytes. then_once (IsMessagesFile g name bytes) (AreMessagesOf t name) (spelled_once g name bytes) (of_file_once t name);
    allowed = λ Right may name bytes s is. on_right t Right may name is.0 s (spelled_right g Right may name bytes is.0 is.1) is.2;
  }

  module _ (halts : HaltingFacts t) (same : t.grammar ≡ plain_of g) where
    some_of : (name bytes : Text) → length bytes ≤ file_limit → (first : StageResult MsgFile) → IsMessagesFile g name bytes first → (s : StageResult Messages) × AreMessages g t name bytes s
    some_of name bytes short (Halt cause) is = (Halt cause, (Halt cause, is, refl))
    some_of name bytes short (Go file) is =
        elim (compiled_or_fault t halts file (fits g t same bytes file short is)) [
          | inl m ↦ (Go m.0, (Go file, is, m.1))
          | inr f ↦ (Halt (Refused (check_line name f.0)), (Go file, is, record { fault = f.0; first = f.1; cause_is = refl }))
        ]

    pub some_checked : (name bytes : Text) → length bytes ≤ file_limit → (s : StageResult Messages) × AreMessages g t name bytes s
    some_checked name bytes short = let first = some_spelled g name bytes in some_of name bytes short first.0 first.1

-- ---- The messages of the file that an order may name.

module _ (p : Prepared) where
  abbrev Stage : Text → Text → StageResult Messages → Type 0
  Stage = AreMessages p.grammar p.tabled.halting

  reading : ContentFacts Stage
  reading = messages_facts p.grammar p.tabled.halting

  some_named : (files : Option Files) (name : Text) (first : StageResult Messages) → IsFileContent files Stage name first → (s : StageResult (Option Messages)) × AreOptionalMessages (Some name) files p s
  some_named files name (Go messages) is = (Go (Some messages), (Go messages, is, refl))
  some_named files name (Halt cause) is = (Halt cause, (Halt cause, is, refl))

  pub some_messages_for : HaltingFacts p.tabled.halting → p.tabled.halting.grammar ≡ plain_of p.grammar → (optional_file : Option Text) (files : Option Files) → (s : StageResult (Option Messages)) × AreOptionalMessages optional_file files p s
  some_messages_for halts same None files = (Go None, refl)
  some_messages_for halts same (Some name) files = let s = some_file Stage reading (some_checked p.grammar p.tabled.halting halts same) files name in some_named files name s.0 s.1

  pub messages_for_once : (optional_file : Option Text) (files : Files) → IsOne (AreOptionalMessages optional_file (Some files) p)
  messages_for_once None files = λ s r is so. is ∙ sym so
  messages_for_once (Some name) files = then_once (IsFileContent (Some files) Stage name) (λ messages. Gives (Some messages)) (file_once Stage reading files name) (λ messages s r is so. is ∙ sym so)

  pub messages_halt_if_unread : (optional_file : Option Text) (files : Files) (name : Text) (what : FileFound) (cause : Cause) (s : StageResult (Option Messages)) → optional_file ≡ Some name → IsFound (Some files) name what → loaded name what ≡ Halt cause → AreOptionalMessages optional_file (Some files) p s → s ≡ Halt cause
  messages_halt_if_unread None files name what cause s turn found halt is = absurd (cc)
  messages_halt_if_unread (Some other) files name what cause s turn found halt is =
      let same : name ≡ other = cc in
      let first : is.0 ≡ Halt cause =
      unread_halts Stage reading files other what cause is.0 (subst (λ (n : Text). IsFound (Some files) n what) same found) (subst (λ (n : Text). loaded n what ≡ Halt cause) same halt) is.1 in
      subst (λ (f : StageResult Messages). AfterStage f (λ messages. Gives (Some messages)) s) first is.2

  module _ (Right : Cause → Type 0) (may_refuse : (line : Text) → Right (Refused line)) where
    named_right : (first : StageResult Messages) (s : StageResult (Option Messages)) → StopsAllowed Right first → AfterStage first (λ messages. Gives (Some messages)) s → StopsAllowed Right s
    named_right (Go messages) s right on = subst (StopsAllowed Right) (sym on) tt
    named_right (Halt cause) s right on = subst (StopsAllowed Right) (sym on) right

    pub messages_stop_allowed : (optional_file : Option Text) (files : Option Files) (s : StageResult (Option Messages)) → ((name : Text) (what : FileFound) (cause : Cause) → optional_file ≡ Some name → IsFound files name what → loaded name what ≡ Halt cause → Right cause) → AreOptionalMessages optional_file files p s → StopsAllowed Right s
    messages_stop_allowed None files s unread is = subst (StopsAllowed Right) (sym is) tt
    messages_stop_allowed (Some name) files s unread is = named_right is.0 s (file_right Stage reading Right may_refuse files name is.0 (λ what cause found halt. unread name what cause refl found halt) is.1) is.2

-- ---- The next file to read.

-- If a stage stops, opening the mode that needs its value stops in the same way.
pub stage_opens : {A M : Type 0} (Has : StageResult A → Type 0) (Names : Text → Type 0) (StandsFor : M → Plan → Type 0) (by : A → Plan) (stop : Stop) → FileStageGives Has Names (Err stop) → Opens StandsFor (λ plan. (s : StageResult A) × Has s × (plan ≡ plan_of_stage by s)) Names (Err stop)
stage_opens Has Names StandsFor by (Halted cause) has = (Halt cause, has, refl)
stage_opens Has Names StandsFor by (ShelfFailed name) has = has
stage_opens Has Names StandsFor by OutOfMemory has = tt
stage_opens Has Names StandsFor by InputFailed has = absurd has
stage_opens Has Names StandsFor by WriteFailed has = absurd has

module _ (p : Prepared) (files : Option Files) where
  abbrev Turn : List Text → Text → Type 0
  Turn names name = IsNextFile files (AreMessages p.grammar p.tabled.halting) names name

  pub named_turn : (file : Option Text) (name : Text) → file ≡ Some name → Turn (optional_file file) name
  named_turn file name is = subst (λ (f : Option Text). Turn (optional_file f) name) (sym is) (turn_first files (AreMessages p.grammar p.tabled.halting) name [])

  -- If the file that an order names stops the work, so do the messages that the order asks for.
  pub messages_stop : (optional_file : Option Text) (file : Text) (Names : Text → Type 0) → optional_file ≡ Some file → Names file → (stop : Stop) → FileStageGives {A = Messages} (IsFileContent files (AreMessages p.grammar p.tabled.halting) file) (λ other. other ≡ file) (Err stop) → FileStageGives {A = Option Messages} (AreOptionalMessages optional_file files p) Names (Err stop)
  messages_stop optional_file file Names same due stop has =
      subst (λ (n : Option Text). FileStageGives {A = Option Messages} (AreOptionalMessages n files p) Names (Err stop)) (sym same)
      (then_stops (IsFileContent files (AreMessages p.grammar p.tabled.halting) file) (λ messages. Gives (Some messages)) Names stop
      (names_wider (IsFileContent files (AreMessages p.grammar p.tabled.halting) file) (λ other. other ≡ file) Names (Err stop) (λ other is. subst Names (sym is) due) has))

  -- Opening a mode that reads one file, if this file stops the work.
  module _ {A M : Type 0} (Has : StageResult A → Type 0) (file : Text) (StandsFor : M → Plan → Type 0) (by : A → Plan) where
    pub one_opens : (stop : Stop) → FileStageGives {A = A} Has (λ other. other ≡ file) (Err stop) → Opens StandsFor (λ plan. (s : StageResult A) × Has s × (plan ≡ plan_of_stage by s)) (Turn (file ∷ [])) (Err stop)
    one_opens stop has =
        stage_opens Has (Turn (file ∷ [])) StandsFor by stop
        (names_wider Has (λ other. other ≡ file) (Turn (file ∷ [])) (Err stop) (λ other is. subst (Turn (file ∷ [])) (sym is) (turn_first files (AreMessages p.grammar p.tabled.halting) file [])) has)
