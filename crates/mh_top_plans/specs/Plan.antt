-- Plans, which are the modes of the program as plain data: which lines of the input a mode asks for, how it answers a
-- line, and what it writes at its end; and the plan for each job (Menhir manual; sessions, table files and samples are
-- this project's own).
use Rattle.std.specs.Prelude.{◌≡◌, ℕ, Bool, List, [], Option, None, Some}
use Rattle.mh_opts.specs.declared.jobs.Job.{Job}
use Rattle.mh_opts.specs.declared.jobs.Job.TheVariants.{Interpret, InterpretError, Session, ShowAutomaton, WriteTables, ListErrors, CompileErrors, CompareErrors, EchoErrors, UpdateErrors, RebaseErrors, CheckErrors, Check, Sample, ShortestSentences, RandomSentence, Explain}
use Rattle.mh_outside.specs.Shelf.{Files}
use Rattle.mh_explain.specs.Explanations.{AreExplanations}
use Rattle.mh_report.specs.Automata.{IsAutomatonText}
use Rattle.mh_sample.specs.Sentences.{IsShortestText}
use Rattle.mh_grammar.specs.declared.types.Grammar.{Grammar}
use Rattle.mh_tabfile_form.specs.Form.{table_text}
use Rattle.mh_tabfile_form.specs.TableContent.{raw_of}
use Rattle.mh_tables_core.specs.Table.{TableData}
use Rattle.mh_session_branches.specs.Answers.{Branches}
use Rattle.mh_session_branches.specs.Replies.{AnswersLine}
use Rattle.mh_check.specs.Compiling.{missing}
use Rattle.mh_check.specs.Texts.{compiled_text}
use Rattle.mh_msgfile.specs.FileTexts.{echo_text}
use Rattle.mh_msgfile.specs.declared.messages.MsgFile.{MsgFile}
use Rattle.mh_msgfile.specs.declared.blocks.LooseBlocks.{LooseBlocks}
use Rattle.mh_msgfile.specs.declared.loose.LooseFile.{LooseFile}
use Rattle.mh_grammar.specs.Text.{Text}
use Rattle.mh_top_drive.specs.StageResults.{StageResult, Go, Halt, Then, Gives}
use Rattle.mh_top_drive.specs.ModeBehavior.{ModeEnd, ModeBehavior}
use Rattle.mh_top_drive.specs.declared.driving.Asks.{Asks}
use Rattle.mh_top_drive.specs.declared.driving.Asks.TheVariants.{NoLine, FirstLine, EachLine}
use Rattle.mh_top_drive.specs.declared.stop.Cause.{Cause}
use Rattle.mh_top_drive.specs.FileContents.{IsFileContent}
use Rattle.mh_top_drive.specs.Shapes.{Prepared}
use Rattle.mh_top_plans.specs.MessagesFiles.{Messages, AreMessagesOfBoth, AreMessages, AreLooseBlocks, IsLooseFile, IsMessagesFile, IsUpdatedFile}
use Rattle.mh_top_plans.specs.Compared.{comparison_result}
use Rattle.mh_top_plans.specs.Explained.{IsExplained}
use Rattle.mh_top_plans.specs.FinalText.{end_of_final_text}
use Rattle.mh_top_plans.specs.Listing.{ListsErrors}
use Rattle.mh_top_plans.specs.Rebased.{RebasesFile}
use Rattle.mh_top_plans.specs.ErrorsChecked.{ChecksErrors}
use Rattle.mh_top_plans.specs.GrammarChecked.{WritesFindings}
use Rattle.mh_lint_findings.specs.declared.findings.GrammarFile.{GrammarFile}
use Rattle.mh_lint_findings.specs.Lines.{Line}
use Rattle.mh_top_plans.specs.Sampled.{CountsSample}
use Rattle.mh_top_plans.specs.Drawn.{IsDrawn}
use Rattle.mh_top_plans.specs.Verdicts.{VerdictContext, IsAnswerToLine}
use Rattle.mh_top_plans.specs.declared.at_end.FinalText.{FinalText}
use Rattle.mh_top_plans.specs.declared.at_end.FinalText.TheVariants.{Written}

-- What a mode that asks for no line writes.
pub data FinalOutput : Type 0 where
  -- A given end.
  Known : ModeEnd → FinalOutput
  -- The text of the automaton.
  Automaton : Prepared → FinalOutput
  -- The list of errors.
  Errors : Prepared → FinalOutput
  -- A messages file for another version of the grammar, rebased.
  Rebased : LooseFile → Prepared → FinalOutput
  -- What is wrong with the messages file of this name and these blocks.
  Checked : Text → LooseBlocks → Prepared → FinalOutput
  -- The lines on these grammar files, with `--strict` or not, and whether the lines are faults.
  Findings : List GrammarFile → Bool → Bool → List Line → FinalOutput
  -- The counts of the sample with this number.
  Sampled : ℕ → Prepared → FinalOutput
  -- The shortest word of each nonterminal.
  Shortest : Prepared → FinalOutput
  -- The random sentence of a seed, of at most the given number of tokens.
  Random : ℕ → ℕ → Prepared → FinalOutput
  -- The explanations of the conflicts.
  Conflicts : Prepared → FinalOutput

-- The cause and the text on out are possible for a mode that writes this at its end.
abbrev pub IsFinalOutput : FinalOutput → ModeEnd → Type 0
IsFinalOutput (Known end) e = e ≡ end
IsFinalOutput (Automaton p) e = (e.cause ≡ None) × IsAutomatonText p.grammar p.tabled.automaton p.tabled.mode p.tabled.halting e.out
IsFinalOutput (Errors p) e = ListsErrors p.order.comment_expected p.grammar p.tabled.automaton p.tabled.halting e.cause e.out
IsFinalOutput (Rebased file p) e = RebasesFile p.order.comment_expected p.grammar p.tabled.automaton p.tabled.halting file e.cause e.out
IsFinalOutput (Checked name blocks p) e = ChecksErrors p.grammar p.tabled.halting name blocks e.cause e.out
IsFinalOutput (Findings found strict faulty lines) e = WritesFindings found strict faulty lines e.cause e.out
IsFinalOutput (Sampled number p) e = CountsSample p.grammar p.tabled.halting number e.cause e.out
IsFinalOutput (Shortest p) e = (e.cause ≡ None) × IsShortestText p.grammar e.out
IsFinalOutput (Random seed n p) e = (made : FinalText) × IsDrawn p.grammar seed n made × (e ≡ end_of_final_text made)
IsFinalOutput (Conflicts p) e = (e.cause ≡ None) × AreExplanations p.grammar p.tabled.automaton p.tabled.halting p.tabled.conflicts e.out

-- A plan: the state of a mode between two lines of the input.
pub data Plan : Type 0 where
  -- The mode asks for no line and only writes at its end.
  Ends : FinalOutput → Plan
  -- The mode answers each line, as a sentence, with the verdict on it.
  Judges : VerdictContext → Plan
  -- The mode takes the first line and explains it at its end. The text is this line, or the line used for an input
  -- without lines.
  Explains : Prepared → Text → Plan
  -- The mode answers each line as a command of a session. The plan has the named branches of the session.
  Serves : Grammar → TableData → Branches → Plan

-- The lines that a mode asks for.
abbrev pub asks_of : Plan → Asks
asks_of (Ends end) = NoLine
asks_of (Explains p line) = FirstLine
asks_of plan = EachLine

-- The text that answers a line, and the plan after it. A mode that asks for no line has an empty answer.
abbrev pub Answers : Plan → Text → Text → Plan → Type 0
Answers (Ends end) line text next = (text ≡ []) × (next ≡ Ends end)
Answers (Judges by) line text next = IsAnswerToLine by line text × (next ≡ Judges by)
Answers (Explains p old) line text next = (text ≡ []) × (next ≡ Explains p line)
Answers (Serves g t branches) line text next = (after : Branches) × AnswersLine g t branches line text after × (next ≡ Serves g t after)

-- The end of a mode after its last answer.
abbrev pub EndsWith : Plan → ModeEnd → Type 0
EndsWith (Ends end) e = IsFinalOutput end e
EndsWith (Explains p line) e = (made : FinalText) × IsExplained p line made × (e ≡ end_of_final_text made)
EndsWith plan e = e ≡ record { cause = None; out = [] }

-- The behavior of all modes, by their plans.
abbrev pub plan_behavior : ModeBehavior Plan
plan_behavior = record { asks_of = asks_of; Answers = Answers; EndsWith = EndsWith }

-- ---- The plan for each job.

-- The plan that ends at once with this cause and writes nothing.
abbrev pub halts : Cause → Plan
halts cause = Ends (Known (record { cause = Some cause; out = [] }))

-- The plan made from the result of a stage. If the stage stopped, the plan ends at once with its cause.
abbrev pub plan_of_stage : {A : Type 0} → (A → Plan) → StageResult A → Plan
plan_of_stage plan (Go x) = plan x
plan_of_stage plan (Halt cause) = halts cause

-- The plan that only writes this final text.
abbrev pub writing_plan : FinalText → Plan
writing_plan made = Ends (Known (end_of_final_text made))

-- The text of the table file for the prepared table.
abbrev pub table_file_text : Prepared → Text
table_file_text p = table_text (raw_of p.grammar p.tabled.automaton p.tabled.mode p.tabled.halting.states)

-- The messages from an optional file.
abbrev pub AreOptionalMessages : Option Text → Option Files → Prepared → StageResult (Option Messages) → Type 0
AreOptionalMessages None files p s = Gives None s
AreOptionalMessages (Some name) files p s = Then (IsFileContent files (AreMessages p.grammar p.tabled.halting) name) (λ messages. Gives (Some messages)) s

-- The plan that answers each line with its verdict, with optional messages for refusals.
abbrev pub judging_plan : Prepared → Option Messages → Plan
judging_plan p messages = Judges (record { trees = p.order.show_cst; expected = p.order.show_expected; grammar = p.grammar; table = p.tabled.halting; messages = messages })

-- The plan for a job, by the prepared grammar and table and by the files that the mode reads.
abbrev pub IsPlanOfJob : Job → Option Files → Prepared → Plan → Type 0
IsPlanOfJob Interpret files p plan = (s : StageResult (Option Messages)) × AreOptionalMessages p.order.messages files p s × (plan ≡ plan_of_stage (judging_plan p) s)
IsPlanOfJob InterpretError files p plan = plan ≡ Explains p []
IsPlanOfJob Session files p plan = plan ≡ Serves p.grammar p.tabled.halting []
IsPlanOfJob ShowAutomaton files p plan = plan ≡ Ends (Automaton p)
IsPlanOfJob WriteTables files p plan = plan ≡ writing_plan (Written (table_file_text p))
IsPlanOfJob ListErrors files p plan = plan ≡ Ends (Errors p)
IsPlanOfJob (Sample number) files p plan = plan ≡ Ends (Sampled number p)
IsPlanOfJob ShortestSentences files p plan = plan ≡ Ends (Shortest p)
IsPlanOfJob (RandomSentence seed n) files p plan = plan ≡ Ends (Random seed n p)
IsPlanOfJob Explain files p plan = plan ≡ Ends (Conflicts p)
IsPlanOfJob (CompileErrors file) files p plan = (s : StageResult Messages) × IsFileContent files (AreMessages p.grammar p.tabled.halting) file s × (plan ≡ plan_of_stage (λ messages. writing_plan (Written (compiled_text messages))) s)
IsPlanOfJob (EchoErrors file) files p plan = (s : StageResult MsgFile) × IsFileContent files (IsMessagesFile p.grammar) file s × (plan ≡ plan_of_stage (λ spelled. writing_plan (Written (echo_text p.grammar spelled))) s)
IsPlanOfJob (UpdateErrors file) files p plan = (s : StageResult Text) × IsUpdatedFile files p file s × (plan ≡ plan_of_stage (λ text. writing_plan (Written text)) s)
IsPlanOfJob (RebaseErrors file) files p plan = (s : StageResult LooseFile) × IsFileContent files IsLooseFile file s × (plan ≡ plan_of_stage (λ loose. Ends (Rebased loose p)) s)
IsPlanOfJob (CheckErrors file) files p plan = (s : StageResult LooseBlocks) × IsFileContent files AreLooseBlocks file s × (plan ≡ plan_of_stage (λ blocks. Ends (Checked file blocks p)) s)
-- The mode that examines grammar files does its work before there is a table.
IsPlanOfJob Check files p plan = ⊥
IsPlanOfJob (CompareErrors first second) files p plan = (s : StageResult (Messages × Messages)) × AreMessagesOfBoth files p first second s × (plan ≡ plan_of_stage (λ both. writing_plan (comparison_result first second (missing both.0 both.1))) s)
