-- The texts that answer session lines. The format is this project's own.
use Rattle.std.specs.Prelude.{◌≡◌, ◌⊎◌, [], ◌++◌, Ok, Err, codes, decimal}
use Rattle.mh_grammar.specs.declared.types.Grammar.{Grammar}
use Rattle.mh_grammar.specs.Names.{token_name}
use Rattle.mh_tables_core.specs.Table.{TableData}
use Rattle.mh_grammar.specs.Trees.{tree_text}
use Rattle.mh_grammar_texts.specs.Productions.{production_text, spaced_symbols}
use Rattle.mh_engine.specs.declared.phase.Phase.{Phase}
use Rattle.mh_engine.specs.declared.phase.Phase.TheVariants as phases
use Rattle.mh_msgfile.specs.FileTexts.{names_after}
use Rattle.mh_msgfile.specs.Sentences.{vocabulary_of}
use Rattle.mh_session_branches.specs.declared.command.Command.{Command}
use Rattle.mh_session_branches.specs.declared.command.Command.TheVariants as commands
use Rattle.mh_session_branches.specs.declared.reply.Reply.{Reply}
use Rattle.mh_session_branches.specs.declared.reply.Reply.TheVariants as replies
use Rattle.mh_session_branches.specs.declared.reply.SessionFault.{SessionFault}
use Rattle.mh_session_branches.specs.declared.reply.SessionFault.TheVariants as faults
use Rattle.mh_session_branches.specs.Answers.{Branches, Answer, IsAnswer, AreBranchesAfterAnswer}
use Rattle.mh_session_branches.specs.LineForms.{Form, HasForm, LineMeaning, Asks, NamesNoStart, LacksStart, NamesNoToken, LineMeans}
use Rattle.mh_grammar.specs.Text.{Text}

-- The word of a phase.
abbrev pub phase_word : Phase → Text
phase_word (phases.InputNeeded s) = codes "input-needed"
phase_word (phases.Shifting s z) = codes "shifting"
phase_word (phases.AboutToReduce s p) = codes "about-to-reduce"
phase_word (phases.HandlingError s) = codes "handling-error"
phase_word phases.Accepted = codes "accepted"
phase_word phases.Rejected = codes "rejected"

-- The text after the word of a phase: the state, and the token or the production.
abbrev pub phase_details : Grammar → Phase → Text
phase_details g (phases.InputNeeded s) = codes " " ++ decimal s
phase_details g (phases.Shifting s z) = codes " " ++ decimal s ++ codes " " ++ token_name g z
phase_details g (phases.AboutToReduce s p) = codes " " ++ decimal s ++ codes " " ++ production_text g p
phase_details g (phases.HandlingError s) = codes " " ++ decimal s
phase_details g phases.Accepted = []
phase_details g phases.Rejected = []

abbrev pub reply_text : Grammar → Text → Reply → Text
reply_text g name (replies.Phase p) = name ++ codes " " ++ phase_word p ++ phase_details g p ++ codes "\n"
reply_text g name (replies.Fed shifted p) = name ++ codes " fed " ++ decimal shifted ++ codes " " ++ phase_word p ++ phase_details g p ++ codes "\n"
reply_text g name (replies.Stack symbols) = name ++ codes " stack" ++ spaced_symbols g symbols ++ codes "\n"
reply_text g name (replies.Tree tree) = name ++ codes " " ++ tree_text g tree ++ codes "\n"
reply_text g name (replies.Expected tokens) = name ++ codes " expected" ++ names_after g tokens ++ codes "\n"
reply_text g name replies.Forgotten = name ++ codes " forgotten\n"

-- The text of a fault. If memory runs out the session ends, so that fault has no text.
abbrev pub fault_text : SessionFault → Text
fault_text faults.UnknownName = codes "error: unknown name\n"
fault_text faults.NameTaken = codes "error: name taken\n"
fault_text (faults.WrongPhase p) = codes "error: wrong phase: " ++ phase_word p ++ codes "\n"
fault_text faults.TooDeep = codes "error: too deep\n"
fault_text faults.Memory = []

-- The name that a reply begins with: for a fork the fresh name, else the name in the command.
abbrev pub replied_name : Command → Text
replied_name (commands.Begin name start) = name
replied_name (commands.Offer name token) = name
replied_name (commands.Feed name tokens) = name
replied_name (commands.Resume name) = name
replied_name (commands.Fork name fresh) = fresh
replied_name (commands.Show name) = name
replied_name (commands.Stack name) = name
replied_name (commands.Tree name) = name
replied_name (commands.Expected name) = name
replied_name (commands.Forget name) = name

abbrev pub answer_text : Grammar → Text → Answer → Text
answer_text g name (Ok reply) = reply_text g name reply
answer_text g name (Err fault) = fault_text fault

-- The text that answers a line with this meaning, for these branches, and the branches after the line.
abbrev pub AnswersMeaning : Grammar → TableData → Branches → LineMeaning → Text → Branches → Type 0
AnswersMeaning g t bs (Asks command) text after = (a : Answer) × IsAnswer t bs command a × (text ≡ answer_text g (replied_name command) a) × AreBranchesAfterAnswer t a bs command after
AnswersMeaning g t bs (NamesNoStart name) text after = (text ≡ codes "error: unknown start " ++ name ++ codes "\n") × (after ≡ bs)
AnswersMeaning g t bs LacksStart text after = (text ≡ codes "error: missing start\n") × (after ≡ bs)
AnswersMeaning g t bs (NamesNoToken name) text after = (text ≡ codes "error: unknown token " ++ name ++ codes "\n") × (after ≡ bs)

-- The line is answered by this text, and the branches after the line are `after`.
abbrev pub AnswersLine : Grammar → TableData → Branches → Text → Text → Branches → Type 0
AnswersLine g t bs line text after =
    ((said : LineMeaning) × LineMeans (vocabulary_of g) line said × AnswersMeaning g t bs said text after)
    ⊎ (((form : Form) → HasForm line form → ⊥) × (text ≡ codes "error: unreadable\n") × (after ≡ bs))
