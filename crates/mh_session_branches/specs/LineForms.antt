-- The definitions of the forms and meanings of session lines. The format is this project's own.
use Rattle.std.specs.Prelude.{◌≡◌, ℕ, true, List, [], ◌∷◌, Option, Some, None, Result, Ok, Err, codes, ⊤}
use Rattle.std.specs.List.{list_all}
use Rattle.mh_lex_bytes.specs.Words.{is_word}
use Rattle.mh_msgfile.specs.Sentences.{Vocabulary, pieces, TokensResult, Tokens, Unknown, tokens_of}
use Rattle.mh_session_branches.specs.declared.command.Command.{Command}
use Rattle.mh_session_branches.specs.declared.command.Command.TheVariants as commands
use Rattle.mh_session_branches.specs.declared.fault.CommandFault.{CommandFault}
use Rattle.mh_session_branches.specs.declared.fault.CommandFault.TheVariants as faults
use Rattle.mh_grammar.specs.Text.{Text}

-- A form of a session line, with the names in the line.
pub data Form : Type 0 where
  BeginOnly : (name : Text) → Form
  BeginAt : (name start : Text) → Form
  OfferTo : (name token : Text) → Form
  FeedTo : (name first : Text) → (more : List Text) → Form
  ResumeOf : (name : Text) → Form
  ForkTo : (name fresh : Text) → Form
  ShowOf : (name : Text) → Form
  StackOf : (name : Text) → Form
  TreeOf : (name : Text) → Form
  ExpectedOf : (name : Text) → Form
  ForgetOf : (name : Text) → Form

abbrev pub words_of : Form → List Text
words_of (BeginOnly name) = codes "begin" ∷ name ∷ []
words_of (BeginAt name start) = codes "begin" ∷ name ∷ start ∷ []
words_of (OfferTo name token) = codes "offer" ∷ name ∷ token ∷ []
words_of (FeedTo name first more) = codes "feed" ∷ name ∷ first ∷ more
words_of (ResumeOf name) = codes "resume" ∷ name ∷ []
words_of (ForkTo name fresh) = codes "fork" ∷ name ∷ fresh ∷ []
words_of (ShowOf name) = codes "show" ∷ name ∷ []
words_of (StackOf name) = codes "stack" ∷ name ∷ []
words_of (TreeOf name) = codes "tree" ∷ name ∷ []
words_of (ExpectedOf name) = codes "expected" ∷ name ∷ []
words_of (ForgetOf name) = codes "forget" ∷ name ∷ []

-- The line has this form: its pieces between blanks are exactly the words of the form, and each piece is a word of
-- grammar files.
pub record HasForm (line : Text) (form : Form) : Type 0 where
  pub words : pieces line ≡ words_of form
  pub each : list_all is_word (pieces line) ≡ true

-- The meaning of a line: a command, or the first name in the line that the grammar does not have.
pub data LineMeaning : Type 0 where
  Asks : Command → LineMeaning
  NamesNoStart : Text → LineMeaning
  LacksStart : LineMeaning
  NamesNoToken : Text → LineMeaning

-- The meaning of `begin NAME`, which begins the only start of the grammar, if there is exactly one.
abbrev pub begin_only_start : Text → Option ℕ → LineMeaning
begin_only_start name None = LacksStart
begin_only_start name (Some start) = Asks (commands.Begin name start)

abbrev pub begin_named_start : Text → Text → Option ℕ → LineMeaning
begin_named_start name start None = NamesNoStart start
begin_named_start name start (Some number) = Asks (commands.Begin name number)

abbrev pub offer_named_token : Text → Text → Option ℕ → LineMeaning
offer_named_token name token None = NamesNoToken token
offer_named_token name token (Some number) = Asks (commands.Offer name number)

abbrev pub feed_named_tokens : Text → TokensResult → LineMeaning
feed_named_tokens name (Tokens tokens) = Asks (commands.Feed name tokens)
feed_named_tokens name (Unknown token) = NamesNoToken token

-- The meaning of a form by the names of a grammar.
abbrev pub meaning_of_form : Vocabulary → Form → LineMeaning
meaning_of_form v (BeginOnly name) = begin_only_start name v.only_start
meaning_of_form v (BeginAt name start) = begin_named_start name start (v.start_named start)
meaning_of_form v (OfferTo name token) = offer_named_token name token (v.token_named token)
meaning_of_form v (FeedTo name first more) = feed_named_tokens name (tokens_of v (first ∷ more))
meaning_of_form v (ResumeOf name) = Asks (commands.Resume name)
meaning_of_form v (ForkTo name fresh) = Asks (commands.Fork name fresh)
meaning_of_form v (ShowOf name) = Asks (commands.Show name)
meaning_of_form v (StackOf name) = Asks (commands.Stack name)
meaning_of_form v (TreeOf name) = Asks (commands.Tree name)
meaning_of_form v (ExpectedOf name) = Asks (commands.Expected name)
meaning_of_form v (ForgetOf name) = Asks (commands.Forget name)

-- The line has a form with this meaning.
abbrev pub LineMeans : Vocabulary → Text → LineMeaning → Type 0
LineMeans v line said = (form : Form) × HasForm line form × (meaning_of_form v form ≡ said)

-- The result of reading a line is the command or the fault that the line means.
abbrev pub ReadsCommand : Vocabulary → Text → Result Command CommandFault → Type 0
ReadsCommand v line (Ok command) = LineMeans v line (Asks command)
ReadsCommand v line (Err faults.Unreadable) = (form : Form) → HasForm line form → ⊥
ReadsCommand v line (Err (faults.UnknownStart name)) = LineMeans v line (NamesNoStart name)
ReadsCommand v line (Err faults.MissingStart) = LineMeans v line LacksStart
ReadsCommand v line (Err (faults.UnknownToken name)) = LineMeans v line (NamesNoToken name)
ReadsCommand v line (Err faults.Memory) = ⊤
