-- The form of a session line in the code's types.
use Rattle.std.specs.Prelude.{ℕ, Bool, true, false, List, [], ◌∷◌, Option, Some, None, Result, Ok, Err, ◌≡◌, ⊤}
use Rattle.std.specs.Borrow.{Bor}
use Rattle.mh_lex_bytes.specs.Words.{is_word}
use Rattle.mh_msgfile.specs.Sentences.{pieces, TokensResult, Tokens, Unknown}
use Rattle.mh_grammar.specs.Text.{Text}
use Rattle.mh_session_branches.specs.LineForms.{Form, BeginOnly, BeginAt, OfferTo, FeedTo, ResumeOf, ForkTo, ShowOf, StackOf, TreeOf, ExpectedOf, ForgetOf, LineMeaning, Asks, NamesNoStart, LacksStart, NamesNoToken}
use Rattle.mh_session.specs.declared.reading.LineForm.{LineForm}
use Rattle.mh_session.specs.declared.reading.LineForm.TheVariants as spelled
use Rattle.mh_session_branches.specs.declared.command.Command.{Command}
use Rattle.mh_session_branches.specs.declared.fault.CommandFault.{CommandFault}
use Rattle.mh_session_branches.specs.declared.fault.CommandFault.TheVariants as faults

abbrev pub begins_with_word : List Text → Bool
begins_with_word [] = false
begins_with_word (word ∷ words) = is_word word

-- The first piece of a line, if it is a word, with the rest of the line.
abbrev pub FirstWord : Text → Option (Bor Text × Bor Text) → Type 0
FirstWord line None = begins_with_word (pieces line) ≡ false
FirstWord line (Some (word, rest)) = (pieces line ≡ word.now ∷ pieces rest.now) × (is_word word.now ≡ true)

-- The form that a value of the code represents.
abbrev pub as_form : LineForm → Form
as_form (spelled.BeginOnly name) = BeginOnly name.now
as_form (spelled.BeginAt name start) = BeginAt name.now start.now
as_form (spelled.Offer name token) = OfferTo name.now token.now
as_form (spelled.Feed name first more) = FeedTo name.now first.now (pieces more.now)
as_form (spelled.Resume name) = ResumeOf name.now
as_form (spelled.Fork name fresh) = ForkTo name.now fresh.now
as_form (spelled.Show name) = ShowOf name.now
as_form (spelled.Stack name) = StackOf name.now
as_form (spelled.Tree name) = TreeOf name.now
as_form (spelled.Expected name) = ExpectedOf name.now
as_form (spelled.Forget name) = ForgetOf name.now

abbrev pub as_forms : Option LineForm → Option Form
as_forms None = None
as_forms (Some s) = Some (as_form s)

-- These tokens, or the first name that no token has, if there is one.
abbrev pub tokens_or_unknown : Option (Bor Text) → List ℕ → TokensResult
tokens_or_unknown None tokens = Tokens tokens
tokens_or_unknown (Some name) tokens = Unknown name.now

-- The result is the command or the fault of this meaning.
abbrev pub IsResultOfMeaning : LineMeaning → Result Command CommandFault → Type 0
IsResultOfMeaning said (Ok command) = said ≡ Asks command
IsResultOfMeaning said (Err faults.Unreadable) = ⊥
IsResultOfMeaning said (Err (faults.UnknownStart name)) = said ≡ NamesNoStart name
IsResultOfMeaning said (Err faults.MissingStart) = said ≡ LacksStart
IsResultOfMeaning said (Err (faults.UnknownToken name)) = said ≡ NamesNoToken name
IsResultOfMeaning said (Err faults.Memory) = ⊤
