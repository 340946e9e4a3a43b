-- Proves that the start or token of a command that is read from a line is one of the grammar.
use Rattle.std.proofs.Common.{◌≡◌, ◌<◌, ℕ, [], ◌∷◌, length, Option, None, Some, List, refl, sym, subst, ap, ◌∙◌, arith}
use Rattle.std.specs.List.{All}
use Rattle.std.proofs.lemmas.List.{length-map}
use Rattle.std.proofs.lemmas.List.Elements.{All-cons, All-nil}
use Rattle.mh_grammar.specs.declared.types.Grammar.{Grammar}
use Rattle.mh_grammar.specs.Plain.{PlainGrammar, plain_of}
use Rattle.mh_tables_core.specs.Table.{TableData}
use Rattle.mh_msgfile.specs.StartNames.{start_symbol_name, start_names}
use Rattle.mh_msgfile.specs.Sentences.{Vocabulary, TokensResult, Tokens, Unknown, vocabulary_of, token_names, put_token, tokens_of}
use Rattle.mh_msgfile.proofs.SentenceBounds.{bounded}
use Rattle.mh_session_branches.specs.declared.command.Command.{Command}
use Rattle.mh_session_branches.specs.declared.command.Command.TheVariants as commands
use Rattle.mh_grammar.specs.Text.{Text}
use Rattle.mh_session_branches.specs.Answers.{IsCommandOf}
use Rattle.mh_session_branches.specs.LineForms.{Form, BeginOnly, BeginAt, OfferTo, FeedTo, ResumeOf, ForkTo, ShowOf, StackOf, TreeOf, ExpectedOf, ForgetOf, LineMeaning, Asks, NamesNoStart, LacksStart, NamesNoToken, begin_only_start, begin_named_start, offer_named_token, feed_named_tokens, meaning_of_form, LineMeans}

-- The start of the command, if it has one, is below n, and its tokens are below m.
abbrev IsMeaningBelow : ℕ → ℕ → LineMeaning → Type 0
IsMeaningBelow n m (Asks (commands.Begin name start)) = start < n
IsMeaningBelow n m (Asks (commands.Offer name token)) = token < m
IsMeaningBelow n m (Asks (commands.Feed name tokens)) = All (λ z. z < m) tokens
IsMeaningBelow n m (Asks (commands.Resume name)) = Unit {0}
IsMeaningBelow n m (Asks (commands.Fork name fresh)) = Unit {0}
IsMeaningBelow n m (Asks (commands.Show name)) = Unit {0}
IsMeaningBelow n m (Asks (commands.Stack name)) = Unit {0}
IsMeaningBelow n m (Asks (commands.Tree name)) = Unit {0}
IsMeaningBelow n m (Asks (commands.Expected name)) = Unit {0}
IsMeaningBelow n m (Asks (commands.Forget name)) = Unit {0}
IsMeaningBelow n m (NamesNoStart name) = Unit {0}
IsMeaningBelow n m LacksStart = Unit {0}
IsMeaningBelow n m (NamesNoToken name) = Unit {0}

only_below : (n m : ℕ) (name : Text) (o : Option ℕ) → ((k : ℕ) → o ≡ Some k → k < n) → IsMeaningBelow n m (begin_only_start name o)
only_below n m name None h = tt
only_below n m name (Some k) h = h k refl

start_below : (n m : ℕ) (name start : Text) (o : Option ℕ) → ((k : ℕ) → o ≡ Some k → k < n) → IsMeaningBelow n m (begin_named_start name start o)
start_below n m name start None h = tt
start_below n m name start (Some k) h = h k refl

token_below : (n m : ℕ) (name token : Text) (o : Option ℕ) → ((k : ℕ) → o ≡ Some k → k < m) → IsMeaningBelow n m (offer_named_token name token o)
token_below n m name token None h = tt
token_below n m name token (Some k) h = h k refl

-- The tokens that were found are below m.
abbrev AreFoundBelow : ℕ → TokensResult → Type 0
AreFoundBelow m (Tokens tokens) = All (λ z. z < m) tokens
AreFoundBelow m (Unknown name) = Unit {0}

put_below : (m : ℕ) (name : Text) (o : Option ℕ) (found : TokensResult) → ((k : ℕ) → o ≡ Some k → k < m) → AreFoundBelow m found → AreFoundBelow m (put_token name o found)
put_below m name None found h below = tt
put_below m name (Some token) (Unknown other) h below = tt
put_below m name (Some token) (Tokens tokens) h below = All-cons (λ z. z < m) token tokens (h token refl) below

found_below : (m : ℕ) (v : Vocabulary) (names : List Text) → ((name : Text) (k : ℕ) → v.token_named name ≡ Some k → k < m) → AreFoundBelow m (tokens_of v names)
found_below m v [] h = All-nil (λ z. z < m)
found_below m v (name ∷ names) h = put_below m name (v.token_named name) (tokens_of v names) (h name) (found_below m v names h)

tokens_below : (n m : ℕ) (name : Text) (found : TokensResult) → AreFoundBelow m found → IsMeaningBelow n m (feed_named_tokens name found)
tokens_below n m name (Tokens tokens) h = h
tokens_below n m name (Unknown token) h = tt

form_below : (g : Grammar) (form : Form) → IsMeaningBelow (length (start_names g)) (length (token_names g)) (meaning_of_form (vocabulary_of g) form)
form_below g (BeginOnly name) = only_below _ _ name (vocabulary_of g).only_start (bounded g).only
form_below g (BeginAt name start) = start_below _ _ name start ((vocabulary_of g).start_named start) ((bounded g).starts start)
form_below g (OfferTo name token) = token_below _ _ name token ((vocabulary_of g).token_named token) ((bounded g).tokens token)
form_below g (FeedTo name first more) = tokens_below _ _ name (tokens_of (vocabulary_of g) (first ∷ more)) (found_below (length (token_names g)) (vocabulary_of g) (first ∷ more) (bounded g).tokens)
form_below g (ResumeOf name) = tt
form_below g (ForkTo name fresh) = tt
form_below g (ShowOf name) = tt
form_below g (StackOf name) = tt
form_below g (TreeOf name) = tt
form_below g (ExpectedOf name) = tt
form_below g (ForgetOf name) = tt

known_by : (t : TableData) (p : PlainGrammar) (n m : ℕ) (command : Command) → t.grammar ≡ p → n ≡ length p.starts → m ≡ p.tokens → IsMeaningBelow n m (Asks command) → IsCommandOf t command
known_by t p n m (commands.Begin name start) e f h b = rw e (subst (λ (k : ℕ). start < k) f b)
known_by t p n m (commands.Offer name token) e f h b = rw e (subst (λ (k : ℕ). token < k) h b)
known_by t p n m (commands.Feed name tokens) e f h b = rw e (subst (λ (k : ℕ). All (λ z. z < k) tokens) h b)
known_by t p n m (commands.Resume name) e f h b = tt
known_by t p n m (commands.Fork name fresh) e f h b = tt
known_by t p n m (commands.Show name) e f h b = tt
known_by t p n m (commands.Stack name) e f h b = tt
known_by t p n m (commands.Tree name) e f h b = tt
known_by t p n m (commands.Expected name) e f h b = tt
known_by t p n m (commands.Forget name) e f h b = tt

pub command_known : (g : Grammar) (t : TableData) (line : Text) (command : Command) → t.grammar ≡ plain_of g → LineMeans (vocabulary_of g) line (Asks command) → IsCommandOf t command
command_known g t line command e says =
    known_by t (plain_of g) (length (start_names g)) (length (token_names g)) command e (length-map g.starts (start_symbol_name g)) (length-map g.tokens (λ token. token.name))
    (subst (IsMeaningBelow (length (start_names g)) (length (token_names g))) says.2 (form_below g says.0))
