-- The claims on the answers to sentence lines: what ACCEPT, REJECT, OVERSHOOT and TOODEEP say about the sentences of
-- the grammar, with trees or without.
use Rattle.std.specs.Prelude.{◌≡◌, ◌<◌, ◌+◌, ◌↔◌, ◌⊎◌, ◌++◌, ℕ, Bool, true, false, List, [], length, take, Option, None, codes, ⊤}
use Rattle.std.specs.List.{All}
use Rattle.mh_grammar.specs.declared.types.Grammar.{Grammar}
use Rattle.mh_grammar.specs.declared.types.Sentence.{Sentence}
use Rattle.mh_grammar.specs.Plain.{plain_of, start_symbol, BeginsSentence}
use Rattle.mh_items_kernels.specs.KernelTypes.{Automaton}
use Rattle.mh_items_kernels.specs.Automaton.{IsAutomaton}
use Rattle.mh_pager.specs.ReachedConflicts.{ReachesAnyConflict}
use Rattle.mh_resolve_cells.specs.States.{IsTableOf}
use Rattle.mh_resolve_cells.specs.declared.kinds.Mode.{Mode}
use Rattle.mh_resolve_cells.specs.NoConflicts.{HasNoConflicts}
use Rattle.mh_tables_core.specs.Table.{TableData}
use Rattle.mh_grammar.specs.Trees.{SyntaxTree, IsTreeFor, tree_text, yield_of}
use Rattle.mh_sample.specs.Random.{IsRandom}
use Rattle.mh_run_exact.specs.Exactness.{IsPrefixSentence, AllProductive}
use Rattle.mh_tables_core.specs.TreeRuns.{IsTooDeep}
use Rattle.mh_opts.specs.declared.order.Order.{Order}
use Rattle.mh_outside.specs.Shelf.{Files}
use Rattle.mh_top_drive.specs.StageResults.{Go}
use Rattle.mh_top_load.specs.Order.{staged_order}
use Rattle.mh_grammar.specs.Text.{Text}
use Rattle.mh_msgfile.specs.Sentences.{IsSentence, sentence_in, vocabulary_of}
use Rattle.mh_top_plans.specs.MessagesFiles.{Messages}
use Rattle.mh_top_plans.specs.Verdicts.{IsAnswerToLine}
use Rattle.mh_top_plans.specs.Plan.{Judges}
use Rattle.mh_top_claims.specs.Work.{IsWork}

-- The grammar is LR(1): no item set that a path of symbols reaches from a start has a conflict, nor a conflict with the
-- end of the stream (Knuth 1965).
abbrev pub IsLR1Grammar : Grammar → Type 0
IsLR1Grammar g = ReachesAnyConflict (plain_of g) → ⊥

-- The table is that of an automaton of the grammar in which no state has a conflict, nor a conflict with the end of the
-- stream.
pub record IsConflictFreeTable (g : Grammar) (t : TableData) : Type 0 where
  pub automaton : Automaton
  pub mode : Mode
  pub is_automaton : IsAutomaton (plain_of g) automaton
  pub table : IsTableOf g automaton mode t
  pub no_conflicts : HasNoConflicts g automaton

-- The words name no table file.
abbrev pub NamesNoTableFile : List Text → Type 0
NamesNoTableFile words = (order : Order) → staged_order words ≡ Go order → order.tables ≡ None

-- Verdicts do not depend on the resolution of a conflict: the words name no table file and the grammar is LR(1); or the
-- table, also one of a file, is that of an automaton without conflicts.
abbrev pub IsConflictFree : List Text → Grammar → TableData → Type 0
IsConflictFree words g t = (NamesNoTableFile words × IsLR1Grammar g) ⊎ IsConflictFreeTable g t

-- No token has a level of precedence.
abbrev pub HasNoLevels : Grammar → Type 0
HasNoLevels g = All (λ t. t.level ≡ None) g.tokens

-- The words ask for verdicts by a table of the grammar, and the text answers a line that is this sentence. Trees are
-- shown or not, expected tokens are listed or not, and a messages file may be given.
pub record AnswersSentence (words : List Text) (files : Option Files) (trees : Bool) (g : Grammar) (s : Sentence) (text : Text) : Type 0 where
  pub table : TableData
  pub expected : Bool
  pub messages : Option Messages
  pub warnings : Text
  pub asked : IsWork words files (record { warnings = warnings; plan = Judges (record { trees = trees; expected = expected; grammar = g; table = table; messages = messages }) })
  pub line : Text
  pub sentence : sentence_in (vocabulary_of g) line ≡ IsSentence s
  pub answer : IsAnswerToLine (record { trees = trees; expected = expected; grammar = g; table = table; messages = messages }) line text

-- The text is ACCEPT. With trees it has a second line, the text of some tree.
abbrev pub IsAcceptText : Bool → Grammar → Text → Type 0
IsAcceptText false g text = text ≡ codes "ACCEPT\n"
IsAcceptText true g text = (tree : SyntaxTree) × (text ≡ codes "ACCEPT\n" ++ tree_text g tree ++ codes "\n")

-- The text is REJECT. More text, as a message, may follow.
abbrev pub IsRejectText : Text → Type 0
IsRejectText text = (rest : Text) × (text ≡ codes "REJECT\n" ++ rest)

-- Trees are shown, and the text is TOODEEP.
abbrev pub IsTooDeepText : Bool → Text → Type 0
IsTooDeepText false text = ⊥
IsTooDeepText true text = text ≡ codes "TOODEEP\n"

-- If trees are shown, the text has a tree of the grammar for the start symbol, and its leaves spell the first `read`
-- tokens.
abbrev pub ShowsTree : Bool → Grammar → Sentence → ℕ → Text → Type 0
ShowsTree false g s read text = ⊤
ShowsTree true g s read text =
    (tree : SyntaxTree) × (text ≡ codes "ACCEPT\n" ++ tree_text g tree ++ codes "\n") × IsTreeFor (plain_of g) (start_symbol (plain_of g) s.start) tree × (yield_of tree ≡ take read s.tokens)

-- Claim, for a table without conflicts: a line is accepted only if a prefix of its tokens is a sentence of the grammar,
-- and each such line is accepted, unless its trees are too deep.
abbrev pub AcceptIsExact : List Text → Option Files → Type 0
AcceptIsExact words files = (trees : Bool) (g : Grammar) (s : Sentence) (text : Text) → (answers : AnswersSentence words files trees g s text) → IsConflictFree words g answers.table →
    (IsAcceptText trees g text → (read : ℕ) × IsPrefixSentence (plain_of g) s.start s.tokens read)
    × ((read : ℕ) → IsPrefixSentence (plain_of g) s.start s.tokens read → IsAcceptText trees g text ⊎ IsTooDeepText trees text)

-- Claim, for a table without conflicts and without trees: the line of a random sentence is accepted.
abbrev pub AcceptsRandom : List Text → Option Files → Type 0
AcceptsRandom words files = (g : Grammar) (s : Sentence) (text : Text) → (answers : AnswersSentence words files false g s text) → IsConflictFree words g answers.table →
    (seed n : ℕ) → IsRandom (plain_of g) seed n s.tokens → s.start ≡ 0 → text ≡ codes "ACCEPT\n"

-- Claim, for a table without conflicts: if a line is rejected, some prefix of its tokens begins no sentence of the
-- grammar.
abbrev pub RejectIsSound : List Text → Option Files → Type 0
RejectIsSound words files = (trees : Bool) (g : Grammar) (s : Sentence) (text : Text) → (answers : AnswersSentence words files trees g s text) → IsConflictFree words g answers.table →
    IsRejectText text → (at : ℕ) × (at < length s.tokens) × (BeginsSentence (plain_of g) s.start (take (at + 1) s.tokens) → ⊥)

-- Claim, for a grammar whose nonterminals all derive some word: if the answer to a line is OVERSHOOT, its tokens begin
-- some sentence of the grammar.
abbrev pub OvershootIsSound : List Text → Option Files → Type 0
OvershootIsSound words files = (trees : Bool) (g : Grammar) (s : Sentence) (text : Text) → AnswersSentence words files trees g s text → AllProductive (plain_of g) →
    text ≡ codes "OVERSHOOT\n" → BeginsSentence (plain_of g) s.start s.tokens

-- Claim, for every grammar: if a line is accepted, a prefix of its tokens is a sentence of the grammar, and with trees
-- the answer shows a tree for this prefix.
abbrev pub AcceptIsSound : List Text → Option Files → Type 0
AcceptIsSound words files = (trees : Bool) (g : Grammar) (s : Sentence) (text : Text) → AnswersSentence words files trees g s text →
    IsAcceptText trees g text → (read : ℕ) × IsPrefixSentence (plain_of g) s.start s.tokens read × ShowsTree trees g s read text

-- Claim: with trees, the answer to a line is TOODEEP exactly if some step of its run makes a tree that is too high or a
-- stack that is too long.
abbrev pub TooDeepIsExact : List Text → Option Files → Type 0
TooDeepIsExact words files = (g : Grammar) (s : Sentence) (text : Text) → (answers : AnswersSentence words files true g s text) →
    (text ≡ codes "TOODEEP\n") ↔ IsTooDeep answers.table s.start s.tokens

-- Claim, for a grammar without levels of precedence: if err has no warning, verdicts do not depend on the resolution of
-- a conflict, whether the table is built or that of a file. (A conflict that levels solve has no warning.)
abbrev pub UnwarnedIsConflictFree : List Text → Option Files → Type 0
UnwarnedIsConflictFree words files = (trees : Bool) (g : Grammar) (s : Sentence) (text : Text) → (answers : AnswersSentence words files trees g s text) → HasNoLevels g →
    answers.warnings ≡ [] → IsConflictFree words g answers.table
