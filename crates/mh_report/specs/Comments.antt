-- The definitions of the comment lines of a sentence that fails, and of its entry in the list of errors (Menhir manual,
-- `--list-errors`). The layout is this project's own.
use Rattle.std.specs.Prelude.{◌≡◌, ◌-◌, ◌<◌, ◌≤◌, ℕ, Bool, true, false, List, [], ◌∷◌, ◌++◌, length, slice_index_or, take, codes, decimal}
use Rattle.mh_grammar.specs.declared.types.Symbol.{Symbol}
use Rattle.mh_grammar.specs.declared.types.Grammar.{Grammar}
use Rattle.mh_grammar.specs.Plain.{plain_of, rhs_of}
use Rattle.mh_items_kernels.specs.KernelTypes.{KernelItem, Automaton}
use Rattle.mh_items_kernels.specs.Automaton.{kernel_at}
use Rattle.mh_tables_core.specs.Table.{TableData}
use Rattle.mh_tables_core.specs.Run.{Rejected}
use Rattle.mh_tables_core.specs.Failing.{Fails}
use Rattle.mh_run.specs.Trace.{TraceOf}
use Rattle.mh_expected.specs.Expected.{ExpectedTokens}
use Rattle.mh_msgfile.specs.FileTexts.{names_after, sentence_text}
use Rattle.mh_grammar.specs.Text.{Text}
use Rattle.mh_report_notation.specs.ItemTexts.{item_lines}
use Rattle.mh_grammar_texts.specs.Productions.{spaced_symbols, production_text}

-- The lines that name the state in which the sentence fails.
unfoldable pub state_comment : ℕ → Text
state_comment s = codes "##\n## Ends in an error in state: " ++ decimal s ++ codes ".\n##\n"

-- The title of the known suffix of the stack.
unfoldable pub suffix_title : Text
suffix_title = codes "##\n## The known suffix of the stack is as follows:\n##"

-- The known suffix of the stack: its symbols, each after one space.
abbrev pub suffix_comment : Grammar → List Symbol → Text
suffix_comment g symbols = suffix_title ++ spaced_symbols g symbols ++ codes "\n##\n"

-- The beginning of the line on a reduction.
unfoldable pub reduced_title : Text
reduced_title = codes "## Reduced before the error: "

-- The line on a reduction by this production.
abbrev pub reduced_comment : Grammar → ℕ → Text
reduced_comment g p = reduced_title ++ production_text g p ++ codes "\n"

-- One line for each reduction since the last shift, in order.
abbrev pub reduced_comments : Grammar → List ℕ → Text
reduced_comments g [] = []
reduced_comments g (p ∷ ps) = reduced_comment g p ++ reduced_comments g ps

-- An empty line, the line that the user replaces with a message, and an empty line.
unfoldable pub message_placeholder : Text
message_placeholder = codes "\n<YOUR SYNTAX ERROR MESSAGE HERE>\n\n"

-- The first of the items whose dot is the farthest to the right.
pub record HasFarthestDot (items : List KernelItem) (item : KernelItem) : Type 0 where
  pub place : ℕ
  pub within : place < length items
  pub item_is : slice_index_or items place item ≡ item
  pub first : (k : ℕ) → k < place → (slice_index_or items k item).dot < item.dot
  pub farthest : (k : ℕ) → k < length items → (slice_index_or items k item).dot ≤ item.dot

-- The symbols before the dot of an item.
abbrev pub before_dot : Grammar → KernelItem → List Symbol
before_dot g item = take item.dot (rhs_of (plain_of g) item.production)

abbrev pub kernel_comments : Grammar → List KernelItem → Text
kernel_comments g items = item_lines (codes "## ") g items

-- The comment lines: the state and its kernel, the known suffix of the stack, and the productions reduced since the
-- last shift.
abbrev pub comments : Grammar → List KernelItem → ℕ → KernelItem → List ℕ → Text
comments g items s item ps = state_comment s ++ kernel_comments g items ++ suffix_comment g (before_dot g item) ++ reduced_comments g ps

-- The text is the comment lines of a sentence that fails.
pub record IsCommentText (g : Grammar) (a : Automaton) (t : TableData) (start : ℕ) (w : List ℕ) (text : Text) : Type 0 where
  pub state : ℕ
  pub fails : Fails t start w state
  pub item : KernelItem
  pub farthest : HasFarthestDot (kernel_at a state).items item
  pub reduced : List ℕ
  pub trace : TraceOf t start w (Rejected (length w - 1) state) reduced
  pub is : text ≡ comments g (kernel_at a state).items state item reduced

-- The beginning of the line of the expected tokens.
unfoldable pub expected_title : Text
expected_title = codes "## Expected:"

-- The line of the expected tokens: their names, each after one space.
abbrev pub expected_comment : Grammar → List ℕ → Text
expected_comment g tokens = expected_title ++ names_after g tokens ++ codes "\n"

-- The text is the comment lines of a sentence that fails; if `expected` is true, one more line has the tokens that are
-- expected in place of its last token.
abbrev pub IsCommentBlock : (expected : Bool) → Grammar → Automaton → TableData → ℕ → List ℕ → Text → Type 0
IsCommentBlock false g a t start w text = IsCommentText g a t start w text
IsCommentBlock true g a t start w text =
    (lines : Text) × IsCommentText g a t start w lines × (tokens : List ℕ) × ExpectedTokens t start (take (length w - 1) w) tokens × (text ≡ lines ++ expected_comment g tokens)

-- The new text is the old one with the line of the tokens appended that are expected in place of the last token.
abbrev pub AppendsExpected : Grammar → TableData → ℕ → List ℕ → Text → Text → Type 0
AppendsExpected g t start w old new = (tokens : List ℕ) × ExpectedTokens t start (take (length w - 1) w) tokens × (new ≡ old ++ expected_comment g tokens)

-- The new text is the old one with the comment lines of a state appended, for the item with the farthest dot.
abbrev pub AppendsComments : Grammar → List KernelItem → ℕ → List ℕ → Text → Text → Type 0
AppendsComments g items s ps old new = (item : KernelItem) × HasFarthestDot items item × (new ≡ old ++ comments g items s item ps)

-- The text is the entry of a sentence that fails: its line, its comment lines, with the expected tokens or without, an
-- empty line, a placeholder for the message, and an empty line.
pub record IsEntryText (expected : Bool) (g : Grammar) (a : Automaton) (t : TableData) (start : ℕ) (w : List ℕ) (text : Text) : Type 0 where
  pub comments : Text
  pub are_comments : IsCommentBlock expected g a t start w comments
  pub is : text ≡ sentence_text g start w ++ codes "\n" ++ comments ++ message_placeholder
