-- Lemmas on the parts of comment lines and entries.
use Rattle.std.proofs.Common.{◌≡◌, Bool, true, false, refl, take, zero, suc, ℕ, ◌-◌, ◌<◌, List, [], ◌∷◌, ◌++◌, length, get_or, sym, ◌∙◌, ap, subst, append_assoc}
use Rattle.mh_grammar.specs.declared.types.Grammar.{Grammar}
use Rattle.mh_grammar.specs.Plain.{plain_of}
use Rattle.mh_items_kernels.specs.KernelTypes.{Automaton, Kernel, KernelItem}
use Rattle.mh_items_kernels.specs.Automaton.{IsAutomaton, kernel_at}
use Rattle.mh_resolve_cells.proofs.AreResolved.{kernel_is}
use Rattle.mh_tables_core.specs.Table.{TableData}
use Rattle.mh_tables_core.specs.Facts.{Facts}
use Rattle.mh_tables_core.specs.Run.{Rejected, initial}
use Rattle.mh_tables_core.specs.Failing.{Fails}
use Rattle.mh_tables_core.proofs.RunEnds.{ending_unique}
use Rattle.mh_report.proofs.SomeExpected.{some_expected}
use Rattle.mh_tables_core.specs.Halting.{HaltingFacts}
use Rattle.std.specs.List.{All, AllByRecursion}
use Rattle.std.proofs.lemmas.List.Elements.{All-take, All-from_recursion, recursion_from_All}
use Rattle.mh_expected.specs.Expected.{Overshoots}
use Rattle.mh_expected.proofs.Overshoots.{refused_overshoots}
use Rattle.mh_run.specs.Trace.{TraceOf}
use Rattle.mh_run.specs.Verdicts.{ending_for}
use Rattle.mh_run.specs.declared.outcome.Verdict.{Verdict}
use Rattle.mh_run.specs.declared.outcome.Verdict.TheVariants as verdicts
use Rattle.mh_grammar.specs.Text.{Text}
use Rattle.std.specs.Prelude.{codes}
use Rattle.mh_report.specs.Comments.{IsCommentBlock, IsCommentText, AppendsComments, comments, expected_comment, message_placeholder}
use Rattle.mh_tables_core.proofs.RefusingState.{refusing_state_known}

-- Four parts appended one after another are appended as a whole.
pub pieces : (old a b c d t1 t2 t3 t4 : Text) → t1 ≡ old ++ a → t2 ≡ t1 ++ b → t3 ≡ t2 ++ c → t4 ≡ t3 ++ d → t4 ≡ old ++ (a ++ b ++ c ++ d)
pieces old a b c d t1 t2 t3 t4 e1 e2 e3 e4 =
    e4
    ∙ ap (λ (t : Text). t ++ d) (e3 ∙ ap (λ (t : Text). t ++ c) (e2 ∙ ap (λ (t : Text). t ++ b) e1 ∙ append_assoc old a b) ∙ append_assoc old (a ++ b) c)
    ∙ append_assoc old (a ++ b ++ c) d

pub entry_is : (old sentence comments slice t1 t2 t3 t4 : Text) → old ≡ [] → t1 ≡ old ++ sentence → t2 ≡ t1 ++ 10 ∷ [] → slice ≡ comments → t3 ≡ t2 ++ slice → t4 ≡ t3 ++ message_placeholder → t4 ≡ sentence ++ codes "\n" ++ comments ++ message_placeholder
entry_is old sentence comments slice t1 t2 t3 t4 none e1 e2 same e3 e4 =
    pieces old sentence (codes "\n") comments message_placeholder t1 t2 t3 t4 e1 e2 (e3 ∙ ap (λ (l : Text). t2 ++ l) same) e4 ∙ ap (λ (t : Text). t ++ (sentence ++ codes "\n" ++ comments ++ message_placeholder)) none

-- The items that the code reads are those of the state's kernel.
pub kernel_has : (a : Automaton) (s : ℕ) (kernel : Kernel) (items : List KernelItem) → s < length a.kernels → kernel ≡ get_or a.kernels s kernel → items ≡ kernel.items → items ≡ (kernel_at a s).items
kernel_has a s kernel items lt e f = f ∙ ap (λ (k : Kernel). k.items) (sym (kernel_is a s kernel lt e))

pub some_item : (g : Grammar) (a : Automaton) → IsAutomaton (plain_of g) a → (s : ℕ) (items : List KernelItem) → s < length a.kernels → items ≡ (kernel_at a s).items → 0 < length items
some_item g a h s items lt is = rw is (h.filled s lt)

by_verdict : (v : Verdict) (at s : ℕ) → Rejected at s ≡ ending_for v → v ≡ verdicts.Reject at s
by_verdict (verdicts.Accept read) at s is = cc
by_verdict (verdicts.Overshoot state) at s is = cc
by_verdict (verdicts.Reject i r) at s is = cc

-- The trace of a sentence that fails.
module _ (t : TableData) (f : Facts t) (start : ℕ) (w : List ℕ) (fails : (s : ℕ) × Fails t start w s) (v : Verdict) (ps : List ℕ) (traced : TraceOf t start w (ending_for v) ps) where
  pub refuses : v ≡ verdicts.Reject (length w - 1) fails.0
  refuses = by_verdict v (length w - 1) fails.0 (ending_unique t (initial start w) _ _ fails.1.verdict (traced.steps, traced.ends))

  state_is : (at s : ℕ) → v ≡ verdicts.Reject at s → fails.0 ≡ s
  state_is at s is = let r = refuses in cc

  pub state_below : (at s : ℕ) → v ≡ verdicts.Reject at s → s < length t.states
  state_below at s is = subst (λ (r : ℕ). r < length t.states) (state_is at s is) (refusing_state_known t f start w (length w - 1) fails.0 fails.1.sentence.known fails.1.verdict)

  pub appends_comments : (g : Grammar) (a : Automaton) (at s : ℕ) → v ≡ verdicts.Reject at s → (items : List KernelItem) → items ≡ (kernel_at a s).items → (old new : Text) → old ≡ [] → AppendsComments g items s ps old new → IsCommentText g a t start w new
  appends_comments g a at s is items same old new none (item, farthest, written) =
      let state = state_is at s is in
      let here : Rejected (length w - 1) s ≡ ending_for v = sym (ap (λ (r : ℕ). Rejected (length w - 1) r) state) ∙ ap ending_for (sym refuses) in
      record {
        state = s;
        fails = subst (λ (r : ℕ). Fails t start w r) state fails.1;
        item = item;
        farthest = rw (← same) farthest;
        reduced = ps;
        trace = rw here traced;
        is = written ∙ ap (λ (front : Text). front ++ comments g items s item ps) none ∙ ap (λ (xs : List KernelItem). comments g xs s item ps) same;
      }

-- A sentence with comment lines fails in some state.
pub block_fails : (expected : Bool) (g : Grammar) (a : Automaton) (t : TableData) (start : ℕ) (w : List ℕ) (text : Text) → IsCommentBlock expected g a t start w text → (s : ℕ) × Fails t start w s
block_fails false g a t start w text is = (is.state, is.fails)
block_fails true g a t start w text is = (is.1.state, is.1.fails)

-- A sentence that fails has comment lines with the expected tokens, if it has comment lines.
pub some_block : (expected : Bool) (g : Grammar) (a : Automaton) (t : TableData) → HaltingFacts t → (start : ℕ) (w : List ℕ) (lines : Text) → IsCommentText g a t start w lines → (text : Text) × IsCommentBlock expected g a t start w text
some_block false g a t h start w lines is = (lines, is)
some_block true g a t h start w lines is =
    let tokens = recursion_take (λ (z : ℕ). z < t.grammar.tokens) (length w - 1) w is.fails.sentence.tokens in
    let list = some_expected t h start is.fails.sentence.known (take (length w - 1) w) tokens in
    (lines ++ expected_comment g list.0, (lines, is, list.0, list.1, refl))
  where
    recursion_take : (P : ℕ → Type 0) (n : ℕ) (xs : List ℕ) → AllByRecursion P xs → AllByRecursion P (take n xs)
    recursion_take P zero xs all = tt
    recursion_take P (suc n) [] all = tt
    recursion_take P (suc n) (x ∷ xs) all = (all.0, recursion_take P n xs all.1)

-- ---- The tokens before the last one of a sentence that fails.

module _ (t : TableData) (start : ℕ) (w : List ℕ) (fails : (s : ℕ) × Fails t start w s) where
  abbrev IsToken : ℕ → Type 0
  IsToken z = z < t.grammar.tokens

  pub before_known : All IsToken (take (length w - 1) w)
  before_known = All-take IsToken (length w - 1) w (All-from_recursion IsToken w fails.1.sentence.tokens)

  -- The run on these tokens asks for one more.
  pub before_overshoots : HaltingFacts t → Overshoots t start (take (length w - 1) w)
  before_overshoots h = refused_overshoots t start w (length w - 1) fails.0 fails.1.verdict h fails.1.sentence.known (recursion_from_All IsToken (take (length w - 1) w) before_known)
