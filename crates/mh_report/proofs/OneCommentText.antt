-- Proves that two comment texts, and two entries, of the same sentence are equal.
use Rattle.std.proofs.Common.{◌≡◌, ℕ, Bool, true, false, take, zero, suc, ◌+◌, ◌-◌, List, [], ◌++◌, length, refl, sym, ◌∙◌, ap, ap₂, subst, arith}
use Rattle.std.specs.Prelude.{codes}
use Rattle.mh_grammar.specs.declared.types.Grammar.{Grammar}
use Rattle.mh_items_kernels.specs.KernelTypes.{Automaton}
use Rattle.mh_items_kernels.specs.Automaton.{kernel_at}
use Rattle.mh_tables_core.specs.Table.{TableData}
use Rattle.mh_tables_core.specs.Run.{Config, RunMove, Accepts, Asks, Refuses, Shifts, Reduces, Ending, Rejected, Ends, initial, run_move_of, top_of, step, step_by, next_of, after, reduce}
use Rattle.mh_tables_core.specs.Failing.{Fails}
use Rattle.mh_tables_core.proofs.MoveCases.{goes_to_no_end}
use Rattle.mh_tables_core.proofs.RunEnds.{ending_unique, step_moves}
use Rattle.mh_run.specs.Trace.{TraceOf, since_move, reduced_since}
use Rattle.mh_expected.proofs.ExpectedTokens.{one_list}
use Rattle.mh_msgfile.specs.FileTexts.{sentence_text}
use Rattle.mh_grammar.specs.Text.{Text}
use Rattle.mh_report.specs.Comments.{HasFarthestDot, IsCommentBlock, IsCommentText, IsEntryText, comments, expected_comment, message_placeholder}
use Rattle.mh_report.proofs.HasFarthestDot.{farthest_once}

-- ---- The productions reduced since the last shift.

since-add : (t : TableData) (n m : ℕ) (c : Config) (ps : List ℕ) → reduced_since t (n + m) c ps ≡ reduced_since t m (after t n c) (reduced_since t n c ps)
since-add t zero m c ps = let e : 0 + m ≡ m = omega arith in ap (λ (k : ℕ). reduced_since t k c ps) e
since-add t (suc n) m c ps =
    let e : suc n + m ≡ suc (n + m) = omega arith in
    ap (λ (k : ℕ). reduced_since t k c ps) e ∙ since-add t n m (next_of c (step t c)) (since_move (run_move_of t (top_of c.stack) c.left) ps)

-- The step that ends a run neither shifts nor reduces.
since_ended : (t : TableData) (c : Config) (m : RunMove) (how : Ending) (ps : List ℕ) → step_by t c m ≡ Ends how → since_move m ps ≡ ps
since_ended t c Accepts how ps is = refl
since_ended t c Asks how ps is = refl
since_ended t c Refuses how ps is = refl
since_ended t c (Shifts j) how ps is = cc
since_ended t c (Reduces p) how ps is = absurd (goes_to_no_end c (reduce t p c.stack) how is)

since_stays : (t : TableData) (m : ℕ) (c : Config) (how : Ending) (ps : List ℕ) → step t c ≡ Ends how → reduced_since t m c ps ≡ ps
since_stays t zero c how ps is = refl
since_stays t (suc m) c how ps is =
    let move : RunMove = run_move_of t (top_of c.stack) c.left in
    let same : since_move move ps ≡ ps = since_ended t c move how ps (sym (step_moves t c move refl) ∙ is) in
    ap₂ (λ (d : Config) (qs : List ℕ). reduced_since t m d qs) (ap (next_of c) is) same ∙ since_stays t m c how ps is

trace_once : (t : TableData) (start : ℕ) (w ps qs : List ℕ) (a b : Ending) → TraceOf t start w a ps → TraceOf t start w b qs → ps ≡ qs
trace_once t start w ps qs a b x y =
    let c = initial start w in
    let n = x.steps in
    let m = y.steps in
    let e : n + m ≡ m + n = omega arith in
    sym x.reduced ∙ sym (since_stays t m (after t n c) a (reduced_since t n c []) x.ends) ∙ sym (since-add t n m c []) ∙ ap (λ (k : ℕ). reduced_since t k c []) e ∙ since-add t m n c []
    ∙ since_stays t n (after t m c) b (reduced_since t m c []) y.ends ∙ y.reduced

-- ---- The texts.

module _ (g : Grammar) (a : Automaton) (t : TableData) where
  state_once : (start : ℕ) (w : List ℕ) (s r : ℕ) → Fails t start w s → Fails t start w r → s ≡ r
  state_once start w s r p q = let same : Rejected (length w - 1) s ≡ Rejected (length w - 1) r = ending_unique t (initial start w) _ _ p.verdict q.verdict in cc

  pub comments_once : (start : ℕ) (w : List ℕ) (x y : Text) → IsCommentText g a t start w x → IsCommentText g a t start w y → x ≡ y
  comments_once start w x y p q =
      let same : q.state ≡ p.state = state_once start w q.state p.state q.fails p.fails in
      let farthest : HasFarthestDot (kernel_at a p.state).items q.item = subst (λ (s : ℕ). HasFarthestDot (kernel_at a s).items q.item) same q.farthest in
      let item : p.item ≡ q.item = farthest_once (kernel_at a p.state).items p.item q.item p.farthest farthest in
      let reduced : p.reduced ≡ q.reduced = trace_once t start w p.reduced q.reduced _ _ p.trace q.trace in
      p.is ∙ ap (λ i. comments g (kernel_at a p.state).items p.state i p.reduced) item
      ∙ ap (λ (ps : List ℕ). comments g (kernel_at a p.state).items p.state q.item ps) reduced ∙ ap (λ (s : ℕ). comments g (kernel_at a s).items s q.item q.reduced) (sym same) ∙ sym q.is

  pub block_once : (expected : Bool) (start : ℕ) (w : List ℕ) (x y : Text) → IsCommentBlock expected g a t start w x → IsCommentBlock expected g a t start w y → x ≡ y
  block_once false start w x y p q = comments_once start w x y p q
  block_once true start w x y p q =
      let lines : p.0 ≡ q.0 = comments_once start w p.0 q.0 p.1 q.1 in
      let tokens : p.2 ≡ q.2 = one_list t start (take (length w - 1) w) p.2 q.2 p.3 q.3 in
      p.4 ∙ ap₂ (λ (l : Text) (zs : List ℕ). l ++ expected_comment g zs) lines tokens ∙ sym q.4

  pub entry_once : (expected : Bool) (start : ℕ) (w : List ℕ) (x y : Text) → IsEntryText expected g a t start w x → IsEntryText expected g a t start w y → x ≡ y
  entry_once expected start w x y p q =
      p.is ∙ ap (λ (lines : Text). sentence_text g start w ++ codes "\n" ++ lines ++ message_placeholder) (block_once expected start w p.comments q.comments p.are_comments q.are_comments) ∙ sym q.is
