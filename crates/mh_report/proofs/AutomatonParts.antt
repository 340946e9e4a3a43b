-- Lemmas on the parts of the text of an automaton.
use Rattle.std.proofs.Common.{◌≡◌, ◌<◌, ℕ, suc, List, ◌++◌, length, get_or, refl, ap, sym, subst, ◌∙◌, append_assoc}
use Rattle.mh_grammar.specs.declared.types.Grammar.{Grammar}
use Rattle.mh_grammar.specs.declared.edges.Edge.{Edge}
use Rattle.mh_items_kernels.specs.KernelTypes.{Kernel}
use Rattle.mh_items_kernels.specs.KernelTypes.{KernelItem}
use Rattle.mh_items_kernels.specs.KernelTypes.{Automaton}
use Rattle.mh_items_kernels.specs.Automaton.{kernel_at, edges_at}
use Rattle.mh_tables_core.specs.Table.{TableData, fallback_of}
use Rattle.mh_resolve_cells.proofs.AreResolved.{kernel_is, edges_are}
use Rattle.mh_grammar.specs.Text.{Text}
use Rattle.mh_report.proofs.CommentParts.{pieces}
use Rattle.mh_report.specs.Automata.{head_line, kernel_lines, goto_lines, AreActionLines, IsStateText, AreStateTexts, AppendsText}

pub kernel_text_is : (g : Grammar) (a : Automaton) (n : ℕ) (kernel : Kernel) (items : List KernelItem) (old new : Text) → n < length a.kernels → kernel ≡ get_or a.kernels n kernel → items ≡ kernel.items
    → new ≡ old ++ kernel_lines g items → new ≡ old ++ kernel_lines g (kernel_at a n).items
kernel_text_is g a n kernel items old new lt e f is =
    is ∙ ap (λ (l : List KernelItem). old ++ kernel_lines g l) (f ∙ ap (λ (k : Kernel). k.items) (sym (kernel_is a n kernel lt e)))

pub goto_text_is : (g : Grammar) (a : Automaton) (n : ℕ) (edges row : List Edge) (old new : Text) → n < length a.edges → row ≡ get_or a.edges n row → edges ≡ row
    → new ≡ old ++ goto_lines g edges → new ≡ old ++ goto_lines g (edges_at a n)
goto_text_is g a n edges row old new lt e f is = is ∙ ap (λ (l : List Edge). old ++ goto_lines g l) (sym (edges_are a n edges row lt e f))

pub state_text_is : (g : Grammar) (a : Automaton) (t : TableData) (s : ℕ) (old t1 t2 t3 t4 : Text) → t1 ≡ old ++ head_line s → t2 ≡ t1 ++ kernel_lines g (kernel_at a s).items
    → AppendsText (AreActionLines g a t s (fallback_of t s)) t2 t3 → t4 ≡ t3 ++ goto_lines g (edges_at a s) → AppendsText (IsStateText g a t s) old t4
state_text_is g a t s old t1 t2 t3 t4 e1 e2 (actions, are, e3) e4 =
    (head_line s ++ kernel_lines g (kernel_at a s).items ++ actions ++ goto_lines g (edges_at a s), record { actions = actions; are_actions = are; is = refl }, pieces old _ _ actions _ t1 t2 t3 t4 e1 e2 e3 e4)

-- Appending the text of one more state keeps the invariant of the loop over the states.
pub state_texts_more : (g : Grammar) (a : Automaton) (t u : TableData) (s n : ℕ) (title old new : Text) → n ≡ suc s → u ≡ t → ((states : Text) × AreStateTexts g a t s states × (old ≡ title ++ states))
    → AppendsText (IsStateText g a u s) old new → (states : Text) × AreStateTexts g a t n states × (new ≡ title ++ states)
state_texts_more g a t u s n title old new next same (states, are, e) (last, is, f) =
    subst (λ (k : ℕ). (states : Text) × AreStateTexts g a t k states × (new ≡ title ++ states)) (sym next)
    (states ++ last, (states, last, are, subst (λ (v : TableData). IsStateText g a v s last) same is, refl), f ∙ ap (λ (x : Text). x ++ last) e ∙ append_assoc title states last)
