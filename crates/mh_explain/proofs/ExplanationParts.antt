-- Lemmas on the parts of an explanation, and on the loop over the conflicts.
use Rattle.std.proofs.Common.{◌≡◌, ◌≢◌, ◌∙◌, ◌<◌, ◌++◌, ℕ, inl, inr, List, [], ◌∷◌, ap, sym, subst, refl, append-nil, append_assoc, length, get_or, take, Bool, true, false, true≢false, ◌||◌, ◌+◌}
use Rattle.std.specs.Prelude.{IfSome, codes}
use Rattle.std.specs.List.{list_any}
use Rattle.mh_grammar.specs.declared.types.Grammar.{Grammar}
use Rattle.mh_grammar.specs.declared.types.Look.{Look}
use Rattle.mh_grammar.specs.declared.types.Look.TheVariants.{Token, End}
use Rattle.mh_grammar.specs.ItemSets.{AreSameItems}
use Rattle.mh_grammar.specs.Plain.{plain_of, IsLookBelow}
use Rattle.mh_grammar.specs.Text.{Text}
use Rattle.mh_grammar.proofs.Lists.{contains_last, recursion_contains, take_step}
use Rattle.mh_items_kernels.specs.KernelTypes.{Automaton, Kernel}
use Rattle.mh_items_kernels.specs.Automaton.{closure_of}
use Rattle.mh_items_kernels.specs.Kernels.{Holds, IsItemList, IsKernelItem}
use Rattle.mh_report_notation.specs.Warnings.{conflict_line}
use Rattle.mh_resolve_cells.specs.declared.conflicts.Conflict.{Conflict}
use Rattle.mh_resolve_cells.specs.declared.kinds.ConflictKind.{ConflictKind}
use Rattle.mh_resolve_cells.specs.declared.kinds.ConflictKind.TheVariants.{Solved, Unsolved, Stream}
use Rattle.mh_resolve_cells.specs.States.{HasConflictOn, state_of}
use Rattle.mh_tables_core.specs.Table.{TableData}
use Rattle.mh_explain.specs.declared.first_sentence.FoundSentence.{FoundSentence}
use Rattle.mh_explain.specs.declared.first_sentence.FoundSentence.TheVariants.{NoSentence, TooLong, First}
use Rattle.mh_explain.specs.FirstSentences.{IsFoundOn}
use Rattle.mh_explain.specs.code.Searched.{AppendsText, is_explained}
use Rattle.mh_explain.specs.Explanations.{AreEndLines, AreExplanations, AreNextLines, ExplainsConflict, IsExplanation, found_line, next_token}

-- ---- The token on which the actions are shown is one of the grammar.

-- A look of an item of the closure is in the range of the grammar.
look_known : (g : Grammar) (a : Automaton) (s : ℕ) (closed : Kernel) → IsItemList (plain_of g) closed → AreSameItems (Holds closed) (closure_of (plain_of g) a s) → (p d : ℕ) (look : Look) → closure_of (plain_of g) a s p d look → IsLookBelow (plain_of g).tokens look
look_known g a s closed list same p d look c =
    let h = (same p d look).1 c in
    let known = recursion_contains (IsKernelItem (plain_of g)) closed.items list.items h.0 h.1 in
    recursion_contains (IsLookBelow (plain_of g).tokens) h.0.looks known.looks look h.4

module _ (g : Grammar) (a : Automaton) (s : ℕ) (closed : Kernel) (list : IsItemList (plain_of g) closed) (same : AreSameItems (Holds closed) (closure_of (plain_of g) a s)) where
  -- A conflict that levels do not solve has a reduction on its look.
  conflict_known : (look : Look) → HasConflictOn (state_of g a s) look Unsolved → IsLookBelow (plain_of g).tokens look
  conflict_known look (inl unknown) = look_known g a s closed list same _ _ look unknown.reduce
  conflict_known look (inr two) = look_known g a s closed list same _ _ look two.one_remains.0

  token_known : (z : ℕ) (kind : ConflictKind) → kind ≢ Solved → HasConflictOn (state_of g a s) (Token z) kind → z < length g.tokens
  token_known z Solved some has = absurd (some refl)
  token_known z Unsolved some has = conflict_known (Token z) has
  token_known z Stream some has = absurd (let e = has.0 in cc)

  pub next_known : (t : TableData) → t.grammar ≡ plain_of g → (look : Look) (kind : ConflictKind) → kind ≢ Solved → HasConflictOn (state_of g a s) look kind → (found : FoundSentence) → IsFoundOn t s look found → IfSome (next_token look found) (λ z. z < length g.tokens)
  next_known t e (Token z) kind some has found is = token_known z kind some has
  next_known t e End kind some has NoSentence is = tt
  next_known t e End kind some has TooLong is = tt
  next_known t e End kind some has (First c x z) is =
      let lt = recursion_contains (λ y. y < t.grammar.tokens) (x.tokens ++ z ∷ []) is.0.comes.comes.sentence.tokens z (contains_last x.tokens z) in subst (λ (p : _). z < p.tokens) e lt

-- ---- The text of an explanation, in its order.

-- Five parts appended one after another are appended as a whole.
pub five_pieces : (old a b c d e t1 t2 t3 t4 t5 : Text) → t1 ≡ old ++ a → t2 ≡ t1 ++ b → t3 ≡ t2 ++ c → t4 ≡ t3 ++ d → t5 ≡ t4 ++ e → t5 ≡ old ++ (a ++ b ++ c ++ d ++ e)
five_pieces old a b c d e t1 t2 t3 t4 t5 e1 e2 e3 e4 e5 =
    e5
    ∙ ap (λ (t : Text). t ++ e) (e4 ∙ ap (λ (t : Text). t ++ d) (e3 ∙ ap (λ (t : Text). t ++ c) (e2 ∙ ap (λ (t : Text). t ++ b) e1)))
    ∙ ap (λ (t : Text). t ++ e) (ap (λ (t : Text). t ++ d) (ap (λ (t : Text). t ++ c) (append_assoc old a b) ∙ append_assoc old (a ++ b) c) ∙ append_assoc old ((a ++ b) ++ c) d)
    ∙ append_assoc old (((a ++ b) ++ c) ++ d) e

-- The parts of an explanation are appended in order.
pub explanation_written : (g : Grammar) (a : Automaton) (t : TableData) (s : ℕ) (look : Look) (kind : ConflictKind) (found : FoundSentence) → IsFoundOn t s look found → (old t1 t2 t3 t4 new : Text) → t1 ≡ old ++ conflict_line g s look kind → t2 ≡ t1 ++ found_line g found
    → AppendsText (AreEndLines g a s look) t2 t3 → AppendsText (AreNextLines g a t s (next_token look found)) t3 t4 → new ≡ t4 ++ codes "\n" → AppendsText (ExplainsConflict g a t s look kind) old new
explanation_written g a t s look kind found is old t1 t2 t3 t4 new line sentence (end, are_end, third) (next, are_next, fourth) last = (
  conflict_line g s look kind ++ found_line g found ++ end ++ next ++ codes "\n",
  record { found = found; is_found = is; at_end = end; are_at_end = are_end; at_next = next; are_at_next = are_next; is = refl },
  five_pieces old (conflict_line g s look kind) (found_line g found) end next (codes "\n") t1 t2 t3 t4 new line sentence third fourth last,
)

-- ---- The loop over the conflicts.

-- Exactly the conflicts that precedence levels do not solve are explained.
pub is_unsolved : (kind : ConflictKind) → is_explained kind ≡ true → kind ≢ Solved
is_unsolved Solved is = absurd (true≢false (sym is))
is_unsolved Unsolved is = λ e. cc
is_unsolved Stream is = λ e. cc

first_solved : (kind : ConflictKind) (others : Bool) → (is_explained kind || others) ≡ false → (kind ≡ Solved) × (others ≡ false)
first_solved Solved others none = (refl, none)
first_solved Unsolved others none = absurd (true≢false none)
first_solved Stream others none = absurd (true≢false none)

pub is_solved : (kind : ConflictKind) → is_explained kind ≡ false → kind ≡ Solved
is_solved kind none = (first_solved kind false (rw none refl)).0

module _ (g : Grammar) (a : Automaton) (t : TableData) where
  -- A conflict that levels do not solve is explained.
  explained : (c : Conflict) (text : Text) → c.kind ≢ Solved → ExplainsConflict g a t c.state c.look c.kind text → IsExplanation g a t c.state c.look c.kind text
  explained c text some is = by c.kind some is
    where
      by : (kind : ConflictKind) → kind ≢ Solved → ExplainsConflict g a t c.state c.look kind text → IsExplanation g a t c.state c.look kind text
      by Solved some is = absurd (some refl)
      by Unsolved some is = is
      by Stream some is = is

  explanations_push : (cs : List Conflict) (c : Conflict) (x y : Text) → AreExplanations g a t cs x → IsExplanation g a t c.state c.look c.kind y → AreExplanations g a t (cs ++ c ∷ []) (x ++ y)
  explanations_push [] c x y are is = (y, [], is, refl, ap (λ (u : Text). u ++ y) are ∙ sym (append-nil y))
  explanations_push (d ∷ cs) c x y are is = (are.0, are.1 ++ y, are.2, explanations_push cs c are.1 y are.3 is, ap (λ (u : Text). u ++ y) are.4 ∙ append_assoc are.0 are.1 y)

  module _ (cs : List Conflict) (i : ℕ) (c : Conflict) (lt : i < length cs) (is : c ≡ get_or cs i c) (old : Text) (are : AreExplanations g a t (take i cs) old) where
    -- The text of one more conflict is appended.
    pushed : (last : Text) → IsExplanation g a t c.state c.look c.kind last → AreExplanations g a t (take (i + 1) cs) (old ++ last)
    pushed last explains = subst (λ (ds : List Conflict). AreExplanations g a t ds (old ++ last)) (sym (take_step cs i c lt is)) (explanations_push (take i cs) c old last are explains)

    pub conflict_explained : (new : Text) → c.kind ≢ Solved → AppendsText (ExplainsConflict g a t c.state c.look c.kind) old new → AreExplanations g a t (take (i + 1) cs) new
    conflict_explained new some (last, explains, written) = subst (AreExplanations g a t (take (i + 1) cs)) (sym written) (pushed last (explained c last some explains))

    -- A solved conflict adds nothing.
    pub conflict_solved : c.kind ≡ Solved → AreExplanations g a t (take (i + 1) cs) old
    conflict_solved solved = subst (AreExplanations g a t (take (i + 1) cs)) (append-nil old) (pushed [] (subst (λ (k : ConflictKind). IsExplanation g a t c.state c.look k []) (sym solved) refl))

  -- If levels solve all conflicts, the text is empty.
  pub none_explained : (cs : List Conflict) → list_any (λ c. is_explained c.kind) cs ≡ false → AreExplanations g a t cs []
  none_explained [] none = refl
  none_explained (c ∷ cs) none =
      let parts = first_solved c.kind _ none in
      ([], [], subst (λ (k : ConflictKind). IsExplanation g a t c.state c.look k []) (sym parts.0) refl, none_explained cs parts.1, refl)
