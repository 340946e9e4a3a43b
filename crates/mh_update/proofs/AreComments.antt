-- Lemmas on the loops that collect the comments of sentences.
use Rattle.std.proofs.Common.{ℕ, ◌+◌, ◌<◌, List, [], ◌∷◌, ◌++◌, length, take, drop, flat_map, get_or, inl, inr, subst, sym, ◌≡◌, append_assoc, append-nil, ap, ◌∙◌, refl, Bool, Bool}
use Rattle.std.proofs.lemmas.List.{take-append-drop}
use Rattle.std.proofs.lemmas.Grind.{flat_map-append}
use Rattle.std.specs.List.{Contains}
use Rattle.mh_grammar.proofs.Lists.{contains_cases, contains_none, take_step}
use Rattle.mh_grammar.specs.declared.types.Grammar.{Grammar}
use Rattle.mh_items_kernels.specs.KernelTypes.{Automaton}
use Rattle.mh_tables_core.specs.Table.{TableData}
use Rattle.mh_msgfile.specs.declared.messages.MsgSentence.{MsgSentence}
use Rattle.mh_msgfile.specs.declared.messages.Entry.{Entry}
use Rattle.mh_check.specs.Checks.{BreaksSoundness, FailsIn}
use Rattle.mh_check.specs.Compiling.{ReportsCheckFault}
use Rattle.mh_check.specs.declared.compiling.CheckFault.{CheckFault}
use Rattle.mh_check.proofs.ArePlaces.{split-append, ReportsCheckFault-weaker}
use Rattle.mh_report.proofs.CommentParts.{block_fails}
use Rattle.mh_update.specs.declared.comment.Comment.{Comment}
use Rattle.mh_update.specs.Updates.{AreComments, FirstUnfit, IsComment}

-- ---- Prefixes of lists.

next_taken : (done xs : List MsgSentence) (i : ℕ) (x : MsgSentence) → i < length xs → x ≡ get_or xs i x → (done ++ take i xs) ++ x ∷ [] ≡ done ++ take (i + 1) xs
next_taken done xs i x lt is = append_assoc done (take i xs) (x ∷ []) ∙ ap (λ (l : List MsgSentence). done ++ l) (sym (take_step xs i x lt is))

-- The sentences are those up to index i and those after it.
pub sentences_split : (done xs : List MsgSentence) (i : ℕ) (x : MsgSentence) → i < length xs → x ≡ get_or xs i x → ((done ++ take i xs) ++ x ∷ []) ++ drop (i + 1) xs ≡ done ++ xs
sentences_split done xs i x lt is =
    ap (λ (l : List MsgSentence). l ++ drop (i + 1) xs) (next_taken done xs i x lt is) ∙ append_assoc done (take (i + 1) xs) (drop (i + 1) xs) ∙ ap (λ (l : List MsgSentence). done ++ l) (take-append-drop (i + 1) xs)

abbrev pub of_entries : List Entry → List MsgSentence
of_entries es = flat_map (λ entry. entry.sentences) es

-- The sentences of all entries are those up to entry i and those after it.
pub entry_split : (es : List Entry) (i : ℕ) (e : Entry) → i < length es → e ≡ get_or es i e → (of_entries (take i es) ++ e.sentences) ++ of_entries (drop (i + 1) es) ≡ of_entries es
entry_split es i e lt is =
    ap (λ (l : List MsgSentence). (of_entries (take i es) ++ l) ++ of_entries (drop (i + 1) es)) (sym (append-nil e.sentences))
    ∙ ap (λ (l : List MsgSentence). l ++ of_entries (drop (i + 1) es)) (sym (ap of_entries (take_step es i e lt is) ∙ flat_map-append (λ (entry : Entry). entry.sentences) (take i es) (e ∷ [])))
    ∙ sym (flat_map-append (λ (entry : Entry). entry.sentences) (take (i + 1) es) (drop (i + 1) es)) ∙ ap of_entries (take-append-drop (i + 1) es)

-- ---- Comments and faults.

module _ (expected : Bool) (g : Grammar) (a : Automaton) (t : TableData) where
  pub comments_push : (xs : List MsgSentence) (cs : List Comment) (x : MsgSentence) (c : Comment) → AreComments expected g a t xs cs → IsComment expected g a t x c → AreComments expected g a t (xs ++ x ∷ []) (cs ++ c ∷ [])
  comments_push [] [] x c are is = (is, tt)
  comments_push [] (d ∷ cs) x c are is = absurd are
  comments_push (y ∷ xs) [] x c are is = absurd are
  comments_push (y ∷ xs) (d ∷ cs) x c are is = (are.0, comments_push xs cs x c are.1 is)

  pub comments_next : (done xs : List MsgSentence) (i : ℕ) (x : MsgSentence) (old new : List Comment) (c : Comment) → i < length xs → x ≡ get_or xs i x → AreComments expected g a t (done ++ take i xs) old → IsComment expected g a t x c → new ≡ old ++ c ∷ []
      → AreComments expected g a t (done ++ take (i + 1) xs) new
  comments_next done xs i x old new c lt here are is added =
      subst (λ (l : List MsgSentence). AreComments expected g a t l new) (next_taken done xs i x lt here)
      (subst (AreComments expected g a t ((done ++ take i xs) ++ x ∷ [])) (sym added) (comments_push (done ++ take i xs) old x c are is))

  fails_of : (x : MsgSentence) (c : Comment) → IsComment expected g a t x c → (s : ℕ) × FailsIn t x s
  fails_of x c is = block_fails expected g a t x.start x.tokens c.text is.1

  fail_each : (xs : List MsgSentence) (cs : List Comment) → AreComments expected g a t xs cs → (y : MsgSentence) → Contains xs y → (s : ℕ) × FailsIn t y s
  fail_each [] cs are y c = absurd (contains_none y c)
  fail_each (x ∷ xs) [] are y c = absurd are
  fail_each (x ∷ xs) (d ∷ cs) are y c = elim (contains_cases x xs y c) [
    | inl e ↦ subst (λ (z : MsgSentence). (s : ℕ) × FailsIn t z s) e (fails_of x d are.0)
    | inr i ↦ fail_each xs cs are.1 y i
  ]

  pub unfit_here : (done : List MsgSentence) (cs : List Comment) (x : MsgSentence) (fault : CheckFault) → AreComments expected g a t done cs → ReportsCheckFault fault (BreaksSoundness t [] x) → ReportsCheckFault fault (FirstUnfit t (done ++ x ∷ []))
  unfit_here done cs x fault are told = ReportsCheckFault-weaker fault (BreaksSoundness t [] x) (FirstUnfit t (done ++ x ∷ [])) (λ f breaks. record {
    before = done;
    sentence = x;
    later = [];
    order = refl;
    fail = fail_each done cs are;
    breaks = breaks;
  }) told

pub unfit_more : (t : TableData) (xs ys : List MsgSentence) (fault : CheckFault) → ReportsCheckFault fault (FirstUnfit t xs) → ReportsCheckFault fault (FirstUnfit t (xs ++ ys))
unfit_more t xs ys fault told = ReportsCheckFault-weaker fault (FirstUnfit t xs) (FirstUnfit t (xs ++ ys)) (λ f first.
    let order = split-append xs ys first.before first.later first.sentence first.order in
    record { before = first.before; sentence = first.sentence; later = first.later ++ ys; order = order; fail = first.fail; breaks = first.breaks }) told
