-- Proves that a file either is brought up to date or has exactly one first sentence that does not fail at its last
-- token.
use Rattle.std.proofs.Common.{◌≡◌, ℕ, ◌+◌, ◌-◌, ◌<◌, ◌⊎◌, List, [], ◌∷◌, ◌++◌, length, refl, sym, ◌∙◌, ap, subst, arith, inl, inr, flat_map, Bool, Bool}
use Rattle.std.specs.List.{AllByRecursion, Contains}
use Rattle.std.proofs.lemmas.Bool.{cases_eq}
use Rattle.std.proofs.Math.Numerals.{lt_of_le_of_ne}
use Rattle.std.proofs.lemmas.List.Elements.{recursion_from_All}
use Rattle.mh_grammar.proofs.Lists.{contains_cases, contains_here, contains_there, contains_none, recursion-append}
use Rattle.mh_grammar.specs.declared.types.Grammar.{Grammar}
use Rattle.mh_grammar.specs.Plain.{plain_of}
use Rattle.mh_items_kernels.specs.KernelTypes.{Automaton}
use Rattle.mh_items_kernels.specs.Automaton.{IsAutomaton, kernel_at}
use Rattle.mh_tables_core.specs.Table.{TableData}
use Rattle.mh_tables_core.specs.Halting.{HaltingFacts}
use Rattle.mh_tables_core.specs.Run.{Ending, VerdictOf, Accepted, Overshot, Rejected, initial}
use Rattle.mh_tables_core.proofs.RunEnds.{has_verdict}
use Rattle.mh_tables_core.proofs.OneTreeEnding.{one_verdict}
use Rattle.mh_tables_core.proofs.RefusalIsCut.{verdict_cut}
use Rattle.mh_run.specs.Trace.{reduced_since}
use Rattle.mh_msgfile.specs.declared.messages.MsgSentence.{MsgSentence}
use Rattle.mh_msgfile.specs.declared.messages.Entry.{Entry}
use Rattle.mh_msgfile.specs.declared.messages.MsgFile.{MsgFile}
use Rattle.mh_msgfile.specs.Messages.{IsSentenceOf, AreSentencesOf}
use Rattle.mh_check.specs.Checks.{FailsIn, SoundnessFault, NotRefusedAt, RefusedEarlyAt, Accepts, Overshoots, BreaksSoundness, NotRefused, RefusedEarly, Shared, sentences_of}
use Rattle.mh_tables_core.proofs.RefusingState.{refusing_state_known}
use Rattle.mh_check.proofs.CheckedOnce.{no_refusal_not_rejected}
use Rattle.mh_report.specs.Comments.{comments}
use Rattle.mh_report.proofs.HasFarthestDot.{some_farthest}
use Rattle.mh_report.proofs.CommentParts.{block_fails, some_block}
use Rattle.mh_update.specs.declared.comment.Comment.{Comment}
use Rattle.mh_grammar.specs.Text.{Text}
use Rattle.mh_update.specs.Updates.{IsComment, AreComments, updated, IsUpdated, FirstUnfit}

module _ (t : TableData) where
  -- ---- The fault is unique.

  -- A sentence that is refused at its last token does not break soundness.
  never : (x : MsgSentence) (f : SoundnessFault) (s : ℕ) → FailsIn t x s → BreaksSoundness t [] x f → ⊥
  never x f s fails (NotRefused how none verdict) = no_refusal_not_rejected how (length x.tokens - 1) s none (one_verdict t x.start x.tokens how (Rejected (length x.tokens - 1) s) verdict fails.verdict)
  never x f s fails (RefusedEarly at r lt verdict) =
      let same : Rejected at r ≡ Rejected (length x.tokens - 1) s = one_verdict t x.start x.tokens (Rejected at r) (Rejected (length x.tokens - 1) s) verdict fails.verdict in
      let place : at ≡ length x.tokens - 1 = cc in omega arith
  never x f s fails (Shared y r c in_y in_x) = contains_none y c

  breaks_once : (x : MsgSentence) (f g : SoundnessFault) → BreaksSoundness t [] x f → BreaksSoundness t [] x g → f ≡ g
  breaks_once x f g (NotRefused how none verdict) (NotRefused how' none' verdict') = ap (NotRefusedAt x.line) (one_verdict t x.start x.tokens how how' verdict verdict')
  breaks_once x f g (NotRefused how none verdict) (RefusedEarly at s lt verdict') = absurd (no_refusal_not_rejected how at s none (one_verdict t x.start x.tokens how (Rejected at s) verdict verdict'))
  breaks_once x f g (NotRefused how none verdict) (Shared y s c in_y in_x) = absurd (contains_none y c)
  breaks_once x f g (RefusedEarly at s lt verdict) (NotRefused how none verdict') = absurd (no_refusal_not_rejected how at s none (one_verdict t x.start x.tokens how (Rejected at s) verdict' verdict))
  breaks_once x f g (RefusedEarly at s lt verdict) (RefusedEarly at' s' lt' verdict') =
      let same : Rejected at s ≡ Rejected at' s' = one_verdict t x.start x.tokens (Rejected at s) (Rejected at' s') verdict verdict' in cc
  breaks_once x f g (RefusedEarly at s lt verdict) (Shared y s' c in_y in_x) = absurd (contains_none y c)
  breaks_once x f g (Shared y s c in_y in_x) more = absurd (contains_none y c)

  abbrev AllFail : List MsgSentence → Type 0
  AllFail xs = (y : MsgSentence) → Contains xs y → (s : ℕ) × FailsIn t y s

  first_once : (a : List MsgSentence) (x : MsgSentence) (b c : List MsgSentence) (y : MsgSentence) (d : List MsgSentence) (f g : SoundnessFault) → a ++ x ∷ b ≡ c ++ y ∷ d → AllFail a → AllFail c → BreaksSoundness t [] x f → BreaksSoundness t [] y g → f ≡ g
  first_once [] x b [] y d f g is p q u w = let same : x ≡ y = cc in breaks_once y f g (subst (λ (z : MsgSentence). BreaksSoundness t [] z f) same u) w
  first_once [] x b (z ∷ c) y d f g is p q u w =
      let same : x ≡ z = cc in
      let fails = q z (contains_here z c) in absurd (never z f fails.0 fails.1 (subst (λ (z : MsgSentence). BreaksSoundness t [] z f) same u))
  first_once (z ∷ a) x b [] y d f g is p q u w =
      let same : y ≡ z = cc in
      let fails = p z (contains_here z a) in absurd (never z g fails.0 fails.1 (subst (λ (z : MsgSentence). BreaksSoundness t [] z g) same w))
  first_once (z ∷ a) x b (v ∷ c) y d f g is p q u w =
      let rest : a ++ x ∷ b ≡ c ++ y ∷ d = cc in first_once a x b c y d f g rest (λ i m. p i (contains_there z a i m)) (λ i m. q i (contains_there v c i m)) u w

  pub unfit_once : (xs : List MsgSentence) (f g : SoundnessFault) → FirstUnfit t xs f → FirstUnfit t xs g → f ≡ g
  unfit_once xs f g p q = first_once p.before p.sentence p.later q.before q.sentence q.later f g (sym p.order ∙ q.order) p.fail q.fail p.breaks q.breaks

  -- ---- A file that is brought up to date has no fault.

  module _ (expected : Bool) (g : Grammar) (a : Automaton) where
    fails_at : (before : List MsgSentence) (x : MsgSentence) (later : List MsgSentence) (cs : List Comment) → AreComments expected g a t (before ++ x ∷ later) cs → (s : ℕ) × FailsIn t x s
    fails_at [] x later [] are = absurd are
    fails_at [] x later (c ∷ cs) are = block_fails expected g a t x.start x.tokens c.text are.0.1
    fails_at (y ∷ before) x later [] are = absurd are
    fails_at (y ∷ before) x later (c ∷ cs) are = fails_at before x later cs are.1

    pub updated_fits : (file : MsgFile) (text : Text) (f : SoundnessFault) → IsUpdated expected g a t file text → FirstUnfit t (sentences_of file) f → ⊥
    updated_fits file text f is first =
        let fails = fails_at first.before first.sentence first.later is.0 (subst (λ (xs : List MsgSentence). AreComments expected g a t xs is.0) first.order is.1) in
        never first.sentence f fails.0 fails.1 first.breaks

    -- ---- A file without fault is brought up to date.

    module _ (h : HaltingFacts t) (automaton : IsAutomaton (plain_of g) a) (states : length t.states ≡ length a.kernels) where
      some_comment : (x : MsgSentence) (s : ℕ) → FailsIn t x s → (c : Comment) × IsComment expected g a t x c
      some_comment x s fails =
          let known : s < length t.states = refusing_state_known t h.facts x.start x.tokens (length x.tokens - 1) s fails.sentence.known fails.verdict in
          let best = some_farthest (kernel_at a s).items (automaton.filled s (omega (arith, known, states))) in
          let n = fails.verdict.0 in
          let reduced = reduced_since t n (initial x.start x.tokens) [] in
          let block = some_block expected g a t h x.start x.tokens (comments g (kernel_at a s).items s best.0 reduced)
          (record { state = s; fails = fails; item = best.0; farthest = best.1; reduced = reduced; trace = record { steps = n; ends = fails.verdict.1; reduced = refl }; is = refl }) in
          (record { line = x.line; text = block.0 }, (refl, block.1))

      abbrev Settled : List MsgSentence → Type 0
      Settled xs = ((cs : List Comment) × AreComments expected g a t xs cs) ⊎ ((f : SoundnessFault) × FirstUnfit t xs f)

      here : (x : MsgSentence) (xs : List MsgSentence) (f : SoundnessFault) → BreaksSoundness t [] x f → Settled (x ∷ xs)
      here x xs f breaks = inr (f, record { before = []; sentence = x; later = xs; order = refl; fail = λ y c. absurd (contains_none y c); breaks = breaks })

      behind_one : (x : MsgSentence) (xs : List MsgSentence) (s : ℕ) → FailsIn t x s → Settled xs → Settled (x ∷ xs)
      behind_one x xs s fails (inl (cs, are)) = let c = some_comment x s fails in inl (c.0 ∷ cs, (c.1, are))
      behind_one x xs s fails (inr (f, first)) =
          inr (
            f,
            record {
              before = x ∷ first.before;
              sentence = first.sentence;
              later = first.later;
              order = ap (λ (l : List MsgSentence). x ∷ l) first.order;
              fail = λ y c. elim (contains_cases x first.before y c) [
                | inl e ↦ (s, subst (λ (z : MsgSentence). FailsIn t z s) e fails)
                | inr i ↦ first.fail y i
              ];
              breaks = first.breaks;
            },
          )

      refused : (x : MsgSentence) (xs : List MsgSentence) (at s : ℕ) → IsSentenceOf (length t.grammar.starts) t.grammar.tokens x → VerdictOf t x.start x.tokens (Rejected at s) → Settled xs → Settled (x ∷ xs)
      refused x xs at s of verdict more =
          elim (cases_eq (at + 1) (length x.tokens)) [
            | inl last ↦ (
                let place : at ≡ length x.tokens - 1 = omega arith in
                behind_one x xs s (record {
                  sentence = record { known = of.start; tokens = recursion_from_All (λ z. z < t.grammar.tokens) x.tokens of.known };
                  some_token = omega arith;
                  verdict = subst (λ (k : ℕ). VerdictOf t x.start x.tokens (Rejected k s)) place verdict;
                }) more)
            | inr other ↦ (
                let within : at < length x.tokens = (verdict_cut t x.start x.tokens at s verdict).0 in
                here x xs (RefusedEarlyAt x.line at) (RefusedEarly at s (lt_of_le_of_ne (omega arith) other) verdict))
          ]

      by_verdict : (x : MsgSentence) (xs : List MsgSentence) (how : Ending) → IsSentenceOf (length t.grammar.starts) t.grammar.tokens x → VerdictOf t x.start x.tokens how → Settled xs → Settled (x ∷ xs)
      by_verdict x xs (Accepted read) of verdict more = here x xs (NotRefusedAt x.line (Accepted read)) (NotRefused (Accepted read) (Accepts read) verdict)
      by_verdict x xs (Overshot state) of verdict more = here x xs (NotRefusedAt x.line (Overshot state)) (NotRefused (Overshot state) (Overshoots state) verdict)
      by_verdict x xs (Rejected at s) of verdict more = refused x xs at s of verdict more

      settle : (xs : List MsgSentence) → AllByRecursion (IsSentenceOf (length t.grammar.starts) t.grammar.tokens) xs → Settled xs
      settle [] of = inl ([], tt)
      settle (x ∷ xs) of =
          let has = has_verdict t h x.start x.tokens of.0.start (recursion_from_All (λ z. z < t.grammar.tokens) x.tokens of.0.known) in by_verdict x xs has.0 of.0 has.1 (settle xs of.1)

      of_entries : (es : List Entry) → AllByRecursion (λ e. AllByRecursion (IsSentenceOf (length t.grammar.starts) t.grammar.tokens) e.sentences) es → AllByRecursion (IsSentenceOf (length t.grammar.starts) t.grammar.tokens) (flat_map (λ (e : Entry). e.sentences) es)
      of_entries [] of = tt
      of_entries (e ∷ es) of = recursion-append (IsSentenceOf (length t.grammar.starts) t.grammar.tokens) e.sentences (flat_map (λ (e : Entry). e.sentences) es) of.0 (of_entries es of.1)

      pub updated_or_unfit : (file : MsgFile) → AreSentencesOf (length t.grammar.starts) t.grammar.tokens file → ((text : Text) × IsUpdated expected g a t file text) ⊎ ((f : SoundnessFault) × FirstUnfit t (sentences_of file) f)
      updated_or_unfit file of = by (settle (sentences_of file) (of_entries file.entries of))
        where
          by : Settled (sentences_of file) → ((text : Text) × IsUpdated expected g a t file text) ⊎ ((f : SoundnessFault) × FirstUnfit t (sentences_of file) f)
          by (inl (cs, are)) = inl (updated file.lines cs, (cs, are, refl))
          by (inr (f, first)) = inr (f, first)
