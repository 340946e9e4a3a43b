-- Lemmas on the loop that gives each state the place of the sentence that fails in it.
use Rattle.std.proofs.Common.{◌≡◌, ◌≢◌, ℕ, zero, suc, ◌+◌, ◌-◌, ◌<◌, ◌≤◌, List, [], ◌∷◌, ◌++◌, length, Option, None, Some, set, get_or, replicate, refl, sym, ◌∙◌, ap, subst, arith, inl, inr, append_assoc}
use Rattle.std.specs.List.{slice_get, Contains}
use Rattle.std.proofs.lemmas.Bool.{cases_eq}
use Rattle.std.proofs.Math.Numerals.{lt_of_le_of_ne}
use Rattle.std.proofs.lemmas.List.{map-append, length-set, get_or-set_same, get_or-set_other, get_or-replicate, length-replicate}
use Rattle.std.proofs.lemmas.Option.{slice_get-get_or, get_or_from_slice_get, slice_get_within, slice_get-map}
use Rattle.mh_grammar.proofs.Lists.{get_cases, contains_push, contains_none, contains_last, contains_at, at_contains}
use Rattle.std.proofs.lemmas.List.Elements.{Contains-append_left, recursion_from_All}
use Rattle.mh_tables_core.specs.Table.{TableData}
use Rattle.mh_tables_core.specs.Run.{VerdictOf, Rejected}
use Rattle.mh_msgfile.specs.declared.messages.MsgSentence.{MsgSentence}
use Rattle.mh_check.specs.declared.places.SentencePlace.{SentencePlace}
use Rattle.mh_check.specs.declared.compiling.CheckFault.{CheckFault}
use Rattle.mh_check.specs.declared.compiling.CheckFault.TheVariants as faults
use Rattle.mh_tables_core.specs.Facts.{Facts}
use Rattle.mh_tables_core.proofs.RefusalIsCut.{verdict_cut}
use Rattle.mh_run.specs.Verdicts.{ending_for}
use Rattle.mh_run.specs.declared.outcome.Verdict.{Verdict}
use Rattle.mh_run.specs.declared.outcome.Verdict.TheVariants as verdicts
use Rattle.mh_msgfile.specs.Messages.{IsSentenceOf}
use Rattle.mh_check.specs.Checks.{FailsIn, Sound, SoundnessFault, NotRefusedAt, RefusedEarlyAt, SharedBy, IsNoRefusal, Accepts, Overshoots, BreaksSoundness, NotRefused, RefusedEarly, Shared, FirstFault}
use Rattle.mh_check.specs.Compiling.{ReportsCheckFault}
use Rattle.mh_check.specs.code.Places.{EntrySentence, without_entries, place_of, ArePlaces}
use Rattle.mh_tables_core.proofs.RefusingState.{refusing_state_known}
use Rattle.mh_check.proofs.FailsOnce.{fails_once}

-- If a sentence is in the list with entries, it is in the list without entries.
contains_sentence : (done : List EntrySentence) (x : EntrySentence) → Contains done x → Contains (without_entries done) x.sentence
contains_sentence done x c =
    let at = at_contains done x c in
    contains_at (without_entries done) at.0 x.sentence (slice_get-map (λ (y : EntrySentence). y.sentence) done at.0 ∙ (rw at.1 refl))

-- The sentence y, with its entry.
pub record SentenceWithEntry (done : List EntrySentence) (y : MsgSentence) : Type 0 where
  pub of_item : EntrySentence
  pub sentence_listed : Contains done of_item
  pub is : of_item.sentence ≡ y

item_there : (z : EntrySentence) (done : List EntrySentence) (y : MsgSentence) → SentenceWithEntry done y → SentenceWithEntry (z ∷ done) y
item_there z done y found = record { of_item = found.of_item; sentence_listed = (suc found.sentence_listed.0, omega (arith, found.sentence_listed.1), found.sentence_listed.2); is = found.is }

item_at : (done : List EntrySentence) (k : ℕ) (y : MsgSentence) → slice_get (without_entries done) k ≡ Some y → SentenceWithEntry done y
item_at [] k y is = cc
item_at (z ∷ done) zero y is = record { of_item = z; sentence_listed = (0, omega arith, refl); is = cc }
item_at (z ∷ done) (suc k) y is = item_there z done y (item_at done k y is)

item_of : (done : List EntrySentence) (y : MsgSentence) → Contains (without_entries done) y → SentenceWithEntry done y
item_of done y c = let at = at_contains (without_entries done) y c in item_at done at.0 y at.1

-- ---- If more sentences follow, the first fault is the same.

pub split-append : (xs ys before later : List MsgSentence) (x : MsgSentence) → xs ≡ before ++ x ∷ later → xs ++ ys ≡ before ++ x ∷ (later ++ ys)
split-append xs ys before later x order = ap (λ (l : List MsgSentence). l ++ ys) order ∙ append_assoc before (x ∷ later) ys

pub ReportsCheckFault-weaker : (fault : CheckFault) (P Q : SoundnessFault → Type 0) → ((f : SoundnessFault) → P f → Q f) → ReportsCheckFault fault P → ReportsCheckFault fault Q
ReportsCheckFault-weaker (faults.NotRefused line verdict) P Q more told = more _ told
ReportsCheckFault-weaker (faults.RefusedEarly line at) P Q more told = more _ told
ReportsCheckFault-weaker (faults.SharedState first second state) P Q more told = more _ told
ReportsCheckFault-weaker faults.Memory P Q more told = tt

module _ (t : TableData) where
  -- ---- One more sentence, which fails in a state of its own, keeps the sentences sound.

  sound_more : (xs : List MsgSentence) (x : MsgSentence) (s : ℕ) → Sound t xs → FailsIn t x s → ((y : MsgSentence) → Contains xs y → FailsIn t y s → ⊥) → Sound t (xs ++ x ∷ [])
  sound_more xs x s sound fails free = record {
    each = λ y c. elim (contains_push xs x y c) [ inl d ↦ sound.each y d | inr e ↦ (s, subst (λ (z : MsgSentence). FailsIn t z s) (sym e) fails) ];
    distinct = λ i j r y z at_i at_j in_y in_z. elim (get_cases xs x i y at_i) [
      | inl a ↦ elim (get_cases xs x j z at_j) [
        | inl b ↦ sound.distinct i j r y z a b in_y in_z
        | inr b ↦ absurd (clash i r y z a b.1 in_y in_z)
      ]
      | inr a ↦ elim (get_cases xs x j z at_j) [
        | inl b ↦ absurd (clash j r z y b a.1 in_z in_y)
        | inr b ↦ a.0 ∙ sym b.0
      ]
    ];
  }
    where
      clash : (i r : ℕ) (y z : MsgSentence) → slice_get xs i ≡ Some y → z ≡ x → FailsIn t y r → FailsIn t z r → ⊥
      clash i r y z at last in_y in_z =
          let in_x : FailsIn t x r = subst (λ (u : MsgSentence). FailsIn t u r) last in_z in
          let same : r ≡ s = fails_once t x r s in_x fails in
          free y (contains_at xs i y at) (subst (λ (k : ℕ). FailsIn t y k) same in_y)

  sound_none : Sound t []
  sound_none = record { each = λ x c. absurd (contains_none x c); distinct = λ i j s x y at_i at_j in_x in_y. cc }

  sentences_push : (done : List EntrySentence) (x : EntrySentence) → without_entries (done ++ x ∷ []) ≡ without_entries done ++ x.sentence ∷ []
  sentences_push done x = map-append (λ (y : EntrySentence). y.sentence) done (x ∷ [])

  -- ---- The place of one more sentence.

  pub placed_none : (places : List (Option SentencePlace)) → ((k : ℕ) (d : Option SentencePlace) → k < length places → get_or places k d ≡ None) → ArePlaces t [] places
  placed_none places none = record {
    sound = sound_none;
    found = λ s p at. absurd (never s p at);
    kept = λ x s c. absurd (contains_none x c);
  }
    where
      never : (s : ℕ) (p : SentencePlace) → slice_get places s ≡ Some (Some p) → ⊥
      never s p at = let is : get_or places s None ≡ Some p = get_or_from_slice_get places s (Some p) None at in let empty : get_or places s None ≡ None = none s None (slice_get_within places s (Some p) at) in cc

  module _ (done : List EntrySentence) (x : EntrySentence) (s : ℕ) (places : List (Option SentencePlace)) (placed : ArePlaces t done places) (fails : FailsIn t x.sentence s) (within : s < length places) where
    here : slice_get (set places s (Some (place_of x))) s ≡ Some (Some (place_of x))
    here =
        let long : s < length (set places s (Some (place_of x))) = omega (arith, length-set places s (Some (place_of x))) in
        slice_get-get_or (set places s (Some (place_of x))) s None long ∙ ap Some (get_or-set_same places s (Some (place_of x)) None within)

    there : (r : ℕ) (o : Option SentencePlace) → r ≢ s → slice_get (set places s (Some (place_of x))) r ≡ Some o → slice_get places r ≡ Some o
    there r o other is =
        let long : r < length places = omega (arith, slice_get_within (set places s (Some (place_of x))) r o is, length-set places s (Some (place_of x))) in
        slice_get-get_or places r o long ∙ ap Some (sym (get_or-set_other places s r (Some (place_of x)) o other) ∙ get_or_from_slice_get (set places s (Some (place_of x))) r o o is)

    there_too : (r : ℕ) (o : Option SentencePlace) → r ≢ s → slice_get places r ≡ Some o → slice_get (set places s (Some (place_of x))) r ≡ Some o
    there_too r o other is =
        let long : r < length (set places s (Some (place_of x))) = omega (arith, slice_get_within places r o is, length-set places s (Some (place_of x))) in
        slice_get-get_or (set places s (Some (place_of x))) r o long ∙ ap Some (get_or-set_other places s r (Some (place_of x)) o other ∙ get_or_from_slice_get places r o o is)

    free : slice_get places s ≡ Some None → (y : MsgSentence) → Contains (without_entries done) y → FailsIn t y s → ⊥
    free empty y c in_y =
        let at = item_of done y c in
        let kept = placed.kept at.of_item s at.sentence_listed (subst (λ (u : MsgSentence). FailsIn t u s) (sym at.is) in_y) in
        not_both (slice_get places s) (place_of at.of_item) empty kept
      where
        not_both : (o : Option (Option SentencePlace)) (p : SentencePlace) → o ≡ Some None → o ≡ Some (Some p) → ⊥
        not_both o p a b = cc

    pub placed_more : slice_get places s ≡ Some None → ArePlaces t (done ++ x ∷ []) (set places s (Some (place_of x)))
    placed_more empty = record {
      sound = subst (Sound t) (sym (sentences_push done x)) (sound_more (without_entries done) x.sentence s placed.sound fails (free empty));
      found = λ r p at. elim (cases_eq r s) [
        | inl same ↦ (let is : slice_get (set places s (Some (place_of x))) s ≡ Some (Some p) = subst (λ (k : ℕ). slice_get (set places s (Some (place_of x))) k ≡ Some (Some p)) same at in
            (x, contains_last done x, subst (λ (k : ℕ). FailsIn t x.sentence k) (sym same) fails, (let both : Some (Some p) ≡ Some (Some (place_of x)) = sym is ∙ here in cc)))
        | inr other ↦ (let old = placed.found r p (there r (Some p) other at) in (old.0, Contains-append_left done (x ∷ []) old.0 old.1, old.2, old.3))
      ];
      kept = λ y r c in_y. elim (contains_push done x y c) [
        | inl d ↦ elim (cases_eq r s) [
          | inl same ↦ absurd (free empty y.sentence (contains_sentence done y d) (subst (λ (k : ℕ). FailsIn t y.sentence k) same in_y))
          | inr other ↦ there_too r (Some (place_of y)) other (placed.kept y r d in_y)
        ]
        | inr e ↦ (let in_x : FailsIn t x.sentence r = subst (λ (u : EntrySentence). FailsIn t u.sentence r) e in_y in
            let same : r ≡ s = fails_once t x.sentence r s in_x fails in
            subst (λ (k : ℕ). slice_get (set places s (Some (place_of x))) k ≡ Some (Some (place_of y))) (sym same) (subst (λ (u : EntrySentence). slice_get (set places s (Some (place_of x))) s ≡ Some (Some (place_of u))) (sym e) here))
      ];
    }

    -- If the state already has a place, two sentences share the state.
    pub shares : (p : SentencePlace) → slice_get places s ≡ Some (Some p) → FirstFault t (without_entries (done ++ x ∷ [])) (SharedBy p.line x.sentence.line s)
    shares p at =
        let old = placed.found s p at in
        let line : old.0.sentence.line ≡ p.line = sym (ap (λ (q : SentencePlace). q.line) old.3) in
        subst (λ (k : ℕ). FirstFault t (without_entries (done ++ x ∷ [])) (SharedBy k x.sentence.line s)) line (record {
          before = without_entries done;
          sentence = x.sentence;
          later = [];
          order = sentences_push done x;
          sound = placed.sound;
          breaks = Shared old.0.sentence s (contains_sentence done old.0 old.1) old.2 fails;
        })

  pub placed_replicate : (n : ℕ) (places : List (Option SentencePlace)) → places ≡ replicate n None → ArePlaces t [] places
  placed_replicate n places is =
      subst (ArePlaces t []) (sym is) (placed_none (replicate n None) (λ k d lt. get_or-replicate n k None d (omega (arith, lt, length-replicate {A = Option SentencePlace} n None))))

  -- A sentence that breaks soundness after sound sentences is the first fault.
  pub breaks : (done : List EntrySentence) (x : EntrySentence) (places : List (Option SentencePlace)) (f : SoundnessFault) → ArePlaces t done places → BreaksSoundness t (without_entries done) x.sentence f → FirstFault t (without_entries (done ++ x ∷ [])) f
  breaks done x places f placed is = record { before = without_entries done; sentence = x.sentence; later = []; order = sentences_push done x; sound = placed.sound; breaks = is }

  -- ---- More sentences do not change the first fault.

  pub first_more : (xs ys : List MsgSentence) (f : SoundnessFault) → FirstFault t xs f → FirstFault t (xs ++ ys) f
  first_more xs ys f first =
      let order = split-append xs ys first.before first.later first.sentence first.order in
      record { before = first.before; sentence = first.sentence; later = first.later ++ ys; order = order; sound = first.sound; breaks = first.breaks }

  pub fault_more : (done more : List EntrySentence) (fault : CheckFault) → ReportsCheckFault fault (FirstFault t (without_entries done)) → ReportsCheckFault fault (FirstFault t (without_entries (done ++ more)))
  fault_more done more fault told =
      ReportsCheckFault-weaker fault (FirstFault t (without_entries done)) (FirstFault t (without_entries (done ++ more)))
      (λ f first. subst (λ (l : List MsgSentence). FirstFault t l f) (sym (map-append (λ (y : EntrySentence). y.sentence) done more)) (first_more (without_entries done) (without_entries more) f first)) told

-- ---- The verdicts of the code.

module _ (t : TableData) (x : MsgSentence) (ts : List ℕ) (same : ts ≡ x.tokens) where
  -- The code's verdict on the sentence is the ending of its run.
  pub verdict_is : (v w : Verdict) → v ≡ w → VerdictOf t x.start ts (ending_for v) → VerdictOf t x.start x.tokens (ending_for w)
  verdict_is v w is verdict = subst (λ (u : Verdict). VerdictOf t x.start x.tokens (ending_for u)) is (subst (λ (l : List ℕ). VerdictOf t x.start l (ending_for v)) same verdict)

  pub fails_by : (v : Verdict) (at s : ℕ) → IsSentenceOf (length t.grammar.starts) t.grammar.tokens x → v ≡ verdicts.Reject at s → at + 1 ≡ length ts → VerdictOf t x.start ts (ending_for v) → FailsIn t x s
  fails_by v at s of is last verdict =
      let place : at ≡ length x.tokens - 1 = omega (arith, last, ap length same) in
      record {
        sentence = record { known = of.start; tokens = recursion_from_All (λ z. z < t.grammar.tokens) x.tokens of.known };
        some_token = omega (arith, last, ap length same);
        verdict = subst (λ (k : ℕ). VerdictOf t x.start x.tokens (Rejected k s)) place (verdict_is v (verdicts.Reject at s) is verdict);
      }

  pub known_by : Facts t → (v : Verdict) (at s : ℕ) → IsSentenceOf (length t.grammar.starts) t.grammar.tokens x → v ≡ verdicts.Reject at s → VerdictOf t x.start ts (ending_for v) → s < length t.states
  known_by f v at s of is verdict = refusing_state_known t f x.start x.tokens at s of.start (verdict_is v (verdicts.Reject at s) is verdict)

  pub early_by : (v : Verdict) (at s : ℕ) → v ≡ verdicts.Reject at s → (at + 1 ≡ length ts → ⊥) → VerdictOf t x.start ts (ending_for v) → (earlier : List MsgSentence) → BreaksSoundness t earlier x (RefusedEarlyAt x.line at)
  early_by v at s is other verdict earlier =
      let here = verdict_is v (verdicts.Reject at s) is verdict in
      let within : at < length x.tokens = (verdict_cut t x.start x.tokens at s here).0 in
      let apart : at + 1 ≢ length x.tokens = λ e. other (e ∙ sym (ap length same)) in
      let le : at + 1 ≤ length x.tokens = omega (arith, within) in
      RefusedEarly at s (lt_of_le_of_ne le apart) here

  pub accepted_by : (v : Verdict) (read : ℕ) → v ≡ verdicts.Accept read → VerdictOf t x.start ts (ending_for v) → (earlier : List MsgSentence) → BreaksSoundness t earlier x (NotRefusedAt x.line (ending_for v))
  accepted_by v read is verdict earlier =
      NotRefused (ending_for v) (subst (λ (u : Verdict). IsNoRefusal (ending_for u)) (sym is) (Accepts read)) (verdict_is v v refl verdict)

  pub overshot_by : (v : Verdict) (state : ℕ) → v ≡ verdicts.Overshoot state → VerdictOf t x.start ts (ending_for v) → (earlier : List MsgSentence) → BreaksSoundness t earlier x (NotRefusedAt x.line (ending_for v))
  overshot_by v state is verdict earlier =
      NotRefused (ending_for v) (subst (λ (u : Verdict). IsNoRefusal (ending_for u)) (sym is) (Overshoots state)) (verdict_is v v refl verdict)

-- The value that is read at an index within the list of places is the element at this index.
pub at_place : (places : List (Option SentencePlace)) (s : ℕ) (o r : Option SentencePlace) → r ≡ get_or places s r → s < length places → r ≡ o → slice_get places s ≡ Some o
at_place places s o r is lt same = slice_get-get_or places s r lt ∙ ap Some (sym is ∙ same)
