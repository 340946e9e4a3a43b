-- Proves that sentences are either sound or have exactly one first fault, and that a file is compiled to exactly one
-- list of messages.
use Rattle.std.proofs.Common.{◌≡◌, ℕ, suc, ◌-◌, ◌<◌, List, [], ◌∷◌, ◌++◌, length, Option, None, Some, refl, sym, ◌∙◌, ap, subst, arith}
use Rattle.std.specs.List.{slice_get}
use Rattle.std.proofs.lemmas.Option.{slice_get_within}
use Rattle.std.proofs.lemmas.List.Elements.{Contains-append_right}
use Rattle.mh_grammar.proofs.Lists.{at_contains, get_left, contains_here, get_after_prefix}
use Rattle.mh_tables_core.specs.Table.{TableData}
use Rattle.mh_tables_core.specs.Run.{Ending, Rejected}
use Rattle.mh_tables_core.proofs.OneTreeEnding.{one_verdict}
use Rattle.mh_msgfile.specs.declared.messages.MsgSentence.{MsgSentence}
use Rattle.mh_msgfile.specs.declared.messages.MsgFile.{MsgFile}
use Rattle.mh_check.specs.Checks.{FailsIn, Sound, SoundnessFault, NotRefusedAt, SharedBy, IsNoRefusal, Accepts, Overshoots, BreaksSoundness, NotRefused, RefusedEarly, Shared, FirstFault}
use Rattle.mh_check.specs.Compiling.{message_at, IsCompiled}
use Rattle.mh_check.proofs.FailsOnce.{fails_once}

-- ---- The order of two positions in one list.

pub data SplitOrder {A : Type 0} (a : List A) (x : A) (b c : List A) (y : A) (d : List A) : Type 0 where
  Same : a ≡ c → x ≡ y → SplitOrder a x b c y d
  Before : (m : List A) → c ≡ a ++ x ∷ m → SplitOrder a x b c y d
  Behind : (m : List A) → a ≡ c ++ y ∷ m → SplitOrder a x b c y d

stand_on : {A : Type 0} (z w : A) (a : List A) (x : A) (b c : List A) (y : A) (d : List A) → z ≡ w → SplitOrder a x b c y d → SplitOrder (z ∷ a) x b (w ∷ c) y d
stand_on z w a x b c y d first (Same is same) = Same (λ i. first i ∷ is i) same
stand_on z w a x b c y d first (Before m is) = Before m (λ i. sym first i ∷ is i)
stand_on z w a x b c y d first (Behind m is) = Behind m (λ i. first i ∷ is i)

stand : {A : Type 0} (a : List A) (x : A) (b c : List A) (y : A) (d : List A) → a ++ x ∷ b ≡ c ++ y ∷ d → SplitOrder a x b c y d
stand [] x b [] y d is = Same refl (cc)
stand [] x b (w ∷ c) y d is = Before c (let first : x ≡ w = cc in λ i. sym first i ∷ c)
stand (z ∷ a) x b [] y d is = Behind a (let first : z ≡ y = cc in λ i. first i ∷ a)
stand (z ∷ a) x b (w ∷ c) y d is =
    let first : z ≡ w = cc in
    let rest : a ++ x ∷ b ≡ c ++ y ∷ d = cc in stand_on z w a x b c y d first (stand a x b c y d rest)

pub no_refusal_not_rejected : (how : Ending) (at s : ℕ) → IsNoRefusal how → how ≡ Rejected at s → ⊥
no_refusal_not_rejected how at s (Accepts read) is = cc
no_refusal_not_rejected how at s (Overshoots state) is = cc

module _ (t : TableData) where
  never_sound : (a m : List MsgSentence) (x : MsgSentence) (f : SoundnessFault) → Sound t (a ++ x ∷ m) → BreaksSoundness t a x f → ⊥
  never_sound a m x f sound (NotRefused how none verdict) =
      let fails = sound.each x (Contains-append_right a (x ∷ m) x (contains_here x m)) in
      no_refusal_not_rejected how (length x.tokens - 1) fails.0 none (one_verdict t x.start x.tokens how (Rejected (length x.tokens - 1) fails.0) verdict fails.1.verdict)
  never_sound a m x f sound (RefusedEarly at s lt verdict) =
      let fails = sound.each x (Contains-append_right a (x ∷ m) x (contains_here x m)) in
      let same : Rejected at s ≡ Rejected (length x.tokens - 1) fails.0 = one_verdict t x.start x.tokens (Rejected at s) (Rejected (length x.tokens - 1) fails.0) verdict fails.1.verdict in
      let place : at ≡ length x.tokens - 1 = cc in omega arith
  never_sound a m x f sound (Shared y s c in_y in_x) =
      let at = at_contains a y c in
      let same : at.0 ≡ length a = sound.distinct at.0 (length a) s y x (get_left a (x ∷ m) at.0 y at.1) (get_after_prefix a x m) in_y in_x in
      let within : at.0 < length a = slice_get_within a at.0 y at.1 in omega arith

  breaks_once : (a : List MsgSentence) (x : MsgSentence) (f g : SoundnessFault) → Sound t a → BreaksSoundness t a x f → BreaksSoundness t a x g → f ≡ g
  breaks_once a x f g sound (NotRefused how none verdict) (NotRefused how' none' verdict') = ap (NotRefusedAt x.line) (one_verdict t x.start x.tokens how how' verdict verdict')
  breaks_once a x f g sound (NotRefused how none verdict) (RefusedEarly at s lt verdict') = absurd (no_refusal_not_rejected how at s none (one_verdict t x.start x.tokens how (Rejected at s) verdict verdict'))
  breaks_once a x f g sound (NotRefused how none verdict) (Shared y s c in_y in_x) = absurd (no_refusal_not_rejected how (length x.tokens - 1) s none (one_verdict t x.start x.tokens how (Rejected (length x.tokens - 1) s) verdict in_x.verdict))
  breaks_once a x f g sound (RefusedEarly at s lt verdict) (NotRefused how none verdict') = absurd (no_refusal_not_rejected how at s none (one_verdict t x.start x.tokens how (Rejected at s) verdict' verdict))
  breaks_once a x f g sound (RefusedEarly at s lt verdict) (RefusedEarly at' s' lt' verdict') =
      let same : Rejected at s ≡ Rejected at' s' = one_verdict t x.start x.tokens (Rejected at s) (Rejected at' s') verdict verdict' in cc
  breaks_once a x f g sound (RefusedEarly at s lt verdict) (Shared y s' c in_y in_x) =
      let same : Rejected at s ≡ Rejected (length x.tokens - 1) s' = one_verdict t x.start x.tokens (Rejected at s) (Rejected (length x.tokens - 1) s') verdict in_x.verdict in
      let place : at ≡ length x.tokens - 1 = cc in absurd (omega arith)
  breaks_once a x f g sound (Shared y s c in_y in_x) (NotRefused how none verdict) = absurd (no_refusal_not_rejected how (length x.tokens - 1) s none (one_verdict t x.start x.tokens how (Rejected (length x.tokens - 1) s) verdict in_x.verdict))
  breaks_once a x f g sound (Shared y s c in_y in_x) (RefusedEarly at s' lt verdict) =
      let same : Rejected at s' ≡ Rejected (length x.tokens - 1) s = one_verdict t x.start x.tokens (Rejected at s') (Rejected (length x.tokens - 1) s) verdict in_x.verdict in
      let place : at ≡ length x.tokens - 1 = cc in absurd (omega arith)
  breaks_once a x f g sound (Shared y s c in_y in_x) (Shared y' s' c' in_y' in_x') =
      let state : s' ≡ s = fails_once t x s' s in_x' in_x in
      let at = at_contains a y c in
      let at' = at_contains a y' c' in
      let place : at.0 ≡ at'.0 = sound.distinct at.0 at'.0 s y y' at.1 at'.1 in_y (subst (λ (k : ℕ). FailsIn t y' k) state in_y') in
      let both : Some y ≡ Some y' = sym at.1 ∙ ap (slice_get a) place ∙ at'.1 in
      let same : y ≡ y' = cc in λ i. SharedBy (same i).line x.line (sym state i)

  module _ (xs : List MsgSentence) where
    pub fault_once : (f g : SoundnessFault) → FirstFault t xs f → FirstFault t xs g → f ≡ g
    fault_once f g p q = by (stand p.before p.sentence p.later q.before q.sentence q.later (sym p.order ∙ q.order))
      where
        by : SplitOrder p.before p.sentence p.later q.before q.sentence q.later → f ≡ g
        by (Same before sentence) =
            breaks_once q.before q.sentence f g q.sound
            (subst (λ (x : MsgSentence). BreaksSoundness t q.before x f) sentence (subst (λ (a : List MsgSentence). BreaksSoundness t a p.sentence f) before p.breaks)) q.breaks
        by (Before m is) = absurd (never_sound p.before m p.sentence f (subst (Sound t) is q.sound) p.breaks)
        by (Behind m is) = absurd (never_sound q.before m q.sentence g (subst (Sound t) is p.sound) q.breaks)

    pub sound_has_no_fault : (f : SoundnessFault) → Sound t xs → FirstFault t xs f → ⊥
    sound_has_no_fault f sound p = never_sound p.before p.later p.sentence f (subst (Sound t) p.order sound) p.breaks

  -- ---- The list of messages is unique.

  abbrev Message : Type 0
  Message = Option (List ℕ)

  abbrev AreSame : List Message → List Message → Type 0
  AreSame xs ys = (s : ℕ) (m : List ℕ) → (message_at xs s ≡ Some m → message_at ys s ≡ Some m) × (message_at ys s ≡ Some m → message_at xs s ≡ Some m)

  same_one : (x y : Message) → ((m : List ℕ) → (x ≡ Some m → y ≡ Some m) × (y ≡ Some m → x ≡ Some m)) → x ≡ y
  same_one None None same = refl
  same_one None (Some m) same = (same m).1 refl
  same_one (Some m) y same = sym ((same m).0 refl)

  same_lists : (xs ys : List Message) → length xs ≡ length ys → AreSame xs ys → xs ≡ ys
  same_lists [] [] len same = refl
  same_lists [] (y ∷ ys) len same = absurd (omega arith)
  same_lists (x ∷ xs) [] len same = absurd (omega arith)
  same_lists (x ∷ xs) (y ∷ ys) len same =
      let first : x ≡ y = same_one x y (λ m. same 0 m) in
      let rest : xs ≡ ys = same_lists xs ys (omega arith) (λ s m. same (suc s) m) in λ i. first i ∷ rest i

  pub compiled_once : (file : MsgFile) (a b : List Message) → IsCompiled t file a → IsCompiled t file b → a ≡ b
  compiled_once file a b p q = same_lists a b (p.states ∙ sym q.states) (λ s m. ((λ h. (q.messages s m).1 ((p.messages s m).0 h)), (λ h. (p.messages s m).1 ((q.messages s m).0 h))))
