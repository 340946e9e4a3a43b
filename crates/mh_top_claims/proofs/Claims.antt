-- Proves the claims on a call of the whole program (`MeetsClaims`) from the definition of a run (`Ran`).
use Rattle.std.proofs.Common.{◌≡◌, ◌⊎◌, inl, inr, ℕ, Bool, true, false, List, [], ◌++◌, Option, None, Some, refl, sym, ◌∙◌, ap, subst, arith}
use Rattle.std.proofs.lemmas.List.{append-nil}
use Rattle.std.proofs.KnownBytes.{Appends-nil}
use Rattle.std.specs.Io.KnownBytes.{Appends}
use Rattle.mh_outside.specs.Faults.{HasRisen, HasNotRisen}
use Rattle.mh_outside.specs.Shelf.{Files}
use Rattle.mh_grammar.specs.Text.{Text}
use Rattle.mh_top_drive.specs.StageResults.{Halt}
use Rattle.mh_top_drive.specs.Statuses.{status_of}
use Rattle.mh_top_load.specs.Order.{staged_order}
use Rattle.mh_top_plans.specs.Plan.{Plan, asks_of, plan_behavior}
use Rattle.mh_top_drive.specs.ModeBehavior.{AnswersAll, AreAskedLines, EndsAfterAnswers, Outcome, HasOutcome}
use Rattle.mh_top_claims.specs.Work.{Work, IsWork}
use Rattle.mh_top_drive.specs.ModeRuns.{AreFirstLines, IsPartialRun, ReadFailsAt, WriteFailsAt, LacksMemoryAt, IsEndPrefix, IsAnswerPrefix}
use Rattle.mh_top_claims.specs.Run.{World, Ran, Finished, CannotReadFile, CannotReadInput, CannotWarn, CannotWrite, CannotSay, NoMemory, AfterWarnings, DoneSoFar, Nothing, Warned, Begun, ModeEnded, HasLastLine, OfCause, OfFile, OfInput, OfMemory, DoesWork, LeavesInputAndOut}
use Rattle.mh_top_claims.specs.Claims.{AbsentFileIsReported, AsksLines, Completes, Finishes, IsNextFileAbsent, IsStatusWithoutFault, IsNextFileTooLong, ReadsInputOverLimit, IsOutputPrefix, IsInputOverLimit, IsStatus, MeetsClaims, LongFileIsReported, LongInputIsReported, MisuseHasCause, ReadFaultHasCause, TooBigHasCause, OutOfMemoryKeepsTexts, WriteFaultHasCause, WriteFaultIsReported, WriteFaultStops, WritesOutputPrefix, WritesPrefixOfAnyWork}
use Rattle.mh_top_drive.specs.declared.driving.Asks.{Asks}
use Rattle.mh_top_drive.specs.declared.driving.Asks.TheVariants.{NoLine, FirstLine, EachLine}
use Rattle.mh_top_drive.specs.declared.stop.Cause.{Cause}
use Rattle.mh_top_drive.specs.declared.stop.Cause.TheVariants.{Refused, Misused, Missing, LongFile, LongInput}
use Rattle.mh_top_claims.proofs.CausesOfOutcomes.{AccountsOn, ended, long_gives, misused_says, missing_gives}
use Rattle.mh_top_claims.proofs.WorkUnique.{work_once}

not_both_risen : (a b : ℕ) → HasNotRisen a b → HasRisen a b → ⊥
not_both_risen a b calm rose = omega arith

not_done : (status n : ℕ) → status ≡ n → n ≡ 3 ⊎ n ≡ 4 ⊎ n ≡ 6 → IsStatusWithoutFault status → ⊥
not_done status n is other done = grind arith

known_status : (status : ℕ) (cause : Option Cause) → status ≡ status_of cause → IsStatus status
known_status status None is = inl (inl is)
known_status status (Some (Refused line)) is = inl (inr (inl is))
known_status status (Some (Misused line)) is = inl (inr (inr (inl is)))
known_status status (Some (Missing name)) is = inr (inl is)
known_status status (Some (LongFile name)) is = inl (inr (inr (inr is)))
known_status status (Some LongInput) is = inl (inr (inr (inr is)))

four_not : (cause : Option Cause) → status_of cause ≡ 4 → ⊥
four_not None is = absurd (omega arith)
four_not (Some (Refused line)) is = absurd (omega arith)
four_not (Some (Misused line)) is = absurd (omega arith)
four_not (Some (Missing name)) is = absurd (omega arith)
four_not (Some (LongFile name)) is = absurd (omega arith)
four_not (Some LongInput) is = absurd (omega arith)

-- ---- What the status and the input say of the cause with which the work ended.

module _ (words : List Text) (files : Option Files) (w : Work) (input : Option Text) where
  misuse_cause : (cause : Option Cause) → AccountsOn words files w input cause → status_of cause ≡ 2 → (line : Text) × (staged_order words ≡ Halt (Misused line)) × (cause ≡ Some (Misused line))
  misuse_cause (Some (Misused line)) is two = (line, is, refl)
  misuse_cause None is two = absurd (omega arith)
  misuse_cause (Some (Refused line)) is two = absurd (omega arith)
  misuse_cause (Some (Missing name)) is two = absurd (omega arith)
  misuse_cause (Some (LongFile name)) is two = absurd (omega arith)
  misuse_cause (Some LongInput) is two = absurd (omega arith)

  absent_cause : (cause : Option Cause) → AccountsOn words files w input cause → status_of cause ≡ 3 → IsNextFileAbsent words files
  absent_cause (Some (Missing name)) is three = is
  absent_cause None is three = absurd (omega arith)
  absent_cause (Some (Refused line)) is three = absurd (omega arith)
  absent_cause (Some (Misused line)) is three = absurd (omega arith)
  absent_cause (Some (LongFile name)) is three = absurd (omega arith)
  absent_cause (Some LongInput) is three = absurd (omega arith)

  big_cause : (cause : Option Cause) → AccountsOn words files w input cause → status_of cause ≡ 5 → IsNextFileTooLong words files ⊎ (AsksLines w.plan × IsInputOverLimit (asks_of w.plan) input)
  big_cause (Some (LongFile name)) is five = inl is
  big_cause (Some LongInput) is five = inr is
  big_cause None is five = absurd (omega arith)
  big_cause (Some (Refused line)) is five = absurd (omega arith)
  big_cause (Some (Misused line)) is five = absurd (omega arith)
  big_cause (Some (Missing name)) is five = absurd (omega arith)

-- If the input is over a limit, not all that is asked for can be read.
past_false : (asks : Asks) (input : Text) (lines : List Text) (whole : Bool) → (asks ≡ NoLine → ⊥) → IsInputOverLimit asks (Some input) → AreAskedLines asks (Some input) lines whole → whole ≡ false
past_false NoLine input lines whole some past asks = absurd (some refl)
past_false FirstLine input lines whole some past asks = sym asks.1 ∙ past
past_false EachLine input lines whole some past asks = sym asks.1 ∙ past

past_cause : (plan : Plan) (input : Text) (o : Outcome) → HasOutcome plan_behavior plan (Some input) o → AsksLines plan → IsInputOverLimit (asks_of plan) (Some input) → o.cause ≡ Some LongInput
past_cause plan input o yields some past =
    let cut : yields.complete ≡ false = past_false (asks_of plan) input yields.lines yields.complete some past yields.asks in
    let ends : EndsAfterAnswers plan_behavior false yields.last yields.text o.cause o.out = subst (λ (w : Bool). EndsAfterAnswers plan_behavior w yields.last yields.text o.cause o.out) cut yields.ends in ends.0

-- ---- The text on out.

module _ (plan : Plan) (old new out0 out1 : Option Text) where
  abbrev Part : Type 0
  Part = (text : Text) × Appends out0 out1 text × IsOutputPrefix plan old text

  got_part : IsPartialRun plan_behavior plan old out0 out1 (ReadFailsAt plan_behavior plan old new) → Part
  got_part h = (h.text ++ h.prefix, h.on_out, record { lines = h.lines; answers = h.text; next = h.next; prefix = h.prefix; answered = h.answered; is_prefix = inl h.at.0; text_is = refl })

  cut_part : IsPartialRun plan_behavior plan old out0 out1 (WriteFailsAt plan_behavior plan old new) → Part
  cut_part h = (h.text ++ h.prefix, h.on_out, record { lines = h.lines; answers = h.text; next = h.next; prefix = h.prefix; answered = h.answered; is_prefix = is h.at; text_is = refl })
    where
      is : WriteFailsAt plan_behavior plan old new h.lines h.next h.prefix → (h.prefix ≡ []) ⊎ IsAnswerPrefix plan_behavior plan old h.lines h.next h.prefix ⊎ IsEndPrefix plan_behavior plan old h.lines h.next h.prefix
      is (inl at) = inr (inl at.0)
      is (inr at) = inr (inr at.0)

  want_part : IsPartialRun plan_behavior plan old out0 out1 (LacksMemoryAt plan_behavior plan old new) → Part
  want_part h = (h.text ++ h.prefix, h.on_out, record { lines = h.lines; answers = h.text; next = h.next; prefix = h.prefix; answered = h.answered; is_prefix = is h.at; text_is = refl })
    where
      is : LacksMemoryAt plan_behavior plan old new h.lines h.next h.prefix → (h.prefix ≡ []) ⊎ IsAnswerPrefix plan_behavior plan old h.lines h.next h.prefix ⊎ IsEndPrefix plan_behavior plan old h.lines h.next h.prefix
      is (inl at) = inl at.0
      is (inr at) = inr (inr at.0)

first_all : (asks : Asks) (input : Option Text) (lines : List Text) (whole : Bool) → AreAskedLines asks input lines whole → AreFirstLines asks input lines
first_all asks None lines whole is = tt
first_all NoLine (Some input) lines whole is = ([], sym (ap (λ (l : List Text). l ++ []) is.0))
first_all FirstLine (Some input) lines whole is = ([], is.0 ∙ sym (append-nil lines))
first_all EachLine (Some input) lines whole is = ([], is.0 ∙ sym (append-nil lines))

module _ (plan : Plan) (input : Option Text) (lines : List Text) (text : Text) (last : Plan) (cause : Option Cause) (out : Text) (answers : AnswersAll plan_behavior plan lines text last) where
  all_part : (whole : Bool) → AreAskedLines (asks_of plan) input lines whole → EndsAfterAnswers plan_behavior whole last text cause out → IsOutputPrefix plan input out
  all_part true asks ends = record {
    lines = lines;
    answers = text;
    next = last;
    prefix = ends.0.out;
    answered = record { answers = answers; first = first_all (asks_of plan) input lines true asks };
    is_prefix = inr (inr (record { all = asks; ending = ends.0; ends = ends.1; is_prefix = ([], sym (append-nil ends.0.out)) }));
    text_is = ends.3;
  }
  all_part false asks ends = record {
    lines = lines;
    answers = text;
    next = last;
    prefix = [];
    answered = record { answers = answers; first = first_all (asks_of plan) input lines false asks };
    is_prefix = inl refl;
    text_is = ends.1 ∙ sym (append-nil text);
  }

yields_part : (plan : Plan) (input : Option Text) (o : Outcome) → HasOutcome plan_behavior plan input o → IsOutputPrefix plan input o.out
yields_part plan input o y = all_part plan input y.lines y.text y.last o.cause o.out y.answers y.complete y.asks y.ends

module _ (words : List Text) (b a : World) where
  still_part : LeavesInputAndOut b a → WritesOutputPrefix words b a
  still_part still = inl (subst (λ x. Appends b.out x []) (sym still.out) (Appends-nil b.out))

  behind_part : (At : Work → Type 0) (P : Text → Type 0) → ((w : Work) → At w → (text : Text) × Appends b.out a.out text × IsOutputPrefix w.plan b.left text) → AfterWarnings words b At P → WritesOutputPrefix words b a
  behind_part At P part h = inr (h.work, h.is_asked, part h.work h.at)

  done_part : (P : Text → Type 0) → DoneSoFar words b a P → WritesOutputPrefix words b a
  done_part P (Nothing still at) = still_part still
  done_part P (Warned needs p is still at) = still_part still
  done_part P (Begun h) = behind_part _ P (λ w at. want_part w.plan b.left a.left b.out a.out at) h

  ended_part : (cause : Option Cause) (w : Work) → ModeEnded b a cause w → (text : Text) × Appends b.out a.out text × IsOutputPrefix w.plan b.left text
  ended_part cause w at = (at.outcome.out, at.on_out, yields_part w.plan b.left at.outcome at.yields)

  says_part : (P : Text → Text → Type 0) → HasLastLine words b a P → WritesOutputPrefix words b a
  says_part P (OfCause cause h) = behind_part _ _ (ended_part (Some cause)) h
  says_part P (OfFile front name due still at) = still_part still
  says_part P (OfInput h) = behind_part _ _ (λ w at. got_part w.plan b.left a.left b.out a.out at) h
  says_part P (OfMemory h) = done_part _ h

-- ---- The claims.

module _ (words : List Text) (b a : World) (status : ℕ) where
  abbrev Run : Type 0
  Run = Ran words b a status

  -- If no device had a fault, the call does the work, unless memory runs out.
  pub does_work_without_fault : Run → Completes words b a status
  does_work_without_fault (Finished quiet does) calm = inr does
  does_work_without_fault (CannotReadFile is rose could front name due still at) calm = absurd (not_both_risen b.shelf_faults a.shelf_faults calm.shelf rose)
  does_work_without_fault (CannotReadInput is rose could h) calm = absurd (not_both_risen b.input_faults a.input_faults calm.input rose)
  does_work_without_fault (CannotWarn is rose cut) calm = absurd (not_both_risen b.err_faults a.err_faults calm.err rose)
  does_work_without_fault (CannotWrite is rose input err h) calm = absurd (not_both_risen b.out_faults a.out_faults calm.out rose)
  does_work_without_fault (CannotSay is out rose says) calm = absurd (not_both_risen b.err_faults a.err_faults calm.err rose)
  does_work_without_fault (NoMemory is could input done) calm = inl is

  -- If the status is 0, 1, 2 or 5, no device had a fault, and the work was done.
  pub done_if_status_without_fault : Run → Finishes words b a status
  done_if_status_without_fault (Finished quiet does) done = (quiet, does)
  done_if_status_without_fault (CannotReadFile is rose could front name due still at) done = absurd (not_done status 3 is (inl refl) done)
  done_if_status_without_fault (CannotReadInput is rose could h) done = absurd (not_done status 3 is (inl refl) done)
  done_if_status_without_fault (CannotWarn is rose cut) done = absurd (not_done status 4 is (inr (inl refl)) done)
  done_if_status_without_fault (CannotWrite is rose input err h) done = absurd (not_done status 4 is (inr (inl refl)) done)
  done_if_status_without_fault (CannotSay is out rose says) done = absurd (not_done status 4 is (inr (inl refl)) done)
  done_if_status_without_fault (NoMemory is could input wants) done = absurd (not_done status 6 is (inr (inr refl)) done)

  module _ (does : DoesWork words b a status) where
    accounts : AccountsOn words b.files does.work b.left does.outcome.cause
    accounts = ended words b.files does.work b.left does.outcome does.is_asked does.yields

    status_so : (n : ℕ) → status ≡ n → status_of does.outcome.cause ≡ n
    status_so n is = sym does.status_is ∙ is

    no_warnings : (line : Text) → staged_order words ≡ Halt (Misused line) → does.outcome.cause ≡ Some (Misused line) → Appends b.err a.err line
    no_warnings line on cause =
        subst (λ (t : Text). Appends b.err a.err t) (misused_says words b.files does.work does.outcome line on cause does.is_asked) does.on_err

    misuse_at : status ≡ 2 → (line : Text) × (staged_order words ≡ Halt (Misused line)) × Appends b.err a.err line
    misuse_at two = let p = misuse_cause words b.files does.work b.left does.outcome.cause accounts (status_so 2 two) in (p.0, p.1, no_warnings p.0 p.1 p.2)

    absent_at : status ≡ 3 → IsNextFileAbsent words b.files
    absent_at three = absent_cause words b.files does.work b.left does.outcome.cause accounts (status_so 3 three)

    big_at : status ≡ 5 → IsNextFileTooLong words b.files ⊎ ReadsInputOverLimit words b
    big_at five = big (big_cause words b.files does.work b.left does.outcome.cause accounts (status_so 5 five))
      where
        big : IsNextFileTooLong words b.files ⊎ (AsksLines does.work.plan × IsInputOverLimit (asks_of does.work.plan) b.left) → IsNextFileTooLong words b.files ⊎ ReadsInputOverLimit words b
        big (inl h) = inl h
        big (inr h) = inr (does.work, does.is_asked, h.0, h.1)

    said_absent : (files : Files) → b.files ≡ Some files → IsNextFileAbsent words (Some files) → status ≡ 3
    said_absent files told absent =
        let p = missing_gives words files does.work b.left does.outcome does.yields (subst (λ (x : Option Files). IsWork words x does.work) told does.is_asked) absent in
        does.status_is ∙ ap status_of p.1

    said_long : (files : Files) → b.files ≡ Some files → IsNextFileTooLong words (Some files) → status ≡ 5
    said_long files told long =
        let p = long_gives words files does.work b.left does.outcome does.yields (subst (λ (x : Option Files). IsWork words x does.work) told does.is_asked) long in
        does.status_is ∙ ap status_of p.1

    said_past : (input : Text) → b.left ≡ Some input → AsksLines does.work.plan × IsInputOverLimit (asks_of does.work.plan) (Some input) → status ≡ 5
    said_past input told past =
        let yields : HasOutcome plan_behavior does.work.plan (Some input) does.outcome = subst (λ (x : Option Text). HasOutcome plan_behavior does.work.plan x does.outcome) told does.yields in
        does.status_is ∙ ap status_of (past_cause does.work.plan input does.outcome yields past.0 past.1)

  misuse_claim : Run → MisuseHasCause words b a status
  misuse_claim ran two = let p = done_if_status_without_fault ran (inr (inr (inl two))) in misuse_at p.1 two

  read_claim : Run → ReadFaultHasCause words b a status
  read_claim (Finished quiet does) three = inr (inl (absent_at does three))
  read_claim (CannotReadFile is rose could front name due still at) three = inl (rose, (front, name, due, still, at))
  read_claim (CannotReadInput is rose could h) three = inr (inr (rose, h))
  read_claim (CannotWarn is rose cut) three = absurd (omega arith)
  read_claim (CannotWrite is rose input err h) three = absurd (omega arith)
  read_claim (CannotSay is out rose says) three = absurd (omega arith)
  read_claim (NoMemory is could input done) three = absurd (omega arith)

  absent_claim : Run → AbsentFileIsReported words b a status
  absent_claim ran calm files told absent = absent_or (does_work_without_fault ran calm)
    where
      absent_or : (status ≡ 6) ⊎ DoesWork words b a status → (status ≡ 3) ⊎ (status ≡ 6)
      absent_or (inl six) = inr six
      absent_or (inr does) = inl (said_absent does files told absent)

  write_said_claim : Run → WriteFaultIsReported b a status
  write_said_claim (Finished quiet does) failed = absurd (failed (record { out = quiet.out; err = quiet.err }))
  write_said_claim (CannotReadFile is rose could front name due still at) failed = absurd (failed could)
  write_said_claim (CannotReadInput is rose could h) failed = absurd (failed could)
  write_said_claim (CannotWarn is rose cut) failed = is
  write_said_claim (CannotWrite is rose input err h) failed = is
  write_said_claim (CannotSay is out rose says) failed = is
  write_said_claim (NoMemory is could input done) failed = absurd (failed could)

  write_claim : Run → WriteFaultHasCause b a status
  write_claim (Finished quiet does) four = absurd (four_not does.outcome.cause (status_so does 4 four))
  write_claim (CannotReadFile is rose could front name due still at) four = absurd (omega arith)
  write_claim (CannotReadInput is rose could h) four = absurd (omega arith)
  write_claim (CannotWarn is rose cut) four = inr rose
  write_claim (CannotWrite is rose input err h) four = inl rose
  write_claim (CannotSay is out rose says) four = inr rose
  write_claim (NoMemory is could input done) four = absurd (omega arith)

  stops_claim : Run → WriteFaultStops words b a status
  stops_claim (Finished quiet does) four = absurd (four_not does.outcome.cause (status_so does 4 four))
  stops_claim (CannotReadFile is rose could front name due still at) four = absurd (omega arith)
  stops_claim (CannotReadInput is rose could h) four = absurd (omega arith)
  stops_claim (CannotWarn is rose cut) four = inl cut
  stops_claim (CannotWrite is rose input err h) four = inr (inl h)
  stops_claim (CannotSay is out rose says) four = inr (inr says)
  stops_claim (NoMemory is could input done) four = absurd (omega arith)

  six_not : (cause : Option Cause) → status_of cause ≡ 6 → ⊥
  six_not None is = absurd (omega arith)
  six_not (Some (Refused line)) is = absurd (omega arith)
  six_not (Some (Misused line)) is = absurd (omega arith)
  six_not (Some (Missing name)) is = absurd (omega arith)
  six_not (Some (LongFile name)) is = absurd (omega arith)
  six_not (Some LongInput) is = absurd (omega arith)

  want_claim : Run → OutOfMemoryKeepsTexts words b a status
  want_claim (Finished quiet does) six = absurd (six_not does.outcome.cause (status_so does 6 six))
  want_claim (CannotReadFile is rose could front name due still at) six = absurd (omega arith)
  want_claim (CannotReadInput is rose could h) six = absurd (omega arith)
  want_claim (CannotWarn is rose cut) six = absurd (omega arith)
  want_claim (CannotWrite is rose input err h) six = absurd (omega arith)
  want_claim (CannotSay is out rose says) six = absurd (omega arith)
  want_claim (NoMemory is could input done) six = (input, done)

  big_claim : Run → TooBigHasCause words b a status
  big_claim ran five = let p = done_if_status_without_fault ran (inr (inr (inr five))) in big_at p.1 five

  long_file_claim : Run → LongFileIsReported words b a status
  long_file_claim ran calm files told long = long_or (does_work_without_fault ran calm)
    where
      long_or : (status ≡ 6) ⊎ DoesWork words b a status → (status ≡ 5) ⊎ (status ≡ 6)
      long_or (inl six) = inr six
      long_or (inr does) = inl (said_long does files told long)

  long_input_claim : Run → LongInputIsReported words b a status
  long_input_claim ran calm input told past = past_or (does_work_without_fault ran calm)
    where
      past_or : (status ≡ 6) ⊎ DoesWork words b a status → (status ≡ 5) ⊎ (status ≡ 6)
      past_or (inl six) = inr six
      past_or (inr does) = inl (said_past does input told (past does.work does.is_asked))

  part_claim : Run → WritesOutputPrefix words b a
  part_claim (Finished quiet does) = inr (does.work, does.is_asked, (does.outcome.out, does.on_out, yields_part does.work.plan b.left does.outcome does.yields))
  part_claim (CannotReadFile is rose could front name due still at) = still_part words b a still
  part_claim (CannotReadInput is rose could h) = behind_part words b a _ _ (λ w at. got_part w.plan b.left a.left b.out a.out at) h
  part_claim (CannotWarn is rose cut) = still_part words b a cut.unchanged
  part_claim (CannotWrite is rose input err h) = behind_part words b a _ _ (λ w at. cut_part w.plan b.left a.left b.out a.out at) h
  part_claim (CannotSay is out rose says) = says_part words b a _ says
  part_claim (NoMemory is could input done) = done_part words b a _ done

  each_claim : WritesOutputPrefix words b a → WritesPrefixOfAnyWork words b a
  each_claim (inl none) files told w asked = inl none
  each_claim (inr some) files told w asked =
      let same : some.0 ≡ w = work_once words files some.0 w (subst (λ (x : Option Files). IsWork words x some.0) told some.1) asked in
      inr (some.2.0, some.2.1, subst (λ (x : Work). IsOutputPrefix x.plan b.left some.2.0) same some.2.2)

  status_claim : Run → IsStatus status
  status_claim (Finished quiet does) = known_status status does.outcome.cause does.status_is
  status_claim (CannotReadFile is rose could front name due still at) = inr (inl is)
  status_claim (CannotReadInput is rose could h) = inr (inl is)
  status_claim (CannotWarn is rose cut) = inr (inr (inl is))
  status_claim (CannotWrite is rose input err h) = inr (inr (inl is))
  status_claim (CannotSay is out rose says) = inr (inr (inl is))
  status_claim (NoMemory is could input done) = inr (inr (inr is))

  pub meets_claims : Run → MeetsClaims words b a status
  meets_claims ran = record {
    complete = does_work_without_fault ran;
    finishes = done_if_status_without_fault ran;
    known = status_claim ran;
    misuse = misuse_claim ran;
    read_fault = read_claim ran;
    absent = absent_claim ran;
    write_fault = write_claim ran;
    write_fault_said = write_said_claim ran;
    write_fault_stops = stops_claim ran;
    out_of_memory = want_claim ran;
    too_big = big_claim ran;
    long_file = long_file_claim ran;
    long_input = long_input_claim ran;
    output_prefix = part_claim ran;
    prefix_of_any_work = each_claim (part_claim ran);
  }
