-- The loop invariant of answering lines: which lines were read and answered, and how many more the mode may request.
use Rattle.std.proofs.Common.{◌≡◌, ◌⊎◌, inl, inr, ◌<◌, ◌≤◌, ◌+◌, ℕ, zero, suc, true, false, List, [], ◌∷◌, ◌++◌, length, take, Option, None, Some, refl, sym, ◌∙◌, ap, ap₂, subst, arith, append_assoc, length-append}
use Rattle.std.proofs.lemmas.List.{append-nil}
use Rattle.std.proofs.KnownBytes.{Appends-nil}
use Rattle.std.specs.Prelude.{Ok, Err, Bool}
use Rattle.std.specs.Io.KnownBytes.{Appends, Keeps, IsAtEnd}
use Rattle.mh_outside.specs.Lines.{HasNoLF, TakesLine, LosesBytes, after_line}
use Rattle.mh_outside.proofs.Consumes.{Appends-append}
use Rattle.mh_grammar.specs.Text.{Text}
use Rattle.mh_top_drive.specs.InputLines.{lines_of_input, lines_within_limits, are_within_limits, input_after_lines}
use Rattle.mh_top_drive.specs.ModeBehavior.{AnswersAll, AreAskedLines, ModeEnd, ModeBehavior, asked_lines, input_left, max_lines, requested_lines}
use Rattle.mh_top_drive.specs.Limits.{line_limit}
use Rattle.mh_top_drive.specs.ModeRuns.{AreFirstLines, IsCompleteRun, LeavesInput, HasAnswered, TookLines, TookPartOfNext}
use Rattle.mh_top_drive.specs.code.ModeCalls.{ModeRan, AllLinesAreAnswered, EndIsWritten, LineIsAnswered, LinesAreAnswered, NoLineIsLeft, TookLine}
use Rattle.mh_top_drive.specs.declared.driving.Asks.{Asks}
use Rattle.mh_top_drive.specs.declared.driving.Asks.TheVariants.{NoLine, FirstLine, EachLine}
use Rattle.mh_top_drive.specs.declared.stop.Cause.{Cause}
use Rattle.mh_top_drive.specs.declared.stop.Cause.TheVariants.{LongInput}
use Rattle.mh_top_drive.specs.declared.stop.Stop.{Stop}
use Rattle.mh_top_drive.specs.declared.stop.Stop.TheVariants.{Halted, ShelfFailed, InputFailed, WriteFailed, OutOfMemory}
use Rattle.mh_top_drive.proofs.FirstLine.{lines_of_input-line, lines_of_input-open, lines_of_input-last, lines_within_limits-line, are_within_limits-line, lines_within_limits-long, are_within_limits-long}

module _ {Plan : Type 0} (behavior : ModeBehavior Plan) where
  -- ---- The input.

  -- The lines were the first of the input, `now` is the rest of the input, and the mode may request up to m more lines.
  pub record GotSome (asks : Asks) (m : ℕ) (input now : Text) (lines : List Text) : Type 0 where
    pub at : now ≡ input_after_lines (length lines) input
    pub first : asked_lines asks input ≡ lines ++ lines_within_limits line_limit m (requested_lines asks m (lines_of_input now))
    pub within_limits : are_within_limits line_limit (max_lines asks) (requested_lines asks (max_lines asks) (lines_of_input input)) ≡ are_within_limits line_limit m (requested_lines asks m (lines_of_input now))

  abbrev pub Known : Asks → ℕ → Option Text → Option Text → List Text → Type 0
  Known asks m None now lines = Unit {0}
  Known asks m (Some input) None lines = ⊥
  Known asks m (Some input) (Some now) lines = GotSome asks m input now lines

  pub record Got (asks : Asks) (m : ℕ) (old new : Option Text) (lines : List Text) : Type 0 where
    pub none : asks ≡ NoLine → (m ≡ 0) × (new ≡ old) × (lines ≡ [])
    pub known : Known asks m old new lines

  pub record SoFar (plan : Plan) (m : ℕ) (in0 in1 out0 out1 : Option Text) (next : Plan) : Type 0 where
    pub lines : List Text
    pub text : Text
    pub answers : AnswersAll behavior plan lines text next
    pub on_out : Appends out0 out1 text
    pub got : Got (behavior.asks_of plan) m in0 in1 lines

  known_start : (asks : Asks) (input : Option Text) → Known asks (max_lines asks) input input []
  known_start asks None = tt
  known_start asks (Some input) = record { at = refl; first = refl; within_limits = refl }

  pub started : (plan : Plan) (m : ℕ) (input out : Option Text) → m ≡ max_lines (behavior.asks_of plan) → SoFar plan m input input out out plan
  started plan m input out is = record {
    lines = [];
    text = [];
    answers = (refl, refl);
    on_out = Appends-nil out;
    got = subst (λ (k : ℕ). Got (behavior.asks_of plan) k input input []) (sym is) (record {
      none = λ none. (ap max_lines none, refl, refl);
      known = known_start (behavior.asks_of plan) input;
    });
  }

  -- ---- One more line is read, the first of the rest of the input.

  lines_of_input-first : (now next line : Text) → now ≡ line ++ 10 ∷ next → HasNoLF line → lines_of_input now ≡ line ∷ lines_of_input next
  lines_of_input-first now next line is h = ap lines_of_input is ∙ lines_of_input-line line next h

  last_line : (now next line : Text) → now ≡ line ++ next → next ≡ [] → 0 < length line → HasNoLF line → lines_of_input now ≡ line ∷ lines_of_input next
  last_line now next [] is none some h = absurd (omega arith)
  last_line now next (b ∷ line) is none some h =
      ap lines_of_input is ∙ ap (λ (l : Text). lines_of_input ((b ∷ line) ++ l)) none ∙ ap lines_of_input (append-nil (b ∷ line)) ∙ lines_of_input-last b line h ∙ ap (λ (l : Text). (b ∷ line) ∷ lines_of_input l) (sym none)

  -- The line that was read was the first of the rest of the input.
  taken_first : (now next line : Text) → TakesLine (Some now) (Some next) line → HasNoLF line → lines_of_input now ≡ line ∷ lines_of_input next
  taken_first now next line (inl whole) h = lines_of_input-first now next line (whole ∙ append_assoc line (10 ∷ []) next) h
  taken_first now next line (inr last) h = last_line now next line last.0 last.1 last.2 h

  TakesLine-None : (now line : Text) → TakesLine (Some now) None line → ⊥
  TakesLine-None now line (inl bad) = bad
  TakesLine-None now line (inr bad) = bad.0

  length_more : (lines : List Text) (line : Text) → length (lines ++ line ∷ []) ≡ suc (length lines)
  length_more lines line = omega (arith, length-append lines (line ∷ []))

  -- If the mode may request one more line and the line is short enough, it is the first of the requested lines.
  wanted_line : (asks : Asks) (m : ℕ) (line : Text) (lines : List Text) → (asks ≡ NoLine → ⊥) → length line ≤ line_limit → lines_within_limits line_limit (suc m) (requested_lines asks (suc m) (line ∷ lines)) ≡ line ∷ lines_within_limits line_limit m (requested_lines asks m lines)
  wanted_line NoLine m line lines some le = absurd (some refl)
  wanted_line FirstLine m line lines some le = lines_within_limits-line line_limit m line (take m lines) le
  wanted_line EachLine m line lines some le = lines_within_limits-line line_limit m line lines le

  small_line : (asks : Asks) (m : ℕ) (line : Text) (lines : List Text) → (asks ≡ NoLine → ⊥) → length line ≤ line_limit → are_within_limits line_limit (suc m) (requested_lines asks (suc m) (line ∷ lines)) ≡ are_within_limits line_limit m (requested_lines asks m lines)
  small_line NoLine m line lines some le = absurd (some refl)
  small_line FirstLine m line lines some le = are_within_limits-line line_limit m line (take m lines) le
  small_line EachLine m line lines some le = are_within_limits-line line_limit m line lines le

  -- A mode that may ask for one more line asks for lines.
  asks_some : (asks : Asks) (m k : ℕ) (old new : Option Text) (lines : List Text) → k ≡ suc m → Got asks k old new lines → asks ≡ NoLine → ⊥
  asks_some asks m k old new lines is got none = let zero_is = (got.none none).0 in omega arith

  known_line : (asks : Asks) (m k : ℕ) (in0 in1 in2 : Option Text) (lines : List Text) (line : Text) → k ≡ suc m → (asks ≡ NoLine → ⊥) → Known asks k in0 in1 lines → TookLine in1 in2 line → Known asks m in0 in2 (lines ++ line ∷ [])
  known_line asks m k None in1 in2 lines line is some known took = tt
  known_line asks m k (Some input) None in2 lines line is some known took = absurd known
  known_line asks m k (Some input) (Some now) None lines line is some known took = absurd (TakesLine-None now line took.0)
  known_line asks m k (Some input) (Some now) (Some next) lines line is some known took =
      let front = taken_first now next line took.0 took.1 in
      let next_is : next ≡ after_line now = cc in
      record {
        at = next_is ∙ ap after_line known.at ∙ ap (λ (n : ℕ). input_after_lines n input) (sym (length_more lines line));
        first = known.first ∙ ap₂ (λ (j : ℕ) (l : List Text). lines ++ lines_within_limits line_limit j (requested_lines asks j l)) is front
            ∙ ap (λ (l : List Text). lines ++ l) (wanted_line asks m line (lines_of_input next) some took.2) ∙ sym (append_assoc lines (line ∷ []) (lines_within_limits line_limit m (requested_lines asks m (lines_of_input next))));
        within_limits = known.within_limits ∙ ap₂ (λ (j : ℕ) (l : List Text). are_within_limits line_limit j (requested_lines asks j l)) is front ∙ small_line asks m line (lines_of_input next) some took.2;
      }

  got_line : (asks : Asks) (m k : ℕ) (in0 in1 in2 : Option Text) (lines : List Text) (line : Text) → k ≡ suc m → Got asks k in0 in1 lines → TookLine in1 in2 line → Got asks m in0 in2 (lines ++ line ∷ [])
  got_line asks m k in0 in1 in2 lines line is got took =
      let some = asks_some asks m k in0 in1 lines is got in
      record { none = λ none. absurd (some none); known = known_line asks m k in0 in1 in2 lines line is some got.known took }

  answers_more : (plan mid next : Plan) (lines : List Text) (line text answer : Text) → AnswersAll behavior plan lines text mid → behavior.Answers mid line answer next → AnswersAll behavior plan (lines ++ line ∷ []) (text ++ answer) next
  answers_more plan mid next [] line text answer all is =
      (answer, [], next, subst (λ (p : Plan). behavior.Answers p line answer next) all.1 is, (refl, refl), ap (λ (t : Text). t ++ answer) all.0 ∙ sym (append-nil answer))
  answers_more plan mid next (first ∷ lines) line text answer all is =
      (all.0, all.1 ++ answer, all.2, all.3, answers_more all.2 mid next lines line all.1 answer all.4 is, ap (λ (t : Text). t ++ answer) all.5 ∙ append_assoc all.0 all.1 answer)

  pub one_more : (plan mid next : Plan) (m k : ℕ) (in0 in1 in2 out0 out1 out2 : Option Text) → k ≡ suc m → SoFar plan k in0 in1 out0 out1 mid → LineIsAnswered behavior mid next in1 in2 out1 out2 (Ok true) → SoFar plan m in0 in2 out0 out2 next
  one_more plan mid next m k in0 in1 in2 out0 out1 out2 is so_far ran = record {
    lines = so_far.lines ++ ran.0 ∷ [];
    text = so_far.text ++ ran.1;
    answers = answers_more plan mid next so_far.lines ran.0 so_far.text ran.1 so_far.answers ran.3;
    on_out = Appends-append out0 out1 out2 so_far.text ran.1 so_far.on_out ran.4;
    got = got_line (behavior.asks_of plan) m k in0 in1 in2 so_far.lines ran.0 is so_far.got ran.2;
  }

  -- ---- The lines that were read.

  TookLines-asked : (asks : Asks) (m : ℕ) (old new : Option Text) (lines : List Text) → Got asks m old new lines → TookLines asks old new (length lines)
  TookLines-asked NoLine m old new lines got = (got.none refl).1
  TookLines-asked FirstLine m None new lines got = tt
  TookLines-asked FirstLine m (Some input) None lines got = absurd got.known
  TookLines-asked FirstLine m (Some input) (Some now) lines got = ap Some got.known.at
  TookLines-asked EachLine m None new lines got = tt
  TookLines-asked EachLine m (Some input) None lines got = absurd got.known
  TookLines-asked EachLine m (Some input) (Some now) lines got = ap Some got.known.at

  loses_some : (in1 in2 : Option Text) (Size : ℕ → Type 0) → LosesBytes in1 in2 Size → LosesBytes in1 in2 (λ n. Unit {0})
  loses_some in1 in2 Size loses = (loses.0, loses.1, loses.2, tt)

  took_part : (asks : Asks) (m : ℕ) (in0 in1 in2 : Option Text) (lines : List Text) → (asks ≡ NoLine → ⊥) → Got asks m in0 in1 lines → LosesBytes in1 in2 (λ n. Unit {0}) → TookPartOfNext asks in0 in2 (length lines)
  took_part NoLine m in0 in1 in2 lines some got loses = absurd (some refl)
  took_part FirstLine m None in1 in2 lines some got loses = tt
  took_part FirstLine m (Some input) None in2 lines some got loses = absurd got.known
  took_part FirstLine m (Some input) (Some now) in2 lines some got loses = subst (λ (l : Text). LosesBytes (Some l) in2 (λ n. Unit {0})) got.known.at loses
  took_part EachLine m None in1 in2 lines some got loses = tt
  took_part EachLine m (Some input) None in2 lines some got loses = absurd got.known
  took_part EachLine m (Some input) (Some now) in2 lines some got loses = subst (λ (l : Text). LosesBytes (Some l) in2 (λ n. Unit {0})) got.known.at loses

  are_first : (asks : Asks) (m : ℕ) (old new : Option Text) (lines : List Text) → Got asks m old new lines → AreFirstLines asks old lines
  are_first asks m None new lines got = tt
  are_first asks m (Some input) None lines got = absurd got.known
  are_first asks m (Some input) (Some now) lines got = (_, got.known.first)

  -- None of the requested lines is left to read; `whole` says whether this is for lack of lines or since a limit is
  -- passed.
  abbrev AreNone : Asks → ℕ → Option Text → Bool → Type 0
  AreNone asks m None whole = Unit {0}
  AreNone asks m (Some now) whole = (lines_within_limits line_limit m (requested_lines asks m (lines_of_input now)) ≡ []) × (are_within_limits line_limit m (requested_lines asks m (lines_of_input now)) ≡ whole)

  asks_told : (asks : Asks) (m : ℕ) (old new : Option Text) (lines : List Text) (whole : Bool) → Known asks m old new lines → AreNone asks m new whole → (asks ≡ NoLine → ⊥) → AreAskedLines asks old lines whole
  asks_told NoLine m old new lines whole known none some = absurd (some refl)
  asks_told FirstLine m None new lines whole known none some = tt
  asks_told FirstLine m (Some input) None lines whole known none some = absurd known
  asks_told FirstLine m (Some input) (Some now) lines whole known none some = (known.first ∙ ap (λ (l : List Text). lines ++ l) none.0 ∙ append-nil lines, known.within_limits ∙ none.1)
  asks_told EachLine m None new lines whole known none some = tt
  asks_told EachLine m (Some input) None lines whole known none some = absurd known
  asks_told EachLine m (Some input) (Some now) lines whole known none some = (known.first ∙ ap (λ (l : List Text). lines ++ l) none.0 ∙ append-nil lines, known.within_limits ∙ none.1)

  wanted_nil : (asks : Asks) (m : ℕ) → requested_lines asks m [] ≡ []
  wanted_nil NoLine m = refl
  wanted_nil FirstLine zero = refl
  wanted_nil FirstLine (suc m) = refl
  wanted_nil EachLine m = refl

  none_at_end : (asks : Asks) (m : ℕ) (input : Option Text) → IsAtEnd input → AreNone asks m input true
  none_at_end asks m None end = tt
  none_at_end asks m (Some now) end =
      let none : requested_lines asks m (lines_of_input now) ≡ [] = ap (λ (l : Text). requested_lines asks m (lines_of_input l)) end ∙ wanted_nil asks m in
      (ap (lines_within_limits line_limit m) none, ap (are_within_limits line_limit m) none)

  got_kept : (asks : Asks) (m : ℕ) (in0 in1 in2 : Option Text) (lines : List Text) → (asks ≡ NoLine → ⊥) → Got asks m in0 in1 lines → Keeps in1 in2 → Got asks m in0 in2 lines
  got_kept asks m None in1 in2 lines some got keeps = record { none = λ none. absurd (some none); known = tt }
  got_kept asks m (Some input) None in2 lines some got keeps = absurd got.known
  got_kept asks m (Some input) (Some now) None lines some got keeps = absurd keeps
  got_kept asks m (Some input) (Some now) (Some next) lines some got keeps = record {
    none = λ none. absurd (some none);
    known = subst (λ (l : Text). GotSome asks m input l lines) (sym keeps) got.known;
  }

  still_appended : (a b c : Option Text) (written : Text) → Appends a b written → Keeps b c → Appends a c written
  still_appended None b c written p keeps = tt
  still_appended (Some a) None c written p keeps = absurd p
  still_appended (Some a) (Some b) None written p keeps = absurd keeps
  still_appended (Some a) (Some b) (Some c) written p keeps = keeps ∙ p

  -- ---- The ways in which reading lines ends.

  module _ (plan next : Plan) (m : ℕ) (in0 in1 out0 out1 : Option Text) (so_far : SoFar plan m in0 in1 out0 out1 next) where
    abbrev asks : Asks
    asks = behavior.asks_of plan

    stands : HasAnswered behavior plan in0 so_far.lines so_far.text next
    stands = record { answers = so_far.answers; first = are_first asks m in0 in1 so_far.lines so_far.got }

    -- The input has ended: all requested lines were answered.
    pub at_end : (in2 out2 : Option Text) → (asks ≡ NoLine → ⊥) → IsAtEnd in1 → Keeps in1 in2 → Keeps out1 out2 → AllLinesAreAnswered behavior plan in0 in2 out0 out2 next
    at_end in2 out2 some end keeps still = record {
      lines = so_far.lines;
      asks = asks_told asks m in0 in1 so_far.lines true so_far.got.known (none_at_end asks m in1 end) some;
      text = so_far.text;
      answers = so_far.answers;
      on_out = still_appended out0 out1 out2 so_far.text so_far.on_out still;
      lines_taken = TookLines-asked asks m in0 in2 so_far.lines (got_kept asks m in0 in1 in2 so_far.lines some so_far.got keeps);
    }

    on_out_nil : (out2 : Option Text) → Keeps out1 out2 → Appends out0 out2 (so_far.text ++ [])
    on_out_nil out2 still = subst (Appends out0 out2) (sym (append-nil so_far.text)) (still_appended out0 out1 out2 so_far.text so_far.on_out still)

    pub failed : (in2 out2 : Option Text) → (asks ≡ NoLine → ⊥) → LosesBytes in1 in2 (λ n. Unit {0}) → Keeps out1 out2 → ModeRan behavior plan in0 in2 out0 out2 (Err InputFailed)
    failed in2 out2 some loses still = record {
      lines = so_far.lines;
      text = so_far.text;
      next = next;
      prefix = [];
      answered = stands;
      at = (refl, took_part asks m in0 in1 in2 so_far.lines some so_far.got loses);
      on_out = on_out_nil out2 still;
    }

    pub gave_up : (in2 out2 : Option Text) → (asks ≡ NoLine → ⊥) → LosesBytes in1 in2 (λ n. Unit {0}) → Keeps out1 out2 → ModeRan behavior plan in0 in2 out0 out2 (Err OutOfMemory)
    gave_up in2 out2 some loses still = record {
      lines = so_far.lines;
      text = so_far.text;
      next = next;
      prefix = [];
      answered = stands;
      at = inl (refl, inl (took_part asks m in0 in1 in2 so_far.lines some so_far.got loses));
      on_out = on_out_nil out2 still;
    }

    left_false : (input : Option Text) (lines : List Text) → None ≡ input_left input false lines
    left_false None lines = refl
    left_false (Some input) lines = refl

    pub too_much : (in2 out2 : Option Text) (cause : Cause) → cause ≡ LongInput → (asks ≡ NoLine → ⊥) → AreNone asks m in1 false → Keeps out1 out2 → ModeRan behavior plan in0 in2 out0 out2 (Err (Halted cause))
    too_much in2 out2 cause is some none still = record {
      outcome = record { cause = Some LongInput; out = so_far.text; left = None };
      yields = record {
        lines = so_far.lines;
        complete = false;
        asks = asks_told asks m in0 in1 so_far.lines false so_far.got.known none some;
        text = so_far.text;
        last = next;
        answers = so_far.answers;
        ends = (refl, refl);
        left_is = left_false in0 so_far.lines;
      };
      cause_is = ap Some (sym is);
      on_out = still_appended out0 out1 out2 so_far.text so_far.on_out still;
      left_is = tt;
    }

    -- The mode may request no more lines: all requested lines were answered.
    pub all_taken : m ≡ 0 → (asks ≡ EachLine → ⊥) → AllLinesAreAnswered behavior plan in0 in1 out0 out1 next
    all_taken zero_is other = record {
      lines = so_far.lines;
      asks = taken asks other so_far.lines so_far.got;
      text = so_far.text;
      answers = so_far.answers;
      on_out = so_far.on_out;
      lines_taken = TookLines-asked asks m in0 in1 so_far.lines so_far.got;
    }
      where
        none_zero : (k : ℕ) (input : Option Text) → k ≡ 0 → AreNone FirstLine k input true
        none_zero k None is = tt
        none_zero zero (Some now) is = (refl, refl)
        none_zero (suc k) (Some now) is = absurd (omega arith)

        taken : (a : Asks) → (a ≡ EachLine → ⊥) → (lines : List Text) → Got a m in0 in1 lines → AreAskedLines a in0 lines true
        taken NoLine other lines got = ((got.none refl).2, refl)
        taken FirstLine other lines got = asks_told FirstLine m in0 in1 lines true got.known (none_zero m in1 zero_is) (λ e. absurd (cc))
        taken EachLine other lines got = absurd (other refl)

  pub none_each : (asks : Asks) → asks ≡ NoLine → asks ≡ EachLine → ⊥
  none_each asks none each = let same : NoLine ≡ EachLine = sym none ∙ each in absurd (cc)

  pub first_each : (asks : Asks) → asks ≡ FirstLine → asks ≡ EachLine → ⊥
  first_each asks first each = let same : FirstLine ≡ EachLine = sym first ∙ each in absurd (cc)

  -- ---- A line that cannot be read, or whose answer is not made or not written whole.

  module _ (plan mid : Plan) (m k : ℕ) (is : k ≡ suc m) (in0 in1 in2 out0 out1 out2 : Option Text) (so_far : SoFar plan k in0 in1 out0 out1 mid) where
    some_asked : behavior.asks_of plan ≡ NoLine → ⊥
    some_asked = asks_some (behavior.asks_of plan) m k in0 in1 so_far.lines is so_far.got

    took_more : (line : Text) → TookLine in1 in2 line → TookLines (behavior.asks_of plan) in0 in2 (suc (length so_far.lines))
    took_more line took = subst (TookLines (behavior.asks_of plan) in0 in2) (length_more so_far.lines line) (TookLines-asked (behavior.asks_of plan) m in0 in2 (so_far.lines ++ line ∷ []) (got_line (behavior.asks_of plan) m k in0 in1 in2 so_far.lines line is so_far.got took))

    so_far_stands : HasAnswered behavior plan in0 so_far.lines so_far.text mid
    so_far_stands = record { answers = so_far.answers; first = are_first (behavior.asks_of plan) k in0 in1 so_far.lines so_far.got }

    -- Bytes without a line feed are the beginning of one line.
    opens : (now next got : Text) (n : ℕ) → now ≡ got ++ next → HasNoLF got → length got ≡ suc n → (line : Text) × (lines : List Text) × (lines_of_input now ≡ line ∷ lines) × (n < length line)
    opens now next [] n same h long = absurd (omega arith)
    opens now next (b ∷ got) n same h long = let q = lines_of_input-open b got next h in (q.0, q.1, ap lines_of_input same ∙ q.2, omega (arith, q.3))

    long_wanted : (asks : Asks) (line : Text) (lines : List Text) → (asks ≡ NoLine → ⊥) → line_limit < length line → (lines_within_limits line_limit (suc m) (requested_lines asks (suc m) (line ∷ lines)) ≡ []) × (are_within_limits line_limit (suc m) (requested_lines asks (suc m) (line ∷ lines)) ≡ false)
    long_wanted NoLine line lines some lt = absurd (some refl)
    long_wanted FirstLine line lines some lt = (lines_within_limits-long line_limit (suc m) line (take m lines) lt, are_within_limits-long line_limit (suc m) line (take m lines) lt)
    long_wanted EachLine line lines some lt = (lines_within_limits-long line_limit (suc m) line lines lt, are_within_limits-long line_limit (suc m) line lines lt)

    long_line : (a b : Option Text) → LosesBytes a b (λ n. n ≡ line_limit + 1) → AreNone (behavior.asks_of plan) k a false
    long_line None b loses = tt
    long_line (Some now) None loses = absurd loses.1
    long_line (Some now) (Some next) loses =
        let q = opens now next loses.0 line_limit loses.1 loses.2 (omega (arith, loses.3)) in
        let long = long_wanted (behavior.asks_of plan) q.0 q.1 some_asked q.3 in
        (ap₂ (λ (j : ℕ) (l : List Text). lines_within_limits line_limit j (requested_lines (behavior.asks_of plan) j l)) is q.2 ∙ long.0, ap₂ (λ (j : ℕ) (l : List Text). are_within_limits line_limit j (requested_lines (behavior.asks_of plan) j l)) is q.2 ∙ long.1)

    pub line_stops : (next : Plan) (stop : Stop) → LineIsAnswered behavior mid next in1 in2 out1 out2 (Err stop) → ModeRan behavior plan in0 in2 out0 out2 (Err stop)
    line_stops next (Halted cause) ran = too_much plan mid k in0 in1 out0 out1 so_far in2 out2 cause ran.0 some_asked (long_line in1 in2 ran.1) ran.2
    line_stops next (ShelfFailed name) ran = absurd ran
    line_stops next InputFailed ran = failed plan mid k in0 in1 out0 out1 so_far in2 out2 some_asked ran.0 ran.1
    line_stops next WriteFailed ran = record {
      lines = so_far.lines;
      text = so_far.text;
      next = mid;
      prefix = ran.5.0;
      answered = so_far_stands;
      at = inl (
        record {
          line = ran.0;
          answer = ran.1;
          after = ran.3;
          answers = ran.4;
          first = are_first (behavior.asks_of plan) m in0 in2 (so_far.lines ++ ran.0 ∷ []) (got_line (behavior.asks_of plan) m k in0 in1 in2 so_far.lines ran.0 is so_far.got ran.2);
          is_prefix = ran.5.2;
        },
        took_more ran.0 ran.2,
      );
      on_out = Appends-append out0 out1 out2 so_far.text ran.5.0 so_far.on_out ran.5.1;
    }
    line_stops next OutOfMemory ran = wants ran.0 ran.1
      where
        wants : (LosesBytes in1 in2 (λ n. Unit {0}) ⊎ ((line : Text) × TookLine in1 in2 line)) → Keeps out1 out2 → ModeRan behavior plan in0 in2 out0 out2 (Err OutOfMemory)
        wants (inl loses) still = gave_up plan mid k in0 in1 out0 out1 so_far in2 out2 some_asked loses still
        wants (inr took) still = record {
          lines = so_far.lines;
          text = so_far.text;
          next = mid;
          prefix = [];
          answered = so_far_stands;
          at = inl (refl, inr (inr (took_more took.0 took.1)));
          on_out = on_out_nil plan mid k in0 in1 out0 out1 so_far out2 still;
        }

    pub line_ends : (next : Plan) → LineIsAnswered behavior mid next in1 in2 out1 out2 (Ok false) → AllLinesAreAnswered behavior plan in0 in2 out0 out2 next
    line_ends next ran = subst (AllLinesAreAnswered behavior plan in0 in2 out0 out2) (sym ran.2) (at_end plan mid k in0 in1 out0 out1 so_far in2 out2 some_asked ran.0 ran.1 ran.3)

  -- ---- Reading after the last line that an input may have.

  Keeps-same : (out : Option Text) → Keeps out out
  Keeps-same None = tt
  Keeps-same (Some out) = refl

  module _ (plan next : Plan) (m : ℕ) (last : m ≡ 0) (each : behavior.asks_of plan ≡ EachLine) (in0 in1 in2 out0 out1 : Option Text) (so_far : SoFar plan m in0 in1 out0 out1 next) where
    each_some : behavior.asks_of plan ≡ NoLine → ⊥
    each_some none = let same : EachLine ≡ NoLine = sym each ∙ none in absurd (cc)

    past_line : (now line : Text) (lines : List Text) → lines_of_input now ≡ line ∷ lines → AreNone (behavior.asks_of plan) m (Some now) false
    past_line now line lines is = subst (λ (a : Asks). AreNone a m (Some now) false) (sym each) (subst (λ (k : ℕ). AreNone EachLine k (Some now) false) (sym last) (ap (lines_within_limits line_limit 0) is, ap (are_within_limits line_limit 0) is))

    open_line : (now after got : Text) → now ≡ got ++ after → HasNoLF got → length got ≡ 1 → AreNone (behavior.asks_of plan) m (Some now) false
    open_line now after [] same h long = absurd (omega arith)
    open_line now after (b ∷ got) same h long = let q = lines_of_input-open b got after h in past_line now q.0 q.1 (ap lines_of_input same ∙ q.2)

    past : (a b : Option Text) → LosesBytes a b (λ n. n ≡ 0 + 1) ⊎ ((line : Text) × TakesLine a b line × HasNoLF line) → AreNone (behavior.asks_of plan) m a false
    past None b more = tt
    past (Some now) None (inl loses) = absurd loses.1
    past (Some now) None (inr took) = absurd (TakesLine-None now took.0 took.1)
    past (Some now) (Some after) (inl loses) = open_line now after loses.0 loses.1 loses.2 loses.3
    past (Some now) (Some after) (inr took) = past_line now took.0 (lines_of_input after) (taken_first now after took.0 took.1 took.2)

    pub past_ran : (r : _) → NoLineIsLeft in1 in2 r → LinesAreAnswered behavior plan in0 in2 out0 out1 next r
    past_ran (Ok u) ran = at_end plan next m in0 in1 out0 out1 so_far in2 out1 each_some ran.0 ran.1 (Keeps-same out1)
    past_ran (Err (Halted cause)) ran = too_much plan next m in0 in1 out0 out1 so_far in2 out1 cause ran.0 each_some (past in1 in2 ran.1) (Keeps-same out1)
    past_ran (Err InputFailed) ran = failed plan next m in0 in1 out0 out1 so_far in2 out1 each_some ran (Keeps-same out1)
    past_ran (Err OutOfMemory) ran = gave_up plan next m in0 in1 out0 out1 so_far in2 out1 each_some ran (Keeps-same out1)
    past_ran (Err (ShelfFailed name)) ran = absurd ran
    past_ran (Err WriteFailed) ran = absurd ran

  -- ---- The end of the mode, after the lines.

  left_so : (asks : Asks) (old new : Option Text) (lines : List Text) → AreAskedLines asks old lines true → TookLines asks old new (length lines) → LeavesInput (input_left old true lines) new
  left_so NoLine None new lines asks took = tt
  left_so NoLine (Some input) new lines asks took = took ∙ ap (λ (l : List Text). Some (input_after_lines (length l) input)) (sym asks.0)
  left_so FirstLine None new lines asks took = tt
  left_so FirstLine (Some input) new lines asks took = took
  left_so EachLine None new lines asks took = tt
  left_so EachLine (Some input) new lines asks took = took

  module _ (plan next : Plan) (in0 in1 out0 out1 out2 : Option Text) (all : AllLinesAreAnswered behavior plan in0 in1 out0 out1 next) where
    ended : (cause : Option Cause) (e : ModeEnd) → behavior.EndsWith next e → e.cause ≡ cause → Appends out1 out2 e.out → IsCompleteRun behavior plan in0 in1 out0 out2 cause
    ended cause e ends is on_out = record {
      outcome = record { cause = e.cause; out = all.text ++ e.out; left = input_left in0 true all.lines };
      yields = record { lines = all.lines; complete = true; asks = all.asks; text = all.text; last = next; answers = all.answers; ends = (e, ends, refl, refl); left_is = refl };
      cause_is = is;
      on_out = Appends-append out0 out1 out2 all.text e.out all.on_out on_out;
      left_is = left_so (behavior.asks_of plan) in0 in1 all.lines all.asks all.lines_taken;
    }

    first_all : (asks : Asks) (input : Option Text) (lines : List Text) → AreAskedLines asks input lines true → AreFirstLines asks input lines
    first_all asks None lines is = tt
    first_all NoLine (Some input) lines is = ([], sym (ap (λ (l : List Text). l ++ []) is.0))
    first_all FirstLine (Some input) lines is = ([], is.0 ∙ sym (append-nil lines))
    first_all EachLine (Some input) lines is = ([], is.0 ∙ sym (append-nil lines))

    stands_all : HasAnswered behavior plan in0 all.lines all.text next
    stands_all = record { answers = all.answers; first = first_all (behavior.asks_of plan) in0 all.lines all.asks }

    pub end_ran : (r : _) → EndIsWritten (behavior.EndsWith next) out1 out2 r → ModeRan behavior plan in0 in1 out0 out2 r
    end_ran (Ok u) ran = ended None ran.0 ran.1 ran.2 ran.3
    end_ran (Err (Halted cause)) ran = ended (Some cause) ran.0 ran.1 ran.2 ran.3
    end_ran (Err WriteFailed) ran = record {
      lines = all.lines;
      text = all.text;
      next = next;
      prefix = ran.2.0;
      answered = stands_all;
      at = inr (record { all = all.asks; ending = ran.0; ends = ran.1; is_prefix = ran.2.2 }, all.lines_taken);
      on_out = Appends-append out0 out1 out2 all.text ran.2.0 all.on_out ran.2.1;
    }
    end_ran (Err OutOfMemory) (inl same) = record {
      lines = all.lines;
      text = all.text;
      next = next;
      prefix = [];
      answered = stands_all;
      at = inl (refl, inr (inl all.lines_taken));
      on_out = subst (λ (t : Text). Appends out0 out2 t) (sym (append-nil all.text)) (subst (λ x. Appends out0 x all.text) (sym same) all.on_out);
    }
    end_ran (Err OutOfMemory) (inr ran) = record {
      lines = all.lines;
      text = all.text;
      next = next;
      prefix = ran.2.0;
      answered = stands_all;
      at = inr (record { all = all.asks; ending = ran.0; ends = ran.1; is_prefix = ran.2.2 }, all.lines_taken);
      on_out = Appends-append out0 out1 out2 all.text ran.2.0 all.on_out ran.2.1;
    }
    end_ran (Err (ShelfFailed name)) ran = absurd ran
    end_ran (Err InputFailed) ran = absurd ran
