-- Proves that all bytes have lexemes up to the end or the first fault, and that there are no more lexemes than bytes.
use Rattle.std.proofs.Common.{◌≡◌, ℕ, zero, suc, ◌-◌, ◌<◌, ◌≤◌, ◌&&◌, Bool, true, false, cond, List, [], ◌∷◌, ◌++◌, length, drop, take, Option, Some, None, refl, sym, ap, subst, ◌∙◌, arith, length-drop, length-append}
use Rattle.std.specs.Prelude.{nat_lt}
use Rattle.std.proofs.lemmas.Bool.Decides.{nat_tests}
use Rattle.mh_lex.specs.declared.code.Delimiter.{Delimiter}
use Rattle.mh_lex.specs.declared.code.Delimiter.TheVariants.{Comment, Brace, Bracket, Header, Angle, Slash}
use Rattle.mh_lex.specs.declared.code.CodeStep.{CodeStep}
use Rattle.mh_lex.specs.declared.code.CodeStep.TheVariants.{Closes, Passes, Nests, Remark, Stuck}
use Rattle.mh_lex.specs.declared.kinds.Kind.{Kind}
use Rattle.mh_lex.specs.declared.kinds.Lexeme.{Lexeme}
use Rattle.mh_lex.specs.declared.kinds.LexemeStart.{LexemeStart}
use Rattle.mh_lex.specs.declared.kinds.LexemeStart.TheVariants.{Ended, Short, Long, Fault}
use Rattle.mh_lex_bytes.specs.Bytes.{byte_at, has, is_at_end, is_word_start, is_word_byte, is_blank, is_mark}
use Rattle.mh_lex.specs.LexemeLengths.{word_rest, string_rest, literal, quoted_opening, quoted_id, quoted_rest}
use Rattle.mh_lex.specs.CodeSteps.{step_past, begins_comment, nests_in, step_over_byte, step_over_one, step_inside, closer_length, has_remarks, step}
use Rattle.mh_lex.specs.LexemeStarts.{lexeme_start, percent_start, slash_start, string_start, keyword_of}
use Rattle.mh_lex_bytes.specs.Keywords.{is_keyword}
use Rattle.mh_lex.specs.Bodies.{Body}
use Rattle.mh_lex.specs.Bodies.Body.{closes, passes, nests, remark}
use Rattle.mh_lex.specs.Lexing.{Scanned, LexesFrom, Lexes, lexeme_between_rests, percents_left}
use Rattle.mh_lex.specs.Lexing.Scanned.{short, long}
use Rattle.mh_lex.specs.Lexing.LexesFrom.{ended, trailer, taken, fault}
use Rattle.mh_lex.proofs.CodeLevels.{each_end, Body-passes, Body-nests, Body-remark, Body-stuck, Body-unique}
use Rattle.mh_lex.proofs.LexesUnique.{Scanned-long, Scanned-fault}

-- A step that closes or passes over bytes has a positive length.
record Moves (f : CodeStep) : Type 0 where
  over_end : (n : ℕ) → f ≡ Closes n → 0 < n
  over_item : (n : ℕ) → f ≡ Passes n → 0 < n

moves_cond : {x y : CodeStep} (b : Bool) → (b ≡ true → Moves x) → Moves y → Moves (cond b x y)
moves_cond true f g = f refl
moves_cond false f g = g

moves_closes : {m : ℕ} → 0 < m → Moves (Closes m)
moves_closes h = record { over_end = λ n e. cc_less e h; over_item = λ n e. absurd (cc) }
  where
    cc_less : {m n : ℕ} → Closes m ≡ Closes n → 0 < m → 0 < n
    cc_less {m} {n} e h = let same : m ≡ n = cc in subst (λ k. 0 < k) same h

moves_passes : {m : ℕ} → 0 < m → Moves (Passes m)
moves_passes h = record { over_end = λ n e. absurd (cc); over_item = λ n e. cc_less e h }
  where
    cc_less : {m n : ℕ} → Passes m ≡ Passes n → 0 < m → 0 < n
    cc_less {m} {n} e h = let same : m ≡ n = cc in subst (λ k. 0 < k) same h

moves_nests : Moves Nests
moves_nests = record { over_end = λ n e. absurd (cc); over_item = λ n e. absurd (cc) }

moves_remark : Moves Remark
moves_remark = record { over_end = λ n e. absurd (cc); over_item = λ n e. absurd (cc) }

moves_stuck : Moves Stuck
moves_stuck = record { over_end = λ n e. absurd (cc); over_item = λ n e. absurd (cc) }

moves_opened : (opening : ℕ) (o : Option ℕ) → 0 < opening → Moves (step_past opening o)
moves_opened opening None h = moves_stuck
moves_opened opening (Some n) h = moves_passes (omega arith)

more_than : (n : ℕ) → nat_lt 0 n ≡ true → 0 < n
more_than n h = grind (arith, nat_tests)

word_more : (s : List ℕ) → is_word_start (byte_at s 0) ≡ true → 0 < word_rest s
word_more [] h = absurd (cc)
word_more (b ∷ bs) h = let byte : is_word_byte b ≡ true = rw h refl in rw byte (omega arith)

moves_single : (e : Delimiter) (s : List ℕ) → Moves (step_over_byte e s)
moves_single e s = moves_cond (is_at_end s) (λ _. moves_stuck) (moves_cond (nests_in e s) (λ _. moves_nests) (moves_passes (omega arith)))

moves_item : (e : Delimiter) (s : List ℕ) → Moves (step_over_one e s)
unfolding step_over_one
moves_item e s = moves_cond (has s 0 34) (λ _. moves_opened 1 (string_rest false (drop 1 s)) (omega arith))
    (moves_cond (nat_lt 0 (literal s)) (λ h. moves_passes (more_than (literal s) h))
    (moves_cond (is_word_start (byte_at s 0)) (λ h. moves_passes (word_more s h))
    (moves_cond (nat_lt 0 (quoted_opening s)) (λ h. moves_opened (quoted_opening s) (quoted_rest (quoted_id (quoted_opening s) s) (drop (quoted_opening s) s)) (more_than (quoted_opening s) h))
    (moves_single e s))))

moves_plain : (e : Delimiter) (s : List ℕ) → Moves (step_inside e s)
moves_plain Comment s = moves_item Comment s
moves_plain Brace s = moves_item Brace s
moves_plain Bracket s = moves_item Bracket s
moves_plain Header s = moves_item Header s
moves_plain Angle s = moves_cond (has s 0 45 && has s 1 62) (λ _. moves_passes (omega arith)) (moves_single Angle s)
moves_plain Slash s = moves_single Slash s

moves_step : (e : Delimiter) (s : List ℕ) → Moves (step e s)
unfolding step
moves_step e s = moves_cond (nat_lt 0 (closer_length e s)) (λ h. moves_closes (more_than (closer_length e s) h))
    (moves_cond (has_remarks e && begins_comment s) (λ _. moves_remark) (moves_plain e s))

step_nil : (e : Delimiter) → step e [] ≡ Stuck
unfolding step step_over_one literal quoted_opening
step_nil e = each_end (λ e. step e [] ≡ Stuck) refl refl refl refl refl refl e

-- The code is either closed somewhere or not closed at all.
data Closing (e : Delimiter) (s : List ℕ) : Type 0 where
  closed : (rest : List ℕ) → Body e s rest → length rest < length s → Closing e s
  open_still : ((rest : List ℕ) → Body e s rest → ⊥) → Closing e s

module _ (e : Delimiter) (b : ℕ) (bs : List ℕ) where
  shorter : (n : ℕ) → 0 < n → length (drop n (b ∷ bs)) ≤ length bs
  shorter n h = omega (arith, length-drop n (b ∷ bs))

  passes_closing : (n : ℕ) → step e (b ∷ bs) ≡ Passes n → 0 < n → Closing e (drop n (b ∷ bs)) → Closing e (b ∷ bs)
  passes_closing n q h (closed rest c l) = closed rest (passes q c) (let k = shorter n h in omega arith)
  passes_closing n q h (open_still c) = open_still (λ rest d. c rest (Body-passes q d))

  nests_outer : (mid : List ℕ) → step e (b ∷ bs) ≡ Nests → Body e (drop 1 (b ∷ bs)) mid → length mid ≤ length bs → Closing e mid → Closing e (b ∷ bs)
  nests_outer mid q c k (closed rest d l) = closed rest (nests q c d) (omega arith)
  nests_outer mid q c k (open_still d) = open_still (λ rest a. let x = Body-nests q a in d rest (subst (λ m. Body e m rest) (Body-unique c x.1) x.2))

  nests_closing : (k : ℕ) → length bs ≤ k → ((s : List ℕ) → length s ≤ k → Closing e s) → step e (b ∷ bs) ≡ Nests → Closing e (drop 1 (b ∷ bs)) → Closing e (b ∷ bs)
  nests_closing k less later q (closed mid c l) =
      let short_mid : length mid ≤ length bs = (let one = shorter 1 (omega arith) in omega arith) in nests_outer mid q c short_mid (later mid (omega arith))
  nests_closing k less later q (open_still c) = open_still (λ rest a. let x = Body-nests q a in c x.0 x.1)

  remark_outer : (mid : List ℕ) → step e (b ∷ bs) ≡ Remark → Body Comment (drop 2 (b ∷ bs)) mid → length mid ≤ length bs → Closing e mid → Closing e (b ∷ bs)
  remark_outer mid q c k (closed rest d l) = closed rest (remark q c d) (omega arith)
  remark_outer mid q c k (open_still d) = open_still (λ rest a. let x = Body-remark q a in d rest (subst (λ m. Body e m rest) (Body-unique c x.1) x.2))

  remark_closing : (k : ℕ) → length bs ≤ k → ((s : List ℕ) → length s ≤ k → Closing e s) → step e (b ∷ bs) ≡ Remark → Closing Comment (drop 2 (b ∷ bs)) → Closing e (b ∷ bs)
  remark_closing k less later q (closed mid c l) =
      let short_mid : length mid ≤ length bs = (let two = shorter 2 (omega arith) in omega arith) in remark_outer mid q c short_mid (later mid (omega arith))
  remark_closing k less later q (open_still c) = open_still (λ rest a. let x = Body-remark q a in c x.0 x.1)

  step_closing : (k : ℕ) → length bs ≤ k → ((d : Delimiter) (s : List ℕ) → length s ≤ k → Closing d s) → (f : CodeStep) → step e (b ∷ bs) ≡ f → Closing e (b ∷ bs)
  step_closing k less later (Closes n) q = closed (drop n (b ∷ bs)) (closes q refl) (let l = shorter n ((moves_step e (b ∷ bs)).over_end n q) in omega arith)
  step_closing k less later (Passes n) q =
      let h = (moves_step e (b ∷ bs)).over_item n q in let l = shorter n h in passes_closing n q h (later e (drop n (b ∷ bs)) (omega arith))
  step_closing k less later Nests q = let l = shorter 1 (omega arith) in nests_closing k less (later e) q (later e (drop 1 (b ∷ bs)) (omega arith))
  step_closing k less later Remark q = let l = shorter 2 (omega arith) in remark_closing k less (later e) q (later Comment (drop 2 (b ∷ bs)) (omega arith))
  step_closing k less later Stuck q = open_still (λ rest a. Body-stuck q a)

closing_of : (k : ℕ) (e : Delimiter) (s : List ℕ) → length s ≤ k → Closing e s
closing_of k e [] h = open_still (λ rest a. Body-stuck (step_nil e) a)
closing_of zero e (b ∷ bs) h = absurd (omega arith)
closing_of (suc k) e (b ∷ bs) h = step_closing e b bs k (omega arith) (closing_of k) (step e (b ∷ bs)) refl

-- A whole lexeme, blank or line comment has a positive length.
record HasBytes (f : LexemeStart) : Type 0 where
  some : (what : Option Kind) (n : ℕ) → f ≡ Short what n → 0 < n

some_cond : {x y : LexemeStart} (b : Bool) → (b ≡ true → HasBytes x) → HasBytes y → HasBytes (cond b x y)
some_cond true f g = f refl
some_cond false f g = g

some_short : {what : Option Kind} {m : ℕ} → 0 < m → HasBytes (Short what m)
some_short {what} {m} h = record { some = λ k n e. let same : m ≡ n = cc in subst (λ i. 0 < i) same h }

some_long : {what : Option Kind} {d : Delimiter} {m : ℕ} → HasBytes (Long what d m)
some_long = record { some = λ k n e. absurd (cc) }

some_ended : HasBytes Ended
some_ended = record { some = λ k n e. absurd (cc) }

some_fault : HasBytes Fault
some_fault = record { some = λ k n e. absurd (cc) }

some_string : (o : Option ℕ) → HasBytes (string_start o)
some_string None = some_fault
some_string (Some m) = some_short (omega arith)

some_keyword : (s : List ℕ) → HasBytes (keyword_of s)
unfolding keyword_of
some_keyword s = some_cond (is_keyword (take (word_rest s) s)) (λ _. some_short (omega arith)) some_fault

some_percent : (s : List ℕ) → HasBytes (percent_start s)
unfolding percent_start
some_percent s = some_cond (has s 1 37) (λ _. some_short (omega arith)) (some_cond (has s 1 123) (λ _. some_long)
    (some_cond (has s 1 91 && has s 2 64) (λ _. some_long) (some_keyword (drop 1 s))))

some_slash : (s : List ℕ) → HasBytes (slash_start s)
unfolding slash_start
some_slash s = some_cond (has s 1 42) (λ _. some_long) (some_cond (has s 1 47) (λ _. some_short (omega arith)) some_fault)

some_front : (s : List ℕ) → HasBytes (lexeme_start s)
unfolding lexeme_start
some_front s = some_cond (is_at_end s) (λ _. some_ended)
    (some_cond (is_blank (byte_at s 0)) (λ _. some_short (omega arith))
    (some_cond (is_word_start (byte_at s 0)) (λ h. some_short (word_more s h))
    (some_cond (begins_comment s) (λ _. some_long)
    (some_cond (is_mark (byte_at s 0)) (λ _. some_short (omega arith))
    (some_cond (has s 0 37) (λ _. some_percent s)
    (some_cond (has s 0 47) (λ _. some_slash s)
    (some_cond (has s 0 34) (λ _. some_string (string_rest false (drop 1 s)))
    (some_cond (has s 0 123) (λ _. some_long)
    (some_cond (has s 0 60) (λ _. some_long)
    (some_cond (has s 0 91 && has s 1 64) (λ _. some_long) some_fault))))))))))

front_nil : lexeme_start [] ≡ Ended
unfolding lexeme_start
front_nil = refl

-- The bytes have some lexemes, with or without a fault.
abbrev Outcome : ℕ → ℕ → List ℕ → Type 0
Outcome total left s = (ls : List Lexeme) × (f : Option ℕ) × LexesFrom total left s ls f

go_on : (total left : ℕ) (s rest : List ℕ) (what : Option Kind) → Scanned s what rest → Outcome total (percents_left what left) rest → Outcome total (suc left) s
go_on total left s rest what t o = (lexeme_between_rests total s what rest ++ o.0, o.1, taken t o.2 refl)

module _ (total left : ℕ) (b : ℕ) (bs : List ℕ) (k : ℕ) (less : length bs ≤ k) (later : (left : ℕ) (s : List ℕ) → length s ≤ k → Outcome total left s) where
  long_outcome : (what : Option Kind) (e : Delimiter) (n : ℕ) → lexeme_start (b ∷ bs) ≡ Long what e n → Closing e (drop n (b ∷ bs)) → Outcome total (suc left) (b ∷ bs)
  long_outcome what e n q (closed rest c l) =
      let size = length-drop n (b ∷ bs) in go_on total left (b ∷ bs) rest what (long q c) (later (percents_left what left) rest (omega arith))
  long_outcome what e n q (open_still c) = ([], Some (total - length (b ∷ bs)), fault (λ d. cc) (λ other rest t. c rest (Scanned-long q t).1))

  front_outcome : (f : LexemeStart) → lexeme_start (b ∷ bs) ≡ f → Outcome total (suc left) (b ∷ bs)
  front_outcome Ended q = ([], None, ended q)
  front_outcome (Short what n) q =
      let h = (some_front (b ∷ bs)).some what n q in let size = length-drop n (b ∷ bs) in
      go_on total left (b ∷ bs) (drop n (b ∷ bs)) what (short q refl) (later (percents_left what left) (drop n (b ∷ bs)) (omega arith))
  front_outcome (Long what e n) q = long_outcome what e n q (closing_of (length (drop n (b ∷ bs))) e (drop n (b ∷ bs)) (omega arith))
  front_outcome Fault q = ([], Some (total - length (b ∷ bs)), fault (λ d. cc) (λ other rest t. Scanned-fault q t))

outcome_of : (k total left : ℕ) (s : List ℕ) → length s ≤ k → Outcome total left s
outcome_of k total zero s h = ([], None, trailer)
outcome_of k total (suc left) [] h = ([], None, ended front_nil)
outcome_of zero total (suc left) (b ∷ bs) h = absurd (omega arith)
outcome_of (suc k) total (suc left) (b ∷ bs) h = front_outcome total left b bs k (omega arith) (outcome_of k total) (lexeme_start (b ∷ bs)) refl

pub lexes_always : (bytes : List ℕ) → (ls : List Lexeme) × (f : Option ℕ) × Lexes bytes ls f
lexes_always bytes = outcome_of (length bytes) (length bytes) 2 bytes (omega arith)

-- Proves that there are no more lexemes than bytes.

some_byte : (e : Delimiter) (s : List ℕ) (f : CodeStep) → step e s ≡ f → (f ≡ Stuck → ⊥) → 0 < length s
some_byte e [] f q h = absurd (h (sym q ∙ step_nil e))
some_byte e (b ∷ bs) f q h = omega arith

body_less : (e : Delimiter) (s rest : List ℕ) → Body e s rest → length rest < length s
body_less e s rest (closes {n = n} q r) =
    omega (arith, some_byte e s (Closes n) q (λ d. cc), (moves_step e s).over_end n q, length-drop n s, ap length r)
body_less e s rest (passes {n = n} q b) = omega (arith, body_less e (drop n s) rest b, length-drop n s)
body_less e s rest (nests {mid = mid} q b c) = omega (arith, body_less e (drop 1 s) mid b, body_less e mid rest c, length-drop 1 s)
body_less e s rest (remark {mid = mid} q b c) = omega (arith, body_less Comment (drop 2 s) mid b, body_less e mid rest c, length-drop 2 s)

some_front_byte : (s : List ℕ) (f : LexemeStart) → lexeme_start s ≡ f → (f ≡ Ended → ⊥) → 0 < length s
some_front_byte [] f q h = absurd (h (sym q ∙ front_nil))
some_front_byte (b ∷ bs) f q h = omega arith

taken_less : (s rest : List ℕ) (what : Option Kind) → Scanned s what rest → length rest < length s
taken_less s rest what (short {n = n} q r) =
    omega (arith, some_front_byte s (Short what n) q (λ d. cc), (some_front s).some what n q, length-drop n s, ap length r)
taken_less s rest what (long {e = e} {n = n} q b) = omega (arith, body_less e (drop n s) rest b, length-drop n s)

length_kept : (total : ℕ) (s rest : List ℕ) (what : Option Kind) → length (lexeme_between_rests total s what rest) ≤ 1
length_kept total s rest None = omega arith
length_kept total s rest (Some k) = omega arith

lexes_few_from : (total left : ℕ) (s : List ℕ) (ls : List Lexeme) (f : Option ℕ) → LexesFrom total left s ls f → length ls ≤ length s
lexes_few_from total left s ls f (ended q) = omega arith
lexes_few_from total left s ls f trailer = omega arith
lexes_few_from total left s ls f (taken {left = n} {rest = rest} {what = what} {ls = more} t l q) =
    omega (arith, lexes_few_from total (percents_left what n) rest more f l, taken_less s rest what t, length_kept total s rest what, ap length q, length-append (lexeme_between_rests total s what rest) more)
lexes_few_from total left s ls f (fault d h) = omega arith

pub lexes_few : (bytes : List ℕ) (ls : List Lexeme) (f : Option ℕ) → Lexes bytes ls f → length ls ≤ length bytes
lexes_few bytes ls f l = lexes_few_from (length bytes) 2 bytes ls f l
