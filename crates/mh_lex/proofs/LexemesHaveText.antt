-- Proves that the bytes of each lexeme are a text of its kind.
use Rattle.std.proofs.Common.{◌≡◌, ℕ, ◌+◌, ◌-◌, ◌==◌, ◌&&◌, Bool, true, false, not, cond, List, [], ◌∷◌, ◌++◌, length, take, drop, Option, Some, None, refl, sym, ap, subst, ◌∙◌, arith, append_assoc, length-append, add-one}
use Rattle.std.specs.List.{AllByRecursion}
use Rattle.std.proofs.lemmas.List.{take-append-drop, drop-drop}
use Rattle.std.proofs.lemmas.Bool.Decides.{Decides-eqb}
use Rattle.std.proofs.lemmas.Bool.{and_parts}
use Rattle.mh_lex.specs.declared.code.Delimiter.{Delimiter}
use Rattle.mh_lex.specs.declared.code.Delimiter.TheVariants as ends
use Rattle.mh_lex.specs.declared.kinds.Kind.{Kind}
use Rattle.mh_lex.specs.declared.kinds.Kind.TheVariants as kinds
use Rattle.mh_lex.specs.declared.kinds.Lexeme.{Lexeme}
use Rattle.mh_lex.specs.declared.kinds.LexemeStart.{LexemeStart}
use Rattle.mh_lex.specs.declared.kinds.LexemeStart.TheVariants.{Ended, Short, Long, Fault}
use Rattle.mh_lex_bytes.specs.Bytes.{byte_at, has, is_at_end, is_word_start, is_word_byte, is_blank, is_mark}
use Rattle.mh_lex.specs.LexemeLengths.{plus_one, word_rest, string_rest}
use Rattle.mh_lex.specs.CodeSteps.{begins_comment}
use Rattle.mh_lex.specs.LexemeStarts.{lexeme_start, percent_start, slash_start, string_start, keyword_of}
use Rattle.mh_lex_bytes.specs.Keywords.{is_keyword}
use Rattle.mh_lex.specs.Bodies.{Body}
use Rattle.mh_lex.specs.Bodies.Body.{closes, passes, nests, remark}
use Rattle.mh_lex.specs.Lexing.{Scanned, LexesFrom, Lexes, lexeme_between_rests}
use Rattle.mh_lex.specs.Lexing.Scanned.{short, long}
use Rattle.mh_lex.specs.Lexing.LexesFrom.{ended, trailer, taken, fault}
use Rattle.mh_lex.specs.LexemeTexts.{LexemeText, is_content, bytes_of, HasText, HasTextOfKind}
use Rattle.mh_lex.specs.LexemeTexts.LexemeText.{word, mark, percents, keyword, quoted}
use Rattle.mh_lex.proofs.LaidOutTexts.{drop_prefix, take_prefix}
use Rattle.mh_lex_bytes.proofs.ByteTests.{first_byte_is, first_two_are, first_three_are}

-- What follows from each branch of a conditional holds.
by_cond : {P : Type 0} {X : Type 0} (b : Bool) (x y z : X) → cond b x y ≡ z → (b ≡ true → x ≡ z → P) → (b ≡ false → y ≡ z → P) → P
by_cond true x y z e f g = f refl e
by_cond false x y z e f g = g refl e

-- Lemmas on words.
pub word_bytes : (s : List ℕ) → AllByRecursion (λ c. is_word_byte c ≡ true) (take (word_rest s) s)
word_bytes [] = tt
word_bytes (b ∷ bs) = by_cond (is_word_byte b) (word_rest bs + 1) 0 (word_rest (b ∷ bs)) refl
    (λ h e. rw (sym e, add-one) (h, word_bytes bs))
    (λ h e. rw (sym e) tt)

word_text : (s : List ℕ) → is_word_start (byte_at s 0) ≡ true → LexemeText kinds.Word (take (word_rest s) s)
word_text [] h = absurd (cc)
word_text (b ∷ bs) h =
    let byte : is_word_byte b ≡ true = rw h refl in
    rw (byte, add-one) (word h (word_bytes bs))

mark_text : (s : List ℕ) → is_mark (byte_at s 0) ≡ true → LexemeText kinds.Mark (take 1 s)
mark_text [] h = absurd (cc)
mark_text (b ∷ bs) h = mark h

percents_text : (s : List ℕ) → has s 0 37 ≡ true → has s 1 37 ≡ true → LexemeText kinds.Percents (take 2 s)
percents_text [] h k = absurd (cc)
percents_text (a ∷ []) h k = absurd (cc)
percents_text (a ∷ b ∷ bs) h k = rw ((Decides-eqb a 37).0 h, (Decides-eqb b 37).0 k) percents

keyword_text : (s : List ℕ) → has s 0 37 ≡ true → is_keyword (take (word_rest (drop 1 s)) (drop 1 s)) ≡ true → LexemeText kinds.Keyword (take (word_rest (drop 1 s) + 1) s)
keyword_text [] h k = absurd (cc)
keyword_text (a ∷ bs) h k = rw (add-one, (Decides-eqb a 37).0 h) (keyword k)

-- Lemmas on strings.
string_longer : (held : Bool) (b : ℕ) (bs : List ℕ) (n : ℕ) → (not held && b == 34) ≡ false → (r : Option ℕ) → string_rest (not held && b == 92) bs ≡ r → plus_one r ≡ Some n →
    ((m : ℕ) → string_rest (not held && b == 92) bs ≡ Some m → (c : List ℕ) × (take m bs ≡ c ++ 34 ∷ []) × (is_content (not held && b == 92) c ≡ true)) →
    (c : List ℕ) × (take n (b ∷ bs) ≡ c ++ 34 ∷ []) × (is_content held c ≡ true)
string_longer held b bs n h None q d later = absurd (cc)
string_longer held b bs n h (Some m) q d later =
    let next : n ≡ m + 1 = cc in
    let x = later m q in
    (b ∷ x.0, rw (next, add-one) (ap (λ k. b ∷ k) x.1), rw h x.2)

pub string_split : (held : Bool) (s : List ℕ) (n : ℕ) → string_rest held s ≡ Some n → (c : List ℕ) × (take n s ≡ c ++ 34 ∷ []) × (is_content held c ≡ true)
string_split held [] n e = absurd (cc)
string_split held (b ∷ bs) n e = by_cond (not held && b == 34) (Some 1) (plus_one (string_rest (not held && b == 92) bs)) (Some n) e
    (λ h d. let one : n ≡ 1 = cc in let two = and_parts (not held) (b == 34) h in ([], rw (one, (Decides-eqb b 34).0 two.1) refl, two.0))
    (λ h d. string_longer held b bs n h (string_rest (not held && b == 92) bs) refl d (λ m q. string_split (not held && b == 92) bs m q))

quoted_text : (s : List ℕ) (n : ℕ) → has s 0 34 ≡ true → string_rest false (drop 1 s) ≡ Some n → LexemeText kinds.Quoted (take (n + 1) s)
quoted_text [] n h e = absurd (cc)
quoted_text (a ∷ bs) n h e =
    let x = string_split false bs n e in
    rw (add-one, (Decides-eqb a 34).0 h) (subst (λ k. LexemeText kinds.Quoted (34 ∷ k)) (sym x.1) (quoted x.0 x.2))

-- The kinds whose lexemes are an opening and code.
abbrev pub holds_code : Kind → Bool
holds_code kinds.Header = true
holds_code kinds.Action = true
holds_code kinds.Attribute = true
holds_code _ = false

-- A whole lexeme at the beginning spells a text of its kind, and its kind has no code.
record Whole (s : List ℕ) (f : LexemeStart) : Type 0 where
  spells : (k : Kind) (n : ℕ) → f ≡ Short (Some k) n → HasText k (take n s)
  kind : (k : Kind) (n : ℕ) → f ≡ Short (Some k) n → holds_code k ≡ false

whole : {s : List ℕ} {own : Kind} {m : ℕ} → holds_code own ≡ false → HasText own (take m s) → Whole s (Short (Some own) m)
whole {s} {own} {m} c h = record {
  spells = λ k n e. let kind : own ≡ k = cc in let size : m ≡ n = cc in subst (λ i. HasText k (take i s)) size (subst (λ i. HasText i (take m s)) kind h);
  kind = λ k n e. let kind : own ≡ k = cc in subst (λ i. holds_code i ≡ false) kind c;
}

whole_cond : {s : List ℕ} {x y : LexemeStart} (b : Bool) → (b ≡ true → Whole s x) → Whole s y → Whole s (cond b x y)
whole_cond true f g = f refl
whole_cond false f g = g

whole_dropped : {s : List ℕ} {m : ℕ} → Whole s (Short None m)
whole_dropped = record { spells = λ k n e. absurd (cc); kind = λ k n e. absurd (cc) }

whole_long : {s : List ℕ} {what : Option Kind} {d : Delimiter} {m : ℕ} → Whole s (Long what d m)
whole_long = record { spells = λ k n e. absurd (cc); kind = λ k n e. absurd (cc) }

whole_ended : {s : List ℕ} → Whole s Ended
whole_ended = record { spells = λ k n e. absurd (cc); kind = λ k n e. absurd (cc) }

whole_fault : {s : List ℕ} → Whole s Fault
whole_fault = record { spells = λ k n e. absurd (cc); kind = λ k n e. absurd (cc) }

whole_string : (s : List ℕ) → has s 0 34 ≡ true → (o : Option ℕ) → string_rest false (drop 1 s) ≡ o → Whole s (string_start o)
whole_string s h None q = whole_fault
whole_string s h (Some m) q = whole refl (quoted_text s m h q)

whole_keyword : (s : List ℕ) → has s 0 37 ≡ true → Whole s (keyword_of (drop 1 s))
unfolding keyword_of
whole_keyword s h = whole_cond (is_keyword (take (word_rest (drop 1 s)) (drop 1 s))) (λ k. whole refl (keyword_text s h k)) whole_fault

whole_percent : (s : List ℕ) → has s 0 37 ≡ true → Whole s (percent_start s)
unfolding percent_start
whole_percent s h = whole_cond (has s 1 37) (λ k. whole refl (percents_text s h k)) (whole_cond (has s 1 123) (λ _. whole_long)
    (whole_cond (has s 1 91 && has s 2 64) (λ _. whole_long) (whole_keyword s h)))

whole_slash : (s : List ℕ) → Whole s (slash_start s)
unfolding slash_start
whole_slash s = whole_cond (has s 1 42) (λ _. whole_long) (whole_cond (has s 1 47) (λ _. whole_dropped) whole_fault)

whole_front : (s : List ℕ) → Whole s (lexeme_start s)
unfolding lexeme_start
whole_front s = whole_cond (is_at_end s) (λ _. whole_ended)
    (whole_cond (is_blank (byte_at s 0)) (λ _. whole_dropped)
    (whole_cond (is_word_start (byte_at s 0)) (λ h. whole refl (word_text s h))
    (whole_cond (begins_comment s) (λ _. whole_long)
    (whole_cond (is_mark (byte_at s 0)) (λ h. whole refl (mark_text s h))
    (whole_cond (has s 0 37) (λ h. whole_percent s h)
    (whole_cond (has s 0 47) (λ _. whole_slash s)
    (whole_cond (has s 0 34) (λ h. whole_string s h (string_rest false (drop 1 s)) refl)
    (whole_cond (has s 0 123) (λ _. whole_long)
    (whole_cond (has s 0 60) (λ _. whole_long)
    (whole_cond (has s 0 91 && has s 1 64) (λ _. whole_long) whole_fault))))))))))

pub short_kind_has_no_code : (s : List ℕ) (k : Kind) (n : ℕ) → lexeme_start s ≡ Short (Some k) n → holds_code k ≡ false
short_kind_has_no_code s k n e = (whole_front s).kind k n e

-- The opening of each kind of code, with its closing delimiter and its length.
pub data Opening : Kind → Delimiter → ℕ → List ℕ → Type 0 where
  action : {s : List ℕ} → s ≡ 123 ∷ drop 1 s → Opening kinds.Action ends.Brace 1 s
  header : {s : List ℕ} → s ≡ 37 ∷ 123 ∷ drop 2 s → Opening kinds.Header ends.Header 2 s
  attribute : {s : List ℕ} → s ≡ 91 ∷ 64 ∷ drop 2 s → Opening kinds.Attribute ends.Bracket 2 s
  own_attribute : {s : List ℕ} → s ≡ 37 ∷ 91 ∷ 64 ∷ drop 3 s → Opening kinds.Attribute ends.Bracket 3 s
  type_text : {s : List ℕ} → Opening kinds.TypeText ends.Angle 1 s

record Opens (s : List ℕ) (f : LexemeStart) : Type 0 where
  opening : (k : Kind) (d : Delimiter) (n : ℕ) → f ≡ Long (Some k) d n → Opening k d n s

opens : {s : List ℕ} {own : Kind} {d : Delimiter} {m : ℕ} → Opening own d m s → Opens s (Long (Some own) d m)
opens {s} {own} {d} {m} o = record {
  opening = λ k c n e. let kind : own ≡ k = cc in let end : d ≡ c = cc in let size : m ≡ n = cc in
      subst (λ i. Opening k c i s) size (subst (λ i. Opening k i m s) end (subst (λ i. Opening i d m s) kind o));
}

opens_cond : {s : List ℕ} {x y : LexemeStart} (b : Bool) → (b ≡ true → Opens s x) → Opens s y → Opens s (cond b x y)
opens_cond true f g = f refl
opens_cond false f g = g

opens_dropped : {s : List ℕ} {d : Delimiter} {m : ℕ} → Opens s (Long None d m)
opens_dropped = record { opening = λ k d n e. absurd (cc) }

opens_short : {s : List ℕ} {what : Option Kind} {m : ℕ} → Opens s (Short what m)
opens_short = record { opening = λ k d n e. absurd (cc) }

opens_ended : {s : List ℕ} → Opens s Ended
opens_ended = record { opening = λ k d n e. absurd (cc) }

opens_fault : {s : List ℕ} → Opens s Fault
opens_fault = record { opening = λ k d n e. absurd (cc) }

opens_string : {s : List ℕ} (o : Option ℕ) → Opens s (string_start o)
opens_string None = opens_fault
opens_string (Some m) = opens_short

opens_keyword : {s : List ℕ} (w : List ℕ) → Opens s (keyword_of w)
unfolding keyword_of
opens_keyword w = opens_cond (is_keyword (take (word_rest w) w)) (λ _. opens_short) opens_fault

opens_percent : (s : List ℕ) → has s 0 37 ≡ true → Opens s (percent_start s)
unfolding percent_start
opens_percent s h = opens_cond (has s 1 37) (λ _. opens_short) (opens_cond (has s 1 123) (λ k. opens (header (first_two_are s 37 123 refl refl h k)))
    (opens_cond (has s 1 91 && has s 2 64) (λ k. let x = and_parts (has s 1 91) (has s 2 64) k in opens (own_attribute (first_three_are s 37 91 64 refl refl refl h x.0 x.1))) (opens_keyword (drop 1 s))))

opens_slash : {s : List ℕ} (t : List ℕ) → Opens s (slash_start t)
unfolding slash_start
opens_slash t = opens_cond (has t 1 42) (λ _. opens_dropped) (opens_cond (has t 1 47) (λ _. opens_short) opens_fault)

opens_front : (s : List ℕ) → Opens s (lexeme_start s)
unfolding lexeme_start
opens_front s = opens_cond (is_at_end s) (λ _. opens_ended)
    (opens_cond (is_blank (byte_at s 0)) (λ _. opens_short)
    (opens_cond (is_word_start (byte_at s 0)) (λ _. opens_short)
    (opens_cond (begins_comment s) (λ _. opens_dropped)
    (opens_cond (is_mark (byte_at s 0)) (λ _. opens_short)
    (opens_cond (has s 0 37) (λ h. opens_percent s h)
    (opens_cond (has s 0 47) (λ _. opens_slash s)
    (opens_cond (has s 0 34) (λ _. opens_string (string_rest false (drop 1 s)))
    (opens_cond (has s 0 123) (λ h. opens (action (first_byte_is s 123 refl h)))
    (opens_cond (has s 0 60) (λ _. opens type_text)
    (opens_cond (has s 0 91 && has s 1 64) (λ h. let x = and_parts (has s 0 91) (has s 1 64) h in opens (attribute (first_two_are s 91 64 refl refl x.0 x.1))) opens_fault))))))))))

pub opening_at : (s : List ℕ) (k : Kind) (d : Delimiter) (n : ℕ) → lexeme_start s ≡ Long (Some k) d n → Opening k d n s
opening_at s k d n e = (opens_front s).opening k d n e

not_looked_into : {k : Kind} {d : Delimiter} {n : ℕ} {s : List ℕ} → Opening k d n s → (t : List ℕ) → HasText k t
not_looked_into (action q) t = tt
not_looked_into (header q) t = tt
not_looked_into (attribute q) t = tt
not_looked_into (own_attribute q) t = tt
not_looked_into type_text t = tt

-- The bytes after code are the bytes from some position on.
Body-drop : {e : Delimiter} {bytes rest : List ℕ} → Body e bytes rest → (n : ℕ) × (rest ≡ drop n bytes)
Body-drop (closes {n = n} s q) = (n, q)
Body-drop {bytes = bytes} (passes {n = n} s b) = let x = Body-drop b in (n + x.0, x.1 ∙ drop-drop x.0 n bytes)
Body-drop {bytes = bytes} (nests {mid = mid} s b c) =
    let x = Body-drop b in let y = Body-drop c in
    (1 + x.0 + y.0, y.1 ∙ ap (λ k. drop y.0 k) (x.1 ∙ drop-drop x.0 1 bytes) ∙ drop-drop y.0 (1 + x.0) bytes)
Body-drop {bytes = bytes} (remark {mid = mid} s b c) =
    let x = Body-drop b in let y = Body-drop c in
    (2 + x.0 + y.0, y.1 ∙ ap (λ k. drop y.0 k) (x.1 ∙ drop-drop x.0 2 bytes) ∙ drop-drop y.0 (2 + x.0) bytes)

-- The text of a lexeme is one of its kind.
abbrev Spells : Option Kind → List ℕ → Type 0
Spells None t = Unit {0}
Spells (Some k) t = HasText k t

front_of : (n : ℕ) (bytes rest : List ℕ) → rest ≡ drop n bytes → bytes ≡ take n bytes ++ rest
front_of n bytes rest e = sym (take-append-drop n bytes) ∙ ap (λ k. take n bytes ++ k) (sym e)

short_text : (bytes : List ℕ) (what : Option Kind) (n : ℕ) → lexeme_start bytes ≡ Short what n → Spells what (take n bytes)
short_text bytes None n s = tt
short_text bytes (Some k) n s = (whole_front bytes).spells k n s

long_text : (bytes : List ℕ) (what : Option Kind) (d : Delimiter) (n : ℕ) → lexeme_start bytes ≡ Long what d n → (t : List ℕ) → Spells what t
long_text bytes None d n s t = tt
long_text bytes (Some k) d n s t = not_looked_into (opening_at bytes k d n s) t

pub Scanned-text : {bytes rest : List ℕ} {what : Option Kind} → Scanned bytes what rest → (t : List ℕ) × (bytes ≡ t ++ rest) × Spells what t
Scanned-text {bytes} {rest} {what} (short {n = n} s q) = (take n bytes, front_of n bytes rest q, short_text bytes what n s)
Scanned-text {bytes} {rest} {what} (long {e = d} {n = n} s b) =
    let x = Body-drop b in
    (take (n + x.0) bytes, front_of (n + x.0) bytes rest (x.1 ∙ drop-drop x.0 n bytes), long_text bytes what d n s (take (n + x.0) bytes))

-- If the bytes from one position on are t and then a rest, the bytes between this position and that of the rest are t.
between : (pre t rest file : List ℕ) → file ≡ pre ++ (t ++ rest) →
    take ((length file - length rest) - (length file - length (t ++ rest))) (drop (length file - length (t ++ rest)) file) ≡ t
between pre t rest file e =
    let all : length file ≡ length pre + (length t + length rest) = ap length e ∙ length-append pre (t ++ rest) ∙ ap (λ k. length pre + k) (length-append t rest) in
    let two = length-append t rest in
    let start : length file - length (t ++ rest) ≡ length pre = omega arith in
    let size : (length file - length rest) - length pre ≡ length t = omega arith in
    let tail : drop (length pre) file ≡ t ++ rest = ap (λ k. drop (length pre) k) e ∙ drop_prefix pre (t ++ rest) in
    ap (λ k. take ((length file - length rest) - k) (drop k file)) start ∙ ap (λ k. take k (drop (length pre) file)) size ∙ ap (λ k. take (length t) k) tail ∙ take_prefix t rest

tail_is : (t rest file : List ℕ) → file ≡ t ++ rest → drop (length file - length rest) file ≡ rest
tail_is t rest file e =
    let all : length file ≡ length t + length rest = ap length e ∙ length-append t rest in
    let size : length file - length rest ≡ length t = omega arith in
    ap (λ n. drop n file) size ∙ ap (λ k. drop (length t) k) e ∙ drop_prefix t rest

-- A property of a lexeme's kind, its text, and the bytes that follow it.
abbrev pub HoldsForKind : (Kind → List ℕ → List ℕ → Type 0) → Option Kind → List ℕ → List ℕ → Type 0
HoldsForKind Q None t rest = Unit {0}
HoldsForKind Q (Some k) t rest = Q k t rest

abbrev pub HoldsForLexeme : List ℕ → (Kind → List ℕ → List ℕ → Type 0) → Lexeme → Type 0
HoldsForLexeme file Q l = Q l.kind (bytes_of file l) (drop l.end file)

-- A property of everything that is scanned is a property of all lexemes.
module _ (file : List ℕ) (Q : Kind → List ℕ → List ℕ → Type 0)
    (one : (pre bytes rest : List ℕ) (what : Option Kind) → file ≡ pre ++ bytes → Scanned bytes what rest → (t : List ℕ) × (bytes ≡ t ++ rest) × HoldsForKind Q what t rest) where
  first_held : (pre t bytes rest : List ℕ) (what : Option Kind) (ls : List Lexeme) → file ≡ pre ++ (t ++ rest) → bytes ≡ t ++ rest → HoldsForKind Q what t rest → AllByRecursion (HoldsForLexeme file Q) ls →
      AllByRecursion (HoldsForLexeme file Q) (lexeme_between_rests (length file) bytes what rest ++ ls)
  first_held pre t bytes rest None ls split same h later = later
  first_held pre t bytes rest (Some k) ls split same h later =
      let text : take ((length file - length rest) - (length file - length bytes)) (drop (length file - length bytes) file) ≡ t =
      ap (λ i. take ((length file - length rest) - (length file - length i)) (drop (length file - length i) file)) same ∙ between pre t rest file split in
      let behind : drop (length file - length rest) file ≡ rest = tail_is (pre ++ t) rest file (split ∙ sym (append_assoc pre t rest)) in
      (subst (λ i. Q k i (drop (length file - length rest) file)) (sym text) (subst (λ i. Q k t i) (sym behind) h), later)

  held_from : (pre : List ℕ) {left : ℕ} {bytes : List ℕ} {ls : List Lexeme} {f : Option ℕ} → file ≡ pre ++ bytes → LexesFrom (length file) left bytes ls f → AllByRecursion (HoldsForLexeme file Q) ls
  held_from pre e (ended s) = tt
  held_from pre e trailer = tt
  held_from pre e (fault s h) = tt
  held_from pre {bytes = bytes} e (taken {rest = rest} {what = what} {ls = ls} t l q) =
      let x = one pre bytes rest what e t in
      let split : file ≡ pre ++ (x.0 ++ rest) = e ∙ ap (λ k. pre ++ k) x.1 in
      let later = held_from (pre ++ x.0) (split ∙ sym (append_assoc pre x.0 rest)) l in
      subst (λ k. AllByRecursion (HoldsForLexeme file Q) k) (sym q) (first_held pre x.0 bytes rest what ls split x.1 x.2 later)

  pub lexemes_hold : (ls : List Lexeme) (f : Option ℕ) → Lexes file ls f → AllByRecursion (HoldsForLexeme file Q) ls
  lexemes_hold ls f l = held_from [] refl l

pub lexemes_spelled : (bytes : List ℕ) (ls : List Lexeme) (f : Option ℕ) → Lexes bytes ls f → AllByRecursion (HasTextOfKind bytes) ls
lexemes_spelled bytes ls f l = lexemes_hold bytes (λ k t rest. HasText k t) one ls f l
  where
    spelled : (what : Option Kind) (t rest : List ℕ) → Spells what t → HoldsForKind (λ k t rest. HasText k t) what t rest
    spelled None t rest h = tt
    spelled (Some k) t rest h = h

    one : (pre s rest : List ℕ) (what : Option Kind) → bytes ≡ pre ++ s → Scanned s what rest → (t : List ℕ) × (s ≡ t ++ rest) × HoldsForKind (λ k t rest. HasText k t) what t rest
    one pre s rest what e w = let x = Scanned-text w in (x.0, x.1, spelled what x.0 rest x.2)
