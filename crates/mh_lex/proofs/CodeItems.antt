-- Lemmas on the first item of bytes inside code: each step of the lexer is an item, a comment, a level or a single byte
-- by the definition `Code`.
use Rattle.std.proofs.Common.{◌≡◌, ◌≢◌, ℕ, suc, ◌+◌, ◌-◌, ◌<◌, ◌==◌, ◌&&◌, ◌||◌, Bool, true, false, not, cond, List, [], ◌∷◌, ◌++◌, length, take, drop, Option, Some, None, refl, sym, ap, subst, ◌∙◌, arith, append_assoc, length-append, add-one, true≢false}
use Rattle.std.specs.Prelude.{nat_lt, nat_eq}
use Rattle.std.specs.List.{AllByRecursion, starts_with}
use Rattle.std.proofs.lemmas.List.{take-append-drop}
use Rattle.std.proofs.lemmas.Slice.Eq.{starts_is}
use Rattle.std.proofs.lemmas.Bool.Decides.{nat_tests, Decides-eqb}
use Rattle.std.proofs.lemmas.Bool.{not-false, and_parts, both_ways}
use Rattle.std.proofs.lemmas.Option.{same_Some}
use Rattle.mh_lex.specs.declared.code.Delimiter.{Delimiter}
use Rattle.mh_lex.specs.declared.code.Delimiter.TheVariants.{Comment, Brace, Bracket, Header, Angle, Slash}
use Rattle.mh_lex.specs.declared.code.CodeStep.{CodeStep}
use Rattle.mh_lex.specs.declared.code.CodeStep.TheVariants.{Closes, Passes, Nests, Remark, Stuck}
use Rattle.mh_lex_bytes.specs.Bytes.{byte_at, has, is_at_end, is_word_start, is_word_byte, is_decimal, is_octal, is_hexadecimal, is_id_byte, is_escape}
use Rattle.mh_lex.specs.LexemeLengths.{plus_one, word_rest, string_rest, id_rest, quoted_opening, quoted_id, closes_quoted, quoted_rest, escaped, literal}
use Rattle.mh_lex.specs.CodeSteps.{step_past, begins_comment, nests_in, step_over_byte, step_over_one, step_inside, closer_length, has_remarks, step}
use Rattle.mh_lex.specs.LexemeTexts.{is_content}
use Rattle.mh_lex.specs.InCode.{StringContent, CharacterLiteral, EndsAtFirst, IsId, EndsWord, CodeItem, StartsItem, CodeItem as items, StartsItem as starts}
use Rattle.mh_lex.specs.InCode.StringContent.{nothing, free, taken}
use Rattle.mh_lex.specs.InCode.CharacterLiteral.{one, escape, decimal, hexadecimal, octal}
use Rattle.mh_lex.specs.InCode.EndsAtFirst.{here, later}
use Rattle.mh_lex.proofs.LaidOutTexts.{take_prefix}
use Rattle.mh_lex.proofs.CodeLevels.{each_end}
use Rattle.mh_lex.proofs.LexemesHaveText.{string_split, word_bytes}
use Rattle.mh_lex_bytes.proofs.ByteTests.{first_byte_is, first_two_are}

-- Each element of the list is a byte.
abbrev pub AreBytes : List ℕ → Type 0
AreBytes s = AllByRecursion (λ b. b < 256) s

-- What follows both if a boolean is true and if the boolean is false holds.
by_bool : {P : Type 0} (b : Bool) → (b ≡ true → P) → (b ≡ false → P) → P
by_bool true f g = f refl
by_bool false f g = g refl

-- Lemmas on strings.

abbrev Held : Bool → List ℕ → Type 0
Held true s = StringContent (92 ∷ s)
Held false s = StringContent s

not_quote : (b : ℕ) → not (b == 34) ≡ true → b ≢ 34
not_quote b h q = let lone : not true ≡ true = subst (λ k. not k ≡ true) ((Decides-eqb b 34).1 q) h in true≢false (sym lone)

content_of : (held : Bool) (s : List ℕ) → is_content held s ≡ true → Held held s
content_of true [] h = absurd (cc)
content_of false [] h = nothing
content_of true (b ∷ bs) h = taken (content_of false bs h)
content_of false (b ∷ bs) h =
    let two = and_parts (not (b == 34)) (is_content (b == 92) bs) h in
    by_bool (b == 92)
    (λ e. subst (λ k. StringContent (k ∷ bs)) (sym ((Decides-eqb b 92).0 e)) (content_of true bs (subst (λ k. is_content k bs ≡ true) e two.1)))
    (λ e. free (not_quote b two.0) (λ q. both_ways (b == 92) e ((Decides-eqb b 92).1 q)) (content_of false bs (subst (λ k. is_content k bs ≡ true) e two.1)))

-- Lemmas on character literals.

-- A text with a quote at index n begins with n bytes and the quote.
four : (s : List ℕ) → has s 3 39 ≡ true → (a : ℕ) × (b : ℕ) × (c : ℕ) × (r : List ℕ) × (s ≡ a ∷ b ∷ c ∷ 39 ∷ r)
four [] h = absurd (cc)
four (a ∷ []) h = absurd (cc)
four (a ∷ b ∷ []) h = absurd (cc)
four (a ∷ b ∷ c ∷ []) h = absurd (cc)
four (a ∷ b ∷ c ∷ d ∷ r) h = (a, b, c, r, ap (λ k. a ∷ b ∷ c ∷ k ∷ r) ((Decides-eqb d 39).0 h))

six : (s : List ℕ) → has s 5 39 ≡ true → (a : ℕ) × (b : ℕ) × (c : ℕ) × (d : ℕ) × (e : ℕ) × (r : List ℕ) × (s ≡ a ∷ b ∷ c ∷ d ∷ e ∷ 39 ∷ r)
six [] h = absurd (cc)
six (a ∷ []) h = absurd (cc)
six (a ∷ b ∷ t) h = let x = four t h in (a, b, x.0, x.1, x.2, x.3, ap (λ k. a ∷ b ∷ k) x.4)

seven : (s : List ℕ) → has s 6 39 ≡ true → (a : ℕ) × (b : ℕ) × (c : ℕ) × (d : ℕ) × (e : ℕ) × (f : ℕ) × (r : List ℕ) × (s ≡ a ∷ b ∷ c ∷ d ∷ e ∷ f ∷ 39 ∷ r)
seven [] h = absurd (cc)
seven (a ∷ t) h = let x = six t h in (a, x.0, x.1, x.2, x.3, x.4, x.5, ap (λ k. a ∷ k) x.6)

-- The bytes begin with a quote and a backslash.
abbrev IsEscaped : List ℕ → Type 0
IsEscaped s = (has s 0 39 ≡ true) × (has s 1 92 ≡ true)

escaped_front : (a b : ℕ) (s r : List ℕ) → IsEscaped (a ∷ b ∷ s) → CharacterLiteral (39 ∷ 92 ∷ r) → CharacterLiteral (a ∷ b ∷ r)
escaped_front a b s r h c = rw ((Decides-eqb a 39).0 h.0, (Decides-eqb b 92).0 h.1) c

escape_text : (s : List ℕ) → IsEscaped s → (is_escape (byte_at s 2) && has s 3 39) ≡ true → CharacterLiteral (take 4 s)
escape_text s h k =
    let x = four s (and_parts (is_escape (byte_at s 2)) (has s 3 39) k).1 in
    subst (λ l. IsEscaped l → (is_escape (byte_at l 2) && has l 3 39) ≡ true → CharacterLiteral (take 4 l)) (sym x.4) (at x.0 x.1 x.2 x.3) h k
  where
    at : (a b c : ℕ) (r : List ℕ) → IsEscaped (a ∷ b ∷ c ∷ 39 ∷ r) → (is_escape c && true) ≡ true → CharacterLiteral (a ∷ b ∷ c ∷ 39 ∷ [])
    at a b c r i j = escaped_front a b (c ∷ 39 ∷ r) (c ∷ 39 ∷ []) i (escape (and_parts (is_escape c) true j).0)

decimal_text : (s : List ℕ) → IsEscaped s → (is_decimal (byte_at s 2) && (is_decimal (byte_at s 3) && (is_decimal (byte_at s 4) && has s 5 39))) ≡ true → CharacterLiteral (take 6 s)
decimal_text s h k =
    let p = and_parts (is_decimal (byte_at s 2)) (is_decimal (byte_at s 3) && (is_decimal (byte_at s 4) && has s 5 39)) k in
    let q = and_parts (is_decimal (byte_at s 3)) (is_decimal (byte_at s 4) && has s 5 39) p.1 in
    let r = and_parts (is_decimal (byte_at s 4)) (has s 5 39) q.1 in
    let x = six s r.1 in
    subst (λ l. IsEscaped l → is_decimal (byte_at l 2) ≡ true → is_decimal (byte_at l 3) ≡ true → is_decimal (byte_at l 4) ≡ true → CharacterLiteral (take 6 l)) (sym x.6)
    (at x.0 x.1 x.2 x.3 x.4 x.5) h p.0 q.0 r.0
  where
    at : (a b c d e : ℕ) (r : List ℕ) → IsEscaped (a ∷ b ∷ c ∷ d ∷ e ∷ 39 ∷ r) → is_decimal c ≡ true → is_decimal d ≡ true → is_decimal e ≡ true → CharacterLiteral (a ∷ b ∷ c ∷ d ∷ e ∷ 39 ∷ [])
    at a b c d e r i j k l = escaped_front a b (c ∷ d ∷ e ∷ 39 ∷ r) (c ∷ d ∷ e ∷ 39 ∷ []) i (decimal j k l)

hexadecimal_text : (s : List ℕ) → IsEscaped s → (has s 2 120 && (is_hexadecimal (byte_at s 3) && (is_hexadecimal (byte_at s 4) && has s 5 39))) ≡ true → CharacterLiteral (take 6 s)
hexadecimal_text s h k =
    let p = and_parts (has s 2 120) (is_hexadecimal (byte_at s 3) && (is_hexadecimal (byte_at s 4) && has s 5 39)) k in
    let q = and_parts (is_hexadecimal (byte_at s 3)) (is_hexadecimal (byte_at s 4) && has s 5 39) p.1 in
    let r = and_parts (is_hexadecimal (byte_at s 4)) (has s 5 39) q.1 in
    let x = six s r.1 in
    subst (λ l. IsEscaped l → has l 2 120 ≡ true → is_hexadecimal (byte_at l 3) ≡ true → is_hexadecimal (byte_at l 4) ≡ true → CharacterLiteral (take 6 l)) (sym x.6)
    (at x.0 x.1 x.2 x.3 x.4 x.5) h p.0 q.0 r.0
  where
    at : (a b c d e : ℕ) (r : List ℕ) → IsEscaped (a ∷ b ∷ c ∷ d ∷ e ∷ 39 ∷ r) → (c == 120) ≡ true → is_hexadecimal d ≡ true → is_hexadecimal e ≡ true → CharacterLiteral (a ∷ b ∷ c ∷ d ∷ e ∷ 39 ∷ [])
    at a b c d e r i j k l = escaped_front a b (c ∷ d ∷ e ∷ 39 ∷ r) (c ∷ d ∷ e ∷ 39 ∷ []) i
        (subst (λ m. CharacterLiteral (39 ∷ 92 ∷ m ∷ d ∷ e ∷ 39 ∷ [])) (sym ((Decides-eqb c 120).0 j)) (hexadecimal k l))

octal_text : (s : List ℕ) → IsEscaped s → (has s 2 111 && (is_octal (byte_at s 3) && (is_octal (byte_at s 4) && (is_octal (byte_at s 5) && has s 6 39)))) ≡ true → CharacterLiteral (take 7 s)
octal_text s h k =
    let p = and_parts (has s 2 111) (is_octal (byte_at s 3) && (is_octal (byte_at s 4) && (is_octal (byte_at s 5) && has s 6 39))) k in
    let q = and_parts (is_octal (byte_at s 3)) (is_octal (byte_at s 4) && (is_octal (byte_at s 5) && has s 6 39)) p.1 in
    let r = and_parts (is_octal (byte_at s 4)) (is_octal (byte_at s 5) && has s 6 39) q.1 in
    let u = and_parts (is_octal (byte_at s 5)) (has s 6 39) r.1 in
    let x = seven s u.1 in
    subst (λ l. IsEscaped l → has l 2 111 ≡ true → is_octal (byte_at l 3) ≡ true → is_octal (byte_at l 4) ≡ true → is_octal (byte_at l 5) ≡ true → CharacterLiteral (take 7 l)) (sym x.7)
    (at x.0 x.1 x.2 x.3 x.4 x.5 x.6) h p.0 q.0 r.0 u.0
  where
    at : (a b c d e f : ℕ) (r : List ℕ) → IsEscaped (a ∷ b ∷ c ∷ d ∷ e ∷ f ∷ 39 ∷ r) → (c == 111) ≡ true → is_octal d ≡ true → is_octal e ≡ true → is_octal f ≡ true →
        CharacterLiteral (a ∷ b ∷ c ∷ d ∷ e ∷ f ∷ 39 ∷ [])
    at a b c d e f r i j k l m = escaped_front a b (c ∷ d ∷ e ∷ f ∷ 39 ∷ r) (c ∷ d ∷ e ∷ f ∷ 39 ∷ []) i
        (subst (λ n. CharacterLiteral (39 ∷ 92 ∷ n ∷ d ∷ e ∷ f ∷ 39 ∷ [])) (sym ((Decides-eqb c 111).0 j)) (octal k l m))

none_of : (p q r : Bool) → not (p || (q || r)) ≡ true → (p ≡ false) × (q ≡ false) × (r ≡ false)
none_of true q r h = absurd (cc)
none_of false true r h = absurd (cc)
none_of false false true h = absurd (cc)
none_of false false false h = (refl, refl, refl)

other_byte : (b c : ℕ) → (b == c) ≡ false → b ≢ c
other_byte b c h q = both_ways (b == c) h ((Decides-eqb b c).1 q)

one_text : (s : List ℕ) → has s 0 39 ≡ true → has s 1 92 ≡ false → (has s 2 39 && not (has s 1 39 || (has s 1 10 || has s 1 256))) ≡ true → CharacterLiteral (take 3 s)
one_text [] h k m = absurd (cc)
one_text (a ∷ []) h k m = absurd (cc)
one_text (a ∷ b ∷ []) h k m = absurd (cc)
one_text (a ∷ b ∷ c ∷ r) h k m =
    let two = and_parts (c == 39) (not (b == 39 || (b == 10 || b == 256))) m in
    let lone = none_of (b == 39) (b == 10) (b == 256) two.1 in
    rw ((Decides-eqb a 39).0 h, (Decides-eqb c 39).0 two.0) (one (other_byte b 92 k) (other_byte b 39 lone.0) (other_byte b 10 lone.1))

-- If the length is positive, the bytes begin with a character literal of this length.
record Spans (s : List ℕ) (n : ℕ) : Type 0 where
  text : nat_lt 0 n ≡ true → CharacterLiteral (take n s)

spans_none : {s : List ℕ} → Spans s 0
spans_none = record { text = λ h. absurd (cc) }

spans : {s : List ℕ} {n : ℕ} → CharacterLiteral (take n s) → Spans s n
spans c = record { text = λ h. c }

spans_cond : {s : List ℕ} {x y : ℕ} (b : Bool) → (b ≡ true → Spans s x) → (b ≡ false → Spans s y) → Spans s (cond b x y)
spans_cond true f g = f refl
spans_cond false f g = g refl

escaped_spans : (s : List ℕ) → IsEscaped s → Spans s (escaped s)
unfolding escaped
escaped_spans s h =
    spans_cond (is_escape (byte_at s 2) && has s 3 39) (λ k. spans (escape_text s h k))
    (λ _. spans_cond (is_decimal (byte_at s 2) && (is_decimal (byte_at s 3) && (is_decimal (byte_at s 4) && has s 5 39))) (λ k. spans (decimal_text s h k))
    (λ _. spans_cond (has s 2 120 && (is_hexadecimal (byte_at s 3) && (is_hexadecimal (byte_at s 4) && has s 5 39))) (λ k. spans (hexadecimal_text s h k))
    (λ _. spans_cond (has s 2 111 && (is_octal (byte_at s 3) && (is_octal (byte_at s 4) && (is_octal (byte_at s 5) && has s 6 39)))) (λ k. spans (octal_text s h k)) (λ _. spans_none))))

literal_spans : (s : List ℕ) → Spans s (literal s)
unfolding literal
literal_spans s =
    spans_cond (not (has s 0 39)) (λ _. spans_none)
    (λ q. let quote = not-false (has s 0 39) q in spans_cond (has s 1 92) (λ k. escaped_spans s (quote, k))
    (λ k. spans_cond (has s 2 39 && not (has s 1 39 || (has s 1 10 || has s 1 256))) (λ m. spans (one_text s quote k m)) (λ _. spans_none)))

-- The function `literal` finds each character literal with its length.
pub differ : (b c : ℕ) → b ≢ c → (b == c) ≡ false
differ b c h = by_bool (b == c) (λ e. absurd (h ((Decides-eqb b c).0 e))) (λ e. e)

and_false : (b : Bool) → (b && false) ≡ false
and_false true = refl
and_false false = refl

no_quote : (b : ℕ) → is_decimal b ≡ true → (b == 39) ≡ false
no_quote b h = grind (arith, nat_tests)

pub literal_is : (text s : List ℕ) → CharacterLiteral text → AreBytes (text ++ s) → literal (text ++ s) ≡ length text
unfolding literal escaped
literal_is text s (one {b = b} h k l) are =
    let lone : b ≢ 256 = (λ q. let small : b < 256 = are.1.0 in omega (arith, small, q)) in
    rw (differ b 92 h, differ b 39 k, differ b 10 l, differ b 256 lone) refl
literal_is text s (escape {b = b} h) are = rw h refl
literal_is text s (decimal {a = a} {b = b} {c = c} h k l) are = rw (no_quote b k, and_false (is_escape a), h, k, l) refl
literal_is text s (hexadecimal {a = a} {b = b} h k) are = rw (h, k) refl
literal_is text s (octal {a = a} {b = b} {c = c} h k l) are = rw (h, k, l) refl

pub positive_test : {n m : ℕ} → n ≡ suc m → nat_lt 0 n ≡ true
positive_test {n} {m} e = grind (arith, nat_tests)

character_above : (text : List ℕ) → CharacterLiteral text → (n : ℕ) × (length text ≡ suc n)
character_above text (one h k l) = (2, refl)
character_above text (escape h) = (3, refl)
character_above text (decimal h k l) = (5, refl)
character_above text (hexadecimal h k) = (5, refl)
character_above text (octal h k l) = (6, refl)

literal_some : (text s : List ℕ) → CharacterLiteral text → AreBytes (text ++ s) → nat_lt 0 (literal (text ++ s)) ≡ true
literal_some text s c are = let n = character_above text c in positive_test (literal_is text s c are ∙ n.1)

-- Lemmas on quoted strings.

-- The longest identifier at the beginning of the bytes.
record IdIn (s : List ℕ) : Type 0 where
  id : List ℕ
  rest : List ℕ
  is_id : IsId id
  split : s ≡ id ++ rest
  size : id_rest s ≡ length id

id_in : (s : List ℕ) → IdIn s
id_in [] = record { id = []; rest = []; is_id = tt; split = refl; size = refl }
id_in (b ∷ bs) = by (is_id_byte b) refl (id_in bs)
  where
    by : (c : Bool) → is_id_byte b ≡ c → IdIn bs → IdIn (b ∷ bs)
    by true e x = record { id = b ∷ x.id; rest = x.rest; is_id = (e, x.is_id); split = ap (λ k. b ∷ k) x.split; size = rw e (ap (λ k. k + 1) x.size ∙ (omega arith)) }
    by false e x = record { id = []; rest = b ∷ bs; is_id = tt; split = refl; size = rw e refl }

has_behind : (s r : List ℕ) (c : ℕ) → has (s ++ r) (length s) c ≡ has r 0 c
has_behind [] r c = refl
has_behind (b ∷ bs) r c = has_behind bs r c

-- The identifier of a quoted string ends at its bar.
id_up_to_bar : (id r : List ℕ) → IsId id → id_rest (id ++ 124 ∷ r) ≡ length id
id_up_to_bar [] r h = refl
id_up_to_bar (b ∷ bs) r h = rw h.0 (ap (λ k. k + 1) (id_up_to_bar bs r h.1) ∙ (omega arith))

-- The bytes begin with a brace, an identifier and a bar.
record OpeningIn (s : List ℕ) (n : ℕ) : Type 0 where
  id : List ℕ
  rest : List ℕ
  is_id : IsId id
  split : s ≡ 123 ∷ id ++ 124 ∷ rest
  size : n ≡ length id + 2

opening_in : (s : List ℕ) → nat_lt 0 (quoted_opening s) ≡ true → OpeningIn s (quoted_opening s)
unfolding quoted_opening
opening_in s h = by (has s 0 123 && has s (id_rest (drop 1 s) + 1) 124) refl h
  where
    behind_brace : (bs : List ℕ) → has bs (id_rest bs) 124 ≡ true → OpeningIn (123 ∷ bs) (id_rest bs + 2)
    behind_brace bs h =
        let x = id_in bs in
        let bar : has x.rest 0 124 ≡ true = sym (has_behind x.id x.rest 124) ∙ ap (λ n. has (x.id ++ x.rest) n 124) (sym x.size) ∙ subst (λ k. has k (id_rest bs) 124 ≡ true) x.split h in
        record { id = x.id; rest = drop 1 x.rest; is_id = x.is_id; split = ap (λ k. 123 ∷ k) (x.split ∙ ap (λ k. x.id ++ k) (first_byte_is x.rest 124 refl bar)); size = ap (λ n. n + 2) x.size }

    at : (s : List ℕ) → (has s 0 123 ≡ true) × (has s (id_rest (drop 1 s) + 1) 124 ≡ true) → OpeningIn s (id_rest (drop 1 s) + 2)
    at [] h = absurd (true≢false (sym h.0))
    at (b ∷ bs) h =
        let bar : has bs (id_rest bs) 124 ≡ true = subst (λ n. has (b ∷ bs) n 124 ≡ true) (add-one (id_rest bs)) h.1 in
        subst (λ k. OpeningIn (k ∷ bs) (id_rest bs + 2)) (sym ((Decides-eqb b 123).0 h.0)) (behind_brace bs bar)

    by : (c : Bool) → (has s 0 123 && has s (id_rest (drop 1 s) + 1) 124) ≡ c → nat_lt 0 (cond c (id_rest (drop 1 s) + 2) 0) ≡ true → OpeningIn s (cond c (id_rest (drop 1 s) + 2) 0)
    by true e k = at s (and_parts (has s 0 123) (has s (id_rest (drop 1 s) + 1) 124) e)
    by false e k = absurd (cc)

pub opening_is : (id s : List ℕ) → IsId id → quoted_opening (123 ∷ id ++ 124 ∷ s) ≡ length id + 2
unfolding quoted_opening
opening_is id s h =
    let size = id_up_to_bar id s h in
    let bar : has (123 ∷ id ++ 124 ∷ s) (id_rest (id ++ 124 ∷ s) + 1) 124 ≡ true =
    ap (λ n. has (123 ∷ id ++ 124 ∷ s) n 124) (add-one (id_rest (id ++ 124 ∷ s)) ∙ ap suc size) ∙ has_behind id (124 ∷ s) 124 in
    rw bar (ap (λ n. n + 2) size)

opening_some : (id s : List ℕ) → IsId id → nat_lt 0 (quoted_opening (123 ∷ id ++ 124 ∷ s)) ≡ true
opening_some id s h = let size : length id + 2 ≡ suc (length id + 1) = omega arith in positive_test (opening_is id s h ∙ size)

-- A text that closes a quoted string begins with the name of its delimiter and a closing brace.
pub closes_split : (id s : List ℕ) → closes_quoted id s ≡ true → (r : List ℕ) × (s ≡ id ++ 125 ∷ r)
unfolding closes_quoted
closes_split id s h =
    let two = and_parts (starts_with nat_eq s id) (has s (length id) 125) h in
    let split : s ≡ id ++ drop (length id) s = (starts_is Decides-eqb s id (starts_with nat_eq s id) refl).0 two.0 in
    let brace : has (drop (length id) s) 0 125 ≡ true = sym (has_behind id (drop (length id) s) 125) ∙ subst (λ k. has k (length id) 125 ≡ true) split two.1 in
    (drop 1 (drop (length id) s), split ∙ ap (λ k. id ++ k) (first_byte_is (drop (length id) s) 125 refl brace))

pub closes_here : (id r : List ℕ) → closes_quoted id (id ++ 125 ∷ r) ≡ true
unfolding closes_quoted
closes_here id r =
    let front = (starts_is Decides-eqb (id ++ 125 ∷ r) id (starts_with nat_eq (id ++ 125 ∷ r) id) refl).1 (125 ∷ r) refl in
    rw front (has_behind id (125 ∷ r) 125)

stop_taken : (id r : List ℕ) → take (length id + 2) (124 ∷ id ++ 125 ∷ r) ≡ 124 ∷ id ++ 125 ∷ []
stop_taken id r =
    let size : length id + 2 ≡ length (124 ∷ id ++ 125 ∷ []) = omega (arith, length-append id (125 ∷ [])) in
    ap (λ n. take n (124 ∷ id ++ 125 ∷ r)) size ∙ ap (λ k. take (length (124 ∷ id ++ 125 ∷ [])) (124 ∷ k)) (sym (append_assoc id (125 ∷ []) r)) ∙ take_prefix (124 ∷ id ++ 125 ∷ []) r

until_of : (id s : List ℕ) (n : ℕ) → quoted_rest id s ≡ Some n → EndsAtFirst (124 ∷ id ++ 125 ∷ []) (take n s) (drop n s)
until_of id [] n e = absurd (cc)
until_of id (b ∷ bs) n e = by (b == 124 && closes_quoted id bs) refl (quoted_rest id bs) (until_of id bs) e
  where
    ends : b ≡ 124 → (r : List ℕ) × (bs ≡ id ++ 125 ∷ r) → take (length id + 2) (b ∷ bs) ≡ 124 ∷ id ++ 125 ∷ []
    ends q x = rw (q, x.1) (stop_taken id x.0)

    goes_on : (b == 124 && closes_quoted id bs) ≡ false → (m : ℕ) → (behind : List ℕ) → b ∷ take m bs ++ drop m bs ≡ (124 ∷ id ++ 125 ∷ []) ++ behind → ⊥
    goes_on k m behind q =
        let whole : b ∷ bs ≡ 124 ∷ id ++ 125 ∷ behind = ap (λ l. b ∷ l) (sym (take-append-drop m bs)) ∙ q ∙ ap (λ l. 124 ∷ l) (append_assoc id (125 ∷ []) behind) in
        let head : b ≡ 124 = ap (λ l. byte_at l 0) whole in
        let tail : bs ≡ id ++ 125 ∷ behind = ap (λ l. drop 1 l) whole in
        let both_true : (b == 124 && closes_quoted id bs) ≡ true = rw (head, tail) (closes_here id behind) in
        both_ways (b == 124 && closes_quoted id bs) k both_true

    by : (c : Bool) → (b == 124 && closes_quoted id bs) ≡ c → (o : Option ℕ) → ((m : ℕ) → o ≡ Some m → EndsAtFirst (124 ∷ id ++ 125 ∷ []) (take m bs) (drop m bs)) → cond c (Some (length id + 2)) (plus_one o) ≡ Some n →
        EndsAtFirst (124 ∷ id ++ 125 ∷ []) (take n (b ∷ bs)) (drop n (b ∷ bs))
    by true k o f e =
        let two = and_parts (b == 124) (closes_quoted id bs) k in
        let same : length id + 2 ≡ n = cc in
        here (ap (λ m. take m (b ∷ bs)) (sym same) ∙ ends ((Decides-eqb b 124).0 two.0) (closes_split id bs two.1))
    by false k None f e = absurd (cc)
    by false k (Some m) f e =
        let same : n ≡ suc m = (let sum : m + 1 ≡ n = cc in omega arith) in
        subst (λ i. EndsAtFirst (124 ∷ id ++ 125 ∷ []) (take i (b ∷ bs)) (drop i (b ∷ bs))) (sym same) (later (goes_on k m) (f m refl))

-- Lemmas on words.

word_ends : (s : List ℕ) → EndsWord (drop (word_rest s) s)
word_ends [] = tt
word_ends (b ∷ bs) = by (is_word_byte b) refl (word_ends bs)
  where
    by : (c : Bool) → is_word_byte b ≡ c → EndsWord (drop (word_rest bs) bs) → EndsWord (drop (cond c (word_rest bs + 1) 0) (b ∷ bs))
    by true e x = subst (λ n. EndsWord (drop n (b ∷ bs))) (sym (add-one (word_rest bs))) x
    by false e x = e

-- Lemmas on the steps inside code.

-- For each kind of step, the form of the bytes that the step passes over.
pub data Reading (nest : Option ℕ) (close s : List ℕ) : CodeStep → Type 0 where
  ends : {n : ℕ} → s ≡ close ++ drop n s → Reading nest close s (Closes n)
  goes : {n : ℕ} → CodeItem (take n s) (drop n s) → Reading nest close s (Passes n)
  comes : s ≡ 40 ∷ 42 ∷ drop 2 s → Reading nest close s Remark
  begins : (b : ℕ) → nest ≡ Some b → s ≡ b ∷ drop 1 s → (StartsItem s → ⊥) → Reading nest close s Nests
  goes_by : (b : ℕ) → nest ≢ Some b → s ≡ b ∷ drop 1 s → (StartsItem s → ⊥) → ((behind : List ℕ) → s ≡ close ++ behind → ⊥) → Reading nest close s (Passes 1)
  stays : (s ≢ [] → (StartsItem s → ⊥) → ⊥) → Reading nest close s Stuck

reading_cond : {nest : Option ℕ} {close s : List ℕ} {x y : CodeStep} (b : Bool) → (b ≡ true → Reading nest close s x) → (b ≡ false → Reading nest close s y) → Reading nest close s (cond b x y)
reading_cond true f g = f refl
reading_cond false f g = g refl

abbrev pub nest_of : Delimiter → Option ℕ
nest_of Brace = Some 123
nest_of Bracket = Some 91
nest_of _ = None

abbrev pub close_of : Delimiter → List ℕ
close_of Comment = 42 ∷ 41 ∷ []
close_of Brace = 125 ∷ []
close_of Bracket = 93 ∷ []
close_of Header = 37 ∷ 125 ∷ []
close_of Angle = 62 ∷ []
close_of Slash = 42 ∷ 47 ∷ []

-- Strings, characters, words and quoted strings are recognized in this code.
abbrev pub has_items : Delimiter → Bool
has_items Angle = false
has_items Slash = false
has_items _ = true

-- Lemmas on steps that close the code.
two_close : {nest : Option ℕ} (s : List ℕ) (c d : ℕ) → (256 == c) ≡ false → (256 == d) ≡ false → (b : Bool) → (has s 0 c && has s 1 d) ≡ b → nat_lt 0 (cond b 2 0) ≡ true →
    Reading nest (c ∷ d ∷ []) s (Closes (cond b 2 0))
two_close s c d e f true h k = let x = and_parts (has s 0 c) (has s 1 d) h in ends (first_two_are s c d e f x.0 x.1)
two_close s c d e f false h k = absurd (cc)

one_close : {nest : Option ℕ} (s : List ℕ) (c : ℕ) → (256 == c) ≡ false → (b : Bool) → has s 0 c ≡ b → nat_lt 0 (cond b 1 0) ≡ true → Reading nest (c ∷ []) s (Closes (cond b 1 0))
one_close s c e true h k = ends (first_byte_is s c e h)
one_close s c e false h k = absurd (cc)

closed : (e : Delimiter) (s : List ℕ) → nat_lt 0 (closer_length e s) ≡ true → Reading (nest_of e) (close_of e) s (Closes (closer_length e s))
closed Comment s k = two_close s 42 41 refl refl (has s 0 42 && has s 1 41) refl k
closed Brace s k = one_close s 125 refl (has s 0 125) refl k
closed Bracket s k = one_close s 93 refl (has s 0 93) refl k
closed Header s k = two_close s 37 125 refl refl (has s 0 37 && has s 1 125) refl k
closed Angle s k = one_close s 62 refl (has s 0 62) refl k
closed Slash s k = two_close s 42 47 refl refl (has s 0 42 && has s 1 47) refl k

close_some : (e : Delimiter) (behind : List ℕ) → nat_lt 0 (closer_length e (close_of e ++ behind)) ≡ true
close_some e behind = each_end (λ e. nat_lt 0 (closer_length e (close_of e ++ behind)) ≡ true) refl refl refl refl refl refl e

not_closed : (e : Delimiter) (s : List ℕ) → nat_lt 0 (closer_length e s) ≡ false → (behind : List ℕ) → s ≡ close_of e ++ behind → ⊥
not_closed e s k behind q = both_ways (nat_lt 0 (closer_length e s)) k (subst (λ t. nat_lt 0 (closer_length e t) ≡ true) (sym q) (close_some e behind))

-- Lemmas on steps that pass over an item: a string, a character literal, a word or a quoted string.
string_item : (s : List ℕ) (m : ℕ) → has s 0 34 ≡ true → string_rest false (drop 1 s) ≡ Some m → CodeItem (take (m + 1) s) (drop (m + 1) s)
string_item [] m h e = absurd (cc)
string_item (a ∷ bs) m h e =
    let x = string_split false bs m e in
    let q : take (m + 1) (a ∷ bs) ≡ 34 ∷ x.0 ++ 34 ∷ [] = ap (λ n. take n (a ∷ bs)) (add-one m) ∙ ap (λ k. k ∷ take m bs) ((Decides-eqb a 34).0 h) ∙ ap (λ k. 34 ∷ k) x.1 in
    subst (λ t. CodeItem t (drop (m + 1) (a ∷ bs))) (sym q) (items.string x.0 (content_of false x.0 x.2))

string_reading : {nest : Option ℕ} {close : List ℕ} (s : List ℕ) → has s 0 34 ≡ true → (o : Option ℕ) → string_rest false (drop 1 s) ≡ o → Reading nest close s (step_past 1 o)
string_reading s h None e = stays (λ _ lone. lone (subst StartsItem (sym (first_byte_is s 34 refl h)) starts.string))
string_reading s h (Some m) e = goes (string_item s m h e)

word_item : (s : List ℕ) → is_word_start (byte_at s 0) ≡ true → CodeItem (take (word_rest s) s) (drop (word_rest s) s)
word_item [] h = absurd (cc)
word_item (b ∷ bs) h =
    let byte : is_word_byte b ≡ true = rw h refl in
    let size : word_rest (b ∷ bs) ≡ suc (word_rest bs) = rw byte (add-one (word_rest bs)) in
    subst (λ n. CodeItem (take n (b ∷ bs)) (drop n (b ∷ bs))) (sym size) (items.word h (word_bytes bs) (word_ends bs))

take_over : (t r : List ℕ) (m : ℕ) → take (m + length t) (t ++ r) ≡ t ++ take m r
take_over [] r m = ap (λ n. take n r) (omega arith)
take_over (b ∷ t) r m = let size : m + length (b ∷ t) ≡ suc (m + length t) = omega arith in ap (λ n. take n (b ∷ t ++ r)) size ∙ ap (λ k. b ∷ k) (take_over t r m)

drop_over : (t r : List ℕ) (m : ℕ) → drop (m + length t) (t ++ r) ≡ drop m r
drop_over [] r m = ap (λ n. drop n r) (omega arith)
drop_over (b ∷ t) r m = let size : m + length (b ∷ t) ≡ suc (m + length t) = omega arith in ap (λ n. drop n (b ∷ t ++ r)) size ∙ drop_over t r m

module _ (id behind : List ℕ) where
  opening_split : 123 ∷ id ++ 124 ∷ behind ≡ (123 ∷ id ++ 124 ∷ []) ++ behind
  opening_split = ap (λ k. 123 ∷ k) (sym (append_assoc id (124 ∷ []) behind))

  opening_size : length id + 2 ≡ length (123 ∷ id ++ 124 ∷ [])
  opening_size = omega (arith, length-append id (124 ∷ []))

  pub quoted_id_is : quoted_id (length id + 2) (123 ∷ id ++ 124 ∷ behind) ≡ id
  quoted_id_is = let size : length id + 2 - 2 ≡ length id = omega arith in ap (λ n. take n (id ++ 124 ∷ behind)) size ∙ take_prefix id (124 ∷ behind)

  pub drop_past_opening : (m : ℕ) → drop (m + (length id + 2)) (123 ∷ id ++ 124 ∷ behind) ≡ drop m behind
  drop_past_opening m = ap (λ n. drop (m + n) (123 ∷ id ++ 124 ∷ behind)) opening_size ∙ ap (λ k. drop (m + length (123 ∷ id ++ 124 ∷ [])) k) opening_split ∙ drop_over (123 ∷ id ++ 124 ∷ []) behind m

  pub drop_opening : drop (length id + 2) (123 ∷ id ++ 124 ∷ behind) ≡ behind
  drop_opening = let size : length id + 2 ≡ 0 + (length id + 2) = omega arith in ap (λ n. drop n (123 ∷ id ++ 124 ∷ behind)) size ∙ drop_past_opening 0

  front_told : (m : ℕ) → take (m + (length id + 2)) (123 ∷ id ++ 124 ∷ behind) ≡ 123 ∷ id ++ 124 ∷ take m behind
  front_told m =
      ap (λ n. take (m + n) (123 ∷ id ++ 124 ∷ behind)) opening_size ∙ ap (λ k. take (m + length (123 ∷ id ++ 124 ∷ [])) k) opening_split ∙
      take_over (123 ∷ id ++ 124 ∷ []) behind m ∙ ap (λ k. 123 ∷ k) (append_assoc id (124 ∷ []) (take m behind))

  quoted_item : (m : ℕ) → IsId id → quoted_rest id behind ≡ Some m → CodeItem (take (m + (length id + 2)) (123 ∷ id ++ 124 ∷ behind)) (drop (m + (length id + 2)) (123 ∷ id ++ 124 ∷ behind))
  quoted_item m h e =
      subst (λ r. CodeItem (take (m + (length id + 2)) (123 ∷ id ++ 124 ∷ behind)) r) (sym (drop_past_opening m))
      (subst (λ t. CodeItem t (drop m behind)) (sym (front_told m)) (items.quoted id (take m behind) h (until_of id behind m e)))

  quoted_from : {nest : Option ℕ} {close : List ℕ} → IsId id → (o : Option ℕ) → quoted_rest (quoted_id (length id + 2) (123 ∷ id ++ 124 ∷ behind)) (drop (length id + 2) (123 ∷ id ++ 124 ∷ behind)) ≡ o →
      Reading nest close (123 ∷ id ++ 124 ∷ behind) (step_past (length id + 2) o)
  quoted_from h None e = stays (λ _ lone. lone (starts.quoted id behind h))
  quoted_from h (Some m) e =
      goes (quoted_item m h (ap (λ k. quoted_rest k behind) (sym quoted_id_is) ∙ ap (λ k. quoted_rest (quoted_id (length id + 2) (123 ∷ id ++ 124 ∷ behind)) k) (sym drop_opening) ∙ e))

quoted_reading : {nest : Option ℕ} {close : List ℕ} (s : List ℕ) (n : ℕ) → OpeningIn s n → Reading nest close s (step_past n (quoted_rest (quoted_id n s) (drop n s)))
quoted_reading {nest} {close} s n x =
    subst (λ t. Reading nest close t (step_past n (quoted_rest (quoted_id n t) (drop n t)))) (sym x.split)
    (subst (λ k. Reading nest close (123 ∷ x.id ++ 124 ∷ x.rest) (step_past k (quoted_rest (quoted_id k (123 ∷ x.id ++ 124 ∷ x.rest)) (drop k (123 ∷ x.id ++ 124 ∷ x.rest))))) (sym x.size)
    (quoted_from x.id x.rest x.is_id _ refl))

-- Lemmas on steps over a single byte.
starts_not : {s : List ℕ} → StartsItem s → AreBytes s → has s 0 34 ≡ false → nat_lt 0 (literal s) ≡ false → is_word_start (byte_at s 0) ≡ false → nat_lt 0 (quoted_opening s) ≡ false → begins_comment s ≡ false → ⊥
starts_not starts.string are h i j k l = true≢false h
starts_not (starts.character text s c) are h i j k l = both_ways (nat_lt 0 (literal (text ++ s))) i (literal_some text s c are)
starts_not (starts.word {b = b} w) are h i j k l = both_ways (is_word_start b) j w
starts_not (starts.quoted id s w) are h i j k l = both_ways (nat_lt 0 (quoted_opening (123 ∷ id ++ 124 ∷ s))) k (opening_some id s w)
starts_not starts.comment are h i j k l = true≢false l

nest_reading : (e : Delimiter) (s : List ℕ) → nests_in e s ≡ true → (StartsItem s → ⊥) → Reading (nest_of e) (close_of e) s Nests
nest_reading Brace s k lone = begins 123 refl (first_byte_is s 123 refl k) lone
nest_reading Bracket s k lone = begins 91 refl (first_byte_is s 91 refl k) lone
nest_reading _ s k lone = absurd (true≢false (sym k))

nest_not : (e : Delimiter) (b : ℕ) (bs : List ℕ) → nests_in e (b ∷ bs) ≡ false → nest_of e ≢ Some b
nest_not Brace b bs k q = both_ways (b == 123) k ((Decides-eqb b 123).1 (sym (same_Some _ _ q)))
nest_not Bracket b bs k q = both_ways (b == 91) k ((Decides-eqb b 91).1 (sym (same_Some _ _ q)))
nest_not _ b bs k q = absurd (cc)

byte_reading : (e : Delimiter) (s : List ℕ) → is_at_end s ≡ false → nests_in e s ≡ false → (StartsItem s → ⊥) → ((behind : List ℕ) → s ≡ close_of e ++ behind → ⊥) → Reading (nest_of e) (close_of e) s (Passes 1)
byte_reading e [] h k lone open_still = absurd (true≢false h)
byte_reading e (b ∷ bs) h k lone open_still = goes_by b (nest_not e b bs k) refl lone open_still

no_bytes : (s : List ℕ) → AreBytes s → is_at_end s ≡ true → s ≢ [] → ⊥
no_bytes [] are h some = some refl
no_bytes (b ∷ bs) are h some = let small : b < 256 = are.0 in let same : b ≡ 256 = (Decides-eqb b 256).0 h in omega (arith, small, same)

single_reading : (e : Delimiter) (s : List ℕ) → AreBytes s → (StartsItem s → ⊥) → ((behind : List ℕ) → s ≡ close_of e ++ behind → ⊥) → Reading (nest_of e) (close_of e) s (step_over_byte e s)
single_reading e s are lone open_still =
    reading_cond (is_at_end s) (λ h. stays (λ some _. no_bytes s are h some)) (λ h. reading_cond (nests_in e s) (λ k. nest_reading e s k lone) (λ k. byte_reading e s h k lone open_still))

item_reading : (e : Delimiter) (s : List ℕ) → AreBytes s → begins_comment s ≡ false → ((behind : List ℕ) → s ≡ close_of e ++ behind → ⊥) → Reading (nest_of e) (close_of e) s (step_over_one e s)
unfolding step_over_one
item_reading e s are no_comment open_still =
    reading_cond (has s 0 34) (λ h. string_reading s h (string_rest false (drop 1 s)) refl)
    (λ h. reading_cond (nat_lt 0 (literal s)) (λ i. goes (items.character ((literal_spans s).text i)))
    (λ i. reading_cond (is_word_start (byte_at s 0)) (λ j. goes (word_item s j))
    (λ j. reading_cond (nat_lt 0 (quoted_opening s)) (λ k. quoted_reading s (quoted_opening s) (opening_in s k))
    (λ k. single_reading e s are (λ x. starts_not x are h i j k no_comment) open_still))))

plain_is : (e : Delimiter) (s : List ℕ) → has_items e ≡ true → step_inside e s ≡ step_over_one e s
plain_is Angle s h = absurd (cc)
plain_is Slash s h = absurd (cc)
plain_is _ s h = refl

remarks_are : (e : Delimiter) → has_items e ≡ true → has_remarks e ≡ true
remarks_are Slash h = absurd (cc)
remarks_are _ h = refl

pub reading_of : (e : Delimiter) (s : List ℕ) → has_items e ≡ true → AreBytes s → Reading (nest_of e) (close_of e) s (step e s)
unfolding step
reading_of e s h are =
    reading_cond (nat_lt 0 (closer_length e s)) (λ k. closed e s k)
    (λ k. reading_cond (has_remarks e && begins_comment s) (λ l. let x = and_parts (has s 0 40) (has s 1 42) (and_parts (has_remarks e) (begins_comment s) l).1 in comes (first_two_are s 40 42 refl refl x.0 x.1))
    (λ l. subst (λ f. Reading (nest_of e) (close_of e) s f) (sym (plain_is e s h))
    (item_reading e s are (subst (λ b. (b && begins_comment s) ≡ false) (remarks_are e h) l) (not_closed e s k))))
