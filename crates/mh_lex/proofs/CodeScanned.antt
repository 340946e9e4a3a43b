-- Proves that code by the definition `Code` is scanned up to its end.
use Rattle.std.proofs.Common.{◌≡◌, ◌≢◌, ℕ, suc, ◌+◌, ◌==◌, ◌&&◌, Bool, true, false, cond, List, [], ◌∷◌, ◌++◌, length, take, drop, Option, Some, refl, sym, ap, subst, ◌∙◌, arith, append_assoc, length-append}
use Rattle.std.specs.Prelude.{nat_lt}
use Rattle.std.specs.List.{AllByRecursion}
use Rattle.std.proofs.lemmas.List.{take-append-drop}
use Rattle.std.proofs.lemmas.Bool.Decides.{nat_tests, Decides-eqb}
use Rattle.std.proofs.lemmas.Bool.{and_parts}
use Rattle.std.proofs.lemmas.Option.{same_Some}
use Rattle.mh_lex.specs.declared.code.Delimiter.{Delimiter}
use Rattle.mh_lex.specs.declared.code.Delimiter.TheVariants.{Comment, Brace, Bracket, Header, Angle, Slash}
use Rattle.mh_lex.specs.declared.code.CodeStep.{CodeStep}
use Rattle.mh_lex.specs.declared.code.CodeStep.TheVariants.{Closes, Passes, Nests, Remark}
use Rattle.mh_lex.specs.declared.kinds.Kind.{Kind}
use Rattle.mh_lex.specs.declared.kinds.Kind.TheVariants as kinds
use Rattle.mh_lex.specs.declared.kinds.LexemeStart.TheVariants.{Long}
use Rattle.mh_lex_bytes.specs.Bytes.{byte_at, has, is_word_start, is_word_byte}
use Rattle.mh_lex.specs.LexemeLengths.{plus_one, word_rest, string_rest, literal, quoted_opening, quoted_id, closes_quoted, quoted_rest}
use Rattle.mh_lex.specs.CodeSteps.{step_past, step_over_byte, step_over_one, step}
use Rattle.mh_lex.specs.LexemeTexts.{is_content}
use Rattle.mh_lex.specs.LexemeStarts.{lexeme_start, percent_start}
use Rattle.mh_lex.specs.Bodies.{Body, Body as body}
use Rattle.mh_lex.specs.InCode.{StringContent, CharacterLiteral, EndsAtFirst, IsId, EndsWord, CodeItem, StartsItem, Code, HasCode, StartsItem as starts, CharacterLiteral as characters, Code as code}
use Rattle.mh_lex.specs.InCode.StringContent.{nothing, free, taken}
use Rattle.mh_lex.specs.InCode.EndsAtFirst.{here, later}
use Rattle.mh_lex.specs.InCode.CodeItem.{string, character, word, quoted}
use Rattle.mh_lex.specs.InCode.HasCode.{action, header, attribute, own_attribute}
use Rattle.mh_lex.specs.Lexing.{Scanned}
use Rattle.mh_lex.specs.Lexing.Scanned.{long}
use Rattle.mh_lex_bytes.proofs.KeywordRows.{start_is_byte}
use Rattle.mh_lex.proofs.LaidOutTexts.{drop_prefix, string_rest-append}
use Rattle.mh_lex.proofs.CodeLevels.{each_end}
use Rattle.mh_lex.proofs.SpansCode.{bytes_of_rest}
use Rattle.mh_lex.proofs.CodeItems.{AreBytes, Reading, nest_of, close_of, has_items, differ, positive_test, literal_is, opening_is, closes_split, closes_here, drop_opening, quoted_id_is, reading_of, Reading as readings}
use Rattle.mh_lex_bytes.proofs.ByteTests.{second_branch, third_branch, fourth_branch}

-- Lemmas on a step of the lexer inside code where an item begins: a string, a character literal, a word or a quoted
-- string.

-- A byte that closes nothing and begins no comment.
module _ (a : ℕ) (s : List ℕ) (star : (a == 42) ≡ false) (brace : (a == 125) ≡ false) (bracket : (a == 93) ≡ false) (percent_sign : (a == 37) ≡ false) (open_bracket : (a == 40) ≡ false) where
  step_is_item : (e : Delimiter) → has_items e ≡ true → step e (a ∷ s) ≡ step_over_one e (a ∷ s)
  unfolding step
  step_is_item Comment h = rw (star, open_bracket) refl
  step_is_item Brace h = rw (brace, open_bracket) refl
  step_is_item Bracket h = rw (bracket, open_bracket) refl
  step_is_item Header h = rw (percent_sign, open_bracket) refl
  step_is_item Angle h = absurd (cc)
  step_is_item Slash h = absurd (cc)

content_is : (s : List ℕ) → StringContent s → is_content false s ≡ true
content_is s nothing = refl
content_is s (free {b = b} {s = t} h k c) = rw (differ b 34 h, differ b 92 k) (content_is t c)
content_is s (taken {s = t} c) = content_is t c

word_rest-ends : (t r : List ℕ) → AllByRecursion (λ b. is_word_byte b ≡ true) t → EndsWord r → word_rest (t ++ r) ≡ length t
word_rest-ends [] [] h k = refl
word_rest-ends [] (b ∷ bs) h k = rw k refl
word_rest-ends (b ∷ bs) r h k = rw h.0 (ap (λ n. n + 1) (word_rest-ends bs r h.1 k) ∙ (omega arith))

-- A byte that can only begin a word.
record IsWordOnly (b : ℕ) : Type 0 where
  star : (b == 42) ≡ false
  brace : (b == 125) ≡ false
  bracket : (b == 93) ≡ false
  percent_sign : (b == 37) ≡ false
  open_bracket : (b == 40) ≡ false
  quote : (b == 34) ≡ false
  apostrophe : (b == 39) ≡ false

word_only : (b : ℕ) → is_word_start b ≡ true → IsWordOnly b
word_only b h = record {
  star = grind (arith, nat_tests);
  brace = grind (arith, nat_tests);
  bracket = grind (arith, nat_tests);
  percent_sign = grind (arith, nat_tests);
  open_bracket = grind (arith, nat_tests);
  quote = grind (arith, nat_tests);
  apostrophe = grind (arith, nat_tests);
}

until_is : (id text r : List ℕ) → EndsAtFirst (124 ∷ id ++ 125 ∷ []) text r → quoted_rest id (text ++ r) ≡ Some (length text)
until_is id text r (here q) =
    let whole : text ++ r ≡ 124 ∷ id ++ 125 ∷ r = ap (λ k. k ++ r) q ∙ ap (λ k. 124 ∷ k) (append_assoc id (125 ∷ []) r) in
    let size : length id + 2 ≡ length text = omega (arith, ap length q, length-append id (125 ∷ [])) in
    ap (λ k. quoted_rest id k) whole ∙ rw (closes_here id r) (ap Some size)
until_is id text r (later {b = b} {text = t} lone u) = by (b == 124 && closes_quoted id (t ++ r)) refl (until_is id t r u)
  where
    ends_here : (b == 124 && closes_quoted id (t ++ r)) ≡ true → ⊥
    ends_here h =
        let two = and_parts (b == 124) (closes_quoted id (t ++ r)) h in
        let x = closes_split id (t ++ r) two.1 in
        lone x.0 (ap (λ k. k ∷ t ++ r) ((Decides-eqb b 124).0 two.0) ∙ ap (λ k. 124 ∷ k) (x.1 ∙ sym (append_assoc id (125 ∷ []) x.0)))

    by : (c : Bool) → (b == 124 && closes_quoted id (t ++ r)) ≡ c → quoted_rest id (t ++ r) ≡ Some (length t) → cond c (Some (length id + 2)) (plus_one (quoted_rest id (t ++ r))) ≡ Some (length (b ∷ t))
    by true h e = absurd (ends_here h)
    by false h e = ap plus_one e ∙ ap Some (omega arith)

literal_none : (s : List ℕ) → has s 0 39 ≡ false → literal s ≡ 0
unfolding literal
literal_none s h = rw h refl

no_literal : (s : List ℕ) → has s 0 39 ≡ false → nat_lt 0 (literal s) ≡ false
no_literal s h = ap (λ n. nat_lt 0 n) (literal_none s h)

-- Lemmas: a step where an item begins passes over the whole item.
string_step : (e : Delimiter) (s r : List ℕ) → has_items e ≡ true → StringContent s → step e (34 ∷ (s ++ 34 ∷ []) ++ r) ≡ Passes (length (34 ∷ s ++ 34 ∷ []))
unfolding step_over_one
string_step e s r h c =
    let size : length s + 1 + 1 ≡ length (34 ∷ s ++ 34 ∷ []) = omega (arith, length-append s (34 ∷ [])) in
    step_is_item 34 ((s ++ 34 ∷ []) ++ r) refl refl refl refl refl e h ∙ ap (λ o. step_past 1 o) (string_rest-append false s r (content_is s c)) ∙ ap Passes size

item_literal : (e : Delimiter) (s : List ℕ) (n : ℕ) → has s 0 34 ≡ false → literal s ≡ suc n → step_over_one e s ≡ Passes (suc n)
unfolding step_over_one
item_literal e s n h k = second_branch _ _ _ _ _ h (positive_test k) ∙ ap Passes k

character_step : (e : Delimiter) (text r : List ℕ) → has_items e ≡ true → CharacterLiteral text → AreBytes (text ++ r) → step e (text ++ r) ≡ Passes (length text)
character_step e text r h (characters.one {b = b} k l m) are =
    step_is_item 39 (b ∷ 39 ∷ r) refl refl refl refl refl e h ∙ item_literal e (39 ∷ b ∷ 39 ∷ r) 2 refl (literal_is text r (characters.one k l m) are)
character_step e text r h (characters.escape {b = b} k) are =
    step_is_item 39 (92 ∷ b ∷ 39 ∷ r) refl refl refl refl refl e h ∙ item_literal e (39 ∷ 92 ∷ b ∷ 39 ∷ r) 3 refl (literal_is text r (characters.escape k) are)
character_step e text r h (characters.decimal {a = a} {b = b} {c = c} k l m) are =
    step_is_item 39 (92 ∷ a ∷ b ∷ c ∷ 39 ∷ r) refl refl refl refl refl e h ∙ item_literal e (39 ∷ 92 ∷ a ∷ b ∷ c ∷ 39 ∷ r) 5 refl (literal_is text r (characters.decimal k l m) are)
character_step e text r h (characters.hexadecimal {a = a} {b = b} k l) are =
    step_is_item 39 (92 ∷ 120 ∷ a ∷ b ∷ 39 ∷ r) refl refl refl refl refl e h ∙ item_literal e (39 ∷ 92 ∷ 120 ∷ a ∷ b ∷ 39 ∷ r) 5 refl (literal_is text r (characters.hexadecimal k l) are)
character_step e text r h (characters.octal {a = a} {b = b} {c = c} k l m) are =
    step_is_item 39 (92 ∷ 111 ∷ a ∷ b ∷ c ∷ 39 ∷ r) refl refl refl refl refl e h ∙ item_literal e (39 ∷ 92 ∷ 111 ∷ a ∷ b ∷ c ∷ 39 ∷ r) 6 refl (literal_is text r (characters.octal k l m) are)

item_word : (e : Delimiter) (b : ℕ) (s : List ℕ) → (b == 34) ≡ false → (b == 39) ≡ false → is_word_start b ≡ true → step_over_one e (b ∷ s) ≡ Passes (word_rest (b ∷ s))
unfolding step_over_one
item_word e b s h k l = third_branch _ _ _ _ _ _ _ h (no_literal (b ∷ s) k) l

word_step : (e : Delimiter) (b : ℕ) (bs r : List ℕ) → has_items e ≡ true → is_word_start b ≡ true → AllByRecursion (λ c. is_word_byte c ≡ true) bs → EndsWord r → step e (b ∷ bs ++ r) ≡ Passes (length (b ∷ bs))
word_step e b bs r h k all ends =
    let o = word_only b k in
    step_is_item b (bs ++ r) o.star o.brace o.bracket o.percent_sign o.open_bracket e h ∙ item_word e b (bs ++ r) o.quote o.apostrophe k ∙
    ap Passes (word_rest-ends (b ∷ bs) r (start_is_byte b k, all) ends)

item_quoted : (e : Delimiter) (s : List ℕ) → nat_lt 0 (quoted_opening (123 ∷ s)) ≡ true →
    step_over_one e (123 ∷ s) ≡ step_past (quoted_opening (123 ∷ s)) (quoted_rest (quoted_id (quoted_opening (123 ∷ s)) (123 ∷ s)) (drop (quoted_opening (123 ∷ s)) (123 ∷ s)))
unfolding step_over_one
item_quoted e s h =
    fourth_branch (has (123 ∷ s) 0 34) (nat_lt 0 (literal (123 ∷ s))) (is_word_start 123) (nat_lt 0 (quoted_opening (123 ∷ s))) (step_past 1 (string_rest false s)) (Passes (literal (123 ∷ s))) (Passes (word_rest (123 ∷ s)))
    (step_past (quoted_opening (123 ∷ s)) (quoted_rest (quoted_id (quoted_opening (123 ∷ s)) (123 ∷ s)) (drop (quoted_opening (123 ∷ s)) (123 ∷ s)))) (step_over_byte e (123 ∷ s)) refl (no_literal (123 ∷ s) refl) refl h

quoted_step : (e : Delimiter) (id text r : List ℕ) → has_items e ≡ true → IsId id → EndsAtFirst (124 ∷ id ++ 125 ∷ []) text r → step e (123 ∷ id ++ 124 ∷ (text ++ r)) ≡ Passes (length (123 ∷ id ++ 124 ∷ text))
quoted_step e id text r h ids u =
    let s = 123 ∷ id ++ 124 ∷ (text ++ r) in
    let opening = opening_is id (text ++ r) ids in
    let two : length id + 2 ≡ suc (length id + 1) = omega arith in
    let size : length text + (length id + 2) ≡ length (123 ∷ id ++ 124 ∷ text) = omega (arith, length-append id (124 ∷ text)) in
    step_is_item 123 (id ++ 124 ∷ (text ++ r)) refl refl refl refl refl e h ∙ item_quoted e (id ++ 124 ∷ (text ++ r)) (positive_test (opening ∙ two)) ∙
    ap (λ n. step_past n (quoted_rest (quoted_id n s) (drop n s))) opening ∙
    ap (λ i. step_past (length id + 2) (quoted_rest i (drop (length id + 2) s))) (quoted_id_is id (text ++ r)) ∙
    ap (λ t. step_past (length id + 2) (quoted_rest id t)) (drop_opening id (text ++ r)) ∙
    ap (λ o. step_past (length id + 2) o) (until_is id text r u) ∙ ap Passes size

item_step : (e : Delimiter) (t r : List ℕ) → has_items e ≡ true → CodeItem t r → AreBytes (t ++ r) → step e (t ++ r) ≡ Passes (length t)
item_step e t r h (string s c) are = string_step e s r h c
item_step e t r h (character c) are = character_step e t r h c are
item_step e t r h (word {b = b} {bs = bs} k all ends) are = word_step e b bs r h k all ends
item_step e t r h (quoted id text ids u) are =
    ap (λ k. step e (123 ∷ k)) (append_assoc id (124 ∷ text) r) ∙ quoted_step e id text r h ids u

-- If the bytes begin with an item, they satisfy `StartsItem`.
item_starts : (t r : List ℕ) → CodeItem t r → StartsItem (t ++ r)
item_starts t r (string s c) = starts.string
item_starts t r (character c) = starts.character t r c
item_starts t r (word k all ends) = starts.word k
item_starts t r (quoted id text ids u) = subst (λ k. StartsItem (123 ∷ k)) (sym (append_assoc id (124 ∷ text) r)) (starts.quoted id (text ++ r) ids)

-- Lemmas on the other steps of the lexer inside code: over a single byte, into a level, over the closing delimiter, and
-- into a comment.

no_item : (s : List ℕ) (n : ℕ) → (StartsItem s → ⊥) → CodeItem (take n s) (drop n s) → ⊥
no_item s n lone i = lone (subst StartsItem (take-append-drop n s) (item_starts (take n s) (drop n s) i))

no_comment : (s : List ℕ) → (StartsItem s → ⊥) → s ≡ 40 ∷ 42 ∷ drop 2 s → ⊥
no_comment s lone q = lone (subst StartsItem (sym q) starts.comment)

byte_passes : {nest : Option ℕ} {close : List ℕ} {f : CodeStep} (b : ℕ) (s : List ℕ) → (StartsItem (b ∷ s) → ⊥) → Reading nest close (b ∷ s) f → nest ≢ Some b → ((behind : List ℕ) → b ∷ s ≡ close ++ behind → ⊥) →
    f ≡ Passes 1
byte_passes b s lone (readings.ends {n = n} q) o open_still = absurd (open_still (drop n (b ∷ s)) q)
byte_passes b s lone (readings.goes {n = n} i) o open_still = absurd (no_item (b ∷ s) n lone i)
byte_passes b s lone (readings.comes q) o open_still = absurd (no_comment (b ∷ s) lone q)
byte_passes b s lone (readings.begins c n q k) o open_still = absurd (let one : c ≡ b = ap (λ l. byte_at l 0) (sym q) in o (n ∙ ap Some one))
byte_passes b s lone (readings.goes_by c p q k m) o open_still = refl
byte_passes b s lone (readings.stays f) o open_still = absurd (f (λ e. cc) lone)

byte_nests : {nest : Option ℕ} {close : List ℕ} {f : CodeStep} (b : ℕ) (s : List ℕ) → (StartsItem (b ∷ s) → ⊥) → Reading nest close (b ∷ s) f → nest ≡ Some b → ((behind : List ℕ) → b ∷ s ≡ close ++ behind → ⊥) →
    f ≡ Nests
byte_nests b s lone (readings.ends {n = n} q) o open_still = absurd (open_still (drop n (b ∷ s)) q)
byte_nests b s lone (readings.goes {n = n} i) o open_still = absurd (no_item (b ∷ s) n lone i)
byte_nests b s lone (readings.comes q) o open_still = absurd (no_comment (b ∷ s) lone q)
byte_nests b s lone (readings.begins c n q k) o open_still = refl
byte_nests b s lone (readings.goes_by c p q k m) o open_still = absurd (let one : b ≡ c = ap (λ l. byte_at l 0) q in p (o ∙ ap Some one))
byte_nests b s lone (readings.stays f) o open_still = absurd (f (λ e. cc) lone)

-- A byte that opens a level closes nothing.
level_open : (e : Delimiter) (b : ℕ) (s : List ℕ) → nest_of e ≡ Some b → (behind : List ℕ) → b ∷ s ≡ close_of e ++ behind → ⊥
level_open Brace b s o behind q = let one : b ≡ 123 = sym (same_Some _ _ o) in let other : b ≡ 125 = ap (λ l. byte_at l 0) q in omega (arith, one, other)
level_open Bracket b s o behind q = let one : b ≡ 91 = sym (same_Some _ _ o) in let other : b ≡ 93 = ap (λ l. byte_at l 0) q in omega (arith, one, other)
level_open _ b s o behind q = cc

closing_step : (e : Delimiter) (rest : List ℕ) → step e (close_of e ++ rest) ≡ Closes (length (close_of e))
unfolding step
closing_step e rest = each_end (λ e. step e (close_of e ++ rest) ≡ Closes (length (close_of e))) refl refl refl refl refl refl e

comment_step : (e : Delimiter) (s : List ℕ) → has_items e ≡ true → step e (40 ∷ 42 ∷ s) ≡ Remark
unfolding step
comment_step Slash s h = absurd (cc)
comment_step Comment s h = refl
comment_step Brace s h = refl
comment_step Bracket s h = refl
comment_step Header s h = refl
comment_step Angle s h = refl

-- Text that is code by the definition `Code` is also code by `Body`, the definition by the steps of the lexer.
body_of : {nest : Option ℕ} {close text rest : List ℕ} → Code nest close text rest → (e : Delimiter) → has_items e ≡ true → nest ≡ nest_of e → close ≡ close_of e → AreBytes (text ++ rest) → Body e (text ++ rest) rest
body_of {text = text} {rest = rest} (code.closes q) e h n c are =
    let same = q ∙ c in
    subst (λ t. Body e (t ++ rest) rest) (sym same) (body.closes (closing_step e rest) (sym (drop_prefix (close_of e) rest)))
body_of {rest = rest} (code.item t plus_one i others) e h n c are =
    let split = append_assoc t plus_one rest in
    let are' = subst AreBytes split are in
    let behind = body_of others e h n c (bytes_of_rest (t ++ (plus_one ++ rest)) (plus_one ++ rest) t refl are') in
    subst (λ s. Body e s rest) (sym split)
    (body.passes (item_step e t (plus_one ++ rest) h i are') (subst (λ s. Body e s rest) (sym (drop_prefix t (plus_one ++ rest))) behind))
body_of {rest = rest} (code.comment t plus_one inner others) e h n c are =
    let split : (40 ∷ 42 ∷ t ++ plus_one) ++ rest ≡ 40 ∷ 42 ∷ t ++ (plus_one ++ rest) = ap (λ k. 40 ∷ 42 ∷ k) (append_assoc t plus_one rest) in
    let are' = subst AreBytes split are in
    let behind = body_of others e h n c (bytes_of_rest (t ++ (plus_one ++ rest)) (plus_one ++ rest) t refl are'.1.1) in
    subst (λ s. Body e s rest) (sym split) (body.remark (comment_step e (t ++ (plus_one ++ rest)) h) (body_of inner Comment refl refl refl are'.1.1) behind)
body_of {rest = rest} (code.level b t plus_one o lone inner others) e h n c are =
    let split : (b ∷ t ++ plus_one) ++ rest ≡ b ∷ t ++ (plus_one ++ rest) = ap (λ k. b ∷ k) (append_assoc t plus_one rest) in
    let are' = subst AreBytes split are in
    let s = t ++ (plus_one ++ rest) in
    let behind = body_of others e h n c (bytes_of_rest s (plus_one ++ rest) t refl are'.1) in
    let own = sym n ∙ o in
    subst (λ s. Body e s rest) (sym split) (body.nests (byte_nests b s lone (reading_of e (b ∷ s) h are') own (level_open e b s own)) (body_of inner e h n c are'.1) behind)
body_of {rest = rest} (code.byte b plus_one o lone open_still others) e h n c are =
    let s = plus_one ++ rest in
    body.passes (byte_passes b s lone (reading_of e (b ∷ s) h are) (λ q. o (n ∙ q)) (λ behind q. open_still behind (q ∙ ap (λ k. k ++ behind) (sym c)))) (body_of others e h n c are.1)

-- Code after its opening is scanned as one lexeme.
action_front : (s : List ℕ) → lexeme_start (123 ∷ s) ≡ Long (Some kinds.Action) Brace 1
unfolding lexeme_start
action_front s = refl

header_front : (s : List ℕ) → lexeme_start (37 ∷ 123 ∷ s) ≡ Long (Some kinds.Header) Header 2
unfolding lexeme_start percent_start
header_front s = refl

attribute_front : (s : List ℕ) → lexeme_start (91 ∷ 64 ∷ s) ≡ Long (Some kinds.Attribute) Bracket 2
unfolding lexeme_start
attribute_front s = refl

own_attribute_front : (s : List ℕ) → lexeme_start (37 ∷ 91 ∷ 64 ∷ s) ≡ Long (Some kinds.Attribute) Bracket 3
unfolding lexeme_start percent_start
own_attribute_front s = refl

pub code_scanned : (k : Kind) (text rest : List ℕ) → AreBytes (text ++ rest) → HasCode k text rest → Scanned (text ++ rest) (Some k) rest
code_scanned k text rest are (action x) = let same = ap (λ t. t ++ rest) x.1 in
    subst (λ s. Scanned s (Some kinds.Action) rest) (sym same) (long (action_front (x.0 ++ rest)) (body_of x.2 Brace refl refl refl (subst AreBytes same are).1))
code_scanned k text rest are (header x) = let same = ap (λ t. t ++ rest) x.1 in
    subst (λ s. Scanned s (Some kinds.Header) rest) (sym same) (long (header_front (x.0 ++ rest)) (body_of x.2 Header refl refl refl (subst AreBytes same are).1.1))
code_scanned k text rest are (attribute x) = let same = ap (λ t. t ++ rest) x.1 in
    subst (λ s. Scanned s (Some kinds.Attribute) rest) (sym same) (long (attribute_front (x.0 ++ rest)) (body_of x.2 Bracket refl refl refl (subst AreBytes same are).1.1))
code_scanned k text rest are (own_attribute x) = let same = ap (λ t. t ++ rest) x.1 in
    subst (λ s. Scanned s (Some kinds.Attribute) rest) (sym same) (long (own_attribute_front (x.0 ++ rest)) (body_of x.2 Bracket refl refl refl (subst AreBytes same are).1.1.1))
