-- Proves that texts with a space after each are the lexemes of the file that they make.
use Rattle.std.proofs.Common.{◌≡◌, ℕ, zero, suc, ◌+◌, ◌-◌, ◌<◌, ◌==◌, ◌&&◌, ◌||◌, Bool, true, false, not, List, [], ◌∷◌, ◌++◌, length, take, drop, Some, None, refl, sym, ap, subst, ◌∙◌, arith, length-append}
use Rattle.std.specs.List.{AllByRecursion, list_all}
use Rattle.std.proofs.lemmas.Bool.{not-true, and_left, and_parts}
use Rattle.std.proofs.lemmas.Bool.Decides.{nat_tests, Decides-eqb}
use Rattle.std.proofs.lemmas.List.Elements.{recursion_from_All}
use Rattle.std.proofs.lemmas.List.Sums.{AllPass-from_list_all}
use Rattle.mh_lex.specs.declared.code.Delimiter.TheVariants as ends
use Rattle.mh_lex.specs.declared.code.CodeStep.TheVariants.{Closes, Passes}
use Rattle.mh_lex.specs.declared.kinds.Kind.{Kind}
use Rattle.mh_lex.specs.declared.kinds.Kind.TheVariants as kinds
use Rattle.mh_lex.specs.declared.kinds.Lexeme.{Lexeme}
use Rattle.mh_lex.specs.declared.kinds.LexemeStart.TheVariants.{Ended, Short, Long}
use Rattle.mh_lex_bytes.specs.Bytes.{is_word_start, is_word_byte, is_blank, is_mark, is_decimal}
use Rattle.mh_lex.specs.LexemeLengths.{plus_one, word_rest, string_rest, literal, quoted_opening}
use Rattle.mh_lex.specs.CodeSteps.{step, step_over_one}
use Rattle.mh_lex_bytes.specs.Keywords.{is_keyword}
use Rattle.mh_lex_bytes.specs.Words.{is_word}
use Rattle.mh_lex.specs.LexemeStarts.{lexeme_start, percent_start, keyword_of}
use Rattle.mh_lex.specs.Bodies.{Body}
use Rattle.mh_lex.specs.Bodies.Body.{closes, passes}
use Rattle.mh_lex.specs.Lexing.{Scanned, LexesFrom, Lexes, lexeme_between, percents_left}
use Rattle.mh_lex.specs.Lexing.Scanned.{short, long}
use Rattle.mh_lex.specs.Lexing.LexesFrom.{ended, taken}
use Rattle.mh_lex.specs.LexemeTexts.{LexemeText, IsText, is_content, laid_out, laid_out_lexemes, percents_in, count_of_percents}
use Rattle.mh_lex.specs.LexemeTexts.LexemeText.{word, mark, percents, keyword, quoted, empty_action, cost}
use Rattle.mh_lex_bytes.proofs.KeywordRows.{keyword_is_word, start_is_byte}
use Rattle.mh_lex_bytes.proofs.ByteTests.{third_branch, fourth_branch}

-- What follows from each side of a true disjunction holds.
either : {P : Type 0} (a b : Bool) → (a || b) ≡ true → (a ≡ true → P) → (b ≡ true → P) → P
either true b h f g = f refl
either false b h f g = g h

pub drop_prefix : (t rest : List ℕ) → drop (length t) (t ++ rest) ≡ rest
drop_prefix [] rest = refl
drop_prefix (b ∷ bs) rest = drop_prefix bs rest

-- Lemmas on a word before a space.
word_tests : (b : ℕ) → is_word_start b ≡ true → ((b == 256) ≡ false) × (is_blank b ≡ false)
word_tests b h = (grind (arith, nat_tests), grind (arith, nat_tests))

word_rest-append : (t rest : List ℕ) → AllByRecursion (λ b. is_word_byte b ≡ true) t → word_rest (t ++ 32 ∷ rest) ≡ length t
word_rest-append [] rest h = refl
word_rest-append (b ∷ bs) rest h = rw h.0 (ap (λ k. k + 1) (word_rest-append bs rest h.1) ∙ (omega arith))

word_front : (b : ℕ) (bs rest : List ℕ) → is_word_start b ≡ true → word_rest (b ∷ bs ++ 32 ∷ rest) ≡ length (b ∷ bs) → lexeme_start (b ∷ bs ++ 32 ∷ rest) ≡ Short (Some kinds.Word) (length (b ∷ bs))
unfolding lexeme_start
word_front b bs rest h e = let w = word_tests b h in third_branch _ _ _ _ _ _ _ w.0 w.1 h ∙ ap (λ n. Short (Some kinds.Word) n) e

-- Lemmas on a punctuation mark before a space.
mark_cases : (P : ℕ → Type 0) → P 58 → P 124 → P 61 → P 44 → P 59 → P 40 → P 41 → P 63 → P 42 → P 43 → (b : ℕ) → is_mark b ≡ true → P b
mark_cases P p0 p1 p2 p3 p4 p5 p6 p7 p8 p9 b h =
    either _ _ h (is 58 p0) (λ h1. either _ _ h1 (is 124 p1) (λ h2. either _ _ h2 (is 61 p2) (λ h3. either _ _ h3 (is 44 p3) (λ h4. either _ _ h4 (is 59 p4)
    (λ h5. either _ _ h5 (is 40 p5) (λ h6. either _ _ h6 (is 41 p6) (λ h7. either _ _ h7 (is 63 p7) (λ h8. either _ _ h8 (is 42 p8) (is 43 p9)))))))))
  where
    is : (m : ℕ) → P m → (b == m) ≡ true → P b
    is m p e = subst P (sym ((Decides-eqb b m).0 e)) p

abbrev IsMarkFront : ℕ → Type 0
IsMarkFront b = (rest : List ℕ) → lexeme_start (b ∷ 32 ∷ rest) ≡ Short (Some kinds.Mark) 1

mark_front : (b : ℕ) → is_mark b ≡ true → IsMarkFront b
unfolding lexeme_start
mark_front b h = mark_cases IsMarkFront (λ rest. refl) (λ rest. refl) (λ rest. refl) (λ rest. refl) (λ rest. refl) (λ rest. refl) (λ rest. refl) (λ rest. refl) (λ rest. refl) (λ rest. refl) b h

-- Lemmas on a keyword before a space.
percent_tests : (b : ℕ) → is_word_start b ≡ true → ((b == 37) ≡ false) × ((b == 123) ≡ false) × ((b == 91) ≡ false)
percent_tests b h = (grind (arith, nat_tests), grind (arith, nat_tests), grind (arith, nat_tests))

pub take_prefix : (t rest : List ℕ) → take (length t) (t ++ rest) ≡ t
take_prefix [] rest = refl
take_prefix (b ∷ bs) rest = ap (λ k. b ∷ k) (take_prefix bs rest)

keyword_front_by : (b : ℕ) (bs rest : List ℕ) → is_keyword (b ∷ bs) ≡ true → is_word_start b ≡ true → word_rest (b ∷ bs ++ 32 ∷ rest) ≡ length (b ∷ bs) →
    lexeme_start (37 ∷ b ∷ bs ++ 32 ∷ rest) ≡ Short (Some kinds.Keyword) (length (b ∷ bs) + 1)
unfolding lexeme_start percent_start keyword_of
keyword_front_by b bs rest h start e =
    let tests = percent_tests b start in
    let whole : take (word_rest (b ∷ bs ++ 32 ∷ rest)) (b ∷ bs ++ 32 ∷ rest) ≡ b ∷ bs = ap (λ n. take n (b ∷ bs ++ 32 ∷ rest)) e ∙ take_prefix (b ∷ bs) (32 ∷ rest) in
    fourth_branch _ _ _ _ _ _ _ _ _ tests.0 tests.1 (and_left _ _ tests.2) (ap is_keyword whole ∙ h) ∙ ap (λ n. Short (Some kinds.Keyword) (n + 1)) e

keyword_front : (w rest : List ℕ) → is_keyword w ≡ true → lexeme_start (37 ∷ w ++ 32 ∷ rest) ≡ Short (Some kinds.Keyword) (length w + 1)
keyword_front w rest h = by w h (keyword_is_word w h)
  where
    by : (w : List ℕ) → is_keyword w ≡ true → is_word w ≡ true → lexeme_start (37 ∷ w ++ 32 ∷ rest) ≡ Short (Some kinds.Keyword) (length w + 1)
    by [] h k = absurd (cc)
    by (b ∷ bs) h k =
        let two = and_parts (is_word_start b) (list_all is_word_byte bs) k in
        keyword_front_by b bs rest h two.0 (word_rest-append (b ∷ bs) rest (start_is_byte b two.0, recursion_from_All (λ c. is_word_byte c ≡ true) bs (AllPass-from_list_all is_word_byte bs two.1)))

-- Lemmas on `%%` before a space.
percents_front : (rest : List ℕ) → lexeme_start (37 ∷ 37 ∷ 32 ∷ rest) ≡ Short (Some kinds.Percents) 2
unfolding lexeme_start percent_start
percents_front rest = refl

-- Lemmas on a string before a space.
pub string_rest-append : (held : Bool) (s rest : List ℕ) → is_content held s ≡ true → string_rest held ((s ++ 34 ∷ []) ++ rest) ≡ Some (length s + 1)
string_rest-append true [] rest h = cc
string_rest-append false [] rest h = refl
string_rest-append held (b ∷ bs) rest h =
    let two = and_parts (not (not held && b == 34)) (is_content (not held && b == 92) bs) h in
    let plain : (not held && b == 34) ≡ false = not-true (not held && b == 34) two.0 in
    rw plain (ap plus_one (string_rest-append (not held && b == 92) bs rest two.1) ∙ ap Some (omega arith))

quoted_front : (s rest : List ℕ) → is_content false s ≡ true → lexeme_start (34 ∷ (s ++ 34 ∷ []) ++ 32 ∷ rest) ≡ Short (Some kinds.Quoted) (length s + 1 + 1)
unfolding lexeme_start
quoted_front s rest h = rw (string_rest-append false s (32 ∷ rest) h) refl

-- Lemmas on an empty action before a space.
action_front : (rest : List ℕ) → lexeme_start (123 ∷ rest) ≡ Long (Some kinds.Action) ends.Brace 1
unfolding lexeme_start
action_front rest = refl

action_step : (rest : List ℕ) → step ends.Brace (125 ∷ rest) ≡ Closes 1
unfolding step
action_step rest = refl

-- Lemmas on a cost attribute before a space.
attribute_front : (rest : List ℕ) → lexeme_start (91 ∷ 64 ∷ rest) ≡ Long (Some kinds.Attribute) ends.Bracket 2
unfolding lexeme_start
attribute_front rest = refl

bracket_step : (rest : List ℕ) → step ends.Bracket (93 ∷ rest) ≡ Closes 1
unfolding step
bracket_step rest = refl

word_step : (rest : List ℕ) → step ends.Bracket (99 ∷ 111 ∷ 115 ∷ 116 ∷ 32 ∷ rest) ≡ Passes 4
unfolding step step_over_one literal quoted_opening
word_step rest = refl

space_step : (rest : List ℕ) → step ends.Bracket (32 ∷ rest) ≡ Passes 1
unfolding step step_over_one literal quoted_opening
space_step rest = refl

abbrev IsDigitStep : ℕ → Type 0
IsDigitStep d = (rest : List ℕ) → step ends.Bracket (d ∷ rest) ≡ Passes 1

digit_cases : (P : ℕ → Type 0) → P 48 → P 49 → P 50 → P 51 → P 52 → P 53 → P 54 → P 55 → P 56 → P 57 → (d : ℕ) → is_decimal d ≡ true → P d
digit_cases P p0 p1 p2 p3 p4 p5 p6 p7 p8 p9 d h =
    by (d == 48) refl (λ e0. by (d == 49) refl (λ e1. by (d == 50) refl (λ e2. by (d == 51) refl (λ e3. by (d == 52) refl (λ e4. by (d == 53) refl
    (λ e5. by (d == 54) refl (λ e6. by (d == 55) refl (λ e7. by (d == 56) refl (λ e8. by (d == 57) refl (λ e9. absurd (grind (arith, nat_tests))) p9) p8) p7) p6) p5) p4) p3) p2) p1) p0
  where
    by : {m : ℕ} (b : Bool) → (d == m) ≡ b → ((d == m) ≡ false → P d) → P m → P d
    by {m = m} true e f p = subst P (sym ((Decides-eqb d m).0 e)) p
    by {m = m} false e f p = f e

digit_step : (d : ℕ) → is_decimal d ≡ true → IsDigitStep d
unfolding step step_over_one literal quoted_opening
digit_step d h =
    digit_cases IsDigitStep (λ rest. refl) (λ rest. refl) (λ rest. refl) (λ rest. refl) (λ rest. refl) (λ rest. refl) (λ rest. refl) (λ rest. refl) (λ rest. refl) (λ rest. refl) d h

digits_body : (ds rest : List ℕ) → AllByRecursion (λ d. is_decimal d ≡ true) ds → Body ends.Bracket ((ds ++ 93 ∷ []) ++ rest) rest
digits_body [] rest h = closes (bracket_step rest) refl
digits_body (d ∷ ds) rest h = passes (digit_step d h.0 ((ds ++ 93 ∷ []) ++ rest)) (digits_body ds rest h.1)

-- A text before a space is one lexeme.
before_space : (k : Kind) (t rest : List ℕ) → lexeme_start (t ++ 32 ∷ rest) ≡ Short (Some k) (length t) → Scanned (t ++ 32 ∷ rest) (Some k) (32 ∷ rest)
before_space k t rest e = short e (sym (drop_prefix t (32 ∷ rest)))

pub text_scanned : (k : Kind) (t : List ℕ) → LexemeText k t → (rest : List ℕ) → Scanned (t ++ 32 ∷ rest) (Some k) (32 ∷ rest)
text_scanned k t (word {b = b} {bs = bs} h all) rest =
    before_space kinds.Word (b ∷ bs) rest (word_front b bs rest h (word_rest-append (b ∷ bs) rest (start_is_byte b h, all)))
text_scanned k t (mark {b = b} h) rest = before_space kinds.Mark (b ∷ []) rest (mark_front b h rest)
text_scanned k t percents rest = before_space kinds.Percents (37 ∷ 37 ∷ []) rest (percents_front rest)
text_scanned k t (keyword {w = w} h) rest = before_space kinds.Keyword (37 ∷ w) rest (keyword_front w rest h ∙ ap (λ n. Short (Some kinds.Keyword) n) (omega arith))
text_scanned k t (quoted s h) rest =
    before_space kinds.Quoted (34 ∷ s ++ 34 ∷ []) rest (quoted_front s rest h ∙ ap (λ n. Short (Some kinds.Quoted) n) (omega (arith, length-append s (34 ∷ []))))
text_scanned k t empty_action rest = long (action_front (125 ∷ 32 ∷ rest)) (closes (action_step (32 ∷ rest)) refl)
text_scanned k t (cost ds h) rest =
    let digits = (ds ++ 93 ∷ []) ++ 32 ∷ rest in
    long (attribute_front (99 ∷ 111 ∷ 115 ∷ 116 ∷ 32 ∷ digits)) (passes (word_step digits) (passes (space_step digits) (digits_body ds (32 ∷ rest) h)))

-- Lemmas on texts in sequence.
blank_front : (rest : List ℕ) → lexeme_start (32 ∷ rest) ≡ Short None 1
unfolding lexeme_start
blank_front rest = refl

nil_front : lexeme_start [] ≡ Ended
unfolding lexeme_start
nil_front = refl

percents_left-one_of : (k : Kind) (left : ℕ) → percents_left (Some k) left + percents_in k ≡ suc left
percents_left-one_of kinds.Percents left = omega arith
percents_left-one_of kinds.Word left = omega arith
percents_left-one_of kinds.Mark left = omega arith
percents_left-one_of kinds.Keyword left = omega arith
percents_left-one_of kinds.Quoted left = omega arith
percents_left-one_of kinds.Header left = omega arith
percents_left-one_of kinds.Action left = omega arith
percents_left-one_of kinds.TypeText left = omega arith
percents_left-one_of kinds.Attribute left = omega arith

laid_kept : (k : Kind) (total at : ℕ) (t ls : List ℕ) (ps : List Lexeme) → total ≡ at + length (t ++ 32 ∷ ls) →
    record { kind = k; start = at; end = at + length t } ∷ ps ≡ lexeme_between (Some k) (total - length (t ++ 32 ∷ ls)) (total - length (32 ∷ ls)) ++ ps
laid_kept k total at t ls ps e =
    let n = length-append t (32 ∷ ls) in
    let a : at ≡ total - length (t ++ 32 ∷ ls) = omega arith in
    let b : at + length t ≡ total - length (32 ∷ ls) = omega arith in
    ap (λ m. record { kind = k; start = m; end = at + length t } ∷ ps) a ∙ ap (λ m. record { kind = k; start = total - length (t ++ 32 ∷ ls); end = m } ∷ ps) b

laid_from : (total left at : ℕ) (ts : List (Kind × List ℕ)) → AllByRecursion IsText ts → count_of_percents ts < left → total ≡ at + length (laid_out ts) → LexesFrom total left (laid_out ts) (laid_out_lexemes at ts) None
laid_from total zero at ts h few e = absurd (omega arith)
laid_from total (suc left) at [] h few e = ended nil_front
laid_from total (suc left) at (t ∷ ts) h few e =
    let n : total ≡ at + (length t.1 + (1 + length (laid_out ts))) = e ∙ ap (λ k. at + k) (length-append t.1 (32 ∷ laid_out ts) ∙ ap (λ k. length t.1 + k) (omega arith)) in
    let m : total ≡ at + length t.1 + 1 + length (laid_out ts) = omega arith in
    let sum = percents_left-one_of t.0 left in
    let some : percents_left (Some t.0) left ≡ suc (percents_left (Some t.0) left - 1) = omega arith in
    let fewer : count_of_percents ts < suc (percents_left (Some t.0) left - 1) = omega arith in
    let rest = taken (short (blank_front (laid_out ts)) refl) (laid_from total (suc (percents_left (Some t.0) left - 1)) (at + length t.1 + 1) ts h.1 fewer m) refl in
    taken (text_scanned t.0 t.1 h.0 (laid_out ts)) (subst (λ k. LexesFrom total k (32 ∷ laid_out ts) (laid_out_lexemes (at + length t.1 + 1) ts) None) (sym some) rest)
    (laid_kept t.0 total at t.1 (laid_out ts) (laid_out_lexemes (at + length t.1 + 1) ts) e)

pub laid_out_lexes : (ts : List (Kind × List ℕ)) → AllByRecursion IsText ts → count_of_percents ts < 2 → Lexes (laid_out ts) (laid_out_lexemes 0 ts) None
laid_out_lexes ts h few = laid_from (length (laid_out ts)) 2 0 ts h few (omega arith)
