-- Lemmas on texts that are written one after another.
use Rattle.std.proofs.Common.{◌≡◌, ℕ, zero, suc, ◌+◌, ◌-◌, ◌*◌, ◌%◌, ◌≤◌, ◌<◌, nat_eq, Bool, true, false, if◌then◌else◌, List, ◌++◌, length, refl, sym, ◌∙◌, ap, arith, add-one, append_assoc, append-nil, length-append}
use Rattle.std.specs.Prelude.{codes, decimal}
use Rattle.std.proofs.lemmas.Nat.{mod_below}
use Rattle.std.proofs.lemmas.Fmt.{length-decimal-le}
use Rattle.mh_grammar.specs.Text.{Text}
use Rattle.mh_sample.specs.Texts.{repeated_text, each_from, operator_at, operand_text, opened_parentheses, closed_parentheses, sentence_text, operators_of, token_line, level_line, last_level_line, grammar_text}

-- One more repetition at the end is one more at the beginning.
times_suc : (n : ℕ) (text : Text) → repeated_text (suc n) text ≡ repeated_text n text ++ text
unfolding repeated_text
times_suc zero text = append-nil text
times_suc (suc n) text = ap (λ (l : Text). text ++ l) (times_suc n text) ∙ sym (append_assoc text (repeated_text n text) text)

pub times_push : (n : ℕ) (text old new before : Text) → old ≡ before ++ repeated_text n text → new ≡ old ++ text → new ≡ before ++ repeated_text (n + 1) text
times_push n text old new before so_far added =
    added ∙ ap (λ (l : Text). l ++ text) so_far ∙ append_assoc before (repeated_text n text) text
    ∙ ap (λ (l : Text). before ++ l) (sym (times_suc n text) ∙ ap (λ (k : ℕ). repeated_text k text) (sym (add-one n)))

pub times_none : (text old : Text) → old ≡ old ++ repeated_text 0 text
unfolding repeated_text
times_none text old = sym (append-nil old)

module _ {A : Type 0} (f : ℕ → List A) where
  each_suc : (n k : ℕ) → each_from f n (suc k) ≡ each_from f n k ++ f (n + k)
  unfolding each_from
  each_suc n zero = append-nil (f n) ∙ ap f (let e : n ≡ n + 0 = omega arith in e)
  each_suc n (suc k) =
      let place : n + 1 + k ≡ n + suc k = omega arith in
      ap (λ (l : List A). f n ++ l) (each_suc (n + 1) k) ∙ sym (append_assoc (f n) (each_from f (n + 1) k) (f (n + 1 + k))) ∙ ap (λ (m : ℕ). (f n ++ each_from f (n + 1) k) ++ f m) place

  -- The texts of k + 1 numbers are the texts of the first k numbers, and then the text of the last one.
  pub each_more : (n k : ℕ) → each_from f n (k + 1) ≡ each_from f n k ++ f (n + k)
  each_more n k = ap (each_from f n) (add-one k) ∙ each_suc n k

  pub each_push : (n k number : ℕ) (old new before : List A) → number ≡ n + k → old ≡ before ++ each_from f n k → new ≡ old ++ f number → new ≡ before ++ each_from f n (k + 1)
  each_push n k number old new before place so_far added =
      added ∙ ap (λ (l : List A). l ++ f number) so_far ∙ ap (λ (m : ℕ). (before ++ each_from f n k) ++ f m) place ∙ append_assoc before (each_from f n k) (f (n + k))
      ∙ ap (λ (l : List A). before ++ l) (sym (each_more n k))

  pub each_none : (n : ℕ) (old : List A) → old ≡ old ++ each_from f n 0
  unfolding each_from
  each_none n old = sym (append-nil old)

-- One more text is appended: the text h (f m) of the next number m.
pub each_push_as : (h : ℕ → Text) (f : ℕ → ℕ) (n k number value : ℕ) (old new before : Text) → number ≡ n + k → value ≡ f number → old ≡ before ++ each_from (λ m. h (f m)) n k → new ≡ old ++ h value
    → new ≡ before ++ each_from (λ m. h (f m)) n (k + 1)
each_push_as h f n k number value old new before place is so_far added =
    each_push (λ (m : ℕ). h (f m)) n k number old new before place so_far (added ∙ ap (λ (m : ℕ). old ++ h m) is)

-- Whole texts.

-- A text that is appended in six parts is the concatenation of the parts.
pub six_parts : (a b c d e f t1 t2 t3 t4 t5 t6 : Text) → t1 ≡ a → t2 ≡ t1 ++ b → t3 ≡ t2 ++ c → t4 ≡ t3 ++ d → t5 ≡ t4 ++ e → t6 ≡ t5 ++ f → t6 ≡ ((((a ++ b) ++ c) ++ d) ++ e) ++ f
six_parts a b c d e f t1 t2 t3 t4 t5 t6 p1 p2 p3 p4 p5 p6 =
    p6 ∙ ap (λ (t : Text). t ++ f) (p5 ∙ ap (λ (t : Text). t ++ e) (p4 ∙ ap (λ (t : Text). t ++ d) (p3 ∙ ap (λ (t : Text). t ++ c) (p2 ∙ ap (λ (t : Text). t ++ b) p1))))

pub grammar_by : (number k : ℕ) (text : Text) → k ≡ operators_of number
    → text ≡ ((((codes "%token EOF LP RP INT\n" ++ each_from token_line 1 k) ++ codes "%start main\n%%\nmain: e1 EOF {}\n") ++ each_from level_line 1 (k - 1)) ++ last_level_line k) ++ codes "a: INT {} | LP e1 RP {}\n"
    → text ≡ grammar_text number
unfolding grammar_text
grammar_by number k text is same =
    same ∙ ap (λ (n : ℕ). ((((codes "%token EOF LP RP INT\n" ++ each_from token_line 1 n) ++ codes "%start main\n%%\nmain: e1 EOF {}\n") ++ each_from level_line 1 (n - 1)) ++ last_level_line n) ++ codes "a: INT {} | LP e1 RP {}\n") is

-- The lengths of the texts are bounded.

times_short : (n : ℕ) (text : Text) → length text ≤ 3 → length (repeated_text n text) ≤ n * 3
unfolding repeated_text
times_short zero text le = omega arith
times_short (suc n) text le = let rest = times_short n text le in omega (arith, length-append text (repeated_text n text), le, rest)

each_short : (f : ℕ → Text) → ((n : ℕ) → length (f n) ≤ 50) → (n k : ℕ) → length (each_from f n k) ≤ k * 50
unfolding each_from
each_short f short n zero = omega arith
each_short f short n (suc k) = let rest = each_short f short (n + 1) k in omega (arith, length-append (f n) (each_from f (n + 1) k), short n, rest)

operand_short : (n : ℕ) → n < 100 → length (operand_text n) ≤ 50
unfolding operand_text
operand_short n lt =
    let digits : length (decimal n) ≤ 2 = length-decimal-le 2 n (omega arith) (omega (arith, lt)) (omega (arith, lt)) in
    let front : length (codes " OP") ≡ 3 = refl in
    let back : length (codes " INT") ≡ 4 = refl in
    omega (arith, length-append (codes " OP") (decimal n ++ codes " INT"), length-append (decimal n) (codes " INT"), digits, front, back)

choice_small : (c : Bool) (n m : ℕ) → n ≤ m → (if c then n - 1 else n) ≤ m
choice_small true n m le = omega (arith, le)
choice_small false n m le = le

-- A sentence of a sample has fewer than 2^32 bytes.
pub sentence_short : (operators sentence : ℕ) → 0 < operators → operators < 32 → length (sentence_text operators sentence) < 1000
unfolding sentence_text
sentence_short operators sentence some few =
    let opens : opened_parentheses sentence < 17 = mod_below sentence 17 (omega arith) in
    let closes : closed_parentheses sentence ≤ 17 = choice_small (nat_eq (sentence % 3) 0) (opened_parentheses sentence) 17 (omega (arith, opens)) in
    let places : sentence % 5 < 5 = mod_below sentence 5 (omega arith) in
    let f : ℕ → Text = λ (place : ℕ). operand_text (operator_at operators sentence place) in
    let left = repeated_text (opened_parentheses sentence) (codes "LP ") in
    let middle = each_from f 1 (sentence % 5) in
    let right = repeated_text (closed_parentheses sentence) (codes " RP") in
    let a : length left ≤ opened_parentheses sentence * 3 = times_short (opened_parentheses sentence) (codes "LP ") (let e : length (codes "LP ") ≡ 3 = refl in omega (arith, e)) in
    let b : length middle ≤ (sentence % 5) * 50 = each_short f (λ place. operand_short (operator_at operators sentence place) (let e = mod_below (sentence * place) operators some in omega (arith, e, few))) 1 (sentence % 5) in
    let d : length right ≤ closed_parentheses sentence * 3 = times_short (closed_parentheses sentence) (codes " RP") (let e : length (codes " RP") ≡ 3 = refl in omega (arith, e)) in
    let i : length (codes "INT") ≡ 3 = refl in
    let e : length (codes " EOF") ≡ 4 = refl in
    let one = left ++ codes "INT" in
    let two = one ++ middle in
    let three = two ++ right in
    omega (arith, opens, closes, places, a, b, d, i, e, length-append left (codes "INT"), length-append one middle, length-append two right, length-append three (codes " EOF"))
