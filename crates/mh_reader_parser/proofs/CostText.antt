-- Lemmas on the text of a cost attribute and its cost: each determines the other, up to blanks.
use Rattle.std.proofs.Common.{◌≡◌, ◌+◌, ◌-◌, ◌*◌, ◌%◌, ◌<◌, ◌≤◌, ◌^◌, ◌==◌, ◌&&◌, ℕ, Bool, true, false, cond, List, [], ◌∷◌, ◌++◌, length, take, drop, get_or, Option, Some, None, refl, sym, ap, subst, ◌∙◌, arith, suc}
use Rattle.std.specs.Prelude.{codes, decimal, nat_le, nat_lt, bytes_eq, IfSome}
use Rattle.std.specs.List.{AllByRecursion}
use Rattle.std.specs.Int.{IsInRange}
use Rattle.std.proofs.lemmas.Bool.{leb-true, le-leb, ltb-true, lt-ltb, false≢true, and_parts}
use Rattle.std.proofs.lemmas.Bool.Decides.{nat_tests, Decides-eqb}
use Rattle.std.proofs.lemmas.Slice.Eq.{bytes_eq-Decides}
use Rattle.std.proofs.lemmas.List.{take-append-drop}
use Rattle.std.proofs.Math.Seq.{drop-append_seam, drop-cons, take-append_seam}
use Rattle.std.proofs.lemmas.Fmt.{decimal_by_steps, decimal-digits_value, digits_decimal, digits_value-decimal}
use Rattle.std.proofs.lemmas.Str.Parse.{IsDigitsTest, IsNumeralModel, FoldsDigits, numerals_by_fold}
use Rattle.std.proofs.lemmas.Option.{same_Some}
use Rattle.mh_grammar.specs.Limits.{max_cost}
use Rattle.mh_grammar.specs.Costs.{IsCost}
use Rattle.mh_lex_bytes.specs.Bytes.{byte_at, is_blank, is_decimal}
use Rattle.std.specs.List.{prefix_len}
use Rattle.mh_reader_parser.specs.Costs.{IsCostText, decimal_value_from, cost_in_range, is_closing_text, cost_from_number, cost_from_blanks, cost_of}

-- Lemmas on the longest prefix of bytes that a predicate accepts (digits, blanks).

one-add : (n : ℕ) → 1 + n ≡ suc n
one-add n = omega arith

abbrev AllOf : (ℕ → Bool) → List ℕ → Type 0
AllOf p bs = AllByRecursion (λ b. p b ≡ true) bs

front-append : (p : ℕ → Bool) (bs rest : List ℕ) → AllOf p bs → prefix_len p rest ≡ 0 → prefix_len p (bs ++ rest) ≡ length bs
front-append p [] rest h e = e
front-append p (b ∷ bs) rest h e = rw h.0 (ap (λ k. 1 + k) (front-append p bs rest h.1 e) ∙ (omega arith))

front_all : (p : ℕ → Bool) (s : List ℕ) → AllOf p (take (prefix_len p s) s)
front_all p [] = tt
front_all p (b ∷ bs) = by (p b) refl (front_all p bs)
  where
    by : (t : Bool) → p b ≡ t → AllOf p (take (prefix_len p bs) bs) → AllOf p (take (cond t (1 + prefix_len p bs) 0) (b ∷ bs))
    by true e h = subst (λ k. AllOf p (take k (b ∷ bs))) (sym (one-add (prefix_len p bs))) (e, h)
    by false e h = tt

-- If the predicate accepts the bytes and not the first byte after them, the bytes are the longest accepted prefix.
drop_prefix_len : (p : ℕ → Bool) (bs rest : List ℕ) → AllOf p bs → prefix_len p rest ≡ 0 → drop (prefix_len p (bs ++ rest)) (bs ++ rest) ≡ rest
drop_prefix_len p bs rest h e = ap (λ n. drop n (bs ++ rest)) (front-append p bs rest h e) ∙ drop-append_seam bs rest

in_front : (p : ℕ → Bool) (bs rest : List ℕ) → AllOf p bs → prefix_len p rest ≡ 0 → take (prefix_len p (bs ++ rest)) (bs ++ rest) ≡ bs
in_front p bs rest h e = ap (λ n. take n (bs ++ rest)) (front-append p bs rest h e) ∙ take-append_seam bs rest

-- Lemmas on numbers.

decimal_range : (c : ℕ) → is_decimal c ≡ true → IsInRange 48 57 c
decimal_range c h = let b = and_parts (nat_le 48 c) (nat_le c 57) h in (leb-true 48 c b.0, leb-true c 57 b.1)

range_decimal : (c : ℕ) → IsInRange 48 57 c → is_decimal c ≡ true
range_decimal c h = rw (le-leb 48 c h.0, le-leb c 57 h.1) refl

tells_decimals : IsDigitsTest (AllOf is_decimal)
tells_decimals = record { empty = tt; parts = λ c cs h. (decimal_range c h.0, h.1); more = λ c cs h k. (range_decimal c h, k) }

folds_value : FoldsDigits decimal_value_from
folds_value = record { empty = λ n. refl; more = λ n c cs h. refl }

model : IsNumeralModel (AllOf is_decimal) (decimal_value_from 0)
model = numerals_by_fold (AllOf is_decimal) tells_decimals decimal_value_from folds_value

-- If n is positive, these digits begin with a digit from 1 to 9.
record IsFirst (n : ℕ) (ds : List ℕ) : Type 0 where
  first : 0 < n → (d : ℕ) × (rest : List ℕ) × (ds ≡ d ∷ rest) × (49 ≤ d) × (d ≤ 57)

first_of : (n : ℕ) → n < 2 ^ 64 → IsFirst n (decimal n)
first_of = decimal_by_steps IsFirst
    (λ n h. record { first = λ k. (48 + n, [], refl, (omega arith), (omega arith)) })
    (λ n ds h i. record { first = λ k. (let x = i.first (omega arith) in (x.0, x.1 ++ ((48 + n % 10) ∷ []), ap (λ l. l ++ ((48 + n % 10) ∷ [])) x.2, x.3, x.4)) })

-- Proves that the text of a cost attribute gives its cost.

cost_is_in_range : (n : ℕ) → 1 ≤ n → n ≤ max_cost → cost_in_range n ≡ Some n
cost_is_in_range n h k = rw (le-leb 1 n h, le-leb n max_cost k) refl

closing : (behind : List ℕ) → AllOf is_blank behind → is_closing_text (behind ++ 93 ∷ []) ≡ true
closing behind h = ap (λ s. pointwise_end s) (drop_prefix_len is_blank behind (93 ∷ []) h refl)
  where
    pointwise_end : List ℕ → Bool
    pointwise_end s = bytes_eq s (93 ∷ [])

no_digit : (b : ℕ) → is_blank b ≡ true → is_decimal b ≡ false
no_digit b h = grind (arith, nat_tests)

digits_end : (behind : List ℕ) → AllOf is_blank behind → prefix_len is_decimal (behind ++ 93 ∷ []) ≡ 0
digits_end [] h = refl
digits_end (b ∷ bs) h = rw (no_digit b h.0) refl

no_blank : (d : ℕ) → 49 ≤ d → d ≤ 57 → is_blank d ≡ false
no_blank d h k = grind (arith, nat_tests)

no_zero : (d : ℕ) → 49 ≤ d → (d == 48) ≡ false
no_zero d h = grind (arith, nat_tests)

numbered_again : (n : ℕ) (behind : List ℕ) → 1 ≤ n → n ≤ max_cost → AllOf is_blank behind → cost_from_number (decimal n ++ (behind ++ 93 ∷ [])) ≡ Some n
numbered_again n behind h k blanks =
    let q = behind ++ 93 ∷ [] in
    let digits = digits_decimal model n (omega arith) in
    let first = (first_of n (omega arith)).first h in
    let zero : (byte_at (decimal n ++ q) 0 == 48) ≡ false = ap (λ l. byte_at (l ++ q) 0 == 48) first.2 ∙ no_zero first.0 first.3 in
    let behind_number : drop (prefix_len is_decimal (decimal n ++ q)) (decimal n ++ q) ≡ q = drop_prefix_len is_decimal (decimal n) q digits (digits_end behind blanks) in
    let number : take (prefix_len is_decimal (decimal n ++ q)) (decimal n ++ q) ≡ decimal n = in_front is_decimal (decimal n) q digits (digits_end behind blanks) in
    let closed : is_closing_text (drop (prefix_len is_decimal (decimal n ++ q)) (decimal n ++ q)) ≡ true = ap is_closing_text behind_number ∙ closing behind blanks in
    let is : cost_in_range (decimal_value_from 0 (take (prefix_len is_decimal (decimal n ++ q)) (decimal n ++ q))) ≡ Some n =
    ap (λ l. cost_in_range (decimal_value_from 0 l)) number ∙ ap cost_in_range (digits_value-decimal model n (omega arith)) ∙ cost_is_in_range n h k in
    chosen _ _ _ n zero closed is
  where
    chosen : (a b : Bool) (o : Option ℕ) (m : ℕ) → a ≡ false → b ≡ true → o ≡ Some m → cond a None (cond b o None) ≡ Some m
    chosen a b o m e f g = rw (e, f) g

spaced_again : (n : ℕ) (before behind : List ℕ) → 0 < length before → 1 ≤ n → n ≤ max_cost → AllOf is_blank before → AllOf is_blank behind → cost_from_blanks (before ++ (decimal n ++ (behind ++ 93 ∷ []))) ≡ Some n
spaced_again n before behind some h k blanks others =
    let r = decimal n ++ (behind ++ 93 ∷ []) in
    let first = (first_of n (omega arith)).first h in
    let no : prefix_len is_blank r ≡ 0 = ap (λ l. prefix_len is_blank (l ++ (behind ++ 93 ∷ []))) first.2 ∙ ap (λ b. cond b (1 + prefix_len is_blank (first.1 ++ (behind ++ 93 ∷ []))) 0) (no_blank first.0 first.3 first.4) in
    let count = front-append is_blank before r blanks no in
    let more : nat_lt 0 (prefix_len is_blank (before ++ r)) ≡ true = ap (λ m. nat_lt 0 m) count ∙ lt-ltb 0 (length before) some in
    chosen _ _ n more (ap cost_from_number (drop_prefix_len is_blank before r blanks no) ∙ numbered_again n behind h k others)
  where
    chosen : (b : Bool) (o : Option ℕ) (m : ℕ) → b ≡ true → o ≡ Some m → cond b o None ≡ Some m
    chosen b o m e g = rw e g

pub cost_of_text : (t : List ℕ) (n : ℕ) → IsCostText t n → cost_of t ≡ Some n
unfolding cost_of
cost_of_text t n h = subst (λ l. cost_of l ≡ Some n) (sym h.text_is) (spaced_again n h.before h.after h.some h.least h.most h.blanks_before h.blanks_after)

-- The cost that is read in a printed cost attribute is the printed number.
pub cost_printed : (n : ℕ) → IsCost n → cost_of (codes "[@cost " ++ (decimal n ++ 93 ∷ [])) ≡ Some n
cost_printed n h = cost_of_text (codes "[@cost " ++ (decimal n ++ 93 ∷ [])) n (record {
  before = 32 ∷ [];
  after = [];
  some = omega arith;
  blanks_before = (refl, tt);
  blanks_after = tt;
  least = h.0;
  most = h.1;
  text_is = refl;
})

pub decimal_is_digits : (n : ℕ) → n ≤ max_cost → AllByRecursion (λ d. is_decimal d ≡ true) (decimal n)
decimal_is_digits n h = digits_decimal model n (omega arith)

-- Proves that an attribute that gives a cost has the text of a cost attribute.

taken_if : (b : Bool) (o : Option ℕ) (n : ℕ) → cond b o None ≡ Some n → (b ≡ true) × (o ≡ Some n)
taken_if true o n e = (refl, e)
taken_if false o n e = cc

taken_else : (b : Bool) (o : Option ℕ) (n : ℕ) → cond b None o ≡ Some n → (b ≡ false) × (o ≡ Some n)
taken_else true o n e = cc
taken_else false o n e = (refl, e)

limited_is : (m n : ℕ) → cost_in_range m ≡ Some n → (m ≡ n) × (1 ≤ n) × (n ≤ max_cost)
limited_is m n e =
    let t = taken_if (nat_le 1 m && nat_le m max_cost) (Some m) n e in
    let same : m ≡ n = same_Some m n t.1 in
    let limits = and_parts (nat_le 1 m) (nat_le m max_cost) t.0 in
    (same, subst (λ k. 1 ≤ k) same (leb-true 1 m limits.0), subst (λ k. k ≤ max_cost) same (leb-true m max_cost limits.1))

split_front : (p : ℕ → Bool) (s : List ℕ) → s ≡ take (prefix_len p s) s ++ drop (prefix_len p s) s
split_front p s = sym (take-append-drop (prefix_len p s) s)

front_length : (p : ℕ → Bool) (s : List ℕ) → length (take (prefix_len p s) s) ≡ prefix_len p s
front_length p [] = refl
front_length p (b ∷ bs) = by (p b) (front_length p bs)
  where
    by : (t : Bool) → length (take (prefix_len p bs) bs) ≡ prefix_len p bs → length (take (cond t (1 + prefix_len p bs) 0) (b ∷ bs)) ≡ cond t (1 + prefix_len p bs) 0
    by true h = ap (λ k. length (take k (b ∷ bs))) (one-add (prefix_len p bs)) ∙ ap suc h ∙ sym (one-add (prefix_len p bs))
    by false h = refl

-- Digits that do not begin with 0 are the decimal of their value.
first_taken : (s : List ℕ) (d : ℕ) → (byte_at s 0 == 48) ≡ false → 1 ≤ decimal_value_from 0 (take (prefix_len is_decimal s) s) → get_or (take (prefix_len is_decimal s) s) 0 0 ≡ 48 → ⊥
first_taken [] d e h g = omega (arith, h)
first_taken (b ∷ bs) d e h g = by (is_decimal b) h g
  where
    by : (t : Bool) → 1 ≤ decimal_value_from 0 (take (cond t (1 + prefix_len is_decimal bs) 0) (b ∷ bs)) → get_or (take (cond t (1 + prefix_len is_decimal bs) 0) (b ∷ bs)) 0 0 ≡ 48 → ⊥
    by true h g = let zero : b ≡ 48 = subst (λ k. get_or (take k (b ∷ bs)) 0 0 ≡ 48) (one-add (prefix_len is_decimal bs)) g in false≢true (sym e ∙ (Decides-eqb b 48).1 zero)
    by false h g = omega (arith, h)

some_digits : (ds : List ℕ) → 1 ≤ decimal_value_from 0 ds → 0 < length ds
some_digits [] h = omega (arith, h)
some_digits (d ∷ ds) h = omega arith

pub text_of_cost : (t : List ℕ) (n : ℕ) → cost_of t ≡ Some n → IsCostText t n
unfolding cost_of
text_of_cost t n e =
    let one = taken_if (bytes_eq (take 6 t) (codes "[@cost")) (cost_from_blanks (drop 6 t)) n e in
    let s = drop 6 t in
    let two = taken_if (nat_lt 0 (prefix_len is_blank s)) (cost_from_number (drop (prefix_len is_blank s) s)) n one.1 in
    let r = drop (prefix_len is_blank s) s in
    let three = taken_else (byte_at r 0 == 48) (cond (is_closing_text (drop (prefix_len is_decimal r) r)) (cost_in_range (decimal_value_from 0 (take (prefix_len is_decimal r) r))) None) n two.1 in
    let q = drop (prefix_len is_decimal r) r in
    let ds = take (prefix_len is_decimal r) r in
    let four = taken_if (is_closing_text q) (cost_in_range (decimal_value_from 0 ds)) n three.1 in
    let is = limited_is (decimal_value_from 0 ds) n four.1 in
    let end : drop (prefix_len is_blank q) q ≡ 93 ∷ [] = (bytes_eq-Decides (drop (prefix_len is_blank q) q) (93 ∷ [])).0 four.0 in
    let digits : decimal n ≡ ds =
    ap decimal (sym is.0) ∙ decimal-digits_value model ds (front_all is_decimal r) (some_digits ds (omega (arith, is.0, is.1)))
    (λ g. absurd (first_taken r 0 three.0 (omega (arith, is.0, is.1)) g)) (omega (arith, is.0, is.2)) in
    let word : take 6 t ≡ codes "[@cost" = (bytes_eq-Decides (take 6 t) (codes "[@cost")).0 one.0 in
    let of_q : q ≡ take (prefix_len is_blank q) q ++ 93 ∷ [] = split_front is_blank q ∙ ap (λ l. take (prefix_len is_blank q) q ++ l) end in
    let of_r : r ≡ decimal n ++ (take (prefix_len is_blank q) q ++ 93 ∷ []) = split_front is_decimal r ∙ ap (λ l. l ++ q) (sym digits) ∙ ap (λ l. decimal n ++ l) of_q in
    let of_s : s ≡ take (prefix_len is_blank s) s ++ (decimal n ++ (take (prefix_len is_blank q) q ++ 93 ∷ [])) = split_front is_blank s ∙ ap (λ l. take (prefix_len is_blank s) s ++ l) of_r in
    record {
      before = take (prefix_len is_blank s) s;
      after = take (prefix_len is_blank q) q;
      some = subst (λ k. 0 < k) (sym (front_length is_blank s)) (ltb-true 0 (prefix_len is_blank s) two.0);
      blanks_before = front_all is_blank s;
      blanks_after = front_all is_blank q;
      least = is.1;
      most = is.2;
      text_is = sym (take-append-drop 6 t) ∙ ap (λ l. l ++ s) word ∙ ap (λ l. codes "[@cost" ++ l) of_s;
    }

-- The cost that an attribute gives is in range.
pub cost_of_is_cost : (t : List ℕ) → IfSome (cost_of t) IsCost
cost_of_is_cost t = by (cost_of t) refl
  where
    by : (o : Option ℕ) → cost_of t ≡ o → IfSome o IsCost
    by None e = tt
    by (Some n) e = let h = text_of_cost t n e in (h.least, h.most)

-- Lemmas on the loop of `cost_by` over the digits.

pub value_at_least : (n : ℕ) (cs : List ℕ) → n ≤ decimal_value_from n cs
value_at_least n [] = omega arith
value_at_least n (c ∷ cs) = omega (arith, value_at_least (n * 10 + (c - 48)) cs)

pub cost_out_of_range : (n : ℕ) → max_cost < n → cost_in_range n ≡ None
cost_out_of_range n h = grind (arith, nat_tests)

-- A number that exceeds the limit before its last digit is not a cost.
pub value_out_of_range : (number more : ℕ) (digits : List ℕ) (i : ℕ) → i < length digits → decimal_value_from number (drop i digits) ≡ decimal_value_from 0 digits →
    more ≡ number * 10 + (get_or digits i 0 - 48) → max_cost < more → None ≡ cost_in_range (decimal_value_from 0 digits)
value_out_of_range number more digits i h same is big =
    let rest = drop (suc i) digits in
    let whole : decimal_value_from more rest ≡ decimal_value_from 0 digits = ap (λ n. decimal_value_from n rest) is ∙ sym (ap (decimal_value_from number) (drop-cons digits i 0 h)) ∙ same in
    sym (cost_out_of_range (decimal_value_from 0 digits) (omega (arith, big, whole, value_at_least more rest)))
