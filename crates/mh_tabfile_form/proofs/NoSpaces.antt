-- Proves that numbers, modes and words contain no space and no LF when they are written.
use Rattle.std.proofs.Common.{◌≡◌, ◌≢◌, ◌==◌, ◌&&◌, ℕ, true, not, nat_eq, nat_le, List, [], ◌∷◌, refl, sym, ap, ◌∙◌, codes, decimal, arith, true≢false, eq-eqb, leb-true}
use Rattle.std.specs.List.{AllByRecursion, list_all}
use Rattle.std.specs.Str.{all_ascii_digits}
use Rattle.std.specs.Char.{is_ascii_digit}
use Rattle.std.proofs.lemmas.Fmt.{digits_decimal}
use Rattle.std.proofs.lemmas.Str.Parse.{numerals_by_value, tells_all_ascii_digits}
use Rattle.std.proofs.lemmas.Bool.{and_parts}
use Rattle.mh_resolve_cells.specs.declared.kinds.Mode.{Mode}
use Rattle.mh_resolve_cells.specs.declared.kinds.Mode.TheVariants.{Merged, Canonical}
use Rattle.mh_tabfile_form.specs.Form.{IsInWord, IsNumber}
use Rattle.mh_resolve_cells.specs.Names.{mode_name}

pub not_equal : (n k : ℕ) → not (n == k) ≡ true → n ≢ k
not_equal n k e f = true≢false (sym e ∙ ap not (eq-eqb n k f))

digit_in_word : (b : ℕ) → is_ascii_digit b ≡ true → IsInWord b
digit_in_word b e = let h = and_parts (nat_le 48 b) (nat_le b 57) e in (λ f. omega (arith, f, leb-true 48 b h.0), λ f. omega (arith, f, leb-true 48 b h.0))

digits_in_word : (w : List ℕ) → all_ascii_digits w ≡ true → AllByRecursion IsInWord w
digits_in_word [] e = tt
digits_in_word (b ∷ bs) e = let h = and_parts (is_ascii_digit b) (all_ascii_digits bs) e in (digit_in_word b h.0, digits_in_word bs h.1)

pub number_plain : (n : ℕ) → IsNumber n → AllByRecursion IsInWord (decimal n)
number_plain n small = digits_in_word (decimal n) (digits_decimal (numerals_by_value (λ (ds : List ℕ). all_ascii_digits ds ≡ true) tells_all_ascii_digits) n (omega (arith, small)))

pub plain : (w : List ℕ) → list_all (λ b. not (nat_eq b 32) && not (nat_eq b 10)) w ≡ true → AllByRecursion IsInWord w
plain [] e = tt
plain (b ∷ bs) e =
    let h = and_parts (not (nat_eq b 32) && not (nat_eq b 10)) (list_all (λ b. not (nat_eq b 32) && not (nat_eq b 10)) bs) e in
    let k = and_parts (not (nat_eq b 32)) (not (nat_eq b 10)) h.0 in
    ((not_equal b 32 k.0, not_equal b 10 k.1), plain bs h.1)

pub mode_plain : (m : Mode) → AllByRecursion IsInWord (mode_name m)
mode_plain Merged = plain (codes "merged") refl
mode_plain Canonical = plain (codes "canonical") refl
