-- Lemmas on the first line of an input and on the limits of lines.
use Rattle.std.proofs.Common.{◌≡◌, ◌<◌, ◌≤◌, ℕ, zero, suc, true, false, List, [], ◌∷◌, ◌++◌, length, refl, ap, arith}
use Rattle.std.proofs.lemmas.Bool.Decides.{nat_tests}
use Rattle.std.specs.Prelude.{nat_le}
use Rattle.mh_outside.specs.Lines.{HasNoLF}
use Rattle.mh_outside.proofs.FindsLine.{HasNoLF-tail, not_lf}
use Rattle.mh_grammar.specs.Text.{Text}
use Rattle.mh_top_drive.specs.InputLines.{prepend_to_first, lines_of_input, lines_within_limits, are_within_limits}

pub lines_of_input-line : (line rest : Text) → HasNoLF line → lines_of_input (line ++ 10 ∷ rest) ≡ line ∷ lines_of_input rest
lines_of_input-line [] rest h = refl
lines_of_input-line (b ∷ line) rest h =
    let other = not_lf b line h in
    rw other (ap (prepend_to_first b) (lines_of_input-line line rest (HasNoLF-tail b line h)))

first_put : (b : ℕ) (rest : List Text) → (line : Text) × (lines : List Text) × (prepend_to_first b rest ≡ line ∷ lines) × (1 ≤ length line)
first_put b [] = (b ∷ [], [], refl, omega arith)
first_put b (l ∷ ls) = (b ∷ l, ls, refl, omega arith)

-- Bytes without a line feed are the beginning of the first line.
pub lines_of_input-open : (b : ℕ) (got rest : Text) → HasNoLF (b ∷ got) → (line : Text) × (lines : List Text) × (lines_of_input (b ∷ (got ++ rest)) ≡ line ∷ lines) × (suc (length got) ≤ length line)
lines_of_input-open b [] rest h =
    let other = not_lf b [] h in
    let p = first_put b (lines_of_input rest) in (p.0, p.1, rw other p.2, omega (arith, p.3))
lines_of_input-open b (c ∷ got) rest h =
    let other = not_lf b (c ∷ got) h in
    let q = lines_of_input-open c got rest (HasNoLF-tail b (c ∷ got) h) in (b ∷ q.0, q.1, rw other (ap (prepend_to_first b) q.2), omega (arith, q.3))

pub lines_of_input-last : (b : ℕ) (line : Text) → HasNoLF (b ∷ line) → lines_of_input (b ∷ line) ≡ (b ∷ line) ∷ []
lines_of_input-last b [] h = let other = not_lf b [] h in rw other
lines_of_input-last b (c ∷ line) h = let other = not_lf b (c ∷ line) h in rw other (ap (prepend_to_first b) (lines_of_input-last c line (HasNoLF-tail b (c ∷ line) h)))

pub lines_within_limits-line : (limit m : ℕ) (line : Text) (lines : List Text) → length line ≤ limit → lines_within_limits limit (suc m) (line ∷ lines) ≡ line ∷ lines_within_limits limit m lines
lines_within_limits-line limit m line lines le = let fits : nat_le (length line) limit ≡ true = grind (arith, nat_tests) in rw fits

pub are_within_limits-line : (limit m : ℕ) (line : Text) (lines : List Text) → length line ≤ limit → are_within_limits limit (suc m) (line ∷ lines) ≡ are_within_limits limit m lines
are_within_limits-line limit m line lines le = let fits : nat_le (length line) limit ≡ true = grind (arith, nat_tests) in rw fits

pub lines_within_limits-long : (limit m : ℕ) (line : Text) (lines : List Text) → limit < length line → lines_within_limits limit m (line ∷ lines) ≡ []
lines_within_limits-long limit zero line lines lt = refl
lines_within_limits-long limit (suc m) line lines lt = let long : nat_le (length line) limit ≡ false = grind (arith, nat_tests) in rw long

pub are_within_limits-long : (limit m : ℕ) (line : Text) (lines : List Text) → limit < length line → are_within_limits limit m (line ∷ lines) ≡ false
are_within_limits-long limit zero line lines lt = refl
are_within_limits-long limit (suc m) line lines lt = let long : nat_le (length line) limit ≡ false = grind (arith, nat_tests) in rw long
