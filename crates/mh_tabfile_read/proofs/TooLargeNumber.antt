-- Proves that digits have no value below 2^32 once a prefix of them has none.
use Rattle.std.proofs.Common.{◌≡◌, ◌+◌, ◌*◌, ◌-◌, ◌^◌, ◌<◌, ◌≤◌, ℕ, suc, List, [], ◌∷◌, cond, length, get_or, drop, drop-cons, Some, None, sym, ap, ◌∙◌, arith, le-ltb}
use Rattle.mh_tabfile_read.specs.code.Numbers.{value_from, small_value}

value_grows : (n : ℕ) (ds : List ℕ) → n ≤ value_from n ds
value_grows n [] = omega arith
value_grows n (d ∷ ds) = omega (arith, value_grows (10 * n + (d - 48)) ds)

too_large : (w : List ℕ) → 2 ^ 32 ≤ value_from 0 w → None ≡ small_value w
too_large w h = ap (λ b. cond b (Some (value_from 0 w)) None) (sym (le-ltb (value_from 0 w) (2 ^ 32) h))

pub large : (word : List ℕ) (i v m : ℕ) → i < length word → value_from v (drop i word) ≡ value_from 0 word → m ≡ 10 * v + (get_or word i 0 - 48) → 2 ^ 32 ≤ m → None ≡ small_value word
large word i v m inside same e h =
    let split : value_from v (drop i word) ≡ value_from (10 * v + (get_or word i 0 - 48)) (drop (suc i) word) = ap (value_from v) (drop-cons word i 0 inside) in
    too_large word (omega (arith, h, e, value_grows (10 * v + (get_or word i 0 - 48)) (drop (suc i) word), sym split ∙ same))
