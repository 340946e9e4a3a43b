-- Lemmas on the ranks of files.
use Rattle.std.proofs.Common.{◌≡◌, ℕ, zero, suc, ◌-◌, refl, arith}
use Rattle.mh_inline_unfold.specs.FileRanks.{rank_of}

pub rank_of-nonzero : (file : ℕ) → (file ≡ 0 → ⊥) → file - 1 ≡ rank_of file
rank_of-nonzero zero some = absurd (some refl)
rank_of-nonzero (suc k) some = let before : suc k - 1 ≡ k = omega arith in before
