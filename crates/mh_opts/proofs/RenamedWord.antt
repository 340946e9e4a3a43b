-- Lemmas on a word whose prefix is replaced.
use Rattle.std.proofs.Common.{◌≡◌, ◌≢◌, ◌++◌, ◌∙◌, ℕ, List, true, length, drop, nat_eq, refl, sym, ap, if◌then◌else◌}
use Rattle.std.specs.List.{starts_with}
use Rattle.std.proofs.lemmas.Bool.Decides.{Decides-eqb}
use Rattle.std.proofs.lemmas.Slice.Eq.{starts_is}
use Rattle.std.proofs.lemmas.Bool.{false_from_ne_true}

pub renamed_is : (once new word value : List ℕ) (n : ℕ) → n ≡ length once → word ≡ once ++ drop n word → value ≡ drop n word
    → new ++ value ≡ (if starts_with nat_eq word once then new ++ drop (length once) word else word)
renamed_is once new word value n at split rest =
    let yes : starts_with nat_eq word once ≡ true = (starts_is Decides-eqb word once (starts_with nat_eq word once) refl).1 (drop n word) split in
    ap (λ v. new ++ v) (rest ∙ ap (λ k. drop k word) at) ∙ sym (ap (λ b. if b then new ++ drop (length once) word else word) yes)

pub kept_is : (once new word : List ℕ) → ((rest : List ℕ) → word ≢ once ++ rest) → word ≡ (if starts_with nat_eq word once then new ++ drop (length once) word else word)
kept_is once new word lacks =
    let yes = starts_is Decides-eqb word once (starts_with nat_eq word once) refl in
    sym (ap (λ b. if b then new ++ drop (length once) word else word) (false_from_ne_true (starts_with nat_eq word once) (λ e. lacks (drop (length once) word) (yes.0 e))))
