-- The faults of a head, and of the `%prec` of a group.
use Rattle.std.proofs.Common.{◌≡◌, ℕ, zero, suc, ◌+◌, ◌-◌, ◌<◌, ◌≤◌, ◌||◌, ◌&&◌, ◌⊎◌, ◌↔◌, Bool, true, false, List, [], ◌∷◌, ◌++◌, Option, refl, sym, ap, subst, ◌∙◌, inl, inr, arith}
use Rattle.std.specs.Prelude.{not, is_some}
use Rattle.std.specs.List.{Contains, list_any, range_with_len}
use Rattle.std.proofs.Math.Bool.{or-true}
use Rattle.std.proofs.lemmas.Bool.{cases_Bool, cases_eq}
use Rattle.std.proofs.lemmas.List.{append-nil}
use Rattle.mh_grammar.proofs.Lists.{below_next}
use Rattle.mh_rules.specs.declared.modules.Ref.{Ref}
use Rattle.mh_rules.specs.declared.joined.Head.{Head}
use Rattle.mh_join_names.specs.Faults.{error_token, is_error, text_of, undefined, unless}
use Rattle.mh_join_names.specs.declared.fault.JoinFault.{JoinFault}
use Rattle.mh_join_names.specs.declared.fault.JoinFault.TheVariants as faults
use Rattle.mh_reader_places.specs.declared.mentions.Mention.{Mention}
use Rattle.mh_lint_faults.specs.NameFaults.{has_own_prec, takes_group_prec}
use Rattle.mh_lint_faults.specs.code.MentionContexts.{HasOwnPrecs}

-- ---- Heads.

-- The name `error` is reported as such.
pub error_head : (meant : Ref → Option Head) (r : Ref) → is_error r ≡ true → faults.ErrorToken ∷ [] ≡ undefined true meant r ++ error_token r
error_head meant r e = sym (ap (λ b. unless (b || is_some (meant r)) (faults.Undefined (text_of r)) ++ unless (not b) faults.ErrorToken) e)

-- Another head is reported if it is not defined.
pub other_head : (meant : Ref → Option Head) (r : Ref) (found : List JoinFault) → is_error r ≡ false → found ≡ unless (is_some (meant r)) (faults.Undefined (text_of r)) → found ≡ undefined true meant r ++ error_token r
other_head meant r found e is =
    is ∙ sym (append-nil (unless (is_some (meant r)) (faults.Undefined (text_of r)))) ∙ sym (ap (λ b. unless (b || is_some (meant r)) (faults.Undefined (text_of r)) ++ unless (not b) faults.ErrorToken) e)

-- ---- Groups.

pub any_range : (p : ℕ → Bool) (a k n : ℕ) → a ≤ n → n < a + k → p n ≡ true → list_any p (range_with_len a k) ≡ true
any_range p a zero n l m e = absurd (omega (arith, l, m))
any_range p a (suc k) n l m e = elim (cases_eq a n) [
  | inl same ↦ ap (λ b. b || list_any p (range_with_len (a + 1) k)) (ap p same ∙ e)
  | inr apart ↦ ap (λ b. p a || b) (any_range p (a + 1) k n (omega (arith, l, apart)) (omega (arith, m)) e) ∙ or-true (p a)
]

from_range : (p : ℕ → Bool) (a k : ℕ) → list_any p (range_with_len a k) ≡ true → (n : ℕ) × (a ≤ n) × (n < a + k) × (p n ≡ true)
from_range p a zero e = (let bad : false ≡ true = e in cc)
from_range p a (suc k) e = elim (cases_Bool (p a)) [
  | inl here ↦ (a, omega arith, omega arith, here)
  | inr other ↦ (let later = from_range p (a + 1) k (sym (ap (λ b. b || list_any p (range_with_len (a + 1) k)) other) ∙ e) in (later.0, omega (arith, later.1), omega (arith, later.2), later.3))
]

-- Two truths are equal if each follows from the other.
both_ways : (a b : Bool) → (a ≡ true → b ≡ true) → (b ≡ true → a ≡ true) → a ≡ b
both_ways true b f g = sym (f refl)
both_ways false true f g = g refl
both_ways false false f g = refl

not_true : (b : Bool) → not b ≡ true → b ≡ true → ⊥
not_true b e f = let bad : false ≡ true = sym (ap not f) ∙ e in cc

true_unless : (b : Bool) → (b ≡ true → ⊥) → not b ≡ true
true_unless true h = absurd (h refl)
true_unless false h = refl

-- Some alternative of a group has no `%prec` of its own.
pub takes_is : (before : List Mention) (keys : List ℕ) (low high : ℕ) (r : Bool) → HasOwnPrecs before keys → ((r ≡ true) ↔ ((n : ℕ) × (low ≤ n) × (n ≤ high) × (Contains keys n → ⊥))) → r ≡ takes_group_prec before low high
takes_is before keys low high r own is =
    let p : ℕ → Bool = λ n. not (has_own_prec before n) in
    both_ways r (takes_group_prec before low high)
    (λ e. let one = is.0 e in any_range p low (high + 1 - low) one.0 one.1 (omega (arith, one.1, one.2)) (true_unless (has_own_prec before one.0) (λ f. one.3 ((own one.0).1 f))))
    (λ e. let one = from_range p low (high + 1 - low) e in is.1 (one.0, one.1, omega (arith, one.1, one.2), λ c. not_true (has_own_prec before one.0) one.3 ((own one.0).0 c)))

-- If all alternatives of a group but the last have a `%prec` of their own, the last one decides.
pub last_decides : (keys : List ℕ) (low high at : ℕ) (b : Bool) → low ≤ high → high ≤ at → ((n : ℕ) → low ≤ n → n < at → Contains keys n) → ((b ≡ true) ↔ Contains keys high) → (not b ≡ true) ↔ ((n : ℕ) × (low ≤ n) × (n ≤ high) × (Contains keys n → ⊥))
last_decides keys low high at b le past had test = (
  λ e. (high, le, omega arith, λ c. not_true b e (test.1 c)),
  λ h. true_unless b (λ t. h.3 (there h.0 h.1 (omega (arith, h.2)) (test.0 t))),
)
  where
    there : (n : ℕ) → low ≤ n → n < high + 1 → Contains keys high → Contains keys n
    there n l m last = elim (below_next n high m) [
      | inl less ↦ had n l (omega (arith, less, past))
      | inr same ↦ subst (Contains keys) (sym same) last
    ]

-- A group without alternatives takes no `%prec`.
pub no_group : (keys : List ℕ) (low high : ℕ) → high < low → (false ≡ true) ↔ ((n : ℕ) × (low ≤ n) × (n ≤ high) × (Contains keys n → ⊥))
no_group keys low high l = (λ e. absurd (let bad : false ≡ true = e in cc), λ h. absurd (omega (arith, l, h.1, h.2)))
