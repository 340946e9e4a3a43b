-- The names and the alternatives whose levels are compared, after more of them are added.
use Rattle.std.proofs.Common.{◌≡◌, ◌↔◌, ◌⊎◌, ◌||◌, ℕ, ◌+◌, ◌<◌, true, arith, sym, ap, subst, ◌∙◌, inl, inr}
use Rattle.std.specs.List.{Contains}
use Rattle.std.specs.HashSet.{contains}
use Rattle.std.proofs.Math.Bool.{or-true}
use Rattle.std.proofs.lemmas.Bool.{cases_Bool}
use Rattle.mh_grammar.specs.Text.{Text}
use Rattle.mh_grammar.proofs.Lists.{below_next}
use Rattle.mh_grammar.proofs.TextEquality.{equal_from_same, same_refl}
use Rattle.mh_join_names.specs.Names.{same}
use Rattle.mh_lint.specs.code.LevelUses.{AddsUses}
use Rattle.mh_lint.specs.code.Uses.{HasPlace}
use Rattle.mh_lint.specs.declared.alternatives.AlternativeOf.{AlternativeOf}
use Rattle.mh_lint.specs.declared.levels.UsedLevels.{UsedLevels}
use Rattle.mh_lint.proofs.Gains.{gains_none, gains_same, gains_then}

abbrev pub HasName : UsedLevels → Text → Type 0
HasName u x = contains same u.names x ≡ true

abbrev pub HasAlternative : UsedLevels → ℕ → ℕ → Type 0
HasAlternative u file n = HasPlace u.alternatives.keys file n

pub adds_none : (N : Text → Type 0) (P : ℕ → ℕ → Type 0) (u : UsedLevels) → ((x : Text) → N x → ⊥) → ((file n : ℕ) → P file n → ⊥) → AddsUses N P u u
adds_none N P u no_name no_place = record {
  names = gains_none N (HasName u) no_name;
  alternatives = λ file. gains_none (P file) (HasAlternative u file) (no_place file);
}

pub adds_then : (N M : Text → Type 0) (P Q : ℕ → ℕ → Type 0) (a b c : UsedLevels) → AddsUses N P a b → AddsUses M Q b c → AddsUses (λ x. N x ⊎ M x) (λ file n. P file n ⊎ Q file n) a c
adds_then N M P Q a b c g h = record {
  names = gains_then N M (HasName a) (HasName b) (HasName c) g.names h.names;
  alternatives = λ file. gains_then (P file) (Q file) (HasAlternative a file) (HasAlternative b file) (HasAlternative c file) (g.alternatives file) (h.alternatives file);
}

pub adds_same : (N M : Text → Type 0) (P Q : ℕ → ℕ → Type 0) (a b : UsedLevels) → ((x : Text) → N x → M x) → ((x : Text) → M x → N x) → ((file n : ℕ) → P file n → Q file n) → ((file n : ℕ) → Q file n → P file n) → AddsUses N P a b → AddsUses M Q a b
adds_same N M P Q a b nm mn pq qp g = record {
  names = gains_same N M (HasName a) (HasName b) nm mn g.names;
  alternatives = λ file. gains_same (P file) (Q file) (HasAlternative a file) (HasAlternative b file) (pq file) (qp file) (g.alternatives file);
}

-- One name is added.
pub name_added : (N : Text → Type 0) (P : ℕ → ℕ → Type 0) (a b : UsedLevels) (name : Text) → ((x : Text) → contains same b.names x ≡ (contains same a.names x || same x name)) → b.alternatives.keys ≡ a.alternatives.keys → N name → ((x : Text) → N x → x ≡ name) → ((file n : ℕ) → P file n → ⊥) → AddsUses N P a b
name_added N P a b name at kept is only no_place = record { names = λ x. (to x, from x); alternatives = λ file n. (places_to file n, places_from file n) }
  where
    to : (x : Text) → contains same b.names x ≡ true → (contains same a.names x ≡ true) ⊎ N x
    to x e = elim (cases_Bool (contains same a.names x)) [
      | inl had ↦ inl had
      | inr lacked ↦ inr (subst N (sym (equal_from_same x name (sym (at x ∙ ap (λ b. b || same x name) lacked) ∙ e))) is)
    ]

    from : (x : Text) → (contains same a.names x ≡ true) ⊎ N x → contains same b.names x ≡ true
    from x (inl had) = at x ∙ ap (λ b. b || same x name) had
    from x (inr new) = at x ∙ ap (λ b. contains same a.names x || b) (subst (λ y. same y name ≡ true) (sym (only x new)) (same_refl name)) ∙ or-true (contains same a.names x)

    places_to : (file n : ℕ) → HasAlternative b file n → HasAlternative a file n ⊎ P file n
    places_to file n c = inl (subst (λ keys. HasPlace keys file n) kept c)

    places_from : (file n : ℕ) → HasAlternative a file n ⊎ P file n → HasAlternative b file n
    places_from file n (inl had) = subst (λ keys. HasPlace keys file n) (sym kept) had
    places_from file n (inr place) = absurd (no_place file n place)

-- One alternative is added.
pub place_added : (N : Text → Type 0) (P : ℕ → ℕ → Type 0) (a b : UsedLevels) (file n : ℕ) → ((x : Text) → contains same b.names x ≡ contains same a.names x) → ((x : AlternativeOf) → Contains b.alternatives.keys x ↔ (Contains a.alternatives.keys x ⊎ (x ≡ record { file = file; index = n }))) → P file n → ((k m : ℕ) → P k m → (k ≡ file) × (m ≡ n)) → ((x : Text) → N x → ⊥) → AddsUses N P a b
place_added N P a b file n kept at is only no_name = record { names = λ x. (to x, from x); alternatives = λ k m. (places_to k m, places_from k m) }
  where
    to : (x : Text) → contains same b.names x ≡ true → (contains same a.names x ≡ true) ⊎ N x
    to x e = inl (sym (kept x) ∙ e)

    from : (x : Text) → (contains same a.names x ≡ true) ⊎ N x → contains same b.names x ≡ true
    from x (inl had) = kept x ∙ had
    from x (inr new) = absurd (no_name x new)

    places_to : (k m : ℕ) → HasAlternative b k m → HasAlternative a k m ⊎ P k m
    places_to k m c = elim ((at (record { file = k; index = m })).0 c) [
      | inl had ↦ inl had
      | inr new ↦ inr (subst (λ (v : AlternativeOf). P v.file v.index) (sym new) is)
    ]

    places_from : (k m : ℕ) → HasAlternative a k m ⊎ P k m → HasAlternative b k m
    places_from k m (inl had) = (at (record { file = k; index = m })).1 (inl had)
    places_from k m (inr place) = (at (record { file = k; index = m })).1 (inr (let one = only k m place in λ i. record { file = one.0 i; index = one.1 i }))

-- ---- What the numbers below a bound add.

abbrev pub NamesBelow : (ℕ → Text → Type 0) → ℕ → Text → Type 0
NamesBelow N i x = (z : ℕ) × (z < i) × N z x

abbrev pub PlacesBelow : (ℕ → ℕ → ℕ → Type 0) → ℕ → ℕ → ℕ → Type 0
PlacesBelow P i file n = (z : ℕ) × (z < i) × P z file n

-- The numbers below i have been added.
abbrev pub AddsBelow : (ℕ → Text → Type 0) → (ℕ → ℕ → ℕ → Type 0) → ℕ → UsedLevels → UsedLevels → Type 0
AddsBelow N P i = AddsUses (NamesBelow N i) (PlacesBelow P i)

module _ (N : ℕ → Text → Type 0) (P : ℕ → ℕ → ℕ → Type 0) where
  pub none_below : (u : UsedLevels) → AddsBelow N P 0 u u
  none_below u = adds_none (NamesBelow N 0) (PlacesBelow P 0) u (λ x h. (let l = h.1 in omega (arith, l))) (λ file n h. (let l = h.1 in omega (arith, l)))

  pub more_below : (i : ℕ) (a b c : UsedLevels) → AddsBelow N P i a b → AddsUses (N i) (P i) b c → AddsBelow N P (i + 1) a c
  more_below i a b c g h = adds_same (λ x. NamesBelow N i x ⊎ N i x) (NamesBelow N (i + 1)) (λ file n. PlacesBelow P i file n ⊎ P i file n) (PlacesBelow P (i + 1)) a c names_to names_from places_to places_from (adds_then (NamesBelow N i) (N i) (PlacesBelow P i) (P i) a b c g h)
    where
      names_to : (x : Text) → NamesBelow N i x ⊎ N i x → NamesBelow N (i + 1) x
      names_to x (inl h) = (h.0, (let l = h.1 in omega (arith, l)), h.2)
      names_to x (inr here) = (i, omega arith, here)

      names_from : (x : Text) → NamesBelow N (i + 1) x → NamesBelow N i x ⊎ N i x
      names_from x h = elim (below_next h.0 i h.1) [ inl l ↦ inl (h.0, l, h.2) | inr same ↦ inr (subst (λ z. N z x) same h.2) ]

      places_to : (file n : ℕ) → PlacesBelow P i file n ⊎ P i file n → PlacesBelow P (i + 1) file n
      places_to file n (inl h) = (h.0, (let l = h.1 in omega (arith, l)), h.2)
      places_to file n (inr here) = (i, omega arith, here)

      places_from : (file n : ℕ) → PlacesBelow P (i + 1) file n → PlacesBelow P i file n ⊎ P i file n
      places_from file n h = elim (below_next h.0 i h.1) [ inl l ↦ inl (h.0, l, h.2) | inr same ↦ inr (subst (λ z. P z file n) same h.2) ]

  -- Number i adds nothing.
  pub skipped_below : (i : ℕ) (a b : UsedLevels) → ((x : Text) → N i x → ⊥) → ((file n : ℕ) → P i file n → ⊥) → AddsBelow N P i a b → AddsBelow N P (i + 1) a b
  skipped_below i a b no_name no_place g = more_below i a b b g (adds_none (N i) (P i) b no_name no_place)

  -- All numbers have been added.
  pub all_below : (i : ℕ) (M : Text → Type 0) (Q : ℕ → ℕ → Type 0) (a b : UsedLevels) → ((z : ℕ) (x : Text) → N z x → z < i) → ((z file n : ℕ) → P z file n → z < i) → ((z : ℕ) (x : Text) → N z x → M x) → ((x : Text) → M x → (z : ℕ) × N z x) → ((z file n : ℕ) → P z file n → Q file n) → ((file n : ℕ) → Q file n → (z : ℕ) × P z file n) → AddsBelow N P i a b → AddsUses M Q a b
  all_below i M Q a b names_within places_within nm mn pq qp g = adds_same (NamesBelow N i) M (PlacesBelow P i) Q a b (λ x h. nm h.0 x h.2) (λ x m. (let one = mn x m in (one.0, names_within one.0 x one.1, one.1))) (λ file n h. pq h.0 file n h.2) (λ file n q. (let one = qp file n q in (one.0, places_within one.0 file n one.1, one.1))) g
