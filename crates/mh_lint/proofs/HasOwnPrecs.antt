-- The alternatives of a file that have a `%prec` of their own, after one more mention.
use Rattle.std.proofs.Common.{◌≡◌, ◌||◌, ℕ, true, false, List, [], ◌∷◌, ◌++◌, sym, ap, subst, ◌∙◌, append_assoc, inl, inr}
use Rattle.std.specs.List.{Contains}
use Rattle.std.proofs.Math.Bool.{or-true}
use Rattle.std.proofs.lemmas.Bool.{cases_Bool}
use Rattle.std.proofs.lemmas.Map.Views.{exact_unsigned_eq}
use Rattle.std.proofs.lemmas.Cmp.{nat_eq_equiv}
use Rattle.std.proofs.lemmas.List.{append-nil}
use Rattle.mh_grammar.proofs.Lists.{contains_cases, contains_here, contains_none, contains_there}
use Rattle.mh_reader_places.specs.declared.mentions.Mention.{Mention}
use Rattle.mh_reader_places.specs.declared.mentions.Role.{Role}
use Rattle.mh_reader_places.specs.declared.mentions.Role.TheVariants as roles
use Rattle.mh_lint_faults.specs.NameFaults.{has_own_prec, is_own_prec}
use Rattle.mh_lint_faults.specs.code.MentionContexts.{HasOwnPrecs}
use Rattle.mh_lint_faults.proofs.MentionSteps.{own_step}
use Rattle.mh_lint.specs.code.LevelUses.{PutsOwn}

pub own_role : (n : ℕ) (role : Role) → is_own_prec n role ≡ true → role ≡ roles.Prec n
own_role n (roles.Prec a) e = ap roles.Prec (sym (exact_unsigned_eq n a e))
own_role n roles.Token e = cc
own_role n roles.Alias e = cc
own_role n roles.Start e = cc
own_role n (roles.Level rank) e = cc
own_role n (roles.OnError rank item) e = cc
own_role n roles.Rule e = cc
own_role n roles.Formal e = cc
own_role n (roles.Head a p) e = cc
own_role n (roles.GroupPrec low high) e = cc

pub own_true : (n : ℕ) (role : Role) → role ≡ roles.Prec n → is_own_prec n role ≡ true
own_true n _ e = ap (is_own_prec n) e ∙ nat_eq_equiv.refl n

-- Before the first mention no alternative has one.
pub no_own : HasOwnPrecs [] []
no_own n = (λ c. absurd (contains_none n c), λ e. (let bad : false ≡ true = e in cc))

pub own_more : (before : List Mention) (x : Mention) (old new : List ℕ) → HasOwnPrecs before old → PutsOwn x.role old new → HasOwnPrecs (before ++ x ∷ []) new
own_more before x old new h put n = (to, from)
  where
    to : Contains new n → has_own_prec (before ++ x ∷ []) n ≡ true
    to c = elim ((put n).0 c) [
      | inl had ↦ own_step before x n ∙ ap (λ v. v || is_own_prec n x.role) ((h n).0 had)
      | inr role ↦ own_step before x n ∙ ap (λ v. has_own_prec before n || v) (own_true n x.role role) ∙ or-true (has_own_prec before n)
    ]

    from : has_own_prec (before ++ x ∷ []) n ≡ true → Contains new n
    from e = elim (cases_Bool (has_own_prec before n)) [
      | inl had ↦ (put n).1 (inl ((h n).1 had))
      | inr lacked ↦ (put n).1 (inr (own_role n x.role (sym (ap (λ v. v || is_own_prec n x.role) lacked) ∙ sym (own_step before x n) ∙ e)))
    ]

-- ---- A list for any mentions.

own_put : (role : Role) (old : List ℕ) → (new : List ℕ) × PutsOwn role old new
own_put (roles.Prec a) old = (
  a ∷ old,
  λ n. (
    λ c. elim (contains_cases a old n c) [ inl same ↦ inr (ap roles.Prec same) | inr had ↦ inl had ],
    λ h. elim h [ inl had ↦ contains_there a old n had | inr e ↦ (let same : a ≡ n = cc in subst (λ m. Contains (a ∷ old) m) same (contains_here a old)) ],
  ),
)
own_put roles.Token old = (old, λ n. (λ c. inl c, λ h. elim h [ inl c ↦ c | inr e ↦ absurd cc ]))
own_put roles.Alias old = (old, λ n. (λ c. inl c, λ h. elim h [ inl c ↦ c | inr e ↦ absurd cc ]))
own_put roles.Start old = (old, λ n. (λ c. inl c, λ h. elim h [ inl c ↦ c | inr e ↦ absurd cc ]))
own_put (roles.Level rank) old = (old, λ n. (λ c. inl c, λ h. elim h [ inl c ↦ c | inr e ↦ absurd cc ]))
own_put (roles.OnError rank item) old = (old, λ n. (λ c. inl c, λ h. elim h [ inl c ↦ c | inr e ↦ absurd cc ]))
own_put roles.Rule old = (old, λ n. (λ c. inl c, λ h. elim h [ inl c ↦ c | inr e ↦ absurd cc ]))
own_put roles.Formal old = (old, λ n. (λ c. inl c, λ h. elim h [ inl c ↦ c | inr e ↦ absurd cc ]))
own_put (roles.Head a p) old = (old, λ n. (λ c. inl c, λ h. elim h [ inl c ↦ c | inr e ↦ absurd cc ]))
own_put (roles.GroupPrec low high) old = (old, λ n. (λ c. inl c, λ h. elim h [ inl c ↦ c | inr e ↦ absurd cc ]))

own_after : (before xs : List Mention) (own : List ℕ) → HasOwnPrecs before own → (all : List ℕ) × HasOwnPrecs (before ++ xs) all
own_after before [] own h = (own, subst (λ ms. HasOwnPrecs ms own) (sym (append-nil before)) h)
own_after before (x ∷ xs) own h =
    let put = own_put x.role own in
    let rest = own_after (before ++ x ∷ []) xs put.0 (own_more before x own put.0 h put.1) in
    (rest.0, subst (λ ms. HasOwnPrecs ms rest.0) (append_assoc before (x ∷ []) xs) rest.1)

pub some_own : (ms : List Mention) → (own : List ℕ) × HasOwnPrecs ms own
some_own ms = own_after [] ms [] no_own
