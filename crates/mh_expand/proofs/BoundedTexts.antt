-- Lemmas on texts that are cut at a number of bytes.
use Rattle.std.proofs.Common.{◌≡◌, ℕ, zero, suc, ◌+◌, ◌<◌, ◌≤◌, List, [], ◌∷◌, ◌++◌, length, take, ◌⊎◌, get_or, refl, sym, ap, ◌∙◌, arith, inl, inr, add-one, Some}
use Rattle.std.proofs.lemmas.List.{take_all, append_assoc}
use Rattle.mh_rules.specs.declared.joined.Joined.{Joined}
use Rattle.mh_rules.specs.declared.joined.Head.{Head}
use Rattle.mh_expand.specs.Terms.{Term, Atom, Apply, apply_all, separator, text, unclosed, head_name}
use Rattle.std.specs.List.{slice_get}
use Rattle.std.proofs.lemmas.List.{map-append}
use Rattle.std.proofs.Math.Seq.{take-suc}
use Rattle.mh_expand.specs.code.SharedTerms.{term_at, terms_at}
use Rattle.mh_expand.proofs.SharedTerms.{term_at-slice_get}
use Rattle.mh_expand.proofs.ApplyAll.{apply_all-push}

pub take_again : (n : ℕ) (a b : List ℕ) → take n (take n a ++ b) ≡ take n (a ++ b)
take_again zero a b = refl
take_again (suc n) [] b = refl
take_again (suc n) (x ∷ a) b = ap (λ l. x ∷ l) (take_again n a b)

-- Invariant: the bytes written are those of a term with some of its arguments.
pub record IsWriting (j : Joined) (room : ℕ) (start now : List ℕ) (t : Term) : Type 0 where
  pub text : now ≡ take room (start ++ unclosed j t)

pub IsWriting-start : (j : Joined) (room : ℕ) (start now : List ℕ) (h : Head) → now ≡ take room (start ++ head_name j h) → IsWriting j room start now (Atom h)
IsWriting-start j room start now h e = record { text = e }

pub IsWriting-step : (j : Joined) (room : ℕ) (start now mid next : List ℕ) (f x : Term) → IsWriting j room start now f → mid ≡ take room (now ++ separator f ∷ []) → next ≡ take room (mid ++ text j x) → IsWriting j room start next (Apply f x)
IsWriting-step j room start now mid next f x w e g = record {
  text =
      let m : mid ≡ take room ((start ++ unclosed j f) ++ separator f ∷ []) = e ∙ ap (λ l. take room (l ++ separator f ∷ [])) w.text ∙ take_again room (start ++ unclosed j f) (separator f ∷ []) in
      g ∙ ap (λ l. take room (l ++ text j x)) m ∙ take_again room ((start ++ unclosed j f) ++ separator f ∷ []) (text j x)
      ∙ ap (take room) (append_assoc (start ++ unclosed j f) (separator f ∷ []) (text j x) ∙ append_assoc start (unclosed j f) (separator f ∷ text j x));
}

pub IsWriting-close : (j : Joined) (room : ℕ) (start now next : List ℕ) (f x : Term) → IsWriting j room start now (Apply f x) → next ≡ take room (now ++ 41 ∷ []) → next ≡ take room (start ++ text j (Apply f x))
IsWriting-close j room start now next f x w e =
    e ∙ ap (λ l. take room (l ++ 41 ∷ [])) w.text ∙ take_again room (start ++ unclosed j (Apply f x)) (41 ∷ [])
    ∙ ap (take room) (append_assoc start (unclosed j (Apply f x)) (41 ∷ []))

applied_separator : (f x : Term) (xs : List Term) → separator (apply_all (Apply f x) xs) ≡ 44
applied_separator f x [] = refl
applied_separator f x (y ∷ xs) = applied_separator (Apply f x) y xs

separator_at : (h : Head) (ts : List Term) (i : ℕ) (args : List ℕ) → i < length args → 0 < i → separator (apply_all (Atom h) (terms_at ts (take i args))) ≡ 44
separator_at h ts zero args l p = absurd (omega arith)
separator_at h ts (suc i) [] l p = absurd (omega arith)
separator_at h ts (suc i) (n ∷ args) l p = applied_separator (Atom h) (term_at ts n) (terms_at ts (take i args))

-- The invariant still holds after one more argument is written.
pub IsWriting-arg : (j : Joined) (room : ℕ) (start now mid next : List ℕ) (h : Head) (ts : List Term) (args : List ℕ) (i : ℕ) (sep : List ℕ) → i < length args → ((i ≡ 0) × (sep ≡ 40 ∷ [])) ⊎ ((0 < i) × (sep ≡ 44 ∷ [])) → IsWriting j room start now (apply_all (Atom h) (terms_at ts (take i args))) → mid ≡ take room (now ++ sep) → next ≡ take room (mid ++ text j (term_at ts (get_or args i 0))) → IsWriting j room start next (apply_all (Atom h) (terms_at ts (take (i + 1) args)))
IsWriting-arg j room start now mid next h ts args i sep l s w e g =
    let arg = get_or args i 0 in
    let f = apply_all (Atom h) (terms_at ts (take i args)) in
    let sign : sep ≡ separator f ∷ [] = elim s [
      | inl z ↦ z.1 ∙ rw z.0 refl
      | inr p ↦ p.1 ∙ ap (λ x. x ∷ []) (sym (separator_at h ts i args l p.0))
    ] in
    let list : take (i + 1) args ≡ take i args ++ arg ∷ [] = rw add-one (take-suc args i 0 l) in
    let term : apply_all (Atom h) (terms_at ts (take (i + 1) args)) ≡ Apply f (term_at ts arg) =
    ap (λ ns. apply_all (Atom h) (terms_at ts ns)) list ∙ ap (apply_all (Atom h)) (map-append (term_at ts) (take i args) (arg ∷ [])) ∙ apply_all-push (Atom h) (terms_at ts (take i args)) (term_at ts arg) in
    rw term (IsWriting-step j room start now mid next f (term_at ts arg) w (e ∙ ap (λ z. take room (now ++ z)) sign) g)

last_applied : (f x : Term) (xs : List Term) → (g : Term) × (y : Term) × (apply_all (Apply f x) xs ≡ Apply g y)
last_applied f x [] = (f, x, refl)
last_applied f x (y ∷ xs) = last_applied (Apply f x) y xs

-- After the closing parenthesis the text of the whole term is written.
pub IsWriting-end : (j : Joined) (room : ℕ) (start now next : List ℕ) (h : Head) (ts : List Term) (args : List ℕ) (i number : ℕ) → (args ≡ [] → ⊥) → length args ≤ i → slice_get ts number ≡ Some (apply_all (Atom h) (terms_at ts args)) → IsWriting j room start now (apply_all (Atom h) (terms_at ts (take i args))) → next ≡ take room (now ++ 41 ∷ []) → next ≡ take room (start ++ text j (term_at ts number))
IsWriting-end j room start now next h ts [] i number some l at w e = absurd (some refl)
IsWriting-end j room start now next h ts (n ∷ args) i number some l at w e =
    let a = last_applied (Atom h) (term_at ts n) (terms_at ts args) in
    let all : take i (n ∷ args) ≡ n ∷ args = take_all i (n ∷ args) l in
    let v : IsWriting j room start now (apply_all (Atom h) (terms_at ts (n ∷ args))) = rw (ap (λ ns. apply_all (Atom h) (terms_at ts ns)) all) at w in
    let closed = IsWriting-close j room start now next a.0 a.1 (rw a.2 at v) e in
    let here : term_at ts number ≡ Apply a.0 a.1 = term_at-slice_get ts number (apply_all (Atom h) (terms_at ts (n ∷ args))) at ∙ a.2 in
    closed ∙ ap (λ t. take room (start ++ text j t)) (sym here)

-- The text of a term without arguments is the name of its head.
pub IsWriting-without_args : (j : Joined) (room : ℕ) (start now : List ℕ) (h : Head) (ts : List Term) (args : List ℕ) (i number : ℕ) → args ≡ [] → slice_get ts number ≡ Some (apply_all (Atom h) (terms_at ts args)) → IsWriting j room start now (apply_all (Atom h) (terms_at ts (take i args))) → now ≡ take room (start ++ text j (term_at ts number))
IsWriting-without_args j room start now h ts args i number none at w =
    let front : take i args ≡ [] = take_all i args (omega (arith, ap length none)) ∙ none in
    let v : IsWriting j room start now (Atom h) = rw (ap (λ ns. apply_all (Atom h) (terms_at ts ns)) front) at w in
    let here : term_at ts number ≡ Atom h = term_at-slice_get ts number (apply_all (Atom h) (terms_at ts args)) at ∙ ap (λ ns. apply_all (Atom h) (terms_at ts ns)) none in
    v.text ∙ ap (λ t. take room (start ++ text j t)) (sym here)
