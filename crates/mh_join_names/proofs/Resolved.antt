-- Lemmas on actuals whose names are all defined.
use Rattle.std.proofs.Common.{◌≡◌, ℕ, suc, ◌+◌, ◌<◌, Bool, true, false, List, [], ◌∷◌, ◌++◌, Option, Some, length, get_or, take, drop, map, refl, sym, ap, ◌∙◌, append_assoc, add-one, arith}
use Rattle.std.specs.Prelude.{is_some, option_map, option_and_then}
use Rattle.std.specs.List.{flat_map, enumerate_from}
use Rattle.std.proofs.lemmas.List.{map-append, append-nil}
use Rattle.std.proofs.lemmas.List.Concat.{flat_map-append}
use Rattle.mh_grammar.proofs.Lists.{nil_parts, split_at, take_step}
use Rattle.mh_rules.specs.declared.modules.Ref.{Ref}
use Rattle.mh_rules.specs.declared.modules.Actual.{Actual}
use Rattle.mh_rules.specs.declared.modules.Actual.TheViews.{out-Actual}
use Rattle.mh_rules.specs.declared.modules.Actual.TheFolds.{fold_out-Actual}
use Rattle.mh_rules.specs.declared.joined.Head.{Head}
use Rattle.mh_rules.specs.declared.joined.Applied.{Applied}
use Rattle.mh_join_names.specs.declared.fault.JoinFault.{JoinFault}
use Rattle.mh_join_names.specs.Faults.{unless, undefined, undefined_in_actual}
use Rattle.mh_join_names.specs.Joining.{all_of, applied_to, apply_step, resolved}
use Rattle.mh_join_names.proofs.Lists.{enumerate-push, length-take_in}
use Rattle.mh_join_names.proofs.Refs.{actual_out}

-- EMPTY LISTS OF FAULTS

module _ {A : Type 0} where
  pub split_item : (xs : List A) (i : ℕ) (x : A) → i < length xs → x ≡ get_or xs i x → xs ≡ take i xs ++ x ∷ drop (i + 1) xs
  split_item xs i x h at = split_at xs i x h at ∙ ap (λ k. take i xs ++ x ∷ drop k xs) (sym (add-one i))

pub nil_at : {A B : Type 0} (f : A → List B) (xs : List A) (i : ℕ) (x : A) → i < length xs → x ≡ get_or xs i x → flat_map f xs ≡ [] → f x ≡ []
nil_at f xs i x h at e =
    (nil_parts (f x) (flat_map f (drop (i + 1) xs))
    (nil_parts (flat_map f (take i xs)) (f x ++ flat_map f (drop (i + 1) xs))
    (sym (ap (flat_map f) (split_item xs i x h at) ∙ flat_map-append f (take i xs) (x ∷ drop (i + 1) xs)) ∙ e)).1).0

pub enum_split : {A : Type 0} (n : ℕ) (xs ys : List A) → enumerate_from n (xs ++ ys) ≡ enumerate_from n xs ++ enumerate_from (n + length xs) ys
enum_split n [] ys = ap (λ k. enumerate_from k ys) (let e : n ≡ n + 0 = omega arith in e)
enum_split n (x ∷ xs) ys = ap (λ k. (n, x) ∷ k) (enum_split (n + 1) xs ys ∙ ap (λ k. enumerate_from (n + 1) xs ++ enumerate_from k ys) (let e : n + 1 + length xs ≡ n + suc (length xs) = omega arith in e))

pub nil_enum_at : {A B : Type 0} (f : ℕ × A → List B) (n : ℕ) (xs : List A) (i j : ℕ) (x : A) → i < length xs → x ≡ get_or xs i x → n + i ≡ j → flat_map f (enumerate_from n xs) ≡ [] → f (j, x) ≡ []
nil_enum_at f n xs i j x h at place e =
    let rest = enumerate_from (j + 1) (drop (i + 1) xs) in
    (nil_parts (f (j, x)) (flat_map f rest)
    (nil_parts (flat_map f (enumerate_from n (take i xs))) (f (j, x) ++ flat_map f rest)
    (sym (ap (flat_map f) (ap (enumerate_from n) (split_item xs i x h at) ∙ enum_split n (take i xs) (x ∷ drop (i + 1) xs)
    ∙ ap (λ k. enumerate_from n (take i xs) ++ enumerate_from k (x ∷ drop (i + 1) xs)) (ap (λ k. n + k) (length-take_in xs i h) ∙ place))
    ∙ flat_map-append f (enumerate_from n (take i xs)) ((j, x) ∷ rest)) ∙ e)).1).0

-- HEADS AND ARGUMENTS

pub known_unless : (b : Bool) (e : JoinFault) → unless b e ≡ [] → b ≡ true
known_unless true e h = refl
known_unless false e h = let bad : e ∷ [] ≡ [] = h in cc

module _ (meant : Ref → Option Head) (a : Actual) (stands : undefined_in_actual false meant a ≡ []) where
  parts : undefined false meant (out-Actual a).head ++ flat_map (undefined_in_actual false meant) (out-Actual a).args ≡ []
  parts = actual_out (undefined false meant) a ∙ stands

  pub head_resolved : is_some (meant (out-Actual a).head) ≡ true
  head_resolved = known_unless _ _ (nil_parts (undefined false meant (out-Actual a).head) (flat_map (undefined_in_actual false meant) (out-Actual a).args) parts).0

  pub args_resolved : flat_map (undefined_in_actual false meant) (out-Actual a).args ≡ []
  args_resolved = (nil_parts (undefined false meant (out-Actual a).head) (flat_map (undefined_in_actual false meant) (out-Actual a).args) parts).1

pub all_somes : {A : Type 0} (xs : List A) → all_of (map Some xs) ≡ Some xs
all_somes [] = refl
all_somes (x ∷ xs) = ap (option_map (λ ys. x ∷ ys)) (all_somes xs)

pub resolved_with : (meant : Ref → Option Head) (a : Actual) (h : Head) (ks : List Applied) → Some h ≡ meant (out-Actual a).head → map Some ks ≡ map (resolved meant) (out-Actual a).args → Some (applied_to h ks) ≡ resolved meant a
resolved_with meant a h ks p q =
    sym (fold_out-Actual (Option Applied) (apply_step meant) a
    ∙ ap (option_and_then (λ g. option_map (applied_to g) (all_of (map (resolved meant) (out-Actual a).args)))) (sym p)
    ∙ ap (λ os. option_map (applied_to h) (all_of os)) (sym q) ∙ ap (option_map (applied_to h)) (all_somes ks))

-- LISTS OF OPTIONS THAT ALL HAVE VALUES

pub somes_more : {A B : Type 0} (g : A → Option B) (before : List (Option B)) (xs : List A) (i : ℕ) (x : A) (done new : List B) (y : B) → i < length xs → x ≡ get_or xs i x → map Some done ≡ before ++ map g (take i xs) → Some y ≡ g x → new ≡ done ++ y ∷ [] → map Some new ≡ before ++ map g (take (i + 1) xs)
somes_more g before xs i x done new y h at so_far is put =
    ap (map Some) put ∙ map-append Some done (y ∷ []) ∙ ap (λ k. k ++ Some y ∷ []) so_far ∙ append_assoc before (map g (take i xs)) (Some y ∷ [])
    ∙ ap (λ o. before ++ (map g (take i xs) ++ o ∷ [])) is
    ∙ ap (λ k. before ++ k) (sym (ap (map g) (take_step xs i x h at) ∙ map-append g (take i xs) (x ∷ [])))

pub somes_enum_more : {A B : Type 0} (g : ℕ × A → Option B) (before : List (Option B)) (n : ℕ) (xs : List A) (i j : ℕ) (x : A) (done new : List B) (y : B) → i < length xs → x ≡ get_or xs i x → n + i ≡ j → map Some done ≡ before ++ map g (enumerate_from n (take i xs)) → Some y ≡ g (j, x) → new ≡ done ++ y ∷ [] → map Some new ≡ before ++ map g (enumerate_from n (take (i + 1) xs))
somes_enum_more g before n xs i j x done new y h at place so_far is put =
    ap (map Some) put ∙ map-append Some done (y ∷ []) ∙ ap (λ k. k ++ Some y ∷ []) so_far ∙ append_assoc before (map g (enumerate_from n (take i xs))) (Some y ∷ [])
    ∙ ap (λ o. before ++ (map g (enumerate_from n (take i xs)) ++ o ∷ [])) is
    ∙ ap (λ k. before ++ k) (sym (ap (map g) (ap (enumerate_from n) (take_step xs i x h at) ∙ enumerate-push n (take i xs) x ∙ ap (λ k. enumerate_from n (take i xs) ++ (k, x) ∷ []) (ap (λ k. n + k) (length-take_in xs i h) ∙ place))
    ∙ map-append g (enumerate_from n (take i xs)) ((j, x) ∷ [])))

-- The values of one more list of options are appended to those found so far.
pub flat_somes_more : {A B : Type 0} (g : ℕ × A → List (Option B)) (n : ℕ) (xs : List A) (i j : ℕ) (x : A) (done new : List B) → i < length xs → x ≡ get_or xs i x → n + i ≡ j → map Some done ≡ flat_map g (enumerate_from n (take i xs)) → map Some new ≡ map Some done ++ g (j, x) → map Some new ≡ flat_map g (enumerate_from n (take (i + 1) xs))
flat_somes_more g n xs i j x done new h at place so_far put =
    put ∙ ap (λ k. k ++ g (j, x)) so_far
    ∙ sym (ap (flat_map g) (ap (enumerate_from n) (take_step xs i x h at) ∙ enumerate-push n (take i xs) x ∙ ap (λ k. enumerate_from n (take i xs) ++ (k, x) ∷ []) (ap (λ k. n + k) (length-take_in xs i h) ∙ place))
    ∙ flat_map-append g (enumerate_from n (take i xs)) ((j, x) ∷ []) ∙ ap (λ k. flat_map g (enumerate_from n (take i xs)) ++ k) (append-nil (g (j, x))))
