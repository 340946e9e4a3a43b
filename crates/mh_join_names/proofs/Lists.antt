-- Lemmas on traversed lists, and on insertion into sets and maps.
use Rattle.std.proofs.Common.{◌≡◌, ℕ, suc, ◌+◌, ◌<◌, Bool, true, false, cond, List, [], ◌∷◌, ◌++◌, Option, Some, None, length, get_or, take, refl, sym, ap, subst, ◌∙◌, inl, inr, arith, zero-add, append_assoc}
use Rattle.std.specs.Prelude.{is_some, ◌||◌}
use Rattle.std.specs.List.{flat_map, enumerate_from, position, position_from, list_any}
use Rattle.std.proofs.Math.Bool.{or-false, or-true}
use Rattle.std.proofs.lemmas.List.Folds.{list_any-append, list_any_more}
use Rattle.std.specs.Map.{lookup}
use Rattle.std.specs.Option.{option_or}
use Rattle.std.proofs.lemmas.List.{append-nil, length-take}
use Rattle.std.proofs.lemmas.List.Concat.{flat_map-append}
use Rattle.std.proofs.lemmas.Iterator.Adapters.{position_from-zero}
use Rattle.std.specs.HashMap.{HashMap, get}
use Rattle.mh_grammar.proofs.Lists.{take_step}
use Rattle.mh_grammar.proofs.TextEquality.{same_refl, same_cases}
use Rattle.mh_join_names.specs.code.Insertions.{InsertsNew}
use Rattle.mh_grammar.specs.Text.{Text}
use Rattle.mh_join_names.specs.Names.{same}

-- LISTS

pub flat_more : {A B : Type 0} (f : A → List B) (xs : List A) (i : ℕ) (x : A) → i < length xs → x ≡ get_or xs i x → flat_map f (take (i + 1) xs) ≡ flat_map f (take i xs) ++ (f x ++ [])
flat_more f xs i x h e = ap (flat_map f) (take_step xs i x h e) ∙ flat_map-append f (take i xs) (x ∷ [])

pub enumerate-push : {A : Type 0} (n : ℕ) (xs : List A) (x : A) → enumerate_from n (xs ++ x ∷ []) ≡ enumerate_from n xs ++ (n + length xs, x) ∷ []
enumerate-push n [] x = ap (λ k. (k, x) ∷ []) (let e : n ≡ n + 0 = omega arith in e)
enumerate-push n (y ∷ ys) x = ap (λ k. (n, y) ∷ k) (enumerate-push (n + 1) ys x ∙ ap (λ k. enumerate_from (n + 1) ys ++ (k, x) ∷ []) (let e : n + 1 + length ys ≡ n + suc (length ys) = omega arith in e))

pub length-take_in : {A : Type 0} (xs : List A) (i : ℕ) → i < length xs → length (take i xs) ≡ i
length-take_in xs i h = omega (arith, length-take i xs)

-- POSITIONS

-- The position of an element after x is appended; positions are counted from n.
pub position_from-push : {A : Type 0} (test : A → Bool) (n : ℕ) (xs : List A) (x : A) → position_from test n (xs ++ x ∷ []) ≡ option_or (position_from test n xs) (cond (test x) (Some (n + length xs)) None)
position_from-push test n [] x = ap (λ k. cond (test x) (Some k) None) (let e : n ≡ n + 0 = omega arith in e)
position_from-push {A = A} test n (y ∷ ys) x = go (test y) (position_from-push test (n + 1) ys x ∙ ap (λ k. option_or (position_from test (n + 1) ys) (cond (test x) (Some k) None)) (let e : n + 1 + length ys ≡ n + suc (length ys) = omega arith in e))
  where
    go : (b : Bool) → position_from test (n + 1) (ys ++ x ∷ []) ≡ option_or (position_from test (n + 1) ys) (cond (test x) (Some (n + suc (length ys))) None) → cond b (Some n) (position_from test (n + 1) (ys ++ x ∷ [])) ≡ option_or (cond b (Some n) (position_from test (n + 1) ys)) (cond (test x) (Some (n + suc (length ys))) None)
    go true h = refl
    go false h = h

pub position-push : {A : Type 0} (test : A → Bool) (xs : List A) (x : A) → position test (xs ++ x ∷ []) ≡ option_or (position test xs) (cond (test x) (Some (length xs)) None)
position-push test xs x =
    position_from-zero test (xs ++ x ∷ []) ∙ position_from-push test 0 xs x
    ∙ ap (λ o. option_or o (cond (test x) (Some (0 + length xs)) None)) (sym (position_from-zero test xs))
    ∙ ap (λ k. option_or (position test xs) (cond (test x) (Some k) None)) (zero-add (length xs))

is_some-position_from : {A : Type 0} (p : A → Bool) (n : ℕ) (xs : List A) → is_some (position_from p n xs) ≡ list_any p xs
is_some-position_from p n [] = refl
is_some-position_from p n (x ∷ xs) = go (p x) (is_some-position_from p (n + 1) xs)
  where
    go : (b : Bool) → is_some (position_from p (n + 1) xs) ≡ list_any p xs → is_some (cond b (Some n) (position_from p (n + 1) xs)) ≡ (b || list_any p xs)
    go true e = refl
    go false e = e

pub is_some-position : {A : Type 0} (p : A → Bool) (xs : List A) → is_some (position p xs) ≡ list_any p xs
is_some-position p xs = ap is_some (position_from-zero p xs) ∙ is_some-position_from p 0 xs

-- INSERTION THAT KEEPS THE FIRST VALUE

-- The value of each name after a new name is inserted.
pub put_case : {Y : Type 0} (old new : Text → Option Y) (name : Text) (v : Y) → is_some (old name) ≡ false → ((q : Text) → new q ≡ cond (same name q) (Some v) (old q)) → (x : Text) → new x ≡ option_or (old x) (cond (same x name) (Some v) None)
put_case {Y = Y} old new name v lacks at x =
    elim (same_cases name x) [
      | inl e ↦ subst (λ k. new k ≡ option_or (old k) (cond (same k name) (Some v) None)) e (here (old name) refl)
      | inr apart ↦ at x ∙ ap (λ b. cond b (Some v) (old x)) apart.0 ∙ sym (ap (λ b. option_or (old x) (cond b (Some v) None)) apart.1 ∙ or_none (old x))
    ]
  where
    or_none : (o : Option Y) → option_or o None ≡ o
    or_none None = refl
    or_none (Some y) = refl

    here : (o : Option Y) → old name ≡ o → new name ≡ option_or (old name) (cond (same name name) (Some v) None)
    here (Some y) e = let bad : true ≡ false = ap is_some (sym e) ∙ lacks in cc
    here None e = at name ∙ ap (λ b. cond b (Some v) (old name)) (same_refl name) ∙ sym (ap (λ o. option_or o (cond (same name name) (Some v) None)) e ∙ ap (λ b. cond b (Some v) None) (same_refl name))

or_assoc : {Y : Type 0} (a b c : Option Y) → option_or (option_or a b) c ≡ option_or a (option_or b c)
or_assoc None b c = refl
or_assoc (Some x) b c = refl

pub lookup-append : {Y : Type 0} (test : Text → Bool) (es fs : List (Text × Y)) → lookup test (es ++ fs) ≡ option_or (lookup test es) (lookup test fs)
lookup-append test [] fs = refl
lookup-append {Y = Y} test (e ∷ es) fs = go (test e.0) (lookup-append test es fs)
  where
    go : (b : Bool) → lookup test (es ++ fs) ≡ option_or (lookup test es) (lookup test fs) → cond b (Some e.1) (lookup test (es ++ fs)) ≡ option_or (cond b (Some e.1) (lookup test es)) (lookup test fs)
    go true h = refl
    go false h = h

module _ {Y S : Type 0} where
  pub InsertsNew-none : (m : HashMap Text Y S) → InsertsNew m [] m
  InsertsNew-none m x = go (get same m x)
    where
      go : (o : Option Y) → o ≡ option_or o None
      go None = refl
      go (Some y) = refl

  pub InsertsNew-append : (m n k : HashMap Text Y S) (es fs : List (Text × Y)) → InsertsNew m es n → InsertsNew n fs k → InsertsNew m (es ++ fs) k
  InsertsNew-append m n k es fs p q x =
      q x ∙ ap (λ o. option_or o (lookup (same x) fs)) (p x) ∙ or_assoc (get same m x) (lookup (same x) es) (lookup (same x) fs)
      ∙ ap (option_or (get same m x)) (sym (lookup-append (same x) es fs))

  pub InsertsNew-more : {A : Type 0} (f : A → List (Text × Y)) (m n k : HashMap Text Y S) (xs : List A) (i : ℕ) (x : A) → i < length xs → x ≡ get_or xs i x → InsertsNew m (flat_map f (take i xs)) n → InsertsNew n (f x) k → InsertsNew m (flat_map f (take (i + 1) xs)) k
  InsertsNew-more f m n k xs i x h e p q =
      rw (take_step xs i x h e, flat_map-append f (take i xs) (x ∷ []), append-nil (f x)) (InsertsNew-append m n k (flat_map f (take i xs)) (f x) p q)

  pub InsertsNew-enum_more : {A : Type 0} (f : ℕ × A → List (Text × Y)) (m n k : HashMap Text Y S) (b : ℕ) (xs : List A) (i j : ℕ) (x : A) → i < length xs → x ≡ get_or xs i x → b + i ≡ j → InsertsNew m (flat_map f (enumerate_from b (take i xs))) n → InsertsNew n (f (j, x)) k → InsertsNew m (flat_map f (enumerate_from b (take (i + 1) xs))) k
  InsertsNew-enum_more f m n k b xs i j x h e at p q =
      rw (take_step xs i x h e, enumerate-push b (take i xs) x, length-take_in xs i h, at, flat_map-append f (enumerate_from b (take i xs)) ((j, x) ∷ []), append-nil (f (j, x)))
      (InsertsNew-append m n k (flat_map f (enumerate_from b (take i xs))) (f (j, x)) p q)

-- A map of first positions stays right when the key of the next element is inserted.
pub position_more : {A S : Type 0} (test : Text → A → Bool) (m n : HashMap Text ℕ S) (key : A → Text) (xs : List A) (i : ℕ) (a : A) → ((x : Text) → test x a ≡ same x (key a)) → i < length xs → a ≡ get_or xs i a → ((x : Text) → get same m x ≡ position (test x) (take i xs)) → InsertsNew m ((key a, i) ∷ []) n → (x : Text) → get same n x ≡ position (test x) (take (i + 1) xs)
position_more test m n key xs i a is h e at p x =
    p x ∙ ap (λ o. option_or o (cond (same x (key a)) (Some i) None)) (at x)
    ∙ ap (λ b. option_or (position (test x) (take i xs)) (cond b (Some i) None)) (sym (is x))
    ∙ ap (λ k. option_or (position (test x) (take i xs)) (cond (test x a) (Some k) None)) (sym (length-take_in xs i h))
    ∙ sym (position-push (test x) (take i xs) a) ∙ ap (position (test x)) (sym (take_step xs i a h e))

-- SETS AND TESTS

pub fun_ext : {A B : Type 0} {f g : A → B} → ((x : A) → f x ≡ g x) → f ≡ g
fun_ext h = λ i x. h x i

pub any_more : {A : Type 0} (p : A → Bool) (xs : List A) (i : ℕ) (x : A) → i < length xs → x ≡ get_or xs i x → (list_any p (take i xs) || p x) ≡ list_any p (take (i + 1) xs)
any_more p xs i x h e = ap (λ k. list_any p (take i xs) || p k) e ∙ sym (list_any_more p xs i x h)

pub any_enum_more : {A : Type 0} (p : ℕ × A → Bool) (n : ℕ) (xs : List A) (i j : ℕ) (x : A) → i < length xs → x ≡ get_or xs i x → n + i ≡ j → (list_any p (enumerate_from n (take i xs)) || p (j, x)) ≡ list_any p (enumerate_from n (take (i + 1) xs))
any_enum_more p n xs i j x h e at =
    ap (λ b. list_any p (enumerate_from n (take i xs)) || b) (sym (or-false (p (j, x)))) ∙ sym (list_any-append p (enumerate_from n (take i xs)) ((j, x) ∷ []))
    ∙ ap (λ k. list_any p (enumerate_from n (take i xs) ++ (k, x) ∷ [])) (sym at ∙ ap (λ k. n + k) (sym (length-take_in xs i h)))
    ∙ sym (ap (list_any p) (ap (enumerate_from n) (take_step xs i x h e) ∙ enumerate-push n (take i xs) x))

-- The elements of a set after a name is inserted.
pub has_more : (old new : Text → Bool) (name : Text) → ((q : Text) → new q ≡ cond (same name q) true (old q)) → (x : Text) → new x ≡ (old x || same x name)
has_more old new name at x =
    elim (same_cases name x) [
      | inl e ↦ subst (λ k. new k ≡ (old k || same k name)) e here
      | inr apart ↦ at x ∙ ap (λ b. cond b true (old x)) apart.0 ∙ sym (ap (λ b. old x || b) apart.1 ∙ or-false (old x))
    ]
  where
    here : new name ≡ (old name || same name name)
    here = at name ∙ ap (λ b. cond b true (old name)) (same_refl name) ∙ sym (ap (λ b. old name || b) (same_refl name) ∙ or-true (old name))

-- Lemmas on elements appended one after another.
pub push_first : {A : Type 0} (a b : List A) (x y : A) → b ≡ a ++ x ∷ [] → x ≡ y → b ≡ a ++ y ∷ []
push_first a b x y e is = e ∙ ap (λ k. a ++ k ∷ []) is

pub push_then : {A : Type 0} (a b c ys : List A) (x y : A) → b ≡ a ++ ys → c ≡ b ++ x ∷ [] → x ≡ y → c ≡ a ++ (ys ++ y ∷ [])
push_then a b c ys x y p e is = e ∙ ap (λ k. k ++ x ∷ []) p ∙ append_assoc a ys (x ∷ []) ∙ ap (λ k. a ++ (ys ++ k ∷ [])) is
