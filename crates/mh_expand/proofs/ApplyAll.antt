-- Lemmas on terms applied to lists of arguments.
use Rattle.std.proofs.Common.{◌≡◌, List, [], ◌∷◌, ◌++◌, map, refl, sym, ap, ◌∙◌, append_assoc}
use Rattle.std.proofs.lemmas.List.{append-nil}
use Rattle.mh_rules.specs.declared.joined.Head.{Head}
use Rattle.mh_expand.specs.Terms.{Term, Atom, Apply, apply_all, head_of, arguments, replaced}

pub apply_all-push : (t : Term) (xs : List Term) (x : Term) → apply_all t (xs ++ x ∷ []) ≡ Apply (apply_all t xs) x
apply_all-push t [] x = refl
apply_all-push t (y ∷ xs) x = apply_all-push (Apply t y) xs x

pub head_of-apply_all : (t : Term) (xs : List Term) → head_of (apply_all t xs) ≡ head_of t
head_of-apply_all t [] = refl
head_of-apply_all t (x ∷ xs) = head_of-apply_all (Apply t x) xs

pub arguments-apply_all : (t : Term) (xs : List Term) → arguments (apply_all t xs) ≡ arguments t ++ xs
arguments-apply_all t [] = sym (append-nil (arguments t))
arguments-apply_all t (x ∷ xs) = arguments-apply_all (Apply t x) xs ∙ append_assoc (arguments t) (x ∷ []) xs

pub replaced-apply_all : (ts : List Term) (t : Term) (xs : List Term) → replaced ts (apply_all t xs) ≡ apply_all (replaced ts t) (map (replaced ts) xs)
replaced-apply_all ts t [] = refl
replaced-apply_all ts t (x ∷ xs) = replaced-apply_all ts (Apply t x) xs

-- Two equal terms have equal heads and equal arguments.
pub head_unique : (h k : Head) (xs ys : List Term) → apply_all (Atom h) xs ≡ apply_all (Atom k) ys → h ≡ k
head_unique h k xs ys e = sym (head_of-apply_all (Atom h) xs) ∙ ap head_of e ∙ head_of-apply_all (Atom k) ys

pub arguments_unique : (h k : Head) (xs ys : List Term) → apply_all (Atom h) xs ≡ apply_all (Atom k) ys → xs ≡ ys
arguments_unique h k xs ys e = sym (arguments-apply_all (Atom h) xs) ∙ ap arguments e ∙ arguments-apply_all (Atom k) ys
