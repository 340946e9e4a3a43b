-- The printed name of a term: the name of its head, and its arguments in brackets.
use Rattle.std.proofs.Common.{◌≡◌, ℕ, ◌+◌, ◌<◌, ◌≤◌, List, [], ◌∷◌, ◌++◌, drop, length, get_or, map, refl, sym, ap, ◌∙◌, append_assoc}
use Rattle.std.proofs.lemmas.List.{append-nil, drop_all}
use Rattle.mh_grammar.proofs.Lists.{drop_step}
use Rattle.mh_rules.specs.declared.joined.Head.{Head}
use Rattle.mh_rules.specs.declared.joined.Joined.{Joined}
use Rattle.mh_rules.specs.declared.joined.Applied.{Applied}
use Rattle.mh_rules.specs.declared.joined.Applied.TheViews.{out-Applied}
use Rattle.mh_expand.specs.Terms.{Term, Atom, Apply, apply_all, head_name, separator, term_of, text, unclosed}
use Rattle.mh_expand.proofs.ReplacedActuals.{term_of-out}
use Rattle.mh_lint_faults.specs.code.Arguments.{arguments_from, arguments_text}

applied_text : (j : Joined) (f x : Term) (xs : List Term) → text j (apply_all (Apply f x) xs) ≡ unclosed j f ++ (separator f ∷ text j x) ++ arguments_from j 44 xs
applied_text j f x [] = refl
applied_text j f x (y ∷ ys) = applied_text j (Apply f x) y ys ∙ append_assoc (unclosed j f ++ (separator f ∷ text j x)) (44 ∷ text j y) (arguments_from j 44 ys)

atom_text : (j : Joined) (h : Head) (xs : List Term) → text j (apply_all (Atom h) xs) ≡ head_name j h ++ arguments_text j xs
atom_text j h [] = sym (append-nil (head_name j h))
atom_text j h (x ∷ xs) = applied_text j (Atom h) x xs ∙ append_assoc (head_name j h) (40 ∷ text j x) (arguments_from j 44 xs)

-- A term is written as its head and then its arguments.
pub term_written : (j : Joined) (a : Applied) (old mid new : List ℕ) → mid ≡ old ++ head_name j (out-Applied a).head → new ≡ mid ++ arguments_text j (map term_of (out-Applied a).args) → new ≡ old ++ text j (term_of a)
term_written j a old mid new e f =
    f ∙ ap (λ t. t ++ arguments_text j (map term_of (out-Applied a).args)) e ∙ append_assoc old (head_name j (out-Applied a).head) (arguments_text j (map term_of (out-Applied a).args))
    ∙ ap (λ t. old ++ t) (sym (ap (text j) (term_of-out a) ∙ atom_text j (out-Applied a).head (map term_of (out-Applied a).args)))

-- One more argument is written; what is written and what is left are the whole.
pub argument_written : (j : Joined) (xs : List Applied) (i : ℕ) (x : Applied) (before : ℕ) (all now mid new : List ℕ) → i < length xs → x ≡ get_or xs i x → now ++ arguments_from j before (map term_of (drop i xs)) ≡ all → mid ≡ now ++ before ∷ [] → new ≡ mid ++ text j (term_of x) → new ++ arguments_from j 44 (map term_of (drop (i + 1) xs)) ≡ all
argument_written j xs i x before all now mid new l at whole e f =
    let rest = arguments_from j 44 (map term_of (drop (i + 1) xs)) in
    ap (λ t. t ++ rest) (f ∙ ap (λ t. t ++ text j (term_of x)) e ∙ append_assoc now (before ∷ []) (text j (term_of x)))
    ∙ append_assoc now (before ∷ text j (term_of x)) rest
    ∙ ap (λ (ys : List Applied). now ++ arguments_from j before (map term_of ys)) (sym (drop_step xs i x l at)) ∙ whole

pub arguments_end : (j : Joined) (xs : List Applied) (i before : ℕ) (all now : List ℕ) → length xs ≤ i → now ++ arguments_from j before (map term_of (drop i xs)) ≡ all → now ++ 41 ∷ [] ≡ all
arguments_end j xs i before all now l whole = ap (λ (ys : List Applied). now ++ arguments_from j before (map term_of ys)) (sym (drop_all i xs l)) ∙ whole

pub arguments_begin : (j : Joined) (xs : List Applied) (old : List ℕ) → (xs ≡ [] → ⊥) → old ++ arguments_from j 40 (map term_of xs) ≡ old ++ arguments_text j (map term_of xs)
arguments_begin j [] old some = absurd (some refl)
arguments_begin j (x ∷ xs) old some = refl
