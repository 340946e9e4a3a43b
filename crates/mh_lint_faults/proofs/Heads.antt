-- The heads of an actual: its own head, and those of its arguments.
use Rattle.std.proofs.Common.{◌≡◌, ℕ, zero, suc, ◌+◌, ◌<◌, ◌||◌, Bool, true, false, List, [], ◌∷◌, ◌++◌, take, length, get_or, flat_map, refl, ap, sym, arith, ◌∙◌}
use Rattle.std.specs.List.{list_any}
use Rattle.std.proofs.lemmas.List.Folds.{flat_map-map, list_any-append}
use Rattle.std.proofs.lemmas.List.Concat.{flat_map-append}
use Rattle.std.proofs.lemmas.List.{append-nil}
use Rattle.mh_grammar.proofs.Lists.{take_step}
use Rattle.mh_rules.specs.declared.joined.Head.{Head}
use Rattle.mh_rules.specs.declared.joined.Applied.{Applied}
use Rattle.mh_rules.specs.declared.joined.Applied.TheViews.{out-Applied}
use Rattle.mh_rules.specs.declared.joined.Applied.TheFolds.{fold_out-Applied}
use Rattle.mh_lint_faults.specs.Terms.{heads, heads_step, is_formal, has_formals}

pub heads_out : (a : Applied) → heads a ≡ (out-Applied a).head ∷ flat_map heads (out-Applied a).args
heads_out a = fold_out-Applied (List Head) heads_step a ∙ ap (λ k. (out-Applied a).head ∷ k) (flat_map-map (λ (hs : List Head). hs) heads (out-Applied a).args)

-- The heads of actuals, with one more actual.
pub heads_more : (xs : List Applied) (i : ℕ) (x : Applied) → i < length xs → x ≡ get_or xs i x → flat_map heads (take (i + 1) xs) ≡ flat_map heads (take i xs) ++ heads x
heads_more xs i x l at = ap (flat_map heads) (take_step xs i x l at) ∙ flat_map-append heads (take i xs) (x ∷ []) ∙ ap (λ k. flat_map heads (take i xs) ++ k) (append-nil (heads x))

-- An actual has formals if its head is a formal or its arguments have formals.
pub has_formals_out : (a : Applied) → has_formals a ≡ (is_formal (out-Applied a).head || list_any is_formal (flat_map heads (out-Applied a).args))
has_formals_out a = ap (list_any is_formal) (heads_out a)

pub no_formals_more : (xs : List Applied) (i : ℕ) (x : Applied) → i < length xs → x ≡ get_or xs i x → list_any is_formal (flat_map heads (take i xs)) ≡ false → has_formals x ≡ false → list_any is_formal (flat_map heads (take (i + 1) xs)) ≡ false
no_formals_more xs i x l at before here =
    ap (list_any is_formal) (heads_more xs i x l at) ∙ list_any-append is_formal (flat_map heads (take i xs)) (heads x) ∙ ap (λ b. b || has_formals x) before ∙ here

or_true : (b : Bool) → (b || true) ≡ true
or_true true = refl
or_true false = refl

pub some_formals : (xs : List Applied) (i : ℕ) (x : Applied) → i < length xs → x ≡ get_or xs i x → has_formals x ≡ true → list_any is_formal (flat_map heads xs) ≡ true
some_formals [] i x l at here = absurd (omega (arith, l))
some_formals (y ∷ xs) zero x l at here = list_any-append is_formal (heads y) (flat_map heads xs) ∙ ap (λ b. b || list_any is_formal (flat_map heads xs)) (ap has_formals (sym at) ∙ here)
some_formals (y ∷ xs) (suc i) x l at here =
    list_any-append is_formal (heads y) (flat_map heads xs) ∙ ap (λ b. list_any is_formal (heads y) || b) (some_formals xs i x (omega (arith, l)) at here) ∙ or_true (list_any is_formal (heads y))
