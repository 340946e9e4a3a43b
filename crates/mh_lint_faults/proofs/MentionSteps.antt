-- What some mentions say, with one more mention.
use Rattle.std.proofs.Common.{◌≡◌, ◌≤◌, ◌+◌, ℕ, suc, ◌||◌, Bool, false, List, [], ◌∷◌, ◌++◌, fold, length, ap, arith, ◌∙◌}
use Rattle.std.specs.List.{list_any}
use Rattle.std.proofs.lemmas.Grind.{fold-append}
use Rattle.std.proofs.lemmas.List.Folds.{list_any-append}
use Rattle.std.proofs.Math.Bool.{or-false}
use Rattle.mh_grammar.specs.Text.{Text}
use Rattle.mh_join_names.specs.Faults.{text_of}
use Rattle.mh_reader_places.specs.declared.mentions.Mention.{Mention}
use Rattle.mh_reader_places.specs.declared.mentions.Role.{Role}
use Rattle.mh_reader_places.specs.declared.mentions.Role.TheVariants as roles
use Rattle.mh_lint_faults.specs.NameFaults.{formals_after, formals_with, has_own_prec, is_own_prec, last_token, rules_in, rules_with, token_with}

pub rules_step : (before : List Mention) (x : Mention) → rules_in (before ++ x ∷ []) ≡ rules_with (rules_in before) x.role
rules_step before x = fold-append _ 0 before (x ∷ [])

pub formals_step : (before : List Mention) (x : Mention) → formals_after (before ++ x ∷ []) ≡ formals_with (formals_after before) (text_of x.name) x.role
formals_step before x = fold-append _ [] before (x ∷ [])

pub token_step : (before : List Mention) (x : Mention) → last_token (before ++ x ∷ []) ≡ token_with (last_token before) (text_of x.name) x.role
token_step before x = fold-append _ [] before (x ∷ [])

pub own_step : (before : List Mention) (x : Mention) (n : ℕ) → has_own_prec (before ++ x ∷ []) n ≡ (has_own_prec before n || is_own_prec n x.role)
own_step before x n = list_any-append (λ (y : Mention). is_own_prec n y.role) before (x ∷ []) ∙ ap (λ b. has_own_prec before n || b) (or-false (is_own_prec n x.role))

-- There are at most as many rules as mentions.
one_more : (n : ℕ) (role : Role) → rules_with n role ≤ suc n
one_more n roles.Rule = omega arith
one_more n roles.Token = omega arith
one_more n roles.Alias = omega arith
one_more n roles.Start = omega arith
one_more n (roles.Level rank) = omega arith
one_more n (roles.OnError rank item) = omega arith
one_more n roles.Formal = omega arith
one_more n (roles.Head alternative producer) = omega arith
one_more n (roles.Prec alternative) = omega arith
one_more n (roles.GroupPrec low high) = omega arith

few_from : (n : ℕ) (xs : List Mention) → fold (λ k (x : Mention). rules_with k x.role) n xs ≤ n + length xs
few_from n [] = omega arith
few_from n (x ∷ xs) = omega (arith, few_from (rules_with n x.role) xs, one_more n x.role)

pub few_rules : (xs : List Mention) → rules_in xs ≤ length xs
few_rules xs = omega (arith, few_from 0 xs)
