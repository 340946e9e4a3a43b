-- Lemmas on the search for a repeated name.
use Rattle.std.proofs.Common.{◌≡◌, ℕ, ◌+◌, ◌<◌, Bool, true, false, List, [], ◌∷◌, ◌++◌, Some, length, get_or, take, drop, refl, sym, ap, subst, ◌∙◌, ◌⊎◌, inl, inr}
use Rattle.std.specs.Prelude.{◌||◌, not, if◌then◌else◌, Ok, Err}
use Rattle.std.specs.List.{list_any}
use Rattle.std.specs.HashSet.{HashSet}
use Rattle.std.proofs.Math.Bool.{or-false}
use Rattle.std.proofs.lemmas.List.{append-nil}
use Rattle.std.proofs.lemmas.List.Folds.{list_any-append}
use Rattle.mh_grammar.proofs.Lists.{take_step, drop_step}
use Rattle.mh_rules.specs.declared.modules.Rule.{Rule}
use Rattle.mh_join_names.specs.declared.fault.JoinFault.{JoinFault}
use Rattle.mh_join_names.specs.declared.fault.JoinFault.TheVariants as faults
use Rattle.mh_grammar.specs.Text.{Text}
use Rattle.mh_join_names.specs.Names.{same}
use Rattle.mh_join_names.specs.Faults.{first, unless, repeats, own_name, own_names}
use Rattle.mh_join_faults.specs.code.UniqueNames.{InsertsPrivate}
use Rattle.mh_join_names.proofs.Lists.{flat_more}
use Rattle.mh_join_names.proofs.ReportsFirst.{IsFirstOrMemory}

-- The set has the names examined so far, and the repeated names among all are those that the remaining names add.
pub record RepeatSearch (keys done rest all : List Text) : Type 0 where
  pub same_keys : (x : Text) → list_any (same x) keys ≡ list_any (same x) done
  pub same_repeats : repeats done rest ≡ repeats [] all

pub RepeatSearch-none : (all : List Text) → RepeatSearch [] [] all all
RepeatSearch-none all = record { same_keys = λ x. refl; same_repeats = refl }

pub RepeatSearch-more : (keys new done rest all : List Text) (x : Text) → RepeatSearch keys done (x ∷ rest) all → ((y : Text) → list_any (same y) new ≡ (list_any (same y) keys || same y x)) → list_any (same x) keys ≡ false → RepeatSearch new (done ++ x ∷ []) rest all
RepeatSearch-more keys new done rest all x seen put lacks = record {
  same_keys = λ y. put y ∙ ap (λ b. b || same y x) (seen.same_keys y) ∙ ap (λ b. list_any (same y) done || b) (sym (or-false (same y x))) ∙ sym (list_any-append (same y) done (x ∷ []));
  same_repeats = ap (λ b. unless (not b) (faults.Duplicate x) ++ repeats (done ++ x ∷ []) rest) (sym (sym (seen.same_keys x) ∙ lacks)) ∙ seen.same_repeats;
}

pub RepeatSearch-err : (keys done rest all : List Text) (x : Text) (e : JoinFault) → RepeatSearch keys done (x ∷ rest) all → (e ≡ faults.Memory) ⊎ ((e ≡ faults.Duplicate x) × (list_any (same x) keys ≡ true)) → IsFirstOrMemory (repeats [] all) e
RepeatSearch-err keys done rest all x e seen (inl m) = inl m
RepeatSearch-err keys done rest all x e seen (inr d) =
    inr (ap first (sym seen.same_repeats) ∙ ap (λ b. first (unless (not b) (faults.Duplicate x) ++ repeats (done ++ x ∷ []) rest)) (sym (seen.same_keys x) ∙ d.1) ∙ ap Some (sym d.0))

module _ (test : Text → Bool) where
  own_drop : (rules : List Rule) (i : ℕ) (r : Rule) → i < length rules → r ≡ get_or rules i r → own_names test (drop i rules) ≡ own_name test r ++ own_names test (drop (i + 1) rules)
  own_drop rules i r h at = ap (own_names test) (drop_step rules i r h at)

  own_take : (rules : List Rule) (i : ℕ) (r : Rule) → i < length rules → r ≡ get_or rules i r → own_names test (take (i + 1) rules) ≡ own_names test (take i rules) ++ own_name test r
  own_take rules i r h at = flat_more (own_name test) rules i r h at ∙ ap (λ k. own_names test (take i rules) ++ k) (append-nil (own_name test r))

pub RepeatSearch-own : {S : Type 0} (b : Bool) (old new : HashSet Text S) (done next rest later all : List Text) (x : Text) → next ≡ done ++ (if b then [] else x ∷ []) → rest ≡ (if b then [] else x ∷ []) ++ later → RepeatSearch old.keys done rest all → InsertsPrivate {X = Unit {0}} b old x new (Ok tt) → RepeatSearch new.keys next later all
RepeatSearch-own true old new done next rest later all x t d seen puts = record {
  same_keys = λ y. ap (list_any (same y)) puts ∙ seen.same_keys y ∙ ap (list_any (same y)) (sym (t ∙ append-nil done));
  same_repeats = ap (λ k. repeats k later) (t ∙ append-nil done) ∙ ap (repeats done) (sym d) ∙ seen.same_repeats;
}
RepeatSearch-own false old new done next rest later all x t d seen puts =
    subst (λ k. RepeatSearch new.keys k later all) (sym t) (RepeatSearch-more old.keys new.keys done later all x (subst (λ k. RepeatSearch old.keys done k all) d seen) puts.0 puts.1)

pub RepeatSearch-own_err : {S : Type 0} (b : Bool) (old new : HashSet Text S) (done rest later all : List Text) (x : Text) (e : JoinFault) → rest ≡ (if b then [] else x ∷ []) ++ later → RepeatSearch old.keys done rest all → InsertsPrivate {X = Unit {0}} b old x new (Err e) → IsFirstOrMemory (repeats [] all) e
RepeatSearch-own_err true old new done rest later all x e d seen puts = inl puts
RepeatSearch-own_err false old new done rest later all x e d seen puts = RepeatSearch-err old.keys done later all x e (subst (λ k. RepeatSearch old.keys done k all) d seen) puts

-- Lemmas for the next rule of a file.
pub own_more : {S : Type 0} (test : Text → Bool) (old new : HashSet Text S) (rules : List Rule) (i : ℕ) (r : Rule) → i < length rules → r ≡ get_or rules i r → RepeatSearch old.keys (own_names test (take i rules)) (own_names test (drop i rules)) (own_names test rules) → InsertsPrivate {X = Unit {0}} (test r.name) old r.name new (Ok tt) → RepeatSearch new.keys (own_names test (take (i + 1) rules)) (own_names test (drop (i + 1) rules)) (own_names test rules)
own_more test old new rules i r h at seen puts =
    RepeatSearch-own (test r.name) old new (own_names test (take i rules)) (own_names test (take (i + 1) rules)) (own_names test (drop i rules)) (own_names test (drop (i + 1) rules)) (own_names test rules) r.name
    (own_take test rules i r h at) (own_drop test rules i r h at) seen puts

pub own_err : {S : Type 0} (test : Text → Bool) (old new : HashSet Text S) (rules : List Rule) (i : ℕ) (r : Rule) → i < length rules → r ≡ get_or rules i r → RepeatSearch old.keys (own_names test (take i rules)) (own_names test (drop i rules)) (own_names test rules) → (e : JoinFault) → InsertsPrivate {X = Unit {0}} (test r.name) old r.name new (Err e) → IsFirstOrMemory (repeats [] (own_names test rules)) e
own_err test old new rules i r h at seen e puts =
    RepeatSearch-own_err (test r.name) old new (own_names test (take i rules)) (own_names test (drop i rules)) (own_names test (drop (i + 1) rules)) (own_names test rules) r.name e (own_drop test rules i r h at) seen puts

-- Lemmas for the next name of a list.
pub name_more : (keys new names : List Text) (i : ℕ) (x : Text) → i < length names → x ≡ get_or names i x → RepeatSearch keys (take i names) (drop i names) names → ((y : Text) → list_any (same y) new ≡ (list_any (same y) keys || same y x)) → list_any (same x) keys ≡ false → RepeatSearch new (take (i + 1) names) (drop (i + 1) names) names
name_more keys new names i x h at seen put lacks =
    subst (λ k. RepeatSearch new k (drop (i + 1) names) names) (sym (take_step names i x h at)) (RepeatSearch-more keys new (take i names) (drop (i + 1) names) names x (subst (λ k. RepeatSearch keys (take i names) k names) (drop_step names i x h at) seen) put lacks)

pub name_err : (keys names : List Text) (i : ℕ) (x : Text) → i < length names → x ≡ get_or names i x → RepeatSearch keys (take i names) (drop i names) names → (e : JoinFault) → (e ≡ faults.Memory) ⊎ ((e ≡ faults.Duplicate x) × (list_any (same x) keys ≡ true)) → IsFirstOrMemory (repeats [] names) e
name_err keys names i x h at seen e puts = RepeatSearch-err keys (take i names) (drop (i + 1) names) names x e (subst (λ k. RepeatSearch keys (take i names) k names) (drop_step names i x h at) seen) puts
