-- Proves that clap finds exactly the options of the table when it looks up an argument.
use Rattle.std.proofs.Common.{◌≡◌, ◌∙◌, ◌&&◌, ◌||◌, ◌++◌, ◌⊎◌, ℕ, Bool, true, false, not, List, [], ◌∷◌, Option, Some, None, map, refl, sym, ap, subst, bytes_eq, if◌then◌else◌, inl, inr}
use Rattle.std.specs.List.{list_all}
use Rattle.std.proofs.lemmas.Slice.Eq.{bytes_eq-Decides}
use Rattle.clap.specs.Walk.{Rule, Text, arg_by_id, arg_by_long, arg_by_short, has_long, has_short}
use Rattle.clap.specs.Simple.{filled, filled_from, help_rule, new_rule, with_index}
use Rattle.clap.specs.declared.builder.action.ArgAction.{ArgAction}
use Rattle.clap.proofs.SimpleLemmas.{is_false}
use Rattle.clap.proofs.WalkLemmas.{both}
use Rattle.mh_opts.specs.declared.jobs.Opt.{Opt}
use Rattle.mh_opts.specs.declared.jobs.TheConstants.{GRAMMARS}
use Rattle.mh_opts.specs.App.{grammars_rule, option_rule}
use Rattle.mh_opts.specs.PosixReading.{has_value, is_set}
use Rattle.mh_opts.proofs.RowsAfterUse.{is_plain, bytes_eq_false_sym}

abbrev pub of_option : Text → ArgAction → Rule
of_option name action = with_index 2 (filled (record (new_rule name) { long = Some name; action = Some action }))

abbrev pub help : Rule
help = with_index 2 (filled help_rule)

abbrev pub of_files : Rule
of_files = with_index 1 (filled grammars_rule)

-- The rules of the options, then the rule of help.
abbrev pub rules_with_help : List (Opt Text) → List Rule
rules_with_help os = filled_from 2 (map option_rule os ++ help_rule ∷ [])

-- All rules of the command: the rule of the grammar files, the rules of the options, and the rule of help.
abbrev pub rules_with_help_and_files : List (Opt Text) → List Rule
rules_with_help_and_files os = of_files ∷ rules_with_help os

-- The option takes at most one value, and its name is not that of the argument for grammar files.
abbrev pub is_fit : Opt Text → Bool
is_fit option = is_plain option.action && not (bytes_eq option.name GRAMMARS.now)

pub record Found (os : List (Opt Text)) (name : Text) (rule : Rule) : Type 0 where
  pub action : ArgAction
  pub is : rule ≡ of_option name action
  pub plain : is_plain action ≡ true
  pub valued : has_value os name ≡ is_set action
  pub by_id : arg_by_id (rules_with_help os) name ≡ Some rule
  pub not_grammars : bytes_eq name GRAMMARS.now ≡ false

last : (b : Bool) (rule : Rule) → (if b then Some help else None) ≡ Some rule → rule ≡ help
last true rule e = cc
last false rule e = cc

found_step : (o : Opt Text) (os : List (Opt Text)) → is_plain o.action ≡ true → bytes_eq o.name GRAMMARS.now ≡ false → (name : Text) (rule : Rule)
    → (arg_by_long (rules_with_help os) name ≡ Some rule → Found os name rule ⊎ (rule ≡ help)) → (b : Bool) → bytes_eq o.name name ≡ b
    → (if b || false then Some (of_option o.name o.action) else arg_by_long (rules_with_help os) name) ≡ Some rule → Found (o ∷ os) name rule ⊎ (rule ≡ help)
found_step o os plain other name rule later true e is =
    let same : o.name ≡ name = (bytes_eq-Decides o.name name).0 e in
    let here : of_option o.name o.action ≡ rule = cc in
    inl (record {
      action = o.action;
      is = sym here ∙ ap (λ (n : Text). of_option n o.action) same;
      plain = plain;
      valued = rw e refl;
      by_id = rw e is;
      not_grammars = subst (λ (n : Text). bytes_eq n GRAMMARS.now ≡ false) same other;
    })
found_step o os plain other name rule later false e is = elim (later is) [
  | inl f ↦ inl (record {
    action = f.action;
    is = f.is;
    plain = f.plain;
    valued = rw e f.valued;
    by_id = rw e f.by_id;
    not_grammars = f.not_grammars;
  })
  | inr h ↦ inr h
]

pub Found-long : (os : List (Opt Text)) → list_all is_fit os ≡ true → (name : Text) (rule : Rule) → arg_by_long (rules_with_help os) name ≡ Some rule → Found os name rule ⊎ (rule ≡ help)
Found-long [] fit name rule e = inr (last (has_long help name) rule e)
Found-long (o ∷ os) fit name rule e =
    let parts = both (is_fit o) (list_all is_fit os) fit in
    let one = both (is_plain o.action) (not (bytes_eq o.name GRAMMARS.now)) parts.0 in
    found_step o os one.0 (is_false (bytes_eq o.name GRAMMARS.now) one.1) name rule (Found-long os parts.1 name rule) (bytes_eq o.name name) refl e

pub by_id : (os : List (Opt Text)) (name : Text) (rule : Rule) → Found os name rule → arg_by_id (rules_with_help_and_files os) name ≡ Some rule
by_id os name rule f = let other : bytes_eq GRAMMARS.now name ≡ false = bytes_eq_false_sym name GRAMMARS.now f.not_grammars in rw other f.by_id

-- No option has a one-letter name.
pub found_short : (os : List (Opt Text)) (letter : ℕ) (rule : Rule) → arg_by_short (rules_with_help os) letter ≡ Some rule → rule ≡ help
found_short [] letter rule e = last (has_short help letter) rule e
found_short (o ∷ os) letter rule e = found_short os letter rule e
