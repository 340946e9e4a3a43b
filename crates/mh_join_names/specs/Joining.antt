-- The joined rules of several files (Menhir manual, grammars split into files, of which this project supports a part).
use Rattle.std.specs.Prelude.{◌≡◌, ◌==◌, ◌⊎◌, ℕ, if◌then◌else◌, List, [], ◌∷◌, ◌++◌, map, Option, Some, None, option_map, option_and_then, unwrap_or, Bool, false, decimal, slice_get, Result, Ok, Err}
use Rattle.std.specs.List.{enumerate_from, flat_map}
use Rattle.mh_grammar.specs.declared.types.Level.{Level}
use Rattle.mh_grammar.specs.declared.types.TokenInfo.{TokenInfo}
use Rattle.mh_rules.specs.declared.modules.Ref.{Ref}
use Rattle.mh_rules.specs.declared.modules.Actual.{Actual}
use Rattle.mh_rules.specs.declared.modules.Actual.TheOpen.{Actual-F}
use Rattle.mh_rules.specs.declared.modules.Actual.TheFolds.{fold-Actual}
use Rattle.mh_rules.specs.declared.modules.Alternative.{Alternative}
use Rattle.mh_rules.specs.declared.modules.Module.{Module}
use Rattle.mh_rules.specs.declared.joined.Head.{Head}
use Rattle.mh_rules.specs.declared.joined.Applied.{Applied, roll-Applied}
use Rattle.mh_rules.specs.declared.joined.Prec.{Prec}
use Rattle.mh_rules.specs.declared.joined.Prec.TheVariants as precs
use Rattle.mh_rules.specs.declared.joined.JoinedAlternative.{JoinedAlternative}
use Rattle.mh_rules.specs.declared.joined.JoinedRule.{JoinedRule}
use Rattle.mh_rules.specs.declared.joined.Joined.{Joined}
use Rattle.mh_join_names.specs.declared.outlines.Outline.{Outline}
use Rattle.mh_join_names.specs.declared.fault.JoinFault.{JoinFault}
use Rattle.mh_join_names.specs.declared.fault.JoinFault.TheVariants as faults
use Rattle.mh_grammar.specs.Text.{Text}
use Rattle.mh_join_names.specs.Names.{files, name_by, formal_number, is_elsewhere, Definition, definitions, rules}
use Rattle.mh_join_names.specs.Faults.{Meanings, meanings, meant_by, join_faults, first}

-- The list of the values, if no option in the list is empty.
abbrev pub all_of : {X : Type 0} → List (Option X) → Option (List X)
all_of [] = Some []
all_of (o ∷ os) = option_and_then (λ x. option_map (λ xs. x ∷ xs) (all_of os)) o

-- ACTUALS

abbrev pub applied_to : Head → List Applied → Applied
applied_to h args = roll-Applied (record { head = h; args = args })

-- A resolved head with its resolved arguments, if all are defined.
abbrev pub apply_step : (Ref → Option Head) → Actual-F (Option Applied) → Option Applied
apply_step meant a = option_and_then (λ h. option_map (applied_to h) (all_of a.args)) (meant a.head)

-- The actual with each name and string replaced by its meaning, if all are defined.
abbrev pub resolved : (Ref → Option Head) → Actual → Option Applied
resolved meant = fold-Actual (Option Applied) (apply_step meant)

abbrev pub all_resolved : (Ref → Option Head) → List Actual → Option (List Applied)
all_resolved meant actuals = all_of (map (resolved meant) actuals)

-- ALTERNATIVES

-- The level of the `%prec` of an alternative.
abbrev pub prec_by : (Text → Option Text) → (Text → Option Level) → Option Ref → Prec
prec_by aliased level None = precs.Absent
prec_by aliased level (Some r) = precs.Given (option_and_then level (name_by aliased r))

-- The alternative of file k at position n.
abbrev pub alternative_with : ℕ → ℕ → Prec → List Applied → JoinedAlternative
alternative_with k n prec ps = record { file = k; place = n; producers = ps; prec = prec }

abbrev pub alternative_by : Meanings → ℕ → (Ref → Option Head) → ℕ × Alternative → Option JoinedAlternative
alternative_by w k meant e = option_map (alternative_with k e.0 (prec_by w.aliased w.level e.1.prec)) (all_resolved meant e.1.producers)

-- The alternatives of a definition, with their positions in the file.
abbrev pub alternatives_by : Meanings → Definition → List (Option JoinedAlternative)
alternatives_by w d = map (alternative_by w d.file (meant_by w d.file (formal_number d.rule.formals))) (enumerate_from d.place d.rule.alternatives)

-- RULES

-- The name, `@` and the number of the file.
abbrev pub with_file : Text → ℕ → Text
with_file x k = x ++ 64 ∷ decimal k

-- The printed name of a rule: a private rule whose name another file also defines gets the number of its file appended.
abbrev pub printed_name : (ℕ → Text → Bool) → Text → Option ℕ → Text
printed_name elsewhere x None = x
printed_name elsewhere x (Some k) = if elsewhere k x then with_file x k else x

-- The rule of an outline, with its printed name and without alternatives.
abbrev pub rule_of_outline : (ℕ → Text → Bool) → Outline → JoinedRule
rule_of_outline elsewhere o = record { name = printed_name elsewhere o.name o.owner; inlined = o.inlined; formals = o.formals; alternatives = [] }

abbrev pub without_alternatives : JoinedRule → JoinedRule
without_alternatives r = record r { alternatives = [] }

-- The option holds the number i.
abbrev pub has_number : ℕ → Option ℕ → Bool
has_number i None = false
has_number i (Some n) = i == n

-- The alternatives that the definition d contributes to rule i.
abbrev pub alternatives_for : Meanings → ℕ → Definition → List (Option JoinedAlternative)
alternatives_for w i d = if has_number i (w.numbers.rule d.owner d.rule.name) then alternatives_by w d else []

-- The joined rules: each has the name, the number of formals and the `%inline` of its first definition, and the
-- alternatives of all its definitions in the order of the files and of their texts.
pub record AreRules (w : Meanings) (elsewhere : ℕ → Text → Bool) (outlines : List Outline) (ds : List Definition) (rs : List JoinedRule) : Type 0 where
  pub outlines_are : map without_alternatives rs ≡ map (rule_of_outline elsewhere) outlines
  pub alternatives_are : (i : ℕ) (r : JoinedRule) → slice_get rs i ≡ Some r → map Some r.alternatives ≡ flat_map (alternatives_for w i) ds

-- JOINED FILES

-- A token with its level and its first cost, or cost 1 if it is given none.
abbrev pub token_info : Meanings → Text → TokenInfo
token_info w x = record { name = x; level = w.level x; cost = unwrap_or (w.cost x) 1 }

-- The on-error declarations of a file; no name in them is a formal.
abbrev pub on_error_in : Meanings → ℕ × Module → List (Option (List Applied))
on_error_in w f = map (all_resolved (meant_by w f.0 (formal_number []))) f.1.on_error

-- The joined files by these look-ups, outlines and definitions: the tokens in order of first declaration with their
-- levels and costs, the rules of the start symbols in order of first declaration, the on-error declarations of all
-- files in order, and the rules. There is no such value if a name is not defined.
pub record IsJoinedBy (w : Meanings) (elsewhere : ℕ → Text → Bool) (outlines : List Outline) (ds : List Definition) (ms : List Module) (j : Joined) : Type 0 where
  pub tokens_are : j.tokens ≡ map (token_info w) w.tokens
  pub starts_are : map Some j.starts ≡ map (w.numbers.rule None) w.starts
  pub on_error_is : map Some j.on_error ≡ flat_map (on_error_in w) (files ms)
  pub rules_are : AreRules w elsewhere outlines ds j.rules

-- The joined files, with the prelude if p is true.
abbrev pub IsJoined : Bool → List Module → Joined → Type 0
IsJoined p ms = IsJoinedBy (meanings p ms) (is_elsewhere ms) (rules p ms) (definitions p ms) ms

-- The result is the joined files and there is no fault, or it is the first fault, or it reports that memory ran out.
abbrev pub Joins : Bool → List Module → Result Joined JoinFault → Type 0
Joins p ms (Ok j) = (join_faults p ms ≡ []) × IsJoined p ms j
Joins p ms (Err e) = (e ≡ faults.Memory) ⊎ (first (join_faults p ms) ≡ Some e)
