-- What the names in the files of a grammar mean, and the faults in the files, each at its occurrence (Menhir manual,
-- grammars split into files, of which this project supports a part).
use Rattle.std.specs.Prelude.{◌≡◌, ◌==◌, ◌&&◌, ◌||◌, ◌⊎◌, ℕ, not, nat_lt, is_some, if◌then◌else◌, codes, List, [], ◌∷◌, ◌++◌, length, Option, Some, None, Bool, true, false, Result, Ok, Err}
use Rattle.std.specs.List.{enumerate_from, list_any, flat_map, find}
use Rattle.std.specs.Map.{lookup}
use Rattle.mh_grammar.specs.declared.types.Level.{Level}
use Rattle.mh_rules.specs.Limits.{max_tokens}
use Rattle.mh_rules.specs.declared.modules.Ref.{Ref}
use Rattle.mh_rules.specs.declared.modules.Ref.TheVariants.{Plain, Alias}
use Rattle.mh_rules.specs.declared.modules.Actual.{Actual}
use Rattle.mh_rules.specs.declared.modules.Actual.TheOpen.{Actual-F}
use Rattle.mh_rules.specs.declared.modules.Actual.TheFolds.{fold-Actual}
use Rattle.mh_rules.specs.declared.modules.Alternative.{Alternative}
use Rattle.mh_rules.specs.declared.modules.LevelDecl.{LevelDecl}
use Rattle.mh_rules.specs.declared.modules.Rule.{Rule}
use Rattle.mh_rules.specs.declared.modules.Module.{Module}
use Rattle.mh_rules.specs.declared.joined.Head.{Head}
use Rattle.mh_join_names.specs.declared.outlines.Outline.{Outline}
use Rattle.mh_join_names.specs.declared.kinds.NameKind.{NameKind}
use Rattle.mh_join_names.specs.declared.kinds.NameKind.TheVariants as kinds
use Rattle.mh_join_names.specs.declared.fault.JoinFault.{JoinFault}
use Rattle.mh_join_names.specs.declared.fault.JoinFault.TheVariants as faults
use Rattle.mh_grammar.specs.Text.{Text}
use Rattle.mh_join_names.specs.Names.{same, NameNumbers, files, name_by, level_in, is_public, is_rule, formal_number, head_by, token_names, aliased, level_of, cost_of, start_names, rules, numbers_of}

-- THE MEANINGS OF NAMES

-- The names that a file defines, each with its kind: the tokens, then the rules.
abbrev pub kinds_in : Module → List (Text × NameKind)
kinds_in m = flat_map (λ t. (t.name, kinds.Token) ∷ []) m.tokens ++ flat_map (λ r. (r.name, kinds.Rule) ∷ []) m.rules

-- The kind of a name at its first definition.
abbrev pub kind_of : List Module → Text → Option NameKind
kind_of ms x = lookup (same x) (flat_map kinds_in ms)

-- The look-ups that joining needs: the token names, the start symbols, the token of an alias, the level, the cost and
-- the kind of a name, the outline of the public rule of a name, and the numbers of tokens and rules.
pub record Meanings : Type 0 where
  pub tokens : List Text
  pub starts : List Text
  pub aliased : Text → Option Text
  pub level : Text → Option Level
  pub cost : Text → Option ℕ
  pub kind : Text → Option NameKind
  pub joined : Text → Option Outline
  pub numbers : NameNumbers

-- The look-ups that the files give, with the prelude if p is true.
abbrev pub meanings : Bool → List Module → Meanings
meanings p ms = record {
  tokens = token_names ms;
  starts = start_names ms;
  aliased = aliased ms;
  level = level_of ms;
  cost = cost_of ms;
  kind = kind_of ms;
  joined = (λ x. find (is_rule None x) (rules p ms));
  numbers = numbers_of p ms;
}

-- What a reference in file k means, by these look-ups and the numbers of the formals.
abbrev pub meant_by : Meanings → ℕ → (Text → Option ℕ) → Ref → Option Head
meant_by w k formals r = head_by w.numbers w.aliased k formals r

-- THE NAMES AND STRINGS OF A FILE

abbrev pub refs_step : Actual-F (List Ref) → List Ref
refs_step a = a.head ∷ flat_map (λ rs. rs) a.args

-- The heads in an actual in preorder: each head before the heads in its arguments.
abbrev pub refs : Actual → List Ref
refs = fold-Actual (List Ref) refs_step

abbrev pub is_error : Ref → Bool
is_error (Plain x) = same (codes "error") x
is_error (Alias a) = false

abbrev pub text_of : Ref → Text
text_of (Plain x) = x
text_of (Alias a) = a

-- UNDEFINED

-- The fault, if the test is false.
abbrev pub unless : Bool → JoinFault → List JoinFault
unless true e = []
unless false e = e ∷ []

-- A fault if the reference is a string that is no alias.
abbrev pub unknown_string : (Text → Option Text) → Ref → List JoinFault
unknown_string aliased (Plain x) = []
unknown_string aliased (Alias a) = unless (is_some (aliased a)) (faults.Undefined a)

-- A fault if the reference is not defined. In the body of a rule the name `error` is not examined.
abbrev pub undefined : Bool → (Ref → Option Head) → Ref → List JoinFault
undefined in_body meant r = unless ((in_body && is_error r) || is_some (meant r)) (faults.Undefined (text_of r))

-- The faults of the heads in an actual, in preorder.
abbrev pub undefined_in_actual : Bool → (Ref → Option Head) → Actual → List JoinFault
undefined_in_actual in_body meant a = flat_map (undefined in_body meant) (refs a)

abbrev pub undefined_prec : (Text → Option Text) → Option Ref → List JoinFault
undefined_prec aliased None = []
undefined_prec aliased (Some r) = unknown_string aliased r

-- The faults in an alternative: those of the producers in order, then that of the `%prec`.
abbrev pub undefined_in_alternative : (Text → Option Text) → (Ref → Option Head) → Alternative → List JoinFault
undefined_in_alternative aliased meant a =
    flat_map (undefined_in_actual true meant) a.producers ++ undefined_prec aliased a.prec

abbrev pub undefined_in_rule : Meanings → ℕ → Rule → List JoinFault
undefined_in_rule w k r = flat_map (undefined_in_alternative w.aliased (meant_by w k (formal_number r.formals))) r.alternatives

-- A fault if no file of the grammar defines the start symbol; the definitions of a start symbol are public.
abbrev pub undefined_start : Meanings → Text → List JoinFault
undefined_start w x = unless (is_some (w.numbers.rule None x)) (faults.Undefined x)

abbrev pub undefined_in_level : Meanings → LevelDecl → List JoinFault
undefined_in_level w d = flat_map (unknown_string w.aliased) d.names

abbrev pub undefined_in_on_error : (Ref → Option Head) → List Actual → List JoinFault
undefined_in_on_error meant actuals = flat_map (undefined_in_actual false meant) actuals

-- The faults in the declarations of file k: those of the start symbols, of the levels, and of the on-error
-- declarations.
abbrev pub undefined_in_declarations : Meanings → ℕ → Module → List JoinFault
undefined_in_declarations w k m =
    flat_map (undefined_start w) m.starts ++ (flat_map (undefined_in_level w) m.levels ++ flat_map (undefined_in_on_error (meant_by w k (formal_number []))) m.on_error)

-- The faults in a file: those in its declarations, then those in its rules.
abbrev pub undefined_in_file : Meanings → ℕ × Module → List JoinFault
undefined_in_file w f = undefined_in_declarations w f.0 f.1 ++ flat_map (undefined_in_rule w f.0) f.1.rules

-- DUPLICATE

abbrev pub same_kind : NameKind → NameKind → Bool
same_kind kinds.Token kinds.Token = true
same_kind kinds.Rule kinds.Rule = true
same_kind _ _ = false

abbrev pub same_flag : Bool → Bool → Bool
same_flag true b = b
same_flag false b = not b

-- The levels come from the same declaration.
abbrev pub same_level : Level → Level → Bool
same_level a b = (a.file == b.file) && (a.rank == b.rank)

abbrev pub same_shape : Outline → Rule → Bool
same_shape o r = same_flag o.inlined r.inlined && (o.formals == length r.formals)

-- The first value x, if there is one, passes the test with y.
abbrev pub agrees : {X Y : Type 0} → (X → Y → Bool) → Option X → Y → Bool
agrees like None y = true
agrees like (Some x) y = like x y

-- A fault if the name was first defined with the other kind.
abbrev pub other_kind : Meanings → NameKind → Text → List JoinFault
other_kind w kind x = unless (agrees same_kind (w.kind x) kind) (faults.Duplicate x)

-- The faults in a file for names that are both a token and a rule.
abbrev pub kinds_in_file : Meanings → Module → List JoinFault
kinds_in_file w m = flat_map (λ t. other_kind w kinds.Token t.name) m.tokens ++ flat_map (λ r. other_kind w kinds.Rule r.name) m.rules

-- A fault if the alias belongs to an earlier token.
abbrev pub other_token : Meanings → Text → Option Text → List JoinFault
other_token w x None = []
other_token w x (Some a) = unless (agrees same (w.aliased a) x) (faults.Duplicate a)

abbrev pub aliases_in_file : Meanings → Module → List JoinFault
aliases_in_file w m = flat_map (λ t. other_token w t.name t.alias) m.tokens

-- The names in the second list that also occur in the first or earlier in the second.
abbrev pub repeats : List Text → List Text → List JoinFault
repeats before [] = []
repeats before (x ∷ xs) = unless (not (list_any (same x) before)) (faults.Duplicate x) ++ repeats (before ++ x ∷ []) xs

-- The name of the rule, if the rule is private.
abbrev pub own_name : (Text → Bool) → Rule → List Text
own_name is_public r = if is_public r.name then [] else r.name ∷ []

abbrev pub own_names : (Text → Bool) → List Rule → List Text
own_names is_public rs = flat_map (own_name is_public) rs

-- The faults in a file for private rules that share a name.
abbrev pub own_in_file : Meanings → Module → List JoinFault
own_in_file w m = repeats [] (own_names (is_public w.starts m.rules) m.rules)

-- The faults in a file for rules that have a formal twice.
abbrev pub formals_in_file : Module → List JoinFault
formals_in_file m = flat_map (λ r. repeats [] r.formals) m.rules

-- A fault if the rule is public and differs from the first definition of its name in `%inline` or in the number of
-- formals.
abbrev pub other_shape : Meanings → (Text → Bool) → Rule → List JoinFault
other_shape w is_public r = if is_public r.name then unless (agrees same_shape (w.joined r.name) r) (faults.Duplicate r.name) else []

abbrev pub shapes_in_file : Meanings → Module → List JoinFault
shapes_in_file w m = flat_map (other_shape w (is_public w.starts m.rules)) m.rules

-- A fault if the name has another level from an earlier declaration.
abbrev pub other_level : Meanings → Level → Option Text → List JoinFault
other_level w l None = []
other_level w l (Some x) = unless (agrees same_level (w.level x) l) (faults.Duplicate x)

abbrev pub levels_in_declaration : Meanings → ℕ → ℕ × LevelDecl → List JoinFault
levels_in_declaration w k e = flat_map (λ r. other_level w (level_in k e.0 e.1.assoc) (name_by w.aliased r)) e.1.names

-- The faults in a file for names with two levels; an alias counts as its token.
abbrev pub levels_in_file : Meanings → ℕ × Module → List JoinFault
levels_in_file w f = flat_map (levels_in_declaration w f.0) (enumerate_from 0 f.1.levels)

-- The faults for names and aliases with two meanings.
abbrev pub name_duplicates : Meanings → List Module → List JoinFault
name_duplicates w ms = flat_map (kinds_in_file w) ms ++ flat_map (aliases_in_file w) ms

-- The faults for rules and formals with two meanings.
abbrev pub rule_duplicates : Meanings → List Module → List JoinFault
rule_duplicates w ms = flat_map (own_in_file w) ms ++ (flat_map formals_in_file ms ++ flat_map (shapes_in_file w) ms)

abbrev pub duplicates : Meanings → List Module → List JoinFault
duplicates w ms = name_duplicates w ms ++ (rule_duplicates w ms ++ flat_map (levels_in_file w) (files ms))

-- THE OTHER FAULTS

abbrev pub has_some : {X : Type 0} → List X → Bool
has_some [] = false
has_some (x ∷ xs) = true

-- A fault if the head is the name `error`.
abbrev pub error_token : Ref → List JoinFault
error_token r = unless (not (is_error r)) faults.ErrorToken

abbrev pub errors_in_actual : Actual → List JoinFault
errors_in_actual a = flat_map error_token (refs a)

abbrev pub errors_in_alternative : Alternative → List JoinFault
errors_in_alternative a = flat_map errors_in_actual a.producers

abbrev pub errors_in_rule : Rule → List JoinFault
errors_in_rule r = flat_map errors_in_alternative r.alternatives

abbrev pub errors_in_file : Module → List JoinFault
errors_in_file m = flat_map errors_in_rule m.rules

-- A fault if the name after `%prec` is no token and has no level.
abbrev pub unlevelled : Meanings → Option Ref → List JoinFault
unlevelled w (Some (Plain x)) = unless (list_any (same x) w.tokens || is_some (w.level x)) (faults.UnknownLevel x)
unlevelled w _ = []

abbrev pub unlevelled_in_rule : Meanings → Rule → List JoinFault
unlevelled_in_rule w r = flat_map (λ a. unlevelled w a.prec) r.alternatives

abbrev pub unlevelled_in_file : Meanings → Module → List JoinFault
unlevelled_in_file w m = flat_map (unlevelled_in_rule w) m.rules

-- A fault if the grammar has more than `max_tokens` tokens.
abbrev pub many_tokens : ℕ → List JoinFault
many_tokens n = unless (not (nat_lt max_tokens n)) (faults.TooManyTokens n)

-- ALL FAULTS, IN THE ORDER OF THE SEARCH

-- The faults that are reported after undefined and duplicate names.
abbrev pub other_faults : Meanings → List Module → List JoinFault
other_faults w ms =
    unless (has_some w.starts) faults.NoStart ++ (flat_map errors_in_file ms ++ (flat_map (unlevelled_in_file w) ms ++ many_tokens (length w.tokens)))

abbrev pub faults_by : Meanings → List Module → List JoinFault
faults_by w ms = flat_map (undefined_in_file w) (files ms) ++ (duplicates w ms ++ other_faults w ms)

-- All faults in the files of a grammar, with the prelude if p is true; the first is reported.
abbrev pub join_faults : Bool → List Module → List JoinFault
join_faults p ms = faults_by (meanings p ms) ms

abbrev pub first : {X : Type 0} → List X → Option X
first [] = None
first (x ∷ xs) = Some x

-- The result is a success and there is no fault, or it is the first fault, or it reports that memory ran out.
abbrev pub ReportsFirst : {X : Type 0} → List JoinFault → Result X JoinFault → Type 0
ReportsFirst es (Ok x) = es ≡ []
ReportsFirst es (Err e) = (e ≡ faults.Memory) ⊎ (first es ≡ Some e)
