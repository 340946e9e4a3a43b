-- The faults of the names of a file, each at the place of the name. They are the faults of joined files, of which
-- `join` reports the first (Menhir manual, grammars split into files; the choice is a rule of this project).
use Rattle.std.specs.Prelude.{◌-◌, ◌+◌, ◌++◌, ◌||◌, ◌==◌, ℕ, zero, suc, Bool, true, false, not, List, [], ◌∷◌, length, fold, map, take, if◌then◌else◌, Option, None, Some, slice_get}
use Rattle.std.specs.List.{list_any, range_with_len}
use Rattle.mh_grammar.specs.Text.{Text}
use Rattle.mh_grammar.specs.declared.types.Assoc.TheVariants.{Left}
use Rattle.mh_rules.specs.declared.modules.Ref.{Ref}
use Rattle.mh_rules.specs.declared.modules.Rule.{Rule}
use Rattle.mh_rules.specs.declared.modules.Module.{Module}
use Rattle.mh_join_names.specs.Names.{same, name_by, level_in, is_public, formal_number}
use Rattle.mh_join_names.specs.Faults.{Meanings, meant_by, text_of, unless, unknown_string, undefined, undefined_start, other_kind, other_token, other_shape, other_level, error_token, unlevelled, has_some, many_tokens}
use Rattle.mh_join_names.specs.declared.fault.JoinFault.{JoinFault}
use Rattle.mh_join_names.specs.declared.fault.JoinFault.TheVariants as faults
use Rattle.mh_join_names.specs.declared.kinds.NameKind.TheVariants as kinds
use Rattle.mh_reader_places.specs.declared.mentions.Role.{Role}
use Rattle.mh_reader_places.specs.declared.mentions.Role.TheVariants as roles
use Rattle.mh_reader_places.specs.declared.mentions.Mention.{Mention}

-- ---- The surroundings of a mention, from the mentions before it in the file.

-- A number of rules, after one more mention with this role.
abbrev pub rules_with : ℕ → Role → ℕ
rules_with n roles.Rule = suc n
rules_with n _ = n

-- The number of rules that these mentions name.
abbrev pub rules_in : List Mention → ℕ
rules_in before = fold (λ n (x : Mention). rules_with n x.role) 0 before

-- The formals of a rule so far, after one more name with this role.
abbrev pub formals_with : List Text → Text → Role → List Text
formals_with found name roles.Rule = []
formals_with found name roles.Formal = found ++ name ∷ []
formals_with found name _ = found

-- The formals among these mentions that come after the last name of a rule.
abbrev pub formals_after : List Mention → List Text
formals_after before = fold (λ found (x : Mention). formals_with found (text_of x.name) x.role) [] before

-- The token that was declared last, after one more name with this role.
abbrev pub token_with : Text → Text → Role → Text
token_with found name roles.Token = name
token_with found name _ = found

-- The token that these mentions declare last; nothing if they declare none.
abbrev pub last_token : List Mention → Text
last_token before = fold (λ found (x : Mention). token_with found (text_of x.name) x.role) [] before

-- The rule with this number, from 1; before the first rule there is none.
abbrev pub rule_numbered : List Rule → ℕ → Option Rule
rule_numbered rs zero = None
rule_numbered rs (suc n) = slice_get rs n

abbrev pub formals_of : Option Rule → List Text
formals_of None = []
formals_of (Some r) = r.formals

-- The formals of the rule in which the mention after these is.
abbrev pub formals_at : Module → List Mention → List Text
formals_at m before = formals_of (rule_numbered m.rules (rules_in before))

-- ---- The faults of a mention.

-- The name of a private rule that an earlier private rule of the file has.
abbrev pub private_again : Meanings → Module → ℕ → Text → List JoinFault
private_again w m number x =
    unless (is_public w.starts m.rules x || not (list_any (λ (r : Rule). same x r.name) (take number m.rules))) (faults.Duplicate x)

-- The faults of the name of rule r, the rule of this number: at most one, because all of them report the name.
abbrev pub rule_faults : Meanings → Module → ℕ → Option Rule → List JoinFault
rule_faults w m number None = []
rule_faults w m number (Some r) = take 1 (other_kind w kinds.Rule r.name ++ private_again w m number r.name ++ other_shape w (is_public w.starts m.rules) r)

-- The role is that of the `%prec` of alternative n.
abbrev pub is_own_prec : ℕ → Role → Bool
is_own_prec n (roles.Prec alternative) = n == alternative
is_own_prec n _ = false

-- Alternative n has a `%prec` of its own among these mentions.
abbrev pub has_own_prec : List Mention → ℕ → Bool
has_own_prec before n = list_any (λ (x : Mention). is_own_prec n x.role) before

-- Some alternative of a group, from alternative `low` to alternative `high`, has no `%prec` of its own, so that the
-- `%prec` of the group is its `%prec`.
abbrev pub takes_group_prec : List Mention → ℕ → ℕ → Bool
takes_group_prec before low high = list_any (λ n. not (has_own_prec before n)) (range_with_len low (high + 1 - low))

-- The faults of the name r in file k, by its role and the mentions before it.
abbrev pub faults_in_role : Meanings → ℕ → Module → List Mention → Ref → Role → List JoinFault
faults_in_role w k m before r roles.Token = other_kind w kinds.Token (text_of r)
faults_in_role w k m before r roles.Alias = other_token w (last_token before) (Some (text_of r))
faults_in_role w k m before r roles.Start = undefined_start w (text_of r)
faults_in_role w k m before r (roles.Level rank) = unknown_string w.aliased r ++ other_level w (level_in k rank Left) (name_by w.aliased r)
faults_in_role w k m before r (roles.OnError rank item) = undefined false (meant_by w k (formal_number [])) r
faults_in_role w k m before r roles.Rule = rule_faults w m (rules_in before) (slice_get m.rules (rules_in before))
faults_in_role w k m before r roles.Formal = unless (not (list_any (same (text_of r)) (formals_after before))) (faults.Duplicate (text_of r))
faults_in_role w k m before r (roles.Head alternative producer) = undefined true (meant_by w k (formal_number (formals_at m before))) r ++ error_token r
faults_in_role w k m before r (roles.Prec alternative) = unknown_string w.aliased r ++ unlevelled w (Some r)
faults_in_role w k m before r (roles.GroupPrec low high) = if takes_group_prec before low high then unknown_string w.aliased r ++ unlevelled w (Some r) else []

-- The faults of the mentions after those in `before`, each with the position of its mention.
abbrev pub faults_from : Meanings → ℕ → Module → List Mention → List Mention → List (ℕ × JoinFault)
faults_from w k m before [] = []
faults_from w k m before (x ∷ xs) = map (λ e. (x.start, e)) (faults_in_role w k m before x.name x.role) ++ faults_from w k m (before ++ x ∷ []) xs

-- The faults of the names of file k, with positions in rising order.
abbrev pub name_faults : Meanings → ℕ → Module → List Mention → List (ℕ × JoinFault)
name_faults w k m mentions = faults_from w k m [] mentions

-- The faults of all files together, which have no place.
abbrev pub grammar_faults : Meanings → List JoinFault
grammar_faults w = unless (has_some w.starts) faults.NoStart ++ many_tokens (length w.tokens)
