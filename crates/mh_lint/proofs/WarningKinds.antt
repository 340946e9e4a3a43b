-- A mention has no warning but the one for its role.
use Rattle.std.proofs.Common.{◌≡◌, ◌⊎◌, ◌+◌, ℕ, true, List, Some, refl, ap, inl, inr, arith}
use Rattle.mh_grammar.specs.Text.{Text}
use Rattle.mh_rules.specs.declared.modules.Module.{Module}
use Rattle.mh_rules.specs.declared.joined.JoinedRule.{JoinedRule}
use Rattle.mh_join_names.specs.Names.{name_by}
use Rattle.mh_join_names.specs.Faults.{Meanings, text_of}
use Rattle.mh_reader_places.specs.declared.mentions.Mention.{Mention}
use Rattle.mh_reader_places.specs.declared.mentions.Role.{Role}
use Rattle.mh_reader_places.specs.declared.mentions.Role.TheVariants as roles
use Rattle.mh_lint_faults.specs.Stages.{Stages}
use Rattle.mh_lint_faults.specs.FaultLines.{IsFirstDefinition, rule_in_role}
use Rattle.std.specs.List.{slice_get}
use Rattle.mh_lint.specs.Built.{Built}
use Rattle.mh_lint.specs.MentionWarnings.{IsActualAt, IsDeclarationUsed, IsFirstToken, IsNameCompared, IsNamedByPrec, IsPrecCompared, IsWarning, is_prec}
use Rattle.mh_lint.specs.MentionWarnings as warnings
use Rattle.mh_lint.specs.Uses.{HasInstance, IsTokenUsed}

-- The kind of warning that a mention with this role may have.
abbrev pub kind : Role → ℕ
kind roles.Token = 0
kind roles.Rule = 1
kind (roles.Level rank) = 2
kind (roles.Prec alternative) = 3
kind (roles.GroupPrec low high) = 3
kind (roles.OnError rank item) = 4
kind roles.Alias = 5
kind roles.Start = 5
kind roles.Formal = 5
kind (roles.Head alternative producer) = 5

pub rule_kind : (w : Meanings) (k : ℕ) (m : Module) (name : Text) (role : Role) (n : ℕ) → rule_in_role w k m name role ≡ Some n → kind role ≡ 1
rule_kind w k m name roles.Rule n e = refl
rule_kind w k m name roles.Token n e = cc
rule_kind w k m name (roles.Level rank) n e = cc
rule_kind w k m name (roles.Prec alternative) n e = cc
rule_kind w k m name (roles.GroupPrec low high) n e = cc
rule_kind w k m name (roles.OnError rank item) n e = cc
rule_kind w k m name roles.Alias n e = cc
rule_kind w k m name roles.Start n e = cc
rule_kind w k m name roles.Formal n e = cc
rule_kind w k m name (roles.Head alternative producer) n e = cc

pub prec_kind : (role : Role) → is_prec role ≡ true → kind role ≡ 3
prec_kind (roles.Prec alternative) e = refl
prec_kind (roles.GroupPrec low high) e = refl
prec_kind roles.Rule e = cc
prec_kind roles.Token e = cc
prec_kind (roles.Level rank) e = cc
prec_kind (roles.OnError rank item) e = cc
prec_kind roles.Alias e = cc
prec_kind roles.Start e = cc
prec_kind roles.Formal e = cc
prec_kind (roles.Head alternative producer) e = cc

pub is_prec_of : (role : Role) → ((n : ℕ) × (role ≡ roles.Prec n)) ⊎ ((low high : ℕ) × (role ≡ roles.GroupPrec low high)) → is_prec role ≡ true
is_prec_of role (inl one) = ap is_prec one.1
is_prec_of role (inr group) = ap is_prec group.2

-- A role with none of these warnings.
pub other_kind : (role : Role) → (role ≡ roles.Token → ⊥) → (role ≡ roles.Rule → ⊥) → ((rank : ℕ) → role ≡ roles.Level rank → ⊥) → ((n : ℕ) → role ≡ roles.Prec n → ⊥) → ((low high : ℕ) → role ≡ roles.GroupPrec low high → ⊥) → ((rank item : ℕ) → role ≡ roles.OnError rank item → ⊥) → kind role ≡ 5
other_kind roles.Token token rule level prec group on_error = absurd (token refl)
other_kind roles.Rule token rule level prec group on_error = absurd (rule refl)
other_kind (roles.Level rank) token rule level prec group on_error = absurd (level rank refl)
other_kind (roles.Prec n) token rule level prec group on_error = absurd (prec n refl)
other_kind (roles.GroupPrec low high) token rule level prec group on_error = absurd (group low high refl)
other_kind (roles.OnError rank item) token rule level prec group on_error = absurd (on_error rank item refl)
other_kind roles.Alias token rule level prec group on_error = refl
other_kind roles.Start token rule level prec group on_error = refl
other_kind roles.Formal token rule level prec group on_error = refl
other_kind (roles.Head alternative producer) token rule level prec group on_error = refl

module _ (s : Stages) (b : Built) (w : Meanings) (file : ℕ) (before : List Mention) (x : Mention) where
  -- The kind of the mention of each warning.
  defined_kind : (number : ℕ) → IsFirstDefinition w s.found file before x number → kind x.role ≡ 1
  defined_kind number first = rule_kind w (file + 1) first.is.of_file.placed.module (text_of x.name) x.role number first.is.number_is

  pub token_none : kind x.role ≡ 0 → ((z : ℕ) → IsFirstToken s.found file before x → w.numbers.token (text_of x.name) ≡ Some z → (IsTokenUsed s.joined z → ⊥) → (IsNamedByPrec w s.found (text_of x.name) → ⊥) → ⊥) → (text : Text) → IsWarning s b w file before x text → ⊥
  token_none k h text (warnings.IsWarning.unused_token z first number unused unnamed) = h z first number unused unnamed
  token_none k h text (warnings.IsWarning.unreachable_rule number rule first at none) = omega (arith, k, defined_kind number first)
  token_none k h text (warnings.IsWarning.level rank name role is none) = omega (arith, k, ap kind role)
  token_none k h text (warnings.IsWarning.prec role none) = omega (arith, k, prec_kind x.role role)
  token_none k h text (warnings.IsWarning.on_error declaration name at none) = omega (arith, k, ap kind at.role_is)

  pub rule_none : kind x.role ≡ 1 → ((number : ℕ) (rule : JoinedRule) → IsFirstDefinition w s.found file before x number → slice_get s.joined.rules number ≡ Some rule → (HasInstance s.expanded rule → ⊥) → ⊥) → (text : Text) → IsWarning s b w file before x text → ⊥
  rule_none k h text (warnings.IsWarning.unused_token z first number unused unnamed) = omega (arith, k, ap kind first.role_is)
  rule_none k h text (warnings.IsWarning.unreachable_rule number rule first at none) = h number rule first at none
  rule_none k h text (warnings.IsWarning.level rank name role is none) = omega (arith, k, ap kind role)
  rule_none k h text (warnings.IsWarning.prec role none) = omega (arith, k, prec_kind x.role role)
  rule_none k h text (warnings.IsWarning.on_error declaration name at none) = omega (arith, k, ap kind at.role_is)

  pub level_none : kind x.role ≡ 2 → ((name : Text) → name_by w.aliased x.name ≡ Some name → (IsNameCompared s b w name → ⊥) → ⊥) → (text : Text) → IsWarning s b w file before x text → ⊥
  level_none k h text (warnings.IsWarning.unused_token z first number unused unnamed) = omega (arith, k, ap kind first.role_is)
  level_none k h text (warnings.IsWarning.unreachable_rule number rule first at none) = omega (arith, k, defined_kind number first)
  level_none k h text (warnings.IsWarning.level rank name role is none) = h name is none
  level_none k h text (warnings.IsWarning.prec role none) = omega (arith, k, prec_kind x.role role)
  level_none k h text (warnings.IsWarning.on_error declaration name at none) = omega (arith, k, ap kind at.role_is)

  pub prec_none : kind x.role ≡ 3 → ((IsPrecCompared s b file before x → ⊥) → ⊥) → (text : Text) → IsWarning s b w file before x text → ⊥
  prec_none k h text (warnings.IsWarning.unused_token z first number unused unnamed) = omega (arith, k, ap kind first.role_is)
  prec_none k h text (warnings.IsWarning.unreachable_rule number rule first at none) = omega (arith, k, defined_kind number first)
  prec_none k h text (warnings.IsWarning.level rank name role is none) = omega (arith, k, ap kind role)
  prec_none k h text (warnings.IsWarning.prec role none) = h none
  prec_none k h text (warnings.IsWarning.on_error declaration name at none) = omega (arith, k, ap kind at.role_is)

  pub on_error_none : kind x.role ≡ 4 → ((declaration : ℕ) (name : Text) → IsActualAt s file before x declaration name → (IsDeclarationUsed s b declaration name → ⊥) → ⊥) → (text : Text) → IsWarning s b w file before x text → ⊥
  on_error_none k h text (warnings.IsWarning.unused_token z first number unused unnamed) = omega (arith, k, ap kind first.role_is)
  on_error_none k h text (warnings.IsWarning.unreachable_rule number rule first at none) = omega (arith, k, defined_kind number first)
  on_error_none k h text (warnings.IsWarning.level rank name role is none) = omega (arith, k, ap kind role)
  on_error_none k h text (warnings.IsWarning.prec role none) = omega (arith, k, prec_kind x.role role)
  on_error_none k h text (warnings.IsWarning.on_error declaration name at none) = h declaration name at none

  pub other_none : kind x.role ≡ 5 → (text : Text) → IsWarning s b w file before x text → ⊥
  other_none k text (warnings.IsWarning.unused_token z first number unused unnamed) = omega (arith, k, ap kind first.role_is)
  other_none k text (warnings.IsWarning.unreachable_rule number rule first at none) = omega (arith, k, defined_kind number first)
  other_none k text (warnings.IsWarning.level rank name role is none) = omega (arith, k, ap kind role)
  other_none k text (warnings.IsWarning.prec role none) = omega (arith, k, prec_kind x.role role)
  other_none k text (warnings.IsWarning.on_error declaration name at none) = omega (arith, k, ap kind at.role_is)
