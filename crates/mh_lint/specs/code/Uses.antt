-- Uses of tokens, names and rules, as the code collects them.
use Rattle.std.specs.Prelude.{◌≡◌, ◌<◌, ◌↔◌, ◌⊎◌, ℕ, Bool, true, List, Option, Some, length, slice_get}
use Rattle.std.specs.List.{Contains, list_any}
use Rattle.std.specs.HashSet.{HashSet, contains}
use Rattle.mh_grammar.specs.Text.{Text}
use Rattle.mh_join_names.specs.Names.{name_by, same}
use Rattle.mh_reader_places.specs.declared.mentions.Mention.{Mention}
use Rattle.mh_reader_places.specs.declared.reading.PlacedModule.{PlacedModule}
use Rattle.mh_rules.specs.declared.instances.Expanded.{Expanded}
use Rattle.mh_rules.specs.declared.instances.Instance.{Instance}
use Rattle.mh_rules.specs.declared.instances.InstanceProduction.{InstanceProduction}
use Rattle.mh_rules.specs.declared.joined.Applied.{Applied}
use Rattle.mh_rules.specs.declared.joined.Head.{Head}
use Rattle.mh_rules.specs.declared.joined.Head.TheVariants as heads
use Rattle.mh_rules.specs.declared.joined.Joined.{Joined}
use Rattle.mh_rules.specs.declared.joined.JoinedRule.{JoinedRule}
use Rattle.mh_lint.specs.MentionWarnings.{is_prec}
use Rattle.mh_lint_faults.specs.Stages.{Mentions}
use Rattle.mh_lint_faults.specs.Terms.{heads as heads_of}
use Rattle.mh_lint.specs.Uses.{HasInstance, IsTokenUsed}
use Rattle.mh_lint.specs.declared.alternatives.AlternativeOf.{AlternativeOf}

-- A token at the head has a number below n.
abbrev pub IsTokenBelow : ℕ → Head → Type 0
IsTokenBelow n head = (z : ℕ) → head ≡ heads.Token z → z < n

-- Each token in the actual has a number below n.
abbrev pub TokensBelow : ℕ → Applied → Type 0
TokensBelow n a = (z : ℕ) → Contains (heads_of a) (heads.Token z) → z < n

-- The mention is a `%prec` with this name, or with a string that is its alias.
abbrev pub NamesByPrec : (Text → Option Text) → Mention → Text → Type 0
NamesByPrec aliased x name = (is_prec x.role ≡ true) × (name_by aliased x.name ≡ Some name)

-- The mention is a `%prec` with the name of one of these tokens, or with a string that is its alias.
abbrev pub NamesTokenByPrec : List Text → (Text → Option Text) → Mention → Text → Type 0
NamesTokenByPrec tokens aliased x name = NamesByPrec aliased x name × (list_any (same name) tokens ≡ true)

-- The name of the mention is put into the set, if the mention is a `%prec` and the name is that of a token.
abbrev pub PutsPrecToken : {S : Type 0} → List Text → (Text → Option Text) → Mention → HashSet Text S → HashSet Text S → Type 0
PutsPrecToken tokens aliased x old new = (name : Text) → (contains same new name ≡ true) ↔ ((contains same old name ≡ true) ⊎ NamesTokenByPrec tokens aliased x name)

-- Some `%prec` of the files has the name.
abbrev pub ArePrecNames : (Text → Option Text) → List PlacedModule → Text → Type 0
ArePrecNames aliased found name = (file : ℕ) × (before : List Mention) × (x : Mention) × Mentions found file before x × NamesByPrec aliased x name

-- Some `%prec` of the files has the name, which is that of one of these tokens.
abbrev pub ArePrecTokens : List Text → (Text → Option Text) → List PlacedModule → Text → Type 0
ArePrecTokens tokens aliased found name = ArePrecNames aliased found name × (list_any (same name) tokens ≡ true)

-- Some alternative has the token, or a `%prec` of the files has its name.
abbrev pub IsTokenInUse : Joined → List Text → (Text → Option Text) → List PlacedModule → ℕ → Type 0
IsTokenInUse j tokens aliased found z = IsTokenUsed j z ⊎ ((x : Text) × (slice_get tokens z ≡ Some x) × ArePrecNames aliased found x)

-- The list has the alternative.
abbrev pub HasPlace : List AlternativeOf → ℕ → ℕ → Type 0
HasPlace found file index = Contains found (record { file = file; index = index })

-- A production of some instance comes from the alternative.
pub record IsPlaceOfInstances (e : Expanded) (file index : ℕ) : Type 0 where
  pub instance : Instance
  pub production : InstanceProduction
  pub of_instances : Contains e.instances instance
  pub of_instance : Contains instance.productions production
  pub file_is : production.file ≡ file
  pub index_is : production.place ≡ index

-- A flag for each rule: whether the rule has an instance.
pub record AreUsedRules (j : Joined) (e : Expanded) (used : List Bool) : Type 0 where
  pub len : length used ≡ length j.rules
  pub each : (n : ℕ) (r : JoinedRule) → slice_get j.rules n ≡ Some r → (slice_get used n ≡ Some true) ↔ HasInstance e r
