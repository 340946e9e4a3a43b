-- The names and the alternatives whose levels are compared, as the code collects them.
use Rattle.std.specs.Prelude.{◌≡◌, ◌≤◌, ◌↔◌, ◌⊎◌, ◌+◌, ◌++◌, ℕ, Bool, true, List, ◌∷◌, Option, Some, slice_get}
use Rattle.std.specs.List.{Contains}
use Rattle.std.specs.HashSet.{contains}
use Rattle.mh_grammar.specs.Text.{Text}
use Rattle.mh_join_names.specs.Names.{name_by, same}
use Rattle.mh_reader_places.specs.declared.mentions.Mention.{Mention}
use Rattle.mh_reader_places.specs.declared.mentions.Role.{Role}
use Rattle.mh_reader_places.specs.declared.mentions.Role.TheVariants as roles
use Rattle.mh_lint_faults.specs.code.MentionContexts.{HasOwnPrecs}
use Rattle.mh_lint.specs.code.Uses.{HasPlace}
use Rattle.mh_lint.specs.declared.alternatives.AlternativeOf.{AlternativeOf}
use Rattle.mh_lint_faults.specs.declared.reading.ReadFiles.{ReadFiles}
use Rattle.mh_lint.specs.declared.levels.UsedLevels.{UsedLevels}
use Rattle.mh_lint.specs.declared.sources.LevelSource.{LevelSource}
use Rattle.mh_lint.specs.declared.sources.LevelSource.TheVariants as sources

-- The names that `Name` accepts and the alternatives that `Place` accepts are added, and no others.
pub record AddsUses (Name : Text → Type 0) (Place : ℕ → ℕ → Type 0) (old new : UsedLevels) : Type 0 where
  pub names : (x : Text) → (contains same new.names x ≡ true) ↔ ((contains same old.names x ≡ true) ⊎ Name x)
  pub alternatives : (file n : ℕ) → HasPlace new.alternatives.keys file n ↔ (HasPlace old.alternatives.keys file n ⊎ Place file n)

abbrev pub NoPlace : ℕ → ℕ → Type 0
NoPlace file n = ⊥

-- The source is the token with this name.
abbrev pub IsTokenSource : List Text → LevelSource → Text → Type 0
IsTokenSource tokens source x = (z : ℕ) × (source ≡ sources.Token z) × (slice_get tokens z ≡ Some x)

-- The source is the `%prec` of this alternative.
abbrev pub IsPrecSource : LevelSource → ℕ → ℕ → Type 0
IsPrecSource source file n = source ≡ sources.Prec file n

-- A marked token has this name.
abbrev pub IsMarkedToken : List Text → List Bool → Text → Type 0
IsMarkedToken tokens flags x = (z : ℕ) × (slice_get flags z ≡ Some true) × (slice_get tokens z ≡ Some x)

-- A marked production has this source.
abbrev pub IsMarkedSource : List LevelSource → List Bool → LevelSource → Type 0
IsMarkedSource all flags source = (p : ℕ) × (slice_get flags p ≡ Some true) × (slice_get all p ≡ Some source)

-- The `%prec` with this role is that of an alternative of the list, or of a group with such an alternative, which has
-- no `%prec` of its own.
pub data IsPrecUsed (alternatives : List AlternativeOf) (file : ℕ) (own : List ℕ) (role : Role) : Type 0 where
  of_one : (n : ℕ) → role ≡ roles.Prec n → HasPlace alternatives file n → IsPrecUsed alternatives file own role
  of_group : (low high n : ℕ) → role ≡ roles.GroupPrec low high → low ≤ n → n ≤ high → (Contains own n → ⊥) → HasPlace alternatives file n → IsPrecUsed alternatives file own role

-- The alternative is added, if the role is that of its own `%prec`.
abbrev pub PutsOwn : Role → List ℕ → List ℕ → Type 0
PutsOwn role old new = (n : ℕ) → Contains new n ↔ (Contains old n ⊎ (role ≡ roles.Prec n))

-- A mention of the file is a `%prec` that is used, with this name.
pub record IsUsedPrecName (aliased : Text → Option Text) (alternatives : List AlternativeOf) (file : ℕ) (mentions : List Mention) (name : Text) : Type 0 where
  pub before : List Mention
  pub mention : Mention
  pub after : List Mention
  pub own : List ℕ
  pub split : mentions ≡ before ++ mention ∷ after
  pub own_are : HasOwnPrecs before own
  pub used : IsPrecUsed alternatives file own mention.role
  pub name_is : name_by aliased mention.name ≡ Some name

-- A `%prec` of this file, counted from 0, that is used has the name.
abbrev pub IsPrecNameOf : (Text → Option Text) → ReadFiles → List AlternativeOf → ℕ → Text → Type 0
IsPrecNameOf aliased read alternatives at x = (mentions : List Mention) × (slice_get read.mentions.items at ≡ Some mentions) × IsUsedPrecName aliased alternatives (at + 1) mentions x

-- A name is used as that of a compared token, of a token that is the source of a compared production, or of a `%prec`
-- that is used.
pub data IsNameUsed (tokens : List Text) (aliased : Text → Option Text) (read : ReadFiles) (all : List LevelSource) (token_flags production_flags : List Bool) (alternatives : List AlternativeOf) (x : Text) : Type 0 where
  of_token : IsMarkedToken tokens token_flags x → IsNameUsed tokens aliased read all token_flags production_flags alternatives x
  of_source : (source : LevelSource) → IsMarkedSource all production_flags source → IsTokenSource tokens source x → IsNameUsed tokens aliased read all token_flags production_flags alternatives x
  of_prec : (at : ℕ) (mentions : List Mention) → slice_get read.mentions.items at ≡ Some mentions → IsUsedPrecName aliased alternatives (at + 1) mentions x → IsNameUsed tokens aliased read all token_flags production_flags alternatives x

-- The names and the alternatives are those whose levels are compared.
pub record AreUsedLevels (tokens : List Text) (aliased : Text → Option Text) (read : ReadFiles) (all : List LevelSource) (token_flags production_flags : List Bool) (used : UsedLevels) : Type 0 where
  pub names : (x : Text) → (contains same used.names x ≡ true) ↔ IsNameUsed tokens aliased read all token_flags production_flags used.alternatives.keys x
  pub alternatives : (file n : ℕ) → HasPlace used.alternatives.keys file n ↔ ((source : LevelSource) × IsMarkedSource all production_flags source × IsPrecSource source file n)
