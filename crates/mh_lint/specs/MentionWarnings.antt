-- The warnings on an accepted grammar at the names of its files (Menhir's warnings on unused tokens, unreachable
-- rules and levels that are never useful; reductions on errors without use are this project's own).
use Rattle.std.specs.Prelude.{◌≡◌, ◌<◌, ◌≤◌, ◌+◌, ◌++◌, ℕ, Bool, true, false, List, length, flat_map, take, codes, Some, slice_get}
use Rattle.std.specs.List.{Contains}
use Rattle.mh_grammar.specs.Text.{Text}
use Rattle.mh_grammar.specs.declared.types.NontermInfo.{NontermInfo}
use Rattle.mh_rules.specs.declared.joined.Applied.{Applied}
use Rattle.mh_rules.specs.declared.joined.JoinedRule.{JoinedRule}
use Rattle.mh_expand.specs.Terms.{term_of, text}
use Rattle.mh_join_names.specs.Names.{name_by}
use Rattle.mh_join_names.specs.Faults.{Meanings, text_of}
use Rattle.mh_reader_places.specs.declared.mentions.Mention.{Mention}
use Rattle.mh_reader_places.specs.declared.mentions.Role.{Role}
use Rattle.mh_reader_places.specs.declared.mentions.Role.TheVariants as roles
use Rattle.mh_reader_places.specs.declared.reading.PlacedModule.{PlacedModule}
use Rattle.mh_lint_states.specs.Comparisons.{IsTokenCompared, IsProductionCompared}
use Rattle.mh_lint_states.specs.Reductions.{IsReducedOnErrors}
use Rattle.mh_lint.specs.declared.sources.LevelSource.TheVariants as sources
use Rattle.mh_lint_faults.specs.Stages.{Stages, Mentions}
use Rattle.mh_lint.specs.Built.{Built}
use Rattle.mh_lint_faults.specs.NameFaults.{has_own_prec}
use Rattle.mh_lint_faults.specs.FaultLines.{IsFirstDefinition}
use Rattle.mh_lint.specs.LevelSources.{HasSource}
use Rattle.mh_lint.specs.Uses.{IsTokenUsed, HasInstance}

-- ---- Tokens.

-- The mention after `before` declares a token whose name no mention before declares, in this file or in an earlier one.
pub record IsFirstToken (found : List PlacedModule) (file : ℕ) (before : List Mention) (x : Mention) : Type 0 where
  pub role_is : x.role ≡ roles.Token
  pub first_here : (y : Mention) → Contains before y → y.role ≡ roles.Token → text_of y.name ≡ text_of x.name → ⊥
  pub first_file : (other : ℕ) (others : List Mention) (y : Mention) → other < file → Mentions found other others y → y.role ≡ roles.Token → text_of y.name ≡ text_of x.name → ⊥

-- The role is that of a name after `%prec`.
abbrev pub is_prec : Role → Bool
is_prec (roles.Prec alternative) = true
is_prec (roles.GroupPrec low high) = true
is_prec _ = false

-- Some `%prec` of the files has this name, or a string that is the alias of this token.
pub record IsNamedByPrec (w : Meanings) (found : List PlacedModule) (name : Text) : Type 0 where
  pub file : ℕ
  pub before : List Mention
  pub mention : Mention
  pub of_file : Mentions found file before mention
  pub role_is : is_prec mention.role ≡ true
  pub name_is : name_by w.aliased mention.name ≡ Some name

-- ---- Levels.

-- The number, among all productions, of an ordinary production, which is numbered from 0.
abbrev pub ordinary : Stages → ℕ → ℕ
ordinary s p = length s.grammar.starts + p

-- The level of some ordinary production that is compared comes from the `%prec` of alternative n of file `file`.
pub record IsAlternativeCompared (s : Stages) (b : Built) (file n : ℕ) : Type 0 where
  pub production : ℕ
  pub compared : IsProductionCompared s.grammar b.automaton (ordinary s production)
  pub source : HasSource s.expanded production (sources.Prec (file + 1) n)

-- The level of the `%prec` at this mention is compared: that of its alternative, or of an alternative of its group that
-- has no `%prec` of its own.
pub data IsPrecCompared (s : Stages) (b : Built) (file : ℕ) (before : List Mention) (x : Mention) : Type 0 where
  own : (n : ℕ) → x.role ≡ roles.Prec n → IsAlternativeCompared s b file n → IsPrecCompared s b file before x
  of_group : (low high n : ℕ) → x.role ≡ roles.GroupPrec low high → low ≤ n → n ≤ high → has_own_prec before n ≡ false → IsAlternativeCompared s b file n → IsPrecCompared s b file before x

-- The level of the name is compared: that of a token with a production; that of a production whose level comes from its
-- last token; or that of a production whose level comes from a `%prec` with this name.
pub data IsNameCompared (s : Stages) (b : Built) (w : Meanings) (name : Text) : Type 0 where
  of_token : (z : ℕ) → IsTokenCompared s.grammar b.automaton z → slice_get w.tokens z ≡ Some name → IsNameCompared s b w name
  of_last_token : (p z : ℕ) → IsProductionCompared s.grammar b.automaton (ordinary s p) → HasSource s.expanded p (sources.Token z) → slice_get w.tokens z ≡ Some name → IsNameCompared s b w name
  of_prec : (file : ℕ) (before : List Mention) (x : Mention) → Mentions s.found file before x → IsPrecCompared s b file before x → name_by w.aliased x.name ≡ Some name → IsNameCompared s b w name

-- ---- Reductions on errors.

-- The number of `%on_error_reduce` declarations of the files before this one.
abbrev pub declarations_before : List PlacedModule → ℕ → ℕ
declarations_before found file = length (flat_map (λ (p : PlacedModule). p.module.on_error) (take file found))

-- The mention is the first head of an actual of an `%on_error_reduce` declaration, with this number among those of all
-- files; this is the printed name of the actual.
pub record IsActualAt (s : Stages) (file : ℕ) (before : List Mention) (x : Mention) (declaration : ℕ) (name : Text) : Type 0 where
  pub rank : ℕ
  pub item : ℕ
  pub role_is : x.role ≡ roles.OnError rank item
  pub first : (y : Mention) → Contains before y → y.role ≡ x.role → ⊥
  pub declaration_is : declaration ≡ declarations_before s.found file + rank
  pub actuals : List Applied
  pub actual : Applied
  pub of_joined : slice_get s.joined.on_error declaration ≡ Some actuals
  pub of_declaration : slice_get actuals item ≡ Some actual
  pub name_is : name ≡ text s.joined (term_of actual)

-- Some state reduces a production of the nonterminal with this printed name on errors, and the nonterminal has its rank
-- by this declaration.
pub record IsDeclarationUsed (s : Stages) (b : Built) (declaration : ℕ) (name : Text) : Type 0 where
  pub number : ℕ
  pub info : NontermInfo
  pub of_grammar : slice_get s.grammar.nonterminals number ≡ Some info
  pub name_is : info.name ≡ name
  pub rank_is : info.on_error ≡ Some declaration
  pub reduced : IsReducedOnErrors s.grammar b.automaton b.table number

-- ---- All warnings.

-- The text of the warning at the mention x, which comes after the mentions `before` in its file. A rule of the
-- prelude is in no file, so it has no warning.
pub data IsWarning (s : Stages) (b : Built) (w : Meanings) (file : ℕ) (before : List Mention) (x : Mention) : Text → Type 0 where
  unused_token : (z : ℕ) → IsFirstToken s.found file before x → w.numbers.token (text_of x.name) ≡ Some z → (IsTokenUsed s.joined z → ⊥) → (IsNamedByPrec w s.found (text_of x.name) → ⊥)
      → IsWarning s b w file before x (codes "unused token: " ++ text_of x.name)
  unreachable_rule : (number : ℕ) (rule : JoinedRule) → IsFirstDefinition w s.found file before x number → slice_get s.joined.rules number ≡ Some rule → (HasInstance s.expanded rule → ⊥)
      → IsWarning s b w file before x (codes "unreachable rule: " ++ text_of x.name)
  level : (rank : ℕ) (name : Text) → x.role ≡ roles.Level rank → name_by w.aliased x.name ≡ Some name → (IsNameCompared s b w name → ⊥)
      → IsWarning s b w file before x (codes "level without use: " ++ name)
  prec : is_prec x.role ≡ true → (IsPrecCompared s b file before x → ⊥)
      → IsWarning s b w file before x (codes "level without use: %prec " ++ text_of x.name)
  on_error : (declaration : ℕ) (name : Text) → IsActualAt s file before x declaration name → (IsDeclarationUsed s b declaration name → ⊥)
      → IsWarning s b w file before x (codes "reduction on errors without use: " ++ name)
