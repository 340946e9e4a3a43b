-- What the names of the files are used for, as the code knows it before a mention.
use Rattle.std.specs.Prelude.{◌≡◌, ◌<◌, ◌+◌, ◌⊎◌, ◌↔◌, ◌++◌, ℕ, Bool, true, false, if◌then◌else◌, List, [], ◌∷◌, Option, None, Some, length, codes, flat_map, slice_get, slice_index_or}
use Rattle.std.specs.List.{Contains}
use Rattle.std.specs.HashSet.{contains}
use Rattle.mh_grammar.specs.Text.{Text}
use Rattle.mh_join_names.specs.Names.{same}
use Rattle.mh_join_names.specs.Faults.{Meanings, text_of}
use Rattle.mh_reader_places.specs.declared.mentions.Mention.{Mention}
use Rattle.mh_reader_places.specs.declared.mentions.Role.TheVariants as roles
use Rattle.mh_grammar.specs.declared.types.Grammar.{Grammar}
use Rattle.mh_expand.specs.Terms.{term_of, text}
use Rattle.mh_join_names.specs.code.SymbolTables.{meanings_in}
use Rattle.mh_reader_places.specs.declared.reading.PlacedModule.{PlacedModule}
use Rattle.mh_rules.specs.declared.joined.Applied.{Applied}
use Rattle.mh_rules.specs.declared.joined.Joined.{Joined}
use Rattle.mh_rules.specs.declared.modules.Module.{Module}
use Rattle.mh_rules.specs.declared.joined.JoinedRule.{JoinedRule}
use Rattle.mh_lint_findings.specs.Lines.{Line, line}
use Rattle.mh_lint_findings.specs.declared.findings.Position.TheVariants.{InFile, OfFile}
use Rattle.mh_lint_states.specs.code.ShownStates.{IsShown}
use Rattle.mh_lint_states.specs.declared.all_states.ShownByStates.{ShownByStates}
use Rattle.mh_lint.specs.Warnings.{AreLinesOfFile}
use Rattle.mh_lint.specs.code.LevelUses.{IsPrecUsed}
use Rattle.mh_lint_faults.specs.code.ReadFiles.{IsSplit}
use Rattle.mh_lint.specs.declared.alternatives.AlternativeOf.{AlternativeOf}
use Rattle.mh_lint_faults.specs.declared.front.AcceptedFiles.{AcceptedFiles}
use Rattle.mh_lint.specs.declared.on_error.DeclaredName.{DeclaredName}
use Rattle.mh_lint_faults.specs.FaultLines.{IsDefinition}
use Rattle.mh_lint.specs.MentionWarnings.{IsAlternativeCompared, IsDeclarationUsed, IsNameCompared, IsNamedByPrec, IsWarning, declarations_before}
use Rattle.mh_lint_faults.specs.Stages.{Mentions, Stages}
use Rattle.mh_lint.specs.Built.{Built}
use Rattle.mh_lint.specs.Uses.{HasInstance, IsTokenUsed}
use Rattle.mh_lint.specs.code.Declarations.{actual_of, declared}
use Rattle.mh_lint_faults.specs.code.MentionContexts.{HasOwnPrecs}
use Rattle.mh_lint.specs.code.Uses.{HasPlace}
use Rattle.mh_lint.specs.declared.warning_walk.ActualOf.{ActualOf}
use Rattle.mh_lint.specs.declared.warning_walk.Uses.{Uses}

-- The mentions before, in this file or in an earlier one, declare this name as a token.
pub data IsTokenBefore (s : Stages) (file : ℕ) (before : List Mention) (name : Text) : Type 0 where
  here : (y : Mention) → Contains before y → y.role ≡ roles.Token → text_of y.name ≡ name → IsTokenBefore s file before name
  earlier : (other : ℕ) (others : List Mention) (y : Mention) → other < file → Mentions s.found other others y → y.role ≡ roles.Token → text_of y.name ≡ name → IsTokenBefore s file before name

-- The mentions before, in this file or in an earlier one, define this rule.
pub data IsRuleBefore (s : Stages) (w : Meanings) (file : ℕ) (before : List Mention) (number : ℕ) : Type 0 where
  here : (earlier : List Mention) (y : Mention) (later : List Mention) → before ≡ earlier ++ y ∷ later → IsDefinition w s.found file earlier y number → IsRuleBefore s w file before number
  earlier : (other : ℕ) (others : List Mention) (y : Mention) → other < file → IsDefinition w s.found other others y number → IsRuleBefore s w file before number

-- The use of a name in each respect, after these mentions of the file. A token counts as used after its first
-- declaration, a rule after its first definition.
pub record AreUsesBut (s : Stages) (b : Built) (w : Meanings) (file : ℕ) (before : List Mention) (u : Uses) : Type 0 where
  pub token_flags : length u.tokens.items ≡ length w.tokens
  pub tokens : (z : ℕ) (name : Text) → w.numbers.token name ≡ Some z → (slice_index_or u.tokens.items z false ≡ true) ↔ (IsTokenUsed s.joined z ⊎ (IsNamedByPrec w s.found name ⊎ IsTokenBefore s file before name))
  pub rule_flags : length u.rules.items ≡ length s.joined.rules
  pub rules : (n : ℕ) (r : JoinedRule) → slice_get s.joined.rules n ≡ Some r → (slice_index_or u.rules.items n false ≡ true) ↔ (HasInstance s.expanded r ⊎ IsRuleBefore s w file before n)
  pub names : (x : Text) → (contains same u.levels.names x ≡ true) ↔ IsNameCompared s b w x
  pub alternatives : (k n : ℕ) → HasPlace u.levels.alternatives.keys (k + 1) n ↔ IsAlternativeCompared s b k n
  pub declarations : (n : ℕ) (name : Text) → Contains u.declarations.keys (declared n name) ↔ IsDeclarationUsed s b n name
  pub declarations_are : u.declarations_before ≡ declarations_before s.found file

-- The uses, with what the mentions before say in this file alone.
pub record AreUses (s : Stages) (b : Built) (w : Meanings) (file : ℕ) (before : List Mention) (u : Uses) : Type 0 where
  pub but : AreUsesBut s b w file before u
  pub own : HasOwnPrecs before u.own.keys
  pub actuals : (rank item : ℕ) → Contains u.actuals.keys (record { rank = rank; item = item }) ↔ ((y : Mention) × Contains before y × (y.role ≡ roles.OnError rank item))

-- The text is that of the warning at the mention, or the mention has none.
pub data IsWarningFound (s : Stages) (b : Built) (w : Meanings) (file : ℕ) (before : List Mention) (x : Mention) : Option Text → Type 0 where
  none : ((text : Text) → IsWarning s b w file before x text → ⊥) → IsWarningFound s b w file before x None
  some : (text : Text) → IsWarning s b w file before x text → IsWarningFound s b w file before x (Some text)

-- ---- The state of the walk over the files.

-- The stages of an accepted grammar, with the names' meanings, and the number of the file, from 0.
pub record Checked : Type 0 where
  pub stages : Stages
  pub built : Built
  pub meanings : Meanings
  pub file : ℕ

abbrev pub next_file : Checked → Checked
next_file c = record c { file = c.file + 1 }

-- The accepted files have these stages.
pub record AreStagesOf (c : Checked) (files : AcceptedFiles) : Type 0 where
  pub read : IsSplit c.stages.found files.read
  pub names : meanings_in files.names ≡ c.meanings
  pub joined : files.joined ≡ c.stages.joined
  pub expanded : files.expanded ≡ c.stages.expanded
  pub declarations : length (flat_map (λ (p : PlacedModule). p.module.on_error) c.stages.found) ≡ length files.joined.on_error

-- The mention x comes after these mentions of file number k, from 1, which has this module, and the uses are those
-- before the mention.
pub record IsBefore (c : Checked) (files : AcceptedFiles) (k : ℕ) (m : Module) (before : List Mention) (x : Mention) (u : Uses) : Type 0 where
  pub stages : AreStagesOf c files
  pub number : k ≡ c.file + 1
  pub of_file : Mentions c.stages.found c.file before x
  pub module_is : of_file.placed.module ≡ m
  pub uses : AreUses c.stages c.built c.meanings c.file before u

-- File number k, from 1, has this module, and the uses are those after these mentions of the file.
pub record IsInFile (c : Checked) (files : AcceptedFiles) (k : ℕ) (m : Module) (before : List Mention) (u : Uses) : Type 0 where
  pub stages : AreStagesOf c files
  pub number : k ≡ c.file + 1
  pub placed : PlacedModule
  pub of_files : slice_get c.stages.found c.file ≡ Some placed
  pub module_is : placed.module ≡ m
  pub uses : AreUses c.stages c.built c.meanings c.file before u

-- The uses are those after all mentions of the file.
abbrev pub AreUsesAfterFile : Checked → Uses → Type 0
AreUsesAfterFile c u = (p : PlacedModule) → slice_get c.stages.found c.file ≡ Some p → AreUses c.stages c.built c.meanings c.file p.mentions u

-- The uses are those before the first mention of file `at`, up to what is forgotten at the beginning of a file.
pub record IsBeforeFile (c : Checked) (files : AcceptedFiles) (at : ℕ) (u : Uses) : Type 0 where
  pub stages : AreStagesOf c files
  pub file_is : c.file ≡ at
  pub uses : AreUsesBut c.stages c.built c.meanings at [] u

-- What the states show, of the grammar of the stages.
pub record IsShownBy (c : Checked) (files : AcceptedFiles) (g : Grammar) (shown : ShownByStates) : Type 0 where
  pub stages : AreStagesOf c files
  pub grammar_is : c.stages.grammar ≡ g
  pub is_shown : IsShown g c.built.automaton c.built.table shown

-- ---- Texts of warnings.

abbrev pub flag_at : List Bool → Option ℕ → Option Bool
flag_at flags None = None
flag_at flags (Some n) = slice_get flags n

abbrev pub text_unless_set : Option Bool → Text → Option Text
text_unless_set (Some false) text = Some text
text_unless_set other text = None

abbrev pub level_text : (Text → Bool) → Option Text → Option Text
level_text used None = None
level_text used (Some name) = if used name then None else Some (codes "level without use: " ++ name)

-- The text for a `%prec` that is not used.
pub data IsUnusedPrec (alternatives : List AlternativeOf) (file : ℕ) (own : List ℕ) (x : Mention) : Option Text → Type 0 where
  used : IsPrecUsed alternatives file own x.role → IsUnusedPrec alternatives file own x None
  unused : (IsPrecUsed alternatives file own x.role → ⊥) → IsUnusedPrec alternatives file own x (Some (codes "level without use: %prec " ++ text_of x.name))

-- The text for an actual of an `%on_error_reduce` declaration that is not used.
pub data IsUnusedDeclaration (j : Joined) (used : List DeclaredName) (before rank item : ℕ) : Option Text → Type 0 where
  absent : actual_of j before rank item ≡ None → IsUnusedDeclaration j used before rank item None
  used : (actual : Applied) → actual_of j before rank item ≡ Some actual → Contains used (declared (before + rank) (text j (term_of actual))) → IsUnusedDeclaration j used before rank item None
  unused : (actual : Applied) → actual_of j before rank item ≡ Some actual → (Contains used (declared (before + rank) (text j (term_of actual))) → ⊥) → IsUnusedDeclaration j used before rank item (Some (codes "reduction on errors without use: " ++ text j (term_of actual)))

-- The text for a head of an actual; only the first head of an actual has one.
pub data IsActualWarning (j : Joined) (used : List DeclaredName) (before : ℕ) (seen : List ActualOf) (actual : ActualOf) : Option Text → Type 0 where
  again : ((Contains seen actual → ⊥) → ⊥) → IsActualWarning j used before seen actual None
  first : (text : Option Text) → (Contains seen actual → ⊥) → IsUnusedDeclaration j used before actual.rank actual.item text → IsActualWarning j used before seen actual text

-- The line of a warning at a place, if there is one.
abbrev pub warning_lines : ℕ → ℕ → Option Text → List Line
warning_lines file start None = []
warning_lines file start (Some text) = line (InFile file start) text ∷ []

-- The line of a file whose name is one of the names before.
abbrev pub repeated_lines : Bool → ℕ → List Line
repeated_lines true file = line (OfFile file) (codes "file named twice") ∷ []
repeated_lines false file = []

-- The lines are those of file `at`.
abbrev pub AreLinesOfFileAt : Checked → ℕ → List Line → Type 0
AreLinesOfFileAt c at lines = (p : PlacedModule) → slice_get c.stages.found at ≡ Some p → AreLinesOfFile c.stages c.built c.meanings (at, p) lines
