-- The lines for the faults of the files of a grammar (this project's own; the faults are those for which the other
-- modes refuse the files, and have their texts).
use Rattle.std.specs.Prelude.{◌≡◌, ◌<◌, ◌≤◌, ◌⊎◌, ◌+◌, ◌++◌, ℕ, Bool, false, List, [], ◌∷◌, map, codes, Option, None, Some, slice_get}
use Rattle.std.specs.List.{Contains, enumerate_from, flat_map}
use Rattle.mh_grammar.specs.Text.{Text}
use Rattle.mh_rules.specs.declared.modules.Module.{Module}
use Rattle.mh_rules.specs.declared.joined.Joined.{Joined}
use Rattle.mh_rules.specs.declared.joined.Applied.{Applied}
use Rattle.mh_rules.specs.declared.joined.JoinedAlternative.{JoinedAlternative}
use Rattle.mh_rules.specs.declared.joined.JoinedRule.{JoinedRule}
use Rattle.mh_expand.specs.Expansion.{HasRightArity}
use Rattle.mh_expand.specs.Terms.{term_of, text}
use Rattle.mh_expand.specs.declared.fault.ExpandFault.TheVariants as expanding
use Rattle.mh_front.specs.Stages.{IsJoinedFault}
use Rattle.mh_front.specs.Texts.{join_text, grammar_fault_text}
use Rattle.mh_front.specs.declared.fault.GrammarFault.{GrammarFault}
use Rattle.mh_front.specs.declared.fault.GrammarFault.TheVariants as front
use Rattle.mh_inline.specs.declared.fault.InlineFault.TheVariants as inlining
use Rattle.mh_join_names.specs.Names.{owner_in}
use Rattle.mh_join_names.specs.Faults.{Meanings, meanings, text_of, join_faults, first}
use Rattle.mh_join_names.specs.declared.fault.JoinFault.{JoinFault}
use Rattle.mh_reader_places.specs.Places.{ReadsPlaced}
use Rattle.mh_reader_parser.specs.Faults.{IsSyntaxPlace}
use Rattle.mh_reader_places.specs.declared.mentions.Mention.{Mention}
use Rattle.mh_reader_places.specs.declared.mentions.Role.{Role}
use Rattle.mh_reader_places.specs.declared.mentions.Role.TheVariants as roles
use Rattle.mh_reader_places.specs.declared.reading.PlacedModule.{PlacedModule}
use Rattle.mh_lint_findings.specs.Lines.{Line, line}
use Rattle.mh_lint_findings.specs.LinesInOrder.{AreInOrder}
use Rattle.mh_lint_findings.specs.declared.findings.GrammarFile.{GrammarFile}
use Rattle.mh_lint_findings.specs.declared.findings.Position.{Position}
use Rattle.mh_lint_findings.specs.declared.findings.Position.TheVariants.{InFile, OfFile}
use Rattle.mh_lint_faults.specs.NameFaults.{name_faults, grammar_faults}
use Rattle.mh_lint_faults.specs.Terms.{has_formals}
use Rattle.mh_lint_faults.specs.Stages.{AreRead, AreJoined, Mentions, modules_of}

-- ---- Syntax faults.

-- The first syntax fault of file number e.0, if the file has one.
pub data AreSyntaxLines (e : ℕ × GrammarFile) : List Line → Type 0 where
  spelled : (found : PlacedModule) → ReadsPlaced e.1.bytes found → AreSyntaxLines e []
  faulty : (start : ℕ) → IsSyntaxPlace e.1.bytes start → AreSyntaxLines e (line (InFile e.0 start) (codes "syntax error") ∷ [])

-- ---- Faults of names.

-- The lines for faults at positions of a file.
abbrev pub fault_lines : ℕ → List (ℕ × JoinFault) → List Line
fault_lines file faults = map (λ (f : ℕ × JoinFault). line (InFile file f.0) (join_text f.1)) faults

-- The lines for the faults of the names of file number e.0, counted from 0.
abbrev pub name_lines : Meanings → ℕ × PlacedModule → List Line
name_lines w e = fault_lines e.0 (name_faults w (e.0 + 1) e.1.module e.1.mentions)

-- The lines for the faults that have no place.
abbrev pub grammar_lines : Meanings → List Line
grammar_lines w = map (λ (f : JoinFault). line (OfFile 0) (join_text f)) (grammar_faults w)

-- The lines for all faults for which the files cannot be joined. Those of all files together are reported for the
-- first.
abbrev pub join_lines : Meanings → List PlacedModule → List Line
join_lines w found = flat_map (name_lines w) (enumerate_from 0 found) ++ grammar_lines w

-- ---- Faults of instances.

-- The number of the rule that a mention in file k defines, if the mention is the name of a definition.
abbrev pub rule_in_role : Meanings → ℕ → Module → Text → Role → Option ℕ
rule_in_role w k m name roles.Rule = w.numbers.rule (owner_in w.starts k m.rules name) name
rule_in_role w k m name _ = None

abbrev pub rule_at : Meanings → ℕ → Module → Mention → Option ℕ
rule_at w k m x = rule_in_role w k m (text_of x.name) x.role

-- The mention after `before` in a file is the name of a definition of the rule with this number.
pub record IsDefinition (w : Meanings) (found : List PlacedModule) (file : ℕ) (before : List Mention) (x : Mention) (number : ℕ) : Type 0 where
  pub of_file : Mentions found file before x
  pub number_is : rule_at w (file + 1) of_file.placed.module x ≡ Some number

-- The mention is the first definition of its rule, in the order of files and texts.
pub record IsFirstDefinition (w : Meanings) (found : List PlacedModule) (file : ℕ) (before : List Mention) (x : Mention) (number : ℕ) : Type 0 where
  pub is : IsDefinition w found file before x number
  pub first_here : (earlier : List Mention) (y : Mention) (later : List Mention) → before ≡ earlier ++ y ∷ later → IsDefinition w found file earlier y number → ⊥
  pub first_file : (other : ℕ) (others : List Mention) (y : Mention) → other < file → IsDefinition w found other others y number → ⊥

-- The printed name of the instance or of the rule of a fault of instances; a fault of the whole grammar has none.
abbrev pub named_instance : GrammarFault → Option Text
named_instance (front.Expand (expanding.Arity instance)) = Some instance
named_instance (front.Expand (expanding.Expansion name)) = Some name
named_instance (front.Inline (inlining.InlineCycle instance)) = Some instance
named_instance (front.Inline (inlining.InlineStart name)) = Some name
named_instance (front.Inline (inlining.EmptyLanguage name)) = Some name
named_instance other = None

-- The printed name is this name, alone or with arguments in brackets after it.
abbrev pub IsNamePart : Text → Text → Type 0
IsNamePart name printed = (printed ≡ name) ⊎ ((arguments : Text) × (printed ≡ name ++ 40 ∷ arguments))

-- The mention is the first head of a producer of an alternative; the producer is a term without formals that has this
-- printed name and a wrong number of arguments.
pub record IsWrongTerm (found : List PlacedModule) (joined : Joined) (file : ℕ) (before : List Mention) (x : Mention) (printed : Text) : Type 0 where
  pub place : ℕ
  pub producer : ℕ
  pub of_file : Mentions found file before x
  pub role_is : x.role ≡ roles.Head place producer
  pub first_head : (y : Mention) → Contains before y → y.role ≡ x.role → ⊥
  pub rule : JoinedRule
  pub alternative : JoinedAlternative
  pub term : Applied
  pub of_joined : Contains joined.rules rule
  pub of_rule : Contains rule.alternatives alternative
  pub file_is : alternative.file ≡ file + 1
  pub place_is : alternative.place ≡ place
  pub of_alternative : slice_get alternative.producers producer ≡ Some term
  pub closed : has_formals term ≡ false
  pub printed_is : text joined (term_of term) ≡ printed
  pub wrong : HasRightArity joined (term_of term) → ⊥

-- The mention is the first such term in the order of files and texts.
pub record IsFirstWrongTerm (found : List PlacedModule) (joined : Joined) (file : ℕ) (before : List Mention) (x : Mention) (printed : Text) : Type 0 where
  pub is : IsWrongTerm found joined file before x printed
  pub first_here : (earlier : List Mention) (y : Mention) (later : List Mention) → before ≡ earlier ++ y ∷ later → IsWrongTerm found joined file earlier y printed → ⊥
  pub first_file : (other : ℕ) (others : List Mention) (y : Mention) → other < file → IsWrongTerm found joined other others y printed → ⊥

-- The fault is that of a wrong number of arguments, and some file has the term.
abbrev pub HasWrongTerm : List PlacedModule → Joined → GrammarFault → Type 0
HasWrongTerm found joined fault = (printed : Text) × (fault ≡ front.Expand (expanding.Arity printed)) × (file : ℕ) × (before : List Mention) × (x : Mention) × IsWrongTerm found joined file before x printed

-- Rule `number` of the joined rules begins the printed name.
pub record IsRuleNamed (joined : Joined) (printed : Text) (number : ℕ) : Type 0 where
  pub rule : JoinedRule
  pub of_joined : slice_get joined.rules number ≡ Some rule
  pub named : IsNamePart rule.name printed

-- No rule before rule `number` begins the printed name and is defined in a file.
abbrev pub IsFirstNamed : Meanings → List PlacedModule → Joined → Text → ℕ → Type 0
IsFirstNamed w found joined printed number = (file other : ℕ) (before : List Mention) (x : Mention) → other < number → IsRuleNamed joined printed other → IsDefinition w found file before x other → ⊥

-- The position of the first definition of the first rule that begins the printed name and that a file defines; the
-- first file, if no file defines such a rule.
pub data IsRulePosition (w : Meanings) (found : List PlacedModule) (joined : Joined) (printed : Text) : Position → Type 0 where
  at_definition : (file number : ℕ) (before : List Mention) (x : Mention) → IsRuleNamed joined printed number → IsFirstNamed w found joined printed number → IsFirstDefinition w found file before x number → IsRulePosition w found joined printed (InFile file x.start)
  of_all : ((file number : ℕ) (before : List Mention) (x : Mention) → IsRuleNamed joined printed number → IsDefinition w found file before x number → ⊥) → IsRulePosition w found joined printed (OfFile 0)

-- A wrong number of arguments is reported at its term, if a file has the term (the term may also arise when formals are
-- replaced); every other fault of instances at the first definition of its rule; too many productions, which are a
-- fault of the whole grammar, are reported for the first file.
pub data IsFaultAt (w : Meanings) (found : List PlacedModule) (joined : Joined) (fault : GrammarFault) : Position → Type 0 where
  at_term : (file : ℕ) (before : List Mention) (x : Mention) (printed : Text) → fault ≡ front.Expand (expanding.Arity printed) → IsFirstWrongTerm found joined file before x printed → IsFaultAt w found joined fault (InFile file x.start)
  at_rule : (printed : Text) (at : Position) → (HasWrongTerm found joined fault → ⊥) → named_instance fault ≡ Some printed → IsRulePosition w found joined printed at → IsFaultAt w found joined fault at
  of_grammar : fault ≡ front.Inline inlining.TooManyProductions → IsFaultAt w found joined fault (OfFile 0)

-- ---- All faults.

-- The lines for the faults of the files: the first syntax fault of each file; if there is none, all faults of names; if
-- there is none, the first fault of the instances.
pub data AreFaultLines (prelude : Bool) (files : List GrammarFile) : List Line → Type 0 where
  syntax : (x : Line) (lines : List Line) → AreInOrder AreSyntaxLines (enumerate_from 0 files) (x ∷ lines) → AreFaultLines prelude files (x ∷ lines)
  names : (found : List PlacedModule) (fault : JoinFault) → AreRead files found → first (join_faults prelude (modules_of found)) ≡ Some fault → AreFaultLines prelude files (join_lines (meanings prelude (modules_of found)) found)
  instances : (found : List PlacedModule) (joined : Joined) (fault : GrammarFault) (at : Position) → AreJoined prelude files found joined → IsJoinedFault joined fault → IsFaultAt (meanings prelude (modules_of found)) found joined fault at → AreFaultLines prelude files (line at (grammar_fault_text fault) ∷ [])
