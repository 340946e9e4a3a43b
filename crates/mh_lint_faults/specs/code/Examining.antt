-- The contract of the call that examines the files of a grammar.
use Rattle.std.specs.Prelude.{◌≡◌, Bool, List, [], ◌∷◌, ⊤, length}
use Rattle.std.specs.Global.{Vec}
use Rattle.std.specs.List.{All}
use Rattle.mh_grammar.specs.declared.types.Grammar.{Grammar}
use Rattle.mh_rules.specs.Ready.{IsExpandedReady, IsJoinedReady}
use Rattle.mh_inline.specs.GrammarOfInstances.{IsGrammarOf}
use Rattle.mh_join_names.specs.code.SymbolTables.{HasMeanings}
use Rattle.mh_front.specs.Texts.{grammar_fault_text}
use Rattle.mh_front.specs.declared.fault.GrammarFault.{GrammarFault}
use Rattle.mh_reader_places.specs.declared.reading.PlacedModule.{PlacedModule}
use Rattle.mh_lint_findings.specs.Lines.{line, lines_of}
use Rattle.mh_lint_findings.specs.Positions.{IsPositionWithin}
use Rattle.mh_lint_findings.specs.declared.findings.Finding.{Finding}
use Rattle.mh_lint_findings.specs.declared.findings.Position.{Position}
use Rattle.mh_lint_findings.specs.declared.findings.GrammarFile.{GrammarFile}
use Rattle.mh_lint_faults.specs.FaultLines.{AreFaultLines}
use Rattle.mh_lint_faults.specs.Stages.{AreAccepted, AreJoined, Stages, modules_of}
use Rattle.mh_lint_faults.specs.code.ReadFiles.{HasPlaces, IsSplit}
use Rattle.mh_lint_faults.specs.declared.front.AcceptedFiles.{AcceptedFiles}
use Rattle.mh_lint_faults.specs.declared.front.Examined.{Examined}
use Rattle.mh_lint_faults.specs.declared.front.JoinedFiles.{JoinedFiles}
use Rattle.mh_lint_faults.specs.declared.front.Examined.TheVariants.{Faulty, Accepted}

-- The accepted files have these stages.
pub record AreStages (prelude : Bool) (files : List GrammarFile) (accepted : AcceptedFiles) (grammar : Grammar) (s : Stages) : Type 0 where
  pub accepts : AreAccepted prelude files s
  pub read : IsSplit s.found accepted.read
  pub names : HasMeanings prelude (modules_of s.found) accepted.names
  pub joined : accepted.joined ≡ s.joined
  pub expanded : accepted.expanded ≡ s.expanded
  pub grammar_is : grammar ≡ s.grammar

-- The accepted files meet the conditions of the calls that report on them: each module has its places, the joined and
-- the expanded rules are ready, there is one name for each token, and the instances have a grammar.
pub record AreAcceptedReady (accepted : AcceptedFiles) : Type 0 where
  pub places : HasPlaces accepted.read
  pub joined : IsJoinedReady accepted.joined
  pub tokens : length accepted.names.tokens.keys ≡ length accepted.joined.tokens
  pub expanded : IsExpandedReady accepted.expanded
  pub grammar : (g : Grammar) × IsGrammarOf accepted.expanded g

-- The joined files meet the conditions of the calls that expand them and report on them.
pub record AreJoinedReady (files : JoinedFiles) : Type 0 where
  pub places : HasPlaces files.read
  pub joined : IsJoinedReady files.joined
  pub tokens : length files.names.tokens.keys ≡ length files.joined.tokens

-- Files that are accepted meet these conditions.
abbrev pub IsExaminedReady : Examined → Type 0
IsExaminedReady (Faulty found) = ⊤
IsExaminedReady (Accepted accepted grammar) = AreAcceptedReady accepted

-- The files are read and joined, with their names.
pub record AreJoinedFiles (prelude : Bool) (given : List GrammarFile) (found : List PlacedModule) (files : JoinedFiles) : Type 0 where
  pub joined : AreJoined prelude given found files.joined
  pub read : IsSplit found files.read
  pub names : HasMeanings prelude (modules_of found) files.names

-- The findings are the one line of the fault, at a position that `At` accepts.
pub record ReportsAt (At : Position → Type 0) (fault : GrammarFault) (found : List Finding) : Type 0 where
  pub at : Position
  pub here : At at
  pub lines : lines_of found ≡ line at (grammar_fault_text fault) ∷ []

-- Each fault is within its file.
abbrev pub AreFaultsWithin : List GrammarFile → Examined → Type 0
AreFaultsWithin files (Faulty found) = All (λ (f : Finding). IsPositionWithin files f.at) found.items
AreFaultsWithin files (Accepted accepted grammar) = ⊤

-- The files have these faults, or this grammar.
abbrev pub IsExaminedAs : List GrammarFile → Bool → Examined → Type 0
IsExaminedAs files prelude (Faulty found) = AreFaultLines prelude files (lines_of found.items)
IsExaminedAs files prelude (Accepted accepted grammar) = (s : Stages) × AreStages prelude files accepted grammar s
