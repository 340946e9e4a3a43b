-- Where the faults of instances are reported, and what the examination says of accepted files.
use Rattle.std.proofs.Common.{◌≡◌, Bool, List, [], ◌∷◌, None, Some, Ok, Err, length, map, refl, sym, ap, subst, ◌∙◌, inl, inr}
use Rattle.std.proofs.lemmas.List.{length-map}
use Rattle.std.specs.Global.{Vec}
use Rattle.mh_grammar.specs.Text.{Text}
use Rattle.mh_grammar.specs.declared.types.Grammar.{Grammar}
use Rattle.mh_expand.specs.Expansion.{IsExpanded}
use Rattle.mh_expand.specs.declared.fault.ExpandFault.TheVariants as expanding
use Rattle.mh_front.specs.Stages.{HasCauseOrMemory, IsJoinedFault}
use Rattle.mh_front.specs.declared.fault.GrammarFault.{GrammarFault}
use Rattle.mh_front.specs.declared.fault.GrammarFault.TheVariants as front
use Rattle.mh_inline.specs.GrammarOfInstances.{IsGrammarOf}
use Rattle.mh_inline.specs.declared.fault.InlineFault.TheVariants as inlining
use Rattle.mh_join_names.specs.Faults.{Meanings, join_faults, meanings}
use Rattle.mh_join_names.specs.Faults.{first as join_first}
use Rattle.mh_join_names.specs.Joining.{Joins, token_info}
use Rattle.mh_join_names.specs.declared.fault.JoinFault.{JoinFault}
use Rattle.mh_join_names.specs.declared.fault.JoinFault.TheVariants as joining
use Rattle.mh_join_names.specs.declared.names.SymbolTables.{SymbolTables}
use Rattle.mh_join_names.specs.code.SymbolTables.{HasMeanings, meanings_in}
use Rattle.mh_reader_places.specs.declared.reading.PlacedModule.{PlacedModule}
use Rattle.mh_rules.specs.declared.instances.Expanded.{Expanded}
use Rattle.mh_rules.specs.declared.joined.Joined.{Joined}
use Rattle.std.specs.List.{enumerate_from}
use Rattle.mh_rules.specs.Ready.{AreModulesReady, IsExpandedReady}
use Rattle.mh_rules.specs.declared.modules.Module.{Module}
use Rattle.mh_lint_findings.specs.Lines.{line_of, lines_of}
use Rattle.mh_lint_findings.specs.LinesInOrder.{AreInOrder}
use Rattle.mh_lint_findings.specs.declared.findings.Finding.{Finding}
use Rattle.mh_lint_findings.specs.declared.findings.GrammarFile.{GrammarFile}
use Rattle.mh_lint_findings.specs.declared.findings.Position.{Position}
use Rattle.mh_lint_findings.specs.declared.findings.Position.TheVariants.{OfFile}
use Rattle.mh_lint_faults.specs.FaultLines.{AreFaultLines, AreSyntaxLines, IsFaultAt, IsRulePosition, IsWrongTerm, join_lines, named_instance}
use Rattle.mh_lint_faults.specs.FaultLines as faults
use Rattle.mh_lint_faults.specs.Stages.{AreRead, modules_of}
use Rattle.mh_lint_faults.specs.code.Examining.{AreAcceptedReady, AreJoinedFiles, AreJoinedReady, IsExaminedAs, ReportsAt}
use Rattle.mh_lint_faults.specs.code.ReadFiles.{AreAllRead, AreFilesRead, IsSplit}
use Rattle.mh_lint_faults.specs.declared.reading.ReadFiles.{ReadFiles}
use Rattle.mh_lint_faults.specs.code.FirstMentions.{IsWrongAt}
use Rattle.mh_lint_faults.specs.code.FirstMentions as first
use Rattle.mh_lint_faults.specs.declared.front.Examined.TheVariants.{Accepted, Faulty}
use Rattle.mh_lint_faults.specs.declared.front.JoinedFiles.{JoinedFiles}

pub reports_weaker : (P Q : Position → Type 0) (fault : GrammarFault) (fs : List Finding) → ((at : Position) → P at → Q at) → ReportsAt P fault fs → ReportsAt Q fault fs
reports_weaker P Q fault fs weaker h = record { at = h.at; here = weaker h.at h.here; lines = h.lines }

-- A fault that is reported at a position with this property.
pub reports_there : (P : Position → Type 0) (at : Position) (fault : GrammarFault) (fs : List Finding) → P at → ReportsAt (λ p. p ≡ at) fault fs → ReportsAt P fault fs
reports_there P at fault fs here h = reports_weaker (λ p. p ≡ at) P fault fs (λ p e. subst P (sym e) here) h

module _ (w : Meanings) (found : List PlacedModule) (j : Joined) where
  -- ---- The place of a fault.

  pub expansion_at : (fault : GrammarFault) (name : Text) (at : Position) → fault ≡ front.Expand (expanding.Expansion name) → IsRulePosition w found j name at → IsFaultAt w found j fault at
  expansion_at fault name at e is = subst (λ f. IsFaultAt w found j f at) (sym e) (faults.IsFaultAt.at_rule name at (λ h. (let bad = h.1 in cc)) refl is)

  pub cycle_at : (fault : GrammarFault) (name : Text) (at : Position) → fault ≡ front.Inline (inlining.InlineCycle name) → IsRulePosition w found j name at → IsFaultAt w found j fault at
  cycle_at fault name at e is = subst (λ f. IsFaultAt w found j f at) (sym e) (faults.IsFaultAt.at_rule name at (λ h. (let bad = h.1 in cc)) refl is)

  pub start_at : (fault : GrammarFault) (name : Text) (at : Position) → fault ≡ front.Inline (inlining.InlineStart name) → IsRulePosition w found j name at → IsFaultAt w found j fault at
  start_at fault name at e is = subst (λ f. IsFaultAt w found j f at) (sym e) (faults.IsFaultAt.at_rule name at (λ h. (let bad = h.1 in cc)) refl is)

  pub empty_at : (fault : GrammarFault) (name : Text) (at : Position) → fault ≡ front.Inline (inlining.EmptyLanguage name) → IsRulePosition w found j name at → IsFaultAt w found j fault at
  empty_at fault name at e is = subst (λ f. IsFaultAt w found j f at) (sym e) (faults.IsFaultAt.at_rule name at (λ h. (let bad = h.1 in cc)) refl is)

  pub grammar_at : (fault : GrammarFault) → fault ≡ front.Inline inlining.TooManyProductions → IsFaultAt w found j fault (OfFile 0)
  grammar_at fault e = faults.IsFaultAt.of_grammar e

  -- A wrong number of arguments is reported at the first term, if there is one.
  pub arity_at_term : (fault : GrammarFault) (printed : Text) (at : Position) → fault ≡ front.Expand (expanding.Arity printed) → IsWrongAt found j printed (Some at) → IsFaultAt w found j fault at
  arity_at_term fault printed at e (first.IsWrongAt.first file before x is) = faults.IsFaultAt.at_term file before x printed e is

  arity_same : (a b : Text) → front.Expand (expanding.Arity a) ≡ front.Expand (expanding.Arity b) → a ≡ b
  arity_same a b e = cc

  pub arity_at_rule : (fault : GrammarFault) (printed : Text) (at : Position) → fault ≡ front.Expand (expanding.Arity printed) → IsWrongAt found j printed None → IsRulePosition w found j printed at → IsFaultAt w found j fault at
  arity_at_rule fault printed at e (first.IsWrongAt.none none) is =
      faults.IsFaultAt.at_rule printed at (λ h. none h.2 h.3 h.4 (subst (λ p. IsWrongTerm found j h.2 h.3 h.4 p) (arity_same h.0 printed (sym h.1 ∙ e)) h.5)) (ap named_instance e) is

  -- ---- The fault of joined files.

  -- A fault with a place is no lack of memory.
  never_memory : (at : Position) → IsFaultAt w found j front.Memory at → ⊥
  never_memory at (faults.IsFaultAt.at_term file before x printed e is) = cc
  never_memory at (faults.IsFaultAt.at_rule printed _ none e is) = cc
  never_memory at (faults.IsFaultAt.of_grammar e) = cc

  pub is_joined_fault : (fault : GrammarFault) (at : Position) → HasCauseOrMemory (IsJoinedFault j) fault → IsFaultAt w found j fault at → IsJoinedFault j fault
  is_joined_fault (front.Join f) at h is = h
  is_joined_fault (front.Expand f) at h is = h
  is_joined_fault (front.Inline f) at h is = h
  is_joined_fault front.Memory at h is = absurd (never_memory at is)

-- The examination reports the fault of joined files.
pub instances_examined : (files : JoinedFiles) (fault : GrammarFault) (findings : Vec Finding) → HasCauseOrMemory (IsJoinedFault files.joined) fault → ((found : List PlacedModule) → IsSplit found files.read → ReportsAt (IsFaultAt (meanings_in files.names) found files.joined fault) fault findings.items)
    → (given : List GrammarFile) (prelude : Bool) (found : List PlacedModule) → AreJoinedFiles prelude given found files → IsExaminedAs given prelude (Faulty findings)
instances_examined files fault findings cause reports given prelude found h =
    let one = reports found h.read in
    let real = is_joined_fault (meanings_in files.names) found files.joined fault one.at cause one.here in
    let there : IsFaultAt (meanings prelude (modules_of found)) found files.joined fault one.at = subst (λ w. IsFaultAt w found files.joined fault one.at) h.names.meanings_are one.here in
    subst (AreFaultLines prelude given) (sym one.lines) (faults.AreFaultLines.instances found files.joined fault one.at h.joined real there)

-- The examination accepts the files.
pub accepted_examined : (files : JoinedFiles) (expanded : Expanded) (grammar : Grammar) → IsExpanded files.joined expanded → IsGrammarOf expanded grammar
    → (given : List GrammarFile) (prelude : Bool) (found : List PlacedModule) → AreJoinedFiles prelude given found files → IsExaminedAs given prelude (Accepted (record { read = files.read; names = files.names; joined = files.joined; expanded = expanded }) grammar)
accepted_examined files expanded grammar expands is given prelude found h = (
  record { found = found; joined = files.joined; expanded = expanded; grammar = grammar },
  record {
    accepts = record { joined = h.joined; expanded = expands; grammar = is };
    read = h.read;
    names = h.names;
    joined = refl;
    expanded = refl;
    grammar_is = refl;
  },
)

-- The accepted files are ready for the calls that report on them.
pub accepted_ready : (files : JoinedFiles) (expanded : Expanded) (grammar : Grammar) → AreJoinedReady files → IsExpandedReady expanded → IsGrammarOf expanded grammar → AreAcceptedReady (record { read = files.read; names = files.names; joined = files.joined; expanded = expanded })
accepted_ready files expanded grammar h ready is = record { places = h.places; joined = h.joined; tokens = h.tokens; expanded = ready; grammar = (grammar, is) }

-- There is one name for each token of joined files.
pub tokens_named : (prelude : Bool) (ms : List Module) (names : SymbolTables) (j : Joined) → HasMeanings prelude ms names → Joins prelude ms (Ok j) → length names.tokens.keys ≡ length j.tokens
tokens_named prelude ms names j h joins =
    let w = meanings prelude ms in
    let there : length names.tokens.keys ≡ length w.tokens = ap (λ (v : Meanings). length v.tokens) h.meanings_are in
    let each : length (map (token_info w) w.tokens) ≡ length w.tokens = length-map w.tokens (token_info w) in
    there ∙ sym each ∙ sym (ap (λ ts. length ts) joins.1.tokens_are)

-- The files that were read, and then joined.
pub files_joined : (given : List GrammarFile) (prelude : Bool) (found : List PlacedModule) (read : ReadFiles) (names : SymbolTables) (j : Joined) → AreRead given found → IsSplit found read → HasMeanings prelude read.modules.items names → Joins prelude read.modules.items (Ok j) → AreJoinedFiles prelude given found (record { read = read; names = names; joined = j })
files_joined given prelude found read names j reads split h joins = record {
  joined = record { read = reads; joins = subst (λ ms. Joins prelude ms (Ok j)) split.modules joins };
  read = split;
  names = subst (λ ms. HasMeanings prelude ms names) split.modules h;
}

-- Files whose names have faults are reported with all of them.
pub names_examined : (given : List GrammarFile) (prelude : Bool) (found : List PlacedModule) (read : ReadFiles) (names : SymbolTables) (fault : JoinFault) (findings : Vec Finding) → AreRead given found → IsSplit found read → HasMeanings prelude read.modules.items names → Joins prelude read.modules.items (Err fault) → (fault ≡ joining.Memory → ⊥)
    → lines_of findings.items ≡ join_lines (meanings_in names) found → IsExaminedAs given prelude (Faulty findings)
names_examined given prelude found read names fault findings reads split h joins real lines =
    let named : HasMeanings prelude (modules_of found) names = subst (λ ms. HasMeanings prelude ms names) split.modules h in
    subst (AreFaultLines prelude given) (sym (lines ∙ ap (λ w. join_lines w found) named.meanings_are)) (faults.AreFaultLines.names found fault reads (is_first (subst (λ ms. Joins prelude ms (Err fault)) split.modules joins)))
  where
    is_first : Joins prelude (modules_of found) (Err fault) → join_first (join_faults prelude (modules_of found)) ≡ Some fault
    is_first (inl e) = absurd (real e)
    is_first (inr e) = e

-- Files of which some have syntax faults are reported with these.
pub syntax_examined : (files : List GrammarFile) (prelude : Bool) (read : ReadFiles) (found : Vec Finding) → AreFilesRead files read found.items → (found.items ≡ [] → ⊥) → IsExaminedAs files prelude (Faulty found)
syntax_examined files prelude read found h some = with_first found.items h.lines some
  where
    with_first : (fs : List Finding) → AreInOrder AreSyntaxLines (enumerate_from 0 files) (lines_of fs) → (fs ≡ [] → ⊥) → AreFaultLines prelude files (lines_of fs)
    with_first [] is none = absurd (none refl)
    with_first (f ∷ fs) is none = faults.AreFaultLines.syntax (line_of f) (lines_of fs) is

-- The modules that were read are ready, if the files are.
pub modules_ready : (files : List GrammarFile) (read : ReadFiles) → AreAllRead files read → AreModulesReady read.modules.items
modules_ready files read all = subst AreModulesReady (sym all.split.modules) all.ready
