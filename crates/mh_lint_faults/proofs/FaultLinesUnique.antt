-- Files have one list of lines for their faults, or one accepted grammar with one value at each stage, and not both.
use Rattle.std.proofs.Common.{◌≡◌, ℕ, ◌+◌, ◌++◌, Bool, List, [], ◌∷◌, Some, Ok, refl, sym, ap, subst, ◌∙◌}
use Rattle.std.specs.List.{enumerate_from}
use Rattle.std.specs.Prelude.{codes}
use Rattle.std.proofs.lemmas.Option.{none-some}
use Rattle.mh_expand.proofs.UniqueOrder as order
use Rattle.mh_expand.specs.Expansion.{IsExpanded}
use Rattle.mh_front.proofs.GrammarUnique as grammars
use Rattle.mh_front.specs.Stages.{IsGrammarFault, IsGrammarOfModules, IsJoinedFault}
use Rattle.mh_front.specs.Texts.{grammar_fault_text}
use Rattle.mh_front.specs.declared.fault.GrammarFault.{GrammarFault}
use Rattle.mh_front.specs.declared.fault.GrammarFault.TheVariants as front
use Rattle.mh_inline.proofs.UniqueGrammar as instances
use Rattle.mh_inline.specs.GrammarOfInstances.{IsGrammarOf}
use Rattle.mh_join.proofs.JoinedReady as joins
use Rattle.mh_join_names.specs.Faults.{first, join_faults, meanings}
use Rattle.mh_join_names.specs.Joining.{Joins}
use Rattle.mh_join_names.specs.declared.fault.JoinFault.{JoinFault}
use Rattle.mh_reader_places.specs.Places.{ReadsPlaced}
use Rattle.mh_reader_places.specs.declared.reading.PlacedModule.{PlacedModule}
use Rattle.mh_rules.specs.declared.joined.Joined.{Joined}
use Rattle.mh_lint_findings.proofs.AreInOrder.{in_order_once}
use Rattle.mh_lint_findings.specs.Lines.{Line, line}
use Rattle.mh_lint_findings.specs.LinesInOrder.{AreInOrder}
use Rattle.mh_lint_findings.specs.LinesInOrder as lines
use Rattle.mh_lint_findings.specs.declared.findings.GrammarFile.{GrammarFile}
use Rattle.mh_lint_findings.specs.declared.findings.Position.{Position}
use Rattle.mh_lint_findings.specs.declared.findings.Position.TheVariants.{InFile}
use Rattle.mh_lint_faults.specs.FaultLines.{AreFaultLines, AreSyntaxLines, IsFaultAt, join_lines}
use Rattle.mh_lint_faults.specs.FaultLines as faults
use Rattle.mh_lint_faults.specs.Stages.{AreAccepted, AreJoined, AreRead, Stages, modules_of}
use Rattle.mh_lint_faults.proofs.FirstPositions.{fault_position_once}
use Rattle.mh_lint_faults.proofs.IsSyntaxPlace.{read_without_fault, syntax_place_once}
use Rattle.mh_lint_faults.proofs.ReadsPlaced.{read_once}

-- ---- Syntax faults.

syntax_once : (e : ℕ × GrammarFile) (xs ys : List Line) → AreSyntaxLines e xs → AreSyntaxLines e ys → xs ≡ ys
syntax_once e xs ys (faults.AreSyntaxLines.spelled found reads) (faults.AreSyntaxLines.spelled other so) = refl
syntax_once e xs ys (faults.AreSyntaxLines.spelled found reads) (faults.AreSyntaxLines.faulty start is) = absurd (read_without_fault e.1.bytes found start reads is)
syntax_once e xs ys (faults.AreSyntaxLines.faulty start is) (faults.AreSyntaxLines.spelled found reads) = absurd (read_without_fault e.1.bytes found start reads is)
syntax_once e xs ys (faults.AreSyntaxLines.faulty start is) (faults.AreSyntaxLines.faulty other so) = ap (λ at. line (InFile e.0 at) (codes "syntax error") ∷ []) (syntax_place_once e.1.bytes start other is so)

-- A file that is read has no line.
read_lines : (e : ℕ × GrammarFile) (p : PlacedModule) (xs : List Line) → ReadsPlaced e.1.bytes p → AreSyntaxLines e xs → xs ≡ []
read_lines e p xs reads (faults.AreSyntaxLines.spelled found so) = refl
read_lines e p xs reads (faults.AreSyntaxLines.faulty start is) = absurd (read_without_fault e.1.bytes p start reads is)

no_syntax_lines : (n : ℕ) (files : List GrammarFile) (found : List PlacedModule) (xs : List Line) → AreRead files found → AreInOrder AreSyntaxLines (enumerate_from n files) xs → xs ≡ []
no_syntax_lines n [] found xs reads lines.AreInOrder.none = refl
no_syntax_lines n (f ∷ files) [] xs reads h = absurd reads
no_syntax_lines n (f ∷ files) (p ∷ found) xs reads (lines.AreInOrder.more {lines = here} {rest = rest} is others e) =
    e ∙ ap (λ ls. ls ++ rest) (read_lines (n, f) p here reads.0 is) ∙ no_syntax_lines (n + 1) files found rest reads.1 others

not_read_and_faulty : (files : List GrammarFile) (found : List PlacedModule) (x : Line) (xs : List Line) → AreRead files found → AreInOrder AreSyntaxLines (enumerate_from 0 files) (x ∷ xs) → ⊥
not_read_and_faulty files found x xs reads h = let none : x ∷ xs ≡ [] = no_syntax_lines 0 files found (x ∷ xs) reads h in cc

module _ (prelude : Bool) (files : List GrammarFile) where
  -- ---- Faults of names and of instances.

  not_joined_and_faulty : (found others : List PlacedModule) (j : Joined) (fault : JoinFault) → AreRead files found → first (join_faults prelude (modules_of found)) ≡ Some fault → AreJoined prelude files others j → ⊥
  not_joined_and_faulty found others j fault reads e h =
      let same = read_once files found others reads h.read in
      let there : first (join_faults prelude (modules_of others)) ≡ Some fault = subst (λ fs. first (join_faults prelude (modules_of fs)) ≡ Some fault) same e in
      none-some fault (sym (ap first h.joins.0) ∙ there)

  grammar_fault : (found : List PlacedModule) (j : Joined) (fault : GrammarFault) → AreJoined prelude files found j → IsJoinedFault j fault → IsGrammarFault prelude (modules_of found) fault
  grammar_fault found j (front.Join fault) h is = absurd is
  grammar_fault found j (front.Expand fault) h is = record { joined = j; joins = h.joins; is_fault = is }
  grammar_fault found j (front.Inline fault) h is = record { joined = j; joins = h.joins; is_fault = is }
  grammar_fault found j front.Memory h is = absurd is

  -- Joined files with their first fault, and its position.
  record HasFault (found : List PlacedModule) (j : Joined) (fault : GrammarFault) (at : Position) : Type 0 where
    joined : AreJoined prelude files found j
    is : IsJoinedFault j fault
    here : IsFaultAt (meanings prelude (modules_of found)) found j fault at

  fault_once : (found : List PlacedModule) (j k : Joined) (e f : GrammarFault) (a b : Position) → HasFault found j e a → HasFault found k f b → line a (grammar_fault_text e) ∷ [] ≡ line b (grammar_fault_text f) ∷ []
  fault_once found j k e f a b h g =
      let one : e ≡ f = grammars.one_fault prelude (modules_of found) e f (grammar_fault found j e h.joined h.is) (grammar_fault found k f g.joined g.is) in
      let same : k ≡ j = joins.one_joined prelude (modules_of found) k j g.joined.joins h.joined.joins in
      let w = meanings prelude (modules_of found) in
      let there : IsFaultAt w found j e b = subst (λ x. IsFaultAt w found j x b) (sym one) (subst (λ i. IsFaultAt w found i f b) same g.here) in
      ap (λ at. line at (grammar_fault_text e) ∷ []) (fault_position_once w found j e a b h.here there) ∙ ap (λ x. line b (grammar_fault_text x) ∷ []) one

  instances_once : (found others : List PlacedModule) (j k : Joined) (e f : GrammarFault) (a b : Position) → HasFault found j e a → HasFault others k f b → line a (grammar_fault_text e) ∷ [] ≡ line b (grammar_fault_text f) ∷ []
  instances_once found others j k e f a b h g = fault_once found j k e f a b h (subst (λ fs. HasFault fs k f b) (read_once files others found g.joined.read h.joined.read) g)

-- ---- The laws.

-- Two lists of lines for the faults of the same files are equal.
pub fault_lines_once : (prelude : Bool) (files : List GrammarFile) (x y : List Line) → AreFaultLines prelude files x → AreFaultLines prelude files y → x ≡ y
fault_lines_once prelude files x y (faults.AreFaultLines.syntax a xs is) (faults.AreFaultLines.syntax b bs so) = in_order_once AreSyntaxLines syntax_once (enumerate_from 0 files) (a ∷ xs) (b ∷ bs) is so
fault_lines_once prelude files x y (faults.AreFaultLines.syntax a xs is) (faults.AreFaultLines.names found fault reads e) = absurd (not_read_and_faulty files found a xs reads is)
fault_lines_once prelude files x y (faults.AreFaultLines.syntax a xs is) (faults.AreFaultLines.instances found joined fault at h real here) = absurd (not_read_and_faulty files found a xs h.read is)
fault_lines_once prelude files x y (faults.AreFaultLines.names found fault reads e) (faults.AreFaultLines.syntax a xs is) = absurd (not_read_and_faulty files found a xs reads is)
fault_lines_once prelude files x y (faults.AreFaultLines.names found fault reads e) (faults.AreFaultLines.names others other so f) = ap (λ fs. join_lines (meanings prelude (modules_of fs)) fs) (read_once files found others reads so)
fault_lines_once prelude files x y (faults.AreFaultLines.names found fault reads e) (faults.AreFaultLines.instances others joined other at h real here) = absurd (not_joined_and_faulty prelude files found others joined fault reads e h)
fault_lines_once prelude files x y (faults.AreFaultLines.instances found joined fault at h real here) (faults.AreFaultLines.syntax a xs is) = absurd (not_read_and_faulty files found a xs h.read is)
fault_lines_once prelude files x y (faults.AreFaultLines.instances others joined other at h real here) (faults.AreFaultLines.names found fault reads e) = absurd (not_joined_and_faulty prelude files found others joined fault reads e h)
fault_lines_once prelude files x y (faults.AreFaultLines.instances found j e a h real here) (faults.AreFaultLines.instances others k f b g so there) =
    instances_once prelude files found others j k e f a b (record { joined = h; is = real; here = here }) (record { joined = g; is = so; here = there })

stages_same : (s t : Stages) → s.found ≡ t.found → s.joined ≡ t.joined → s.expanded ≡ t.expanded → s.grammar ≡ t.grammar → s ≡ t
stages_same s t found joined expanded grammar = λ i. record { found = found i; joined = joined i; expanded = expanded i; grammar = grammar i }

-- Two values of the stages of the same files are equal.
pub accepted_once : (prelude : Bool) (files : List GrammarFile) (s t : Stages) → AreAccepted prelude files s → AreAccepted prelude files t → s ≡ t
accepted_once prelude files s t a b =
    let found : s.found ≡ t.found = read_once files s.found t.found a.joined.read b.joined.read in
    let joins_there : Joins prelude (modules_of s.found) (Ok t.joined) = subst (λ fs. Joins prelude (modules_of fs) (Ok t.joined)) (sym found) b.joined.joins in
    let joined : s.joined ≡ t.joined = joins.one_joined prelude (modules_of s.found) s.joined t.joined a.joined.joins joins_there in
    let expands : IsExpanded s.joined t.expanded = subst (λ j. IsExpanded j t.expanded) (sym joined) b.expanded in
    let expanded : s.expanded ≡ t.expanded = order.expanded_unique s.joined s.expanded t.expanded a.expanded expands in
    let has : IsGrammarOf s.expanded t.grammar = subst (λ e. IsGrammarOf e t.grammar) (sym expanded) b.grammar in
    stages_same s t found joined expanded (instances.one_grammar s.expanded s.grammar t.grammar a.grammar.inlined has.inlined)

-- Files with a grammar have no line for a fault.
pub accepted_faultless : (prelude : Bool) (files : List GrammarFile) (s : Stages) (x : List Line) → AreAccepted prelude files s → AreFaultLines prelude files x → ⊥
accepted_faultless prelude files s x a (faults.AreFaultLines.syntax b bs is) = not_read_and_faulty files s.found b bs a.joined.read is
accepted_faultless prelude files s x a (faults.AreFaultLines.names found fault reads e) = not_joined_and_faulty prelude files found s.found s.joined fault reads e a.joined
accepted_faultless prelude files s x a (faults.AreFaultLines.instances found j fault at h real here) =
    let same = read_once files s.found found a.joined.read h.read in
    let has : IsGrammarOfModules prelude (modules_of s.found) s.grammar = record { joined = s.joined; joins = a.joined.joins; grammar = record { expanded = s.expanded; expands = a.expanded; grammar = a.grammar } } in
    let there : IsGrammarOfModules prelude (modules_of found) s.grammar = subst (λ fs. IsGrammarOfModules prelude (modules_of fs) s.grammar) same has in
    grammars.not_grammar_and_fault prelude (modules_of found) s.grammar fault there (grammar_fault prelude files found j fault h real)
