-- The lines for faults are within the files.
use Rattle.std.proofs.Common.{◌≡◌, ℕ, suc, ◌+◌, ◌≤◌, Bool, List, [], ◌∷◌, ◌++◌, Some, length, map, flat_map, refl, sym, ap, subst, arith}
use Rattle.std.specs.List.{All, Contains, enumerate_from, slice_get}
use Rattle.std.proofs.lemmas.List.Elements.{All-append, All-cons, All-head, All-nil, All-tail}
use Rattle.mh_grammar.proofs.Lists.{contains_here, contains_there}
use Rattle.mh_front.specs.Texts.{join_text}
use Rattle.mh_join_names.specs.Faults.{Meanings, meanings}
use Rattle.mh_join_names.specs.declared.fault.JoinFault.{JoinFault}
use Rattle.mh_rules.specs.declared.joined.Joined.{Joined}
use Rattle.mh_rules.specs.declared.modules.Module.{Module}
use Rattle.mh_grammar.specs.Text.{Text}
use Rattle.mh_front.specs.declared.fault.GrammarFault.{GrammarFault}
use Rattle.mh_reader_places.specs.declared.mentions.Mention.{Mention}
use Rattle.mh_reader_places.specs.declared.reading.PlacedModule.{PlacedModule}
use Rattle.mh_lint_findings.specs.Lines.{Line, line, lines_of}
use Rattle.mh_lint_findings.specs.LinesInOrder.{AreInOrder}
use Rattle.mh_lint_findings.specs.LinesInOrder as order
use Rattle.mh_lint_findings.specs.Positions.{IsPositionWithin}
use Rattle.mh_lint_findings.specs.declared.findings.Finding.{Finding}
use Rattle.mh_lint_findings.specs.declared.findings.GrammarFile.{GrammarFile}
use Rattle.mh_lint_findings.specs.declared.findings.Position.{Position}
use Rattle.mh_lint_findings.specs.declared.findings.Position.TheVariants.{InFile, OfFile}
use Rattle.mh_lint_faults.specs.FaultLines.{AreFaultLines, AreSyntaxLines, IsFaultAt, IsRulePosition, fault_lines, grammar_lines, name_lines}
use Rattle.mh_lint_faults.specs.FaultLines as faults
use Rattle.mh_lint_faults.specs.NameFaults.{faults_from, faults_in_role, grammar_faults}
use Rattle.mh_lint_faults.specs.Stages.{AreRead, modules_of}
use Rattle.mh_lint_faults.specs.code.Examining.{AreFaultsWithin, IsExaminedAs}
use Rattle.mh_lint_faults.specs.declared.front.Examined.{Examined}
use Rattle.mh_lint_faults.specs.declared.front.Examined.TheVariants.{Accepted, Faulty}
use Rattle.mh_lint_faults.proofs.PositionsWithin.{mention_within, mentions_within, syntax_within}

module _ (files : List GrammarFile) where
  abbrev pub IsLineWithin : Line → Type 0
  IsLineWithin x = IsPositionWithin files x.at

  -- The files from number n on.
  abbrev pub AreFilesFrom : ℕ → List GrammarFile → Type 0
  AreFilesFrom n rest = (k : ℕ) (f : GrammarFile) → slice_get rest k ≡ Some f → slice_get files (n + k) ≡ Some f

  files_next : (n : ℕ) (f : GrammarFile) (rest : List GrammarFile) → AreFilesFrom n (f ∷ rest) → AreFilesFrom (n + 1) rest
  files_next n f rest h k g e = let there = h (suc k) g e in let same : n + suc k ≡ n + 1 + k = omega arith in subst (λ m. slice_get files m ≡ Some g) same there

  first_file : (n : ℕ) (f : GrammarFile) (rest : List GrammarFile) → AreFilesFrom n (f ∷ rest) → slice_get files n ≡ Some f
  first_file n f rest h = let there = h 0 f refl in let same : n + 0 ≡ n = omega arith in subst (λ m. slice_get files m ≡ Some f) same there

  -- ---- Syntax faults.

  syntax_line : (n : ℕ) (f : GrammarFile) (lines : List Line) → slice_get files n ≡ Some f → AreSyntaxLines (n, f) lines → All IsLineWithin lines
  syntax_line n f lines at (faults.AreSyntaxLines.spelled found reads) = All-nil IsLineWithin
  syntax_line n f lines at (faults.AreSyntaxLines.faulty start place) = All-cons IsLineWithin _ [] (f, at, syntax_within f.bytes start place) (All-nil IsLineWithin)

  syntax_lines : (n : ℕ) (rest : List GrammarFile) (lines : List Line) → AreFilesFrom n rest → AreInOrder AreSyntaxLines (enumerate_from n rest) lines → All IsLineWithin lines
  syntax_lines n [] lines h order.AreInOrder.none = All-nil IsLineWithin
  syntax_lines n (f ∷ rest) lines h (order.AreInOrder.more {lines = here} {rest = later} is others e) =
      subst (All IsLineWithin) (sym e) (All-append IsLineWithin here later (syntax_line n f here (first_file n f rest h) is) (syntax_lines (n + 1) rest later (files_next n f rest h) others))

  -- ---- Faults of names.

  placed_faults : (n start : ℕ) (f : GrammarFile) (es : List JoinFault) → slice_get files n ≡ Some f → start ≤ length f.bytes → All IsLineWithin (fault_lines n (map (λ (e : JoinFault). (start, e)) es))
  placed_faults n start f [] at l = All-nil IsLineWithin
  placed_faults n start f (e ∷ es) at l = All-cons IsLineWithin _ _ (f, at, l) (placed_faults n start f es at l)

  faults_append : (n : ℕ) (xs ys : List (ℕ × JoinFault)) → All IsLineWithin (fault_lines n xs) → All IsLineWithin (fault_lines n ys) → All IsLineWithin (fault_lines n (xs ++ ys))
  faults_append n xs ys h g = subst (All IsLineWithin) (sym (appended xs ys)) (All-append IsLineWithin (fault_lines n xs) (fault_lines n ys) h g)
    where
      appended : (first later : List (ℕ × JoinFault)) → fault_lines n (first ++ later) ≡ fault_lines n first ++ fault_lines n later
      appended [] later = refl
      appended (a ∷ first) later = ap (λ ls. line (InFile n a.0) (join_text a.1) ∷ ls) (appended first later)

  faults_within : (w : Meanings) (n : ℕ) (f : GrammarFile) (m : Module) (before xs : List Mention) → slice_get files n ≡ Some f → ((x : Mention) → Contains xs x → x.start ≤ length f.bytes) → All IsLineWithin (fault_lines n (faults_from w (n + 1) m before xs))
  faults_within w n f m before [] at h = All-nil IsLineWithin
  faults_within w n f m before (x ∷ xs) at h =
      faults_append n (map (λ (e : JoinFault). (x.start, e)) (faults_in_role w (n + 1) m before x.name x.role)) (faults_from w (n + 1) m (before ++ x ∷ []) xs)
      (placed_faults n x.start f (faults_in_role w (n + 1) m before x.name x.role) at (h x (contains_here x xs))) (faults_within w n f m (before ++ x ∷ []) xs at (λ y c. h y (contains_there x xs y c)))

  names_from : (w : Meanings) (n : ℕ) (rest : List GrammarFile) (found : List PlacedModule) → AreFilesFrom n rest → AreRead rest found → All IsLineWithin (flat_map (name_lines w) (enumerate_from n found))
  names_from w n rest [] h reads = All-nil IsLineWithin
  names_from w n [] (p ∷ found) h reads = absurd reads
  names_from w n (f ∷ rest) (p ∷ found) h reads =
      All-append IsLineWithin (name_lines w (n, p)) (flat_map (name_lines w) (enumerate_from (n + 1) found))
      (faults_within w n f p.module [] p.mentions (first_file n f rest h) (λ x c. mention_within f.bytes p reads.0 x c)) (names_from w (n + 1) rest found (files_next n f rest h) reads.1)

  all_files : (fs : List JoinFault) → All IsLineWithin (map (λ (e : JoinFault). line (OfFile 0) (join_text e)) fs)
  all_files [] = All-nil IsLineWithin
  all_files (e ∷ es) = All-cons IsLineWithin _ _ tt (all_files es)

  -- ---- Faults of instances.

  rule_within : (w : Meanings) (found : List PlacedModule) (j : Joined) (printed : Text) (at : Position) → AreRead files found → IsRulePosition w found j printed at → IsPositionWithin files at
  rule_within w found j printed at reads (faults.IsRulePosition.at_definition file number before x named earliest is) = mentions_within files found file before x reads is.is.of_file
  rule_within w found j printed at reads (faults.IsRulePosition.of_all none) = tt

  instance_within : (w : Meanings) (found : List PlacedModule) (j : Joined) (fault : GrammarFault) (at : Position) → AreRead files found → IsFaultAt w found j fault at → IsPositionWithin files at
  instance_within w found j fault at reads (faults.IsFaultAt.at_term file before x printed e is) = mentions_within files found file before x reads is.is.of_file
  instance_within w found j fault at reads (faults.IsFaultAt.at_rule printed there none e is) = rule_within w found j printed at reads is
  instance_within w found j fault at reads (faults.IsFaultAt.of_grammar e) = tt

  -- ---- All faults.

  all_files_from : AreFilesFrom 0 files
  all_files_from k f e = let same : k ≡ 0 + k = omega arith in subst (λ m. slice_get files m ≡ Some f) same e

  pub lines_within : (prelude : Bool) (lines : List Line) → AreFaultLines prelude files lines → All IsLineWithin lines
  lines_within prelude lines (faults.AreFaultLines.syntax x rest is) = syntax_lines 0 files (x ∷ rest) all_files_from is
  lines_within prelude lines (faults.AreFaultLines.names found fault reads is) =
      let w = meanings prelude (modules_of found) in
      All-append IsLineWithin (flat_map (name_lines w) (enumerate_from 0 found)) (grammar_lines w) (names_from w 0 files found all_files_from reads) (all_files (grammar_faults w))
  lines_within prelude lines (faults.AreFaultLines.instances found joined fault at h real is) =
      All-cons IsLineWithin _ [] (instance_within (meanings prelude (modules_of found)) found joined fault at h.read is) (All-nil IsLineWithin)

  -- The findings with these lines are within the files.
  pub findings_within : (findings : List Finding) → All IsLineWithin (lines_of findings) → All (λ (f : Finding). IsPositionWithin files f.at) findings
  findings_within [] h = All-nil _
  findings_within (f ∷ fs) h = All-cons (λ (g : Finding). IsPositionWithin files g.at) f fs (first_of h) (findings_within fs (rest_of h))
    where
      first_of : All IsLineWithin (lines_of (f ∷ fs)) → IsPositionWithin files f.at
      first_of g = All-head IsLineWithin _ (lines_of fs) g

      rest_of : All IsLineWithin (lines_of (f ∷ fs)) → All IsLineWithin (lines_of fs)
      rest_of g = All-tail IsLineWithin _ (lines_of fs) g

-- What the examination reports is within the files.
pub examined_within : (files : List GrammarFile) (prelude : Bool) (e : Examined) → IsExaminedAs files prelude e → AreFaultsWithin files e
examined_within files prelude (Faulty found) h = findings_within files found.items (lines_within files prelude (lines_of found.items) h)
examined_within files prelude (Accepted accepted grammar) h = tt
