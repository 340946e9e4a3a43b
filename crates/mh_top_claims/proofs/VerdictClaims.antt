-- Proves the claims on the answers to sentence lines from the laws on runs and automata.
use Rattle.std.proofs.Common.{◌≡◌, ◌⊎◌, ◌↔◌, ℕ, ◌+◌, ◌<◌, ◌≤◌, List, [], ◌++◌, length, take, get_or, Bool, true, false, ◌&&◌, Option, sym, ◌∙◌, ap, subst, arith, inl, inr, append_assoc}
use Rattle.std.specs.Prelude.{codes}
use Rattle.std.proofs.lemmas.Bool.{cases_lt}
use Rattle.std.proofs.lemmas.Option.{slice_get_within, slice_get-get_or}
use Rattle.mh_grammar.specs.declared.types.Grammar.{Grammar}
use Rattle.mh_grammar.specs.declared.types.Sentence.{Sentence}
use Rattle.mh_grammar.specs.Costs.{HaveCosts}
use Rattle.mh_grammar.specs.Plain.{PlainGrammar, plain_of, start_symbol, IsInRange, BeginsSentence}
use Rattle.mh_items_kernels.specs.KernelTypes.{Automaton, Kernel}
use Rattle.mh_items_kernels.specs.Automaton.{IsAutomaton, kernel_at}
use Rattle.mh_canon.specs.Canonical.{IsCanonical, CanonicalExceeds}
use Rattle.mh_canon.specs.Limits.{max_states}
use Rattle.mh_canon.specs.code.FoundStates.{IsCanonicalState, AreCanonicalStates}
use Rattle.mh_canon.proofs.CollectionIsCanonical.{kernel_at-slice_get}
use Rattle.mh_canon.proofs.CanonicalIsAutomaton.{IsAutomaton-canonical}
use Rattle.mh_canon.proofs.AreCanonicalStates.{CanonicalExceeds-states}
use Rattle.mh_pager.proofs.IsMerged.{merged_automaton}
use Rattle.mh_pager.proofs.MergingExceeds.{merged_few}
use Rattle.mh_top_claims.proofs.MergedHasNoConflict.{merged_has_no_conflict, canonical_has_no_conflict}
use Rattle.mh_top_claims.proofs.UnwarnedIsConflictFree.{unwarned_has_no_conflict}
use Rattle.mh_resolve_cells.specs.NoConflicts.{HasNoConflicts}
use Rattle.mh_resolve_cells.specs.Conflicts.{AreConflicts}
use Rattle.mh_resolve_cells.specs.States.{IsTableOf}
use Rattle.mh_resolve_cells.proofs.AreResolved.{Facts-resolved}
use Rattle.mh_tables_core.specs.Table.{TableData, table_data}
use Rattle.mh_tables_core.specs.Facts.{Facts}
use Rattle.mh_tables_core.specs.Run.{Ending as Ended, Accepted, Overshot, Rejected, VerdictOf, initial}
use Rattle.mh_tables_core.proofs.RefusalIsCut.{verdict_cut}
use Rattle.mh_tables_core.proofs.RunEnds.{ending_unique}
use Rattle.mh_run_exact.specs.Exactness.{IsPrefixSentence, AllProductive}
use Rattle.mh_tables_core.specs.TreeRuns.{IsTreeOfRead, IsTooDeep, TreeEnding, AcceptedTree, OvershotTree, RejectedTree, DeepTree, IsTreeEnding}
use Rattle.mh_grammar.specs.Trees.{SyntaxTree, IsTreeFor, tree_text}
use Rattle.mh_run_exact.proofs.AcceptedSentence.{accepted_sentence}
use Rattle.mh_run_exact.proofs.ExactnessLaws.{overshoots, tells_prefix, tells_refused}
use Rattle.mh_outside.specs.Shelf.{Files}
use Rattle.mh_grammar.specs.Text.{Text}
use Rattle.mh_top_drive.specs.StageResults.{StageResult, Go, Halt, AfterStage}
use Rattle.mh_top_prepare.specs.TableStage.{IsAutomatonStage, mode_of}
use Rattle.mh_top_prepare.specs.ResolvedStage.{IsResolvedStage}
use Rattle.mh_top_prepare.specs.code.SourceFacts.{IsBuilt, HasNumberedStates}
use Rattle.mh_top_claims.proofs.PreparedSource.{IsMade, made}
use Rattle.mh_validate_valid.proofs.ValidIsAutomaton.{automaton_of}
use Rattle.mh_resolve_cells.specs.declared.kinds.Mode.{Mode}
use Rattle.mh_msgfile.specs.Sentences.{LineResult}
use Rattle.mh_msgfile.proofs.SentenceBounds.{sentence_start}
use Rattle.mh_top_plans.specs.Verdicts.{VerdictContext, IsAnswerToFound, IsSentenceAnswer, IsAnswerWithTrees, IsRefusalWithTokens, IsEndingText, IsTreeText, text_after_refusal, expected_line}
use Rattle.mh_top_plans.specs.MessagesFiles.{Messages}
use Rattle.mh_top_plans.specs.Plan.{Judges, halts}
use Rattle.mh_top_check.specs.Examination.{Examined, plan_of_check}
use Rattle.mh_top_claims.specs.Work.{Examining, WithTable, Work, IsPlanUnlessRefused, IsWork, IsWorkOf}
use Rattle.mh_top_prepare.specs.Warnings.{has_warning, warnings_of}
use Rattle.mh_top_claims.specs.Preparing.{IsPrepared}
use Rattle.mh_top_claims.specs.VerdictClaims.{IsConflictFree, IsConflictFreeTable, IsLR1Grammar, NamesNoTableFile, AnswersSentence, IsAcceptText, IsRejectText, IsTooDeepText, ShowsTree, AcceptIsExact, RejectIsSound, OvershootIsSound, AcceptIsSound, TooDeepIsExact, HasNoLevels, UnwarnedIsConflictFree}
use Rattle.mh_top_drive.specs.code.Prepared.{IsConsistent}
use Rattle.mh_top_drive.specs.Shapes.{Prepared}
use Rattle.mh_top_drive.specs.declared.stop.Cause.{Cause}
use Rattle.mh_top_prepare.specs.declared.sources.AutomatonSource.{AutomatonSource}
use Rattle.mh_top_prepare.specs.declared.sources.AutomatonSource.TheVariants.{Canonical, File, Merged}
use Rattle.mh_tables_core.specs.Halting.{AlwaysHalts}
use Rattle.mh_top_plans.proofs.FilesOfMode.{PreparedFacts}
use Rattle.mh_opts.specs.declared.jobs.Job.TheVariants.{Check}
use Rattle.mh_top_claims.proofs.EachMode.{mode_facts as job_facts}
use Rattle.mh_top_claims.proofs.PreparedWork.{job_needs}

-- ---- The grammar and the table for verdicts.

-- The table is that of the merged automaton of the grammar, of its canonical automaton, or of the automaton in a table
-- file.
pub record HasTable (words : List Text) (g : Grammar) (t : TableData) : Type 0 where
  pub source : AutomatonSource
  pub numbered : HasNumberedStates source
  pub built : NamesNoTableFile words → IsBuilt source
  pub automaton : Automaton
  pub stage : IsAutomatonStage source g (Go automaton)
  pub table : IsTableOf g automaton (mode_of source) t

pub record IsTabled (words : List Text) (g : Grammar) (t : TableData) : Type 0 where
  range : IsInRange (plain_of g)
  costs : HaveCosts g.tokens
  table : HasTable words g t
  halts : AlwaysHalts t

prepared_tabled : (words : List Text) (files : Option Files) (p : Prepared) → IsPrepared words files (Go p) → IsTabled words p.grammar p.tabled.halting
prepared_tabled words files p is = let m = made words files p is in at m m.stage.0 m.stage.1 m.stage.2
  where
    at : (m : IsMade words files p) → (s : StageResult Automaton) → IsAutomatonStage m.source p.grammar s → AfterStage s (IsResolvedStage (mode_of m.source) p.grammar) (Go p.tabled) → IsTabled words p.grammar p.tabled.halting
    at m (Go a) stage is =
        record { range = m.ready.range; costs = m.ready.costs; table = record { source = m.source; numbered = m.numbered; built = m.built; automaton = a; stage = stage; table = is.table }; halts = is.halts }
    at m (Halt cause) stage is = absurd (cc)

abbrev by : Bool → Bool → Grammar → TableData → Option Messages → VerdictContext
by trees expected g t messages = record { trees = trees; expected = expected; grammar = g; table = t; messages = messages }

module _ (warnings : Text) (trees expected : Bool) (g : Grammar) (t : TableData) (messages : Option Messages) where
  abbrev work : Work
  work = record { warnings = warnings; plan = Judges (by trees expected g t messages) }

  of_plan : (words : List Text) (refused : Bool) (files : Option Files) (p : Prepared) → (p.order.job ≡ Check → ⊥) → IsTabled words p.grammar p.tabled.halting → IsPlanUnlessRefused refused files p (Judges (by trees expected g t messages)) → IsTabled words g t
  of_plan words true files p other has is = absurd (cc)
  of_plan words false files p other has is = (job_facts p.order.job other p).judged (IsTabled words) files (by trees expected g t messages) has is

  pub asked_tabled : (words : List Text) (files : Option Files) → IsWork words files work → IsTabled words g t
  asked_tabled words files (Examining order on job is) = absurd (no_check is.plan.0 is.plan.2)
    where
      no_check : (s : StageResult Examined) → Judges (by trees expected g t messages) ≡ plan_of_check order s → ⊥
      no_check (Go x) e = cc
      no_check (Halt cause) e = cc
  asked_tabled words files (WithTable needs asked) = at asked.0 asked.1 asked.2
    where
      no_halt : (cause : Cause) → work ≡ record { warnings = []; plan = halts cause } → ⊥
      no_halt cause e = let same : Judges (by trees expected g t messages) ≡ halts cause = ap (λ (w : Work). w.plan) e in absurd (cc)

      at : (s : StageResult Prepared) → IsPrepared words files s → IsWorkOf files s work → IsTabled words g t
      at (Go p) prepared is = of_plan words (p.order.strict && has_warning p.tabled.conflicts) files p (job_needs words files p prepared needs) (prepared_tabled words files p prepared) is.1
      at (Halt cause) prepared is = absurd (no_halt cause is)

-- ---- The automaton of the table is an automaton of the grammar.

module _ (g : PlainGrammar) (a : Automaton) (h : IsCanonical g a) where
  state_at : (k : ℕ) (d : Kernel) → k < length a.kernels → IsCanonicalState g (get_or a.kernels k d)
  state_at k d l =
      let same : kernel_at a k ≡ get_or a.kernels k d = kernel_at-slice_get a k (get_or a.kernels k d) (slice_get-get_or a.kernels k d l) in
      subst (IsCanonicalState g) same (record { kernel = (h.each k l).0; has_item = (h.each k l).1; reach = h.sound k l })

  states : AreCanonicalStates g a.kernels
  states = record {
    each = state_at;
    distinct = record {
      same = λ i j k e f.
          let one : kernel_at a j ≡ kernel_at a i = kernel_at-slice_get a j k f ∙ sym (kernel_at-slice_get a i k e) in
          h.distinct i j (slice_get_within a.kernels i k e) (slice_get_within a.kernels j k f) (rw one (λ p d look. ((λ x. x), (λ x. x))));
    };
  }

few_canonical : (g : PlainGrammar) (a : Automaton) → IsCanonical g a → (CanonicalExceeds g max_states → ⊥) → length a.kernels ≤ max_states
few_canonical g a canonical few = elim (cases_lt max_states (length a.kernels)) [
  | inl over ↦ absurd (few (CanonicalExceeds-states g a.kernels max_states (states g a canonical) over))
  | inr within ↦ within
]

pub automaton_so : (source : AutomatonSource) (g : Grammar) (a : Automaton) → IsInRange (plain_of g) → HasNumberedStates source → IsAutomatonStage source g (Go a) → IsAutomaton (plain_of g) a
automaton_so (File name raw) g a range numbered stage = automaton_of g raw numbered a stage.0 stage.1
automaton_so Merged g a range numbered stage = merged_automaton (plain_of g) a stage.1 (merged_few (plain_of g) a range stage.1 stage.0)
automaton_so Canonical g a range numbered stage = IsAutomaton-canonical (plain_of g) a stage.1 (few_canonical (plain_of g) a stage.1 stage.0)

-- The automaton that is built for an LR(1) grammar has no conflict, even if it is merged.
clear_so : (source : AutomatonSource) (g : Grammar) (a : Automaton) → IsInRange (plain_of g) → IsBuilt source → IsAutomatonStage source g (Go a) → IsLR1Grammar g → HasNoConflicts g a
clear_so (File name raw) g a range built stage lr1 = absurd built
clear_so Merged g a range built stage lr1 = merged_has_no_conflict g a stage.1 (merged_few (plain_of g) a range stage.1 stage.0) lr1
clear_so Canonical g a range built stage lr1 = canonical_has_no_conflict g a (automaton_so Canonical g a range tt stage) stage.1 lr1

module _ (words : List Text) (g : Grammar) (t : TableData) (is : IsTabled words g t) where
  automaton : IsAutomaton (plain_of g) is.table.automaton
  automaton = automaton_so is.table.source g is.table.automaton is.range is.table.numbered is.table.stage

  facts : Facts t
  facts =
      let table = is.table.table in
      let grammar : t.grammar ≡ plain_of g = table.grammar in
      let whole : table_data g t.states ≡ t = (λ i. record { grammar = sym grammar i; costs = sym table.costs i; states = t.states }) in
      subst Facts whole (Facts-resolved g is.table.automaton (mode_of is.table.source) t.states is.range is.costs automaton table.states)

  -- The table is that of an automaton without conflicts.
  clear : IsConflictFree words g t → IsConflictFreeTable g t
  clear (inl lr1) = record {
    automaton = is.table.automaton;
    mode = mode_of is.table.source;
    is_automaton = automaton;
    table = is.table.table;
    no_conflicts = clear_so is.table.source g is.table.automaton is.range (is.table.built lr1.0) is.table.stage lr1.1;
  }
  clear (inr table) = table

  module _ (start : ℕ) (known : start < length g.starts) where
    accepts : IsConflictFree words g t → (w : List ℕ) (read : ℕ) → VerdictOf t start w (Accepted read) ↔ IsPrefixSentence (plain_of g) start w read
    accepts lr1 w read = let c = clear lr1 in tells_prefix g c.automaton c.mode t facts c.is_automaton c.table c.no_conflicts start w read known

    accepts_rightly : (w : List ℕ) (read : ℕ) → VerdictOf t start w (Accepted read) → IsPrefixSentence (plain_of g) start w read
    accepts_rightly w read v =
        let grammar : t.grammar ≡ plain_of g = is.table.table.grammar in
        let some : start < length t.grammar.starts = subst (λ (p : PlainGrammar). start < length p.starts) (sym grammar) known in
        subst (λ (p : PlainGrammar). IsPrefixSentence p start w read) grammar (accepted_sentence t facts start w read some v)

    rejects : IsConflictFree words g t → (w : List ℕ) (at s : ℕ) → VerdictOf t start w (Rejected at s) → BeginsSentence (plain_of g) start (take (at + 1) w) → ⊥
    rejects lr1 w at s v = let c = clear lr1 in tells_refused g c.automaton c.mode t facts c.is_automaton c.table c.no_conflicts start w at s known v

    overshot : AllProductive (plain_of g) → (w : List ℕ) (s : ℕ) → VerdictOf t start w (Overshot s) → BeginsSentence (plain_of g) start w
    overshot productive w s v = overshoots g is.table.automaton (mode_of is.table.source) t facts automaton is.table.table productive start w s known v

-- The prepared grammar, automaton and table belong together.
pub prepared_fit : (words : List Text) (files : Option Files) (p : Prepared) → IsPrepared words files (Go p) → IsConsistent p
prepared_fit words files p is = let m = made words files p is in at m m.stage.0 m.stage.1 m.stage.2
  where
    at : (m : IsMade words files p) → (s : StageResult Automaton) → IsAutomatonStage m.source p.grammar s → AfterStage s (IsResolvedStage (mode_of m.source) p.grammar) (Go p.tabled) → IsConsistent p
    at m (Go a) stage is = record {
      range = m.ready.range;
      start = m.ready.start;
      limits = m.limits;
      automaton = subst (IsAutomaton (plain_of p.grammar)) (sym is.automaton) (automaton_so m.source p.grammar a m.ready.range m.numbered stage);
      table = subst (λ (b : Automaton). IsTableOf p.grammar b p.tabled.mode p.tabled.halting) (sym is.automaton) (subst (λ (mode : Mode). IsTableOf p.grammar a mode p.tabled.halting) (sym is.resolved_in) is.table);
      conflicts = subst (λ (b : Automaton). AreConflicts p.grammar b p.tabled.conflicts) (sym is.automaton) is.conflicts;
    }
    at m (Halt cause) stage is = absurd (cc)

-- Every run on the prepared table ends.
pub prepared_runs : (words : List Text) (files : Option Files) (p : Prepared) → IsPrepared words files (Go p) → PreparedFacts p
prepared_runs words files p is =
    let tabled = prepared_tabled words files p is in record { halts = record { facts = facts words p.grammar p.tabled.halting tabled; halts = tabled.halts }; consistent = prepared_fit words files p is }

-- ---- The texts of answers.

abbrev first : Text → ℕ
first text = get_or text 0 0

differ : (text : Text) (a b : ℕ) → first text ≡ a → first text ≡ b → a < b → ⊥
differ text a b is also lt = omega arith

first_accepts : (trees : Bool) (g : Grammar) (text : Text) → IsAcceptText trees g text → first text ≡ 65
first_accepts false g text e = ap first e
first_accepts true g text shown = ap first shown.1

first_deep : (trees : Bool) (text : Text) → IsTooDeepText trees text → first text ≡ 84
first_deep false text deep = absurd deep
first_deep true text deep = ap first deep

-- With trees, the text is the tree of the run.
abbrev Leaves : Bool → Grammar → TableData → Sentence → ℕ → Text → Type 0
Leaves false g t s read text = Unit {0}
Leaves true g t s read text = (tree : SyntaxTree) × (text ≡ codes "ACCEPT\n" ++ tree_text g tree ++ codes "\n") × IsTreeOfRead t s.start s.tokens read tree

-- The verdict of the run on a sentence that has this answer.
data Shown (trees : Bool) (g : Grammar) (t : TableData) (s : Sentence) (text : Text) : Type 0 where
  Accept : (read : ℕ) → VerdictOf t s.start s.tokens (Accepted read) → IsAcceptText trees g text → Leaves trees g t s read text → Shown trees g t s text
  Overshoot : (state : ℕ) → VerdictOf t s.start s.tokens (Overshot state) → text ≡ codes "OVERSHOOT\n" → Shown trees g t s text
  Reject : (at state : ℕ) (rest : Text) → VerdictOf t s.start s.tokens (Rejected at state) → text ≡ codes "REJECT\n" ++ rest → Shown trees g t s text
  TooDeep : IsTooDeepText trees text → Shown trees g t s text

-- The text of a refusal begins with `REJECT`.
refused_rest : (b : Bool) (how : VerdictContext) (s : Sentence) (at state : ℕ) (text : Text) → IsRefusalWithTokens b how s at state text → (rest : Text) × (text ≡ codes "REJECT\n" ++ rest)
refused_rest false how s at state text is = (text_after_refusal how.messages state, is)
refused_rest true how s at state text is =
    (text_after_refusal how.messages state ++ expected_line how.grammar is.0, is.2 ∙ append_assoc (codes "REJECT\n") (text_after_refusal how.messages state) (expected_line how.grammar is.0))

module _ (how : VerdictContext) (s : Sentence) (text : Text) where
  of_verdict : (ended : Ended) → VerdictOf how.table s.start s.tokens ended → IsEndingText how s ended text → Shown false how.grammar how.table s text
  of_verdict (Accepted read) verdict e = Accept read verdict e tt
  of_verdict (Overshot state) verdict e = Overshoot state verdict e
  of_verdict (Rejected at state) verdict e = let r = refused_rest how.expected how s at state text e in Reject at state r.0 verdict r.1

  of_outcome : (outcome : TreeEnding) → IsTreeEnding how.table s.start s.tokens outcome → IsTreeText how s outcome text → Shown true how.grammar how.table s text
  of_outcome (AcceptedTree read tree) is e = Accept read (is.0.left.steps, is.0.left.ends) (tree, e) (tree, e, is.0)
  of_outcome (OvershotTree state) is e = Overshoot state is.0 e
  of_outcome (RejectedTree at state) is e = let r = refused_rest how.expected how s at state text e in Reject at state r.0 is.0 r.1
  of_outcome DeepTree is e = TooDeep e

  shown : (trees : Bool) → IsAnswerWithTrees trees how s text → Shown trees how.grammar how.table s text
  shown false said = of_verdict said.0 said.1 said.2
  shown true said = of_outcome said.0 said.1 said.2

  deep_so : (outcome : TreeEnding) → IsTreeEnding how.table s.start s.tokens outcome → IsTreeText how s outcome text → (text ≡ codes "TOODEEP\n") ↔ IsTooDeep how.table s.start s.tokens
  deep_so (AcceptedTree read tree) is e = (λ deep. absurd (differ text 65 84 (ap first e) (ap first deep) (omega arith)), λ deep. absurd (is.1 deep))
  deep_so (OvershotTree state) is e = (λ deep. absurd (differ text 79 84 (ap first e) (ap first deep) (omega arith)), λ deep. absurd (is.1 deep))
  deep_so (RejectedTree at state) is e = (λ deep. absurd (differ text 82 84 (ap first (refused_rest how.expected how s at state text e).1) (ap first deep) (omega arith)), λ deep. absurd (is.1 deep))
  deep_so DeepTree is e = (λ deep. is, λ deep. e)

module _ (g : Grammar) (t : TableData) (s : Sentence) (text : Text) where
  module _ (trees : Bool) where
    accepted : Shown trees g t s text → IsAcceptText trees g text → (read : ℕ) × VerdictOf t s.start s.tokens (Accepted read) × Leaves trees g t s read text
    accepted (Accept read verdict e leaves) is = (read, verdict, leaves)
    accepted (Overshoot state verdict e) is = absurd (differ text 65 79 (first_accepts trees g text is) (ap first e) (omega arith))
    accepted (Reject at state rest verdict e) is = absurd (differ text 65 82 (first_accepts trees g text is) (ap first e) (omega arith))
    accepted (TooDeep deep) is = absurd (differ text 65 84 (first_accepts trees g text is) (first_deep trees text deep) (omega arith))

    overshot_at : Shown trees g t s text → text ≡ codes "OVERSHOOT\n" → (state : ℕ) × VerdictOf t s.start s.tokens (Overshot state)
    overshot_at (Accept read verdict e leaves) is = absurd (differ text 65 79 (first_accepts trees g text e) (ap first is) (omega arith))
    overshot_at (Overshoot state verdict e) is = (state, verdict)
    overshot_at (Reject at state rest verdict e) is = absurd (differ text 79 82 (ap first is) (ap first e) (omega arith))
    overshot_at (TooDeep deep) is = absurd (differ text 79 84 (ap first is) (first_deep trees text deep) (omega arith))

    rejected_at : Shown trees g t s text → IsRejectText text → (at : ℕ) × (state : ℕ) × VerdictOf t s.start s.tokens (Rejected at state)
    rejected_at (Accept read verdict e leaves) is = absurd (differ text 65 82 (first_accepts trees g text e) (ap first is.1) (omega arith))
    rejected_at (Overshoot state verdict e) is = absurd (differ text 79 82 (ap first e) (ap first is.1) (omega arith))
    rejected_at (Reject at state rest verdict e) is = (at, state, verdict)
    rejected_at (TooDeep deep) is = absurd (differ text 82 84 (ap first is.1) (first_deep trees text deep) (omega arith))

    -- If the verdict is acceptance, the answer is ACCEPT or TOODEEP.
    accepts_or_deep : (read : ℕ) → VerdictOf t s.start s.tokens (Accepted read) → Shown trees g t s text → IsAcceptText trees g text ⊎ IsTooDeepText trees text
    accepts_or_deep read is (Accept read' verdict e leaves) = inl e
    accepts_or_deep read is (Overshoot state verdict e) = let same = ending_unique t (initial s.start s.tokens) (Overshot state) (Accepted read) verdict is in absurd (cc)
    accepts_or_deep read is (Reject at state rest verdict e) = let same = ending_unique t (initial s.start s.tokens) (Rejected at state) (Accepted read) verdict is in absurd (cc)
    accepts_or_deep read is (TooDeep deep) = inr deep

-- The tree of the run is a tree of the grammar.
shows_tree : (words : List Text) (g : Grammar) (t : TableData) → IsTabled words g t → (s : Sentence) (text : Text) (trees : Bool) (read : ℕ) → Leaves trees g t s read text → ShowsTree trees g s read text
shows_tree words g t is s text false read leaves = tt
shows_tree words g t is s text true read leaves =
    (leaves.0, leaves.1, subst (λ (p : PlainGrammar). IsTreeFor p (start_symbol p s.start) leaves.0) is.table.table.grammar leaves.2.is, leaves.2.spells)

-- ---- The claims.

module _ (words : List Text) (files : Option Files) (trees : Bool) (g : Grammar) (s : Sentence) (text : Text) (by : AnswersSentence words files trees g s text) where
  is : IsTabled words g by.table
  is = asked_tabled by.warnings trees by.expected g by.table by.messages words files by.asked

  known : s.start < length g.starts
  known = sentence_start g by.line s by.sentence

  abbrev answering : VerdictContext
  answering = record { trees = trees; expected = by.expected; grammar = g; table = by.table; messages = by.messages }

  said : IsSentenceAnswer answering s text
  said = subst (λ (f : LineResult). IsAnswerToFound (IsSentenceAnswer answering) f text) by.sentence by.answer

  how : Shown trees g by.table s text
  how = shown answering s text trees said

  accepts_read : IsConflictFree words g by.table → IsAcceptText trees g text → (read : ℕ) × IsPrefixSentence (plain_of g) s.start s.tokens read
  accepts_read lr1 e = let p = accepted g by.table s text trees how e in (p.0, (accepts words g by.table is s.start known lr1 s.tokens p.0).0 p.1)

  sentence_accepts : IsConflictFree words g by.table → (read : ℕ) → IsPrefixSentence (plain_of g) s.start s.tokens read → IsAcceptText trees g text ⊎ IsTooDeepText trees text
  sentence_accepts lr1 read p = accepts_or_deep g by.table s text trees read ((accepts words g by.table is s.start known lr1 s.tokens read).1 p) how

  rightly : IsAcceptText trees g text → (read : ℕ) × IsPrefixSentence (plain_of g) s.start s.tokens read × ShowsTree trees g s read text
  rightly e =
      let p = accepted g by.table s text trees how e in
      (p.0, accepts_rightly words g by.table is s.start known s.tokens p.0 p.1, shows_tree words g by.table is s text trees p.0 p.2)

  refused : IsConflictFree words g by.table → IsRejectText text → (at : ℕ) × (at < length s.tokens) × (BeginsSentence (plain_of g) s.start (take (at + 1) s.tokens) → ⊥)
  refused lr1 e =
      let p = rejected_at g by.table s text trees how e in
      (p.0, (verdict_cut by.table s.start s.tokens p.0 p.1 p.2).0, λ b. rejects words g by.table is s.start known lr1 s.tokens p.0 p.1 p.2 b)

  begun : AllProductive (plain_of g) → text ≡ codes "OVERSHOOT\n" → BeginsSentence (plain_of g) s.start s.tokens
  begun productive e = let p = overshot_at g by.table s text trees how e in overshot words g by.table is s.start known productive s.tokens p.0 p.1

module _ (words : List Text) (files : Option Files) where
  pub accepts_exactly : AcceptIsExact words files
  accepts_exactly trees g s text by lr1 = (accepts_read words files trees g s text by lr1, sentence_accepts words files trees g s text by lr1)

  pub rejects_rightly : RejectIsSound words files
  rejects_rightly trees g s text by lr1 e = refused words files trees g s text by lr1 e

  pub overshoots_rightly : OvershootIsSound words files
  overshoots_rightly trees g s text by productive e = begun words files trees g s text by productive e

  pub all_rightly : AcceptIsSound words files
  all_rightly trees g s text by e = rightly words files trees g s text by e

  pub deep_exactly : TooDeepIsExact words files
  deep_exactly g s text by = let text_is = said words files true g s text by in deep_so (answering words files true g s text by) s text text_is.0 text_is.1 text_is.2

-- ---- If a grammar has no levels and no warnings, its table has no conflicts.

prepared_has_no_conflict : (words : List Text) (files : Option Files) (p : Prepared) → IsPrepared words files (Go p) → HasNoLevels p.grammar → warnings_of p ≡ [] → IsConflictFreeTable p.grammar p.tabled.halting
prepared_has_no_conflict words files p is none silent = let m = made words files p is in at m m.stage.0 m.stage.1 m.stage.2
  where
    at : (m : IsMade words files p) → (s : StageResult Automaton) → IsAutomatonStage m.source p.grammar s → AfterStage s (IsResolvedStage (mode_of m.source) p.grammar) (Go p.tabled) → IsConflictFreeTable p.grammar p.tabled.halting
    at m (Go a) stage is = record {
      automaton = a;
      mode = mode_of m.source;
      is_automaton = automaton_so m.source p.grammar a m.ready.range m.numbered stage;
      table = is.table;
      no_conflicts = unwarned_has_no_conflict p.grammar a p.tabled.conflicts is.conflicts none silent;
    }
    at m (Halt cause) stage is = absurd (cc)

module _ (warnings : Text) (trees expected : Bool) (g : Grammar) (t : TableData) (messages : Option Messages) (silent : warnings ≡ []) where
  -- If the grammar has no levels of precedence, the table is that of an automaton without conflicts.
  abbrev IsClearUnleveled : Grammar → TableData → Type 0
  IsClearUnleveled h u = HasNoLevels h → IsConflictFreeTable h u

  unwarned_plan : (refused : Bool) (files : Option Files) (p : Prepared) → (p.order.job ≡ Check → ⊥) → IsClearUnleveled p.grammar p.tabled.halting → IsPlanUnlessRefused refused files p (Judges (by trees expected g t messages)) → IsClearUnleveled g t
  unwarned_plan true files p other has is = absurd (cc)
  unwarned_plan false files p other has is = (job_facts p.order.job other p).judged IsClearUnleveled files (by trees expected g t messages) has is

  unwarned_work : (words : List Text) (files : Option Files) → IsWork words files (work warnings trees expected g t messages) → IsClearUnleveled g t
  unwarned_work words files (Examining order on job is) = absurd (no_check is.plan.0 is.plan.2)
    where
      no_check : (s : StageResult Examined) → Judges (by trees expected g t messages) ≡ plan_of_check order s → ⊥
      no_check (Go x) e = cc
      no_check (Halt cause) e = cc
  unwarned_work words files (WithTable needs asked) = at asked.0 asked.1 asked.2
    where
      no_halt : (cause : Cause) → work warnings trees expected g t messages ≡ record { warnings = []; plan = halts cause } → ⊥
      no_halt cause e = let same : Judges (by trees expected g t messages) ≡ halts cause = ap (λ (w : Work). w.plan) e in absurd (cc)

      at : (s : StageResult Prepared) → IsPrepared words files s → IsWorkOf files s (work warnings trees expected g t messages) → IsClearUnleveled g t
      at (Go p) prepared is = unwarned_plan (p.order.strict && has_warning p.tabled.conflicts) files p (job_needs words files p prepared needs) (λ none. prepared_has_no_conflict words files p prepared none (sym is.0 ∙ silent)) is.1
      at (Halt cause) prepared is = absurd (no_halt cause is)

pub conflict_free_if_unwarned : (words : List Text) (files : Option Files) → UnwarnedIsConflictFree words files
conflict_free_if_unwarned words files trees g s text answers none silent =
    inr (unwarned_work answers.warnings trees answers.expected g answers.table answers.messages silent words files answers.asked none)
