-- What is found in accepted files, by the result of the stages after their grammar, is their examination.
use Rattle.std.specs.Prelude.{Err, Ok}
use Rattle.std.specs.List.{All}
use Rattle.std.proofs.lemmas.List.Elements.{All-cons, All-nil}
use Rattle.std.proofs.Common.{◌≡◌, ◌∙◌, ◌<◌, ◌≤◌, ℕ, Bool, true, false, List, [], ◌∷◌, Option, Some, length, map, sym, ap, subst, arith}
use Rattle.mh_grammar.specs.declared.types.Grammar.{Grammar}
use Rattle.mh_grammar.specs.Costs.{HaveCosts}
use Rattle.mh_grammar.specs.Plain.{plain_of, IsInRange}
use Rattle.mh_grammar.specs.Text.{Text}
use Rattle.mh_join_names.specs.Faults.{meanings}
use Rattle.mh_lint.specs.Warnings.{AreWarningLines}
use Rattle.mh_lint_faults.specs.Stages.{AreAccepted, modules_of}
use Rattle.mh_lint_faults.specs.declared.front.AcceptedFiles.{AcceptedFiles}
use Rattle.mh_lint_findings.specs.Lines.{Line, line, lines_of}
use Rattle.mh_lint_findings.specs.Positions.{IsPositionWithin}
use Rattle.mh_lint_findings.specs.declared.findings.Finding.{Finding}
use Rattle.mh_lint_findings.specs.declared.findings.GrammarFile.{GrammarFile}
use Rattle.mh_lint_findings.specs.declared.findings.Position.TheVariants.{OfAutomaton}
use Rattle.mh_opts.specs.Orders.{IsWithinLimits}
use Rattle.mh_outside.specs.Shelf.{Files}
use Rattle.mh_rules.specs.Limits.{max_tokens}
use Rattle.mh_top_check.specs.Examination.{IsBareLine, IsExamination, built_of, front_of, refused, stopped, warned}
use Rattle.mh_top_check.specs.code.Findings.{AllowsTable, AreTablesNext, ExaminesAutomaton, GivesFinding, IsAcceptedBy, found, memory, other}
use Rattle.mh_top_check.specs.declared.checking.Found.{Found}
use Rattle.mh_top_check.proofs.AcceptedGrammar as accepted_grammar
use Rattle.mh_top_drive.specs.StageResults.{StageResult, Go, Halt}
use Rattle.mh_top_drive.specs.code.ModeCalls.{ModeShelfCounts}
use Rattle.mh_top_drive.specs.code.StageCalls.{FileStageGives, StageShelfCounts}
use Rattle.mh_top_drive.specs.declared.stop.Stop.{Stop}
use Rattle.mh_top_drive.specs.declared.stop.Stop.TheVariants.{Halted, InputFailed, OutOfMemory, ShelfFailed, WriteFailed}
use Rattle.mh_top_drive.specs.declared.stop.Cause.{Cause}
use Rattle.mh_top_drive.specs.declared.stop.Cause.TheVariants.{Refused}
use Rattle.mh_top_prepare.specs.PreparedStage.{IsPreparedFromFiles}
use Rattle.mh_top_drive.specs.Shapes.{Prepared}
use Rattle.mh_top_drive.specs.declared.front.OrderAndGrammar.{OrderAndGrammar}
use Rattle.mh_validate_valid.specs.Valid.{AreTokenNamesDistinct}

module _ (named : List GrammarFile) (files : AcceptedFiles) (front : OrderAndGrammar) (is : IsAcceptedBy named files front) where
  accepts : AreAccepted front.order.stdlib named is.stages
  accepts = is.are_stages.accepts

  -- A property of the grammar of the stages is one of the grammar of the order.
  of_stages : (P : Grammar → Type 0) → P is.stages.grammar → P front.grammar
  of_stages P = subst P (sym is.are_stages.grammar_is)

  -- The grammar is ready for the stages after it.
  pub tokens : length front.grammar.tokens ≤ max_tokens
  tokens = of_stages (λ g. length g.tokens ≤ max_tokens) (accepted_grammar.tokens front.order.stdlib named is.stages accepts)

  pub range : IsInRange (plain_of front.grammar)
  range = of_stages (λ g. IsInRange (plain_of g)) (accepted_grammar.range front.order.stdlib named is.stages accepts)

  pub allows_table : IsWithinLimits front.order.job → AllowsTable front
  allows_table limits = record {
    start = of_stages (λ g. 0 < length g.starts) (accepted_grammar.start front.order.stdlib named is.stages accepts);
    limits = limits;
    costs = of_stages (λ g. HaveCosts g.tokens) (accepted_grammar.costs front.order.stdlib named is.stages accepts);
    distinct_names = of_stages AreTokenNamesDistinct (accepted_grammar.distinct_names front.order.stdlib named is.stages accepts);
  }

  module _ (shelf : Option Files) where
    from_stages : (r : StageResult Prepared) → IsPreparedFromFiles shelf front r → IsPreparedFromFiles shelf (front_of front.order is.stages) r
    from_stages r made =
        let grammar : front.grammar ≡ is.stages.grammar = is.are_stages.grammar_is in
        let same : front ≡ front_of front.order is.stages = λ i. record { order = front.order; grammar = grammar i } in
        subst (λ (f : OrderAndGrammar). IsPreparedFromFiles shelf f r) same made

    pub found_warnings : (p : Prepared) (lines : List Line) → IsPreparedFromFiles shelf front (Go p) → AreWarningLines (map (λ (f : GrammarFile). f.name) named) is.stages (built_of p) (meanings front.order.stdlib (modules_of is.stages.found)) lines → IsExamination shelf front.order named (Go (false, lines))
    found_warnings p lines made are = warned is.stages p accepts (from_stages (Go p) made) lines are

    pub found_refusal : (whole : Text) (f : Finding) (lines : List Line) → IsPreparedFromFiles shelf front (Halt (Refused whole)) → f.at ≡ OfAutomaton → IsBareLine whole f.text → lines ≡ lines_of (f ∷ []) → IsExamination shelf front.order named (Go (true, lines))
    found_refusal whole f lines made at bare one =
        let same : line OfAutomaton f.text ∷ [] ≡ lines = ap (λ (x : _). line x f.text ∷ []) (sym at) ∙ sym one in
        subst (λ (l : List Line). IsExamination shelf front.order named (Go (true, l))) same (refused is.stages accepts whole f.text (from_stages (Halt (Refused whole)) made) bare)

    pub found_stop : (cause : Cause) → IsPreparedFromFiles shelf front (Halt cause) → ((whole : Text) → cause ≡ Refused whole → ⊥) → IsExamination shelf front.order named (Halt cause)
    found_stop cause made never = stopped is.stages accepts cause (from_stages (Halt cause) made) never

  pub tables_next : (name : Text) → front.order.tables ≡ Some name → AreTablesNext front.order named name
  tables_next name named_is = record { stages = is.stages; accepts = accepts; named_is = named_is }

  -- ---- By the result of the stages after the grammar.

  module _ (shelf : Option Files) where
    abbrev PrepareStops : Stop → Type 0
    PrepareStops stop = FileStageGives {A = Prepared} (IsPreparedFromFiles shelf front) (λ name. front.order.tables ≡ Some name) (Err stop)

    stop_as_is : (stop : Stop) → PrepareStops stop → ((whole : Text) → stop ≡ Halted (Refused whole) → ⊥) → ExaminesAutomaton shelf front named (Err stop)
    stop_as_is (Halted cause) has none = found_stop shelf cause has (λ whole e. none whole (ap Halted e))
    stop_as_is (ShelfFailed name) has none = tables_next name has
    stop_as_is OutOfMemory has none = tt
    stop_as_is InputFailed has none = absurd has
    stop_as_is WriteFailed has none = absurd has

    pub stopped_with : (stop s : Stop) → PrepareStops stop → GivesFinding stop (Err s) → ExaminesAutomaton shelf front named (Err s)
    stopped_with stop s has (other none) = stop_as_is stop has none
    stopped_with stop s has memory = tt

    pub found_fault : (stop : Stop) (f : Finding) (result : Found) → PrepareStops stop → GivesFinding stop (Ok f) → result.are_faults ≡ true → result.findings.items ≡ f ∷ [] → ExaminesAutomaton shelf front named (Ok result)
    found_fault stop f result has (found whole fault halted at bare) faults items =
        let made : IsPreparedFromFiles shelf front (Halt (Refused whole)) = subst PrepareStops halted has in
        let one : IsExamination shelf front.order named (Go (true, lines_of result.findings.items)) = found_refusal shelf whole f (lines_of result.findings.items) made at bare (ap lines_of items) in
        let alone : All (λ (x : Finding). IsPositionWithin named x.at) (f ∷ []) = All-cons (λ (x : Finding). IsPositionWithin named x.at) f [] (subst (IsPositionWithin named) (sym at) tt) (All-nil (λ (x : Finding). IsPositionWithin named x.at)) in (
          subst (λ (b : Bool). IsExamination shelf front.order named (Go (b, lines_of result.findings.items))) (sym faults) one,
          record { short = is.short; within = subst (All (λ (x : Finding). IsPositionWithin named x.at)) (sym items) alone },
        )

    pub found_none : (p : Prepared) (findings : List Finding) (result : Found) → IsPreparedFromFiles shelf front (Go p) → AreWarningLines (map (λ (f : GrammarFile). f.name) named) is.stages (built_of p) (meanings front.order.stdlib (modules_of is.stages.found)) (lines_of findings)
        → All (λ (x : Finding). IsPositionWithin named x.at) findings → result.are_faults ≡ false → result.findings.items ≡ findings → ExaminesAutomaton shelf front named (Ok result)
    found_none p findings result made are within faults items =
        let one : IsExamination shelf front.order named (Go (false, lines_of findings)) = found_warnings shelf p (lines_of findings) made are in
        let here : IsExamination shelf front.order named (Go (result.are_faults, lines_of findings)) = subst (λ (b : Bool). IsExamination shelf front.order named (Go (b, lines_of findings))) (sym faults) one in (
          subst (λ (fs : List Finding). IsExamination shelf front.order named (Go (result.are_faults, lines_of fs))) (sym items) here,
          record { short = is.short; within = subst (All (λ (x : Finding). IsPositionWithin named x.at)) (sym items) within },
        )

-- ---- The counts of faults of the shelf.

pub stopped_counts : (n m : ℕ) (stop s : Stop) → StageShelfCounts {A = Prepared} n m (Err stop) → GivesFinding stop (Err s) → ModeShelfCounts {T = Found} n m (Err s)
stopped_counts n m stop s counts (other none) = as_is stop counts
  where
    as_is : (x : Stop) → StageShelfCounts {A = Prepared} n m (Err x) → ModeShelfCounts {T = Found} n m (Err x)
    as_is (Halted cause) h = h
    as_is (ShelfFailed name) h = h
    as_is OutOfMemory h = h
    as_is InputFailed h = absurd h
    as_is WriteFailed h = absurd h
stopped_counts n m stop s counts memory = by stop counts
  where
    by : (x : Stop) → StageShelfCounts {A = Prepared} n m (Err x) → n ≤ m
    by (Halted cause) h = omega (arith, h)
    by (ShelfFailed name) h = h.0
    by OutOfMemory h = h
    by InputFailed h = absurd h
    by WriteFailed h = absurd h

pub found_counts : (n m : ℕ) (stop : Stop) (f : Finding) → StageShelfCounts {A = Prepared} n m (Err stop) → GivesFinding stop (Ok f) → m ≡ n
found_counts n m stop f counts (found whole fault halted at bare) = subst (λ (x : Stop). StageShelfCounts {A = Prepared} n m (Err x)) halted counts
