use Rattle.std.proofs.Common.{[], ◌∷◌}
use Rattle.std.proofs.lemmas.Result.{on_ok_weaker}
use Rattle.mh_lint_findings.specs.Lines.{line}
use Rattle.mh_lint_findings.specs.declared.findings.Position.TheVariants.{OfAutomaton}
use Rattle.mh_lint_findings.proofs.AppendsLines.{appends_lines, appends_nothing}
use Rattle.mh_lint_states.specs.AutomatonLines.{AreConflictLines}
use Rattle.mh_lint_states.specs.AutomatonLines as lines
use Rattle.mh_lint_states.proofs.lines.put_conflict.Goals as goal

pub returns-in-Solved : goal.returns-in-Solved
returns-in-Solved g c = appends_nothing (AreConflictLines c.args.grammar.now c.args.automaton.now c.args.conflict.now) c.args.findings.now.items (lines.AreConflictLines.solved c.in-Solved.is)

pub returns-in_ok-stream_text-in-Stream : goal.returns-in_ok-stream_text-in-Stream
returns-in_ok-stream_text-in-Stream g c =
    let Are = AreConflictLines c.args.grammar.now c.args.automaton.now c.args.conflict.now in
    on_ok_weaker c.put_line.result
    (λ put. appends_lines Are (line OfAutomaton c.in_ok-stream_text-in-Stream.field-0.items ∷ []) c.args.findings.now.items c.put_line.new.findings.items (rw c.in_ok-stream_text-in-Stream.ensures (lines.AreConflictLines.stream c.in-Stream.is)) put)
    c.put_line.ensures

pub returns-in_ok-unsolved_text-in-Unsolved : goal.returns-in_ok-unsolved_text-in-Unsolved
returns-in_ok-unsolved_text-in-Unsolved g c =
    let Are = AreConflictLines c.args.grammar.now c.args.automaton.now c.args.conflict.now in
    let kind = rw c.requires.number at c.kind_of-kind.ensures in
    on_ok_weaker c.put_line-in-Unsolved.result
    (λ put. appends_lines Are (line OfAutomaton c.in_ok-unsolved_text-in-Unsolved.field-0.items ∷ []) c.args.findings.now.items c.put_line-in-Unsolved.new.findings.items (rw (c.in_ok-unsolved_text-in-Unsolved.ensures, c.look_name-look.ensures) (lines.AreConflictLines.unsolved c.kind_of-kind.result.now c.in-Unsolved.is kind)) put)
    c.put_line-in-Unsolved.ensures
