use Rattle.std.proofs.Common.{Bool, List, ap, refl, subst, sym}
use Rattle.mh_grammar.specs.declared.types.Grammar.{Grammar}
use Rattle.mh_join_names.specs.Faults.{meanings}
use Rattle.mh_lint_findings.specs.Lines.{lines_of}
use Rattle.mh_lint_findings.specs.code.AppendedLines.{AppendsLines}
use Rattle.mh_lint_faults.specs.Stages.{Stages, modules_of}
use Rattle.mh_lint_faults.specs.code.Examining.{AreStages}
use Rattle.mh_lint_states.specs.AutomatonLines.{AreAutomatonLines}
use Rattle.mh_lint_states.specs.Reductions.{IsReduced}
use Rattle.mh_lint_states.specs.code.Marks.{AreMarked}
use Rattle.mh_lint.specs.Built.{Built}
use Rattle.mh_lint.specs.code.MentionUses.{IsShownBy}
use Rattle.mh_lint.proofs.AreNameLines.{names_of}
use Rattle.mh_lint.proofs.AreWarningLines.{checked_of, stages_of, warnings_are}
use Rattle.mh_lint.proofs.WarningsWithin.{warnings_within}
use Rattle.mh_lint.proofs.warning_walk.warnings.Goals as goal

pub put_lines-requires-clause-ready : goal.put_lines-requires-clause-ready
put_lines-requires-clause-ready g c = c.requires.files

pub put_lines-requires-clause-flags : goal.put_lines-requires-clause-flags
put_lines-requires-clause-flags g c = c.in_ok-shown.ensures.flags

pub returns : goal.returns
returns g c =
    let named = c.args.named.now in
    let built : Built = record { automaton = c.args.built.now.automaton.now; table = c.args.built.now.table.now; conflicts = c.args.built.now.conflicts.now } in
    let grammar = c.args.built.now.grammar.now in
    let first = c.new-findings.result.items in
    let placed = c.put_lines.new.findings.items in
    let files = c.put_repeated.new.findings.items in
    let all = c.automaton_findings.new.findings.items in
    let lines = λ (prelude : Bool) (s : Stages) (h : AreStages prelude named c.args.files.now grammar s). (
    let cc = checked_of prelude s built in
    let shown : IsShownBy cc c.args.files.now grammar c.in_ok-shown.shown = record { stages = stages_of prelude named c.args.files.now grammar s built h; grammar_is = sym h.grammar_is; is_shown = c.in_ok-shown.ensures } in
    let reduced : AreMarked (IsReduced built.table) c.as_slice.result.now = subst (λ (ys : List Bool). AreMarked (IsReduced built.table) ys) (sym c.as_slice.ensures.value) c.in_ok-shown.ensures.reduced in
    let of_automaton = c.in_ok-automaton_findings.ensures built.table reduced in
    warnings_are (names_of named) s built (meanings prelude (modules_of s.found)) first placed files all (ap lines_of c.new-findings.ensures.items) (c.in_ok-put_lines.ensures cc refl shown) c.in_ok-put_repeated.ensures
    (subst (λ (v : Grammar). AppendsLines (AreAutomatonLines v built.automaton built.table built.conflicts) files all) h.grammar_is of_automaton)) in
    record {
      within = λ prelude s h. warnings_within named (names_of named) s built (meanings prelude (modules_of s.found)) all h.accepts.joined.read (lines prelude s h);
      lines = λ prelude s h. lines prelude s h;
    }
