use Rattle.std.proofs.Common.{◌≡◌, ℕ, List, [], ◌∷◌, None, get_or, refl}
use Rattle.std.specs.List.{slice_get}
use Rattle.mh_grammar.proofs.Lists.{get_or_own_default}
use Rattle.mh_grammar.specs.declared.types.Look.TheVariants.{Token}
use Rattle.mh_resolve_cells.specs.declared.conflicts.Conflict.{Conflict}
use Rattle.mh_resolve_cells.specs.declared.kinds.ConflictKind.TheVariants.{Solved}
use Rattle.mh_lint_findings.proofs.AppendsLines.{appends_more, appends_none}
use Rattle.mh_lint_states.specs.AutomatonLines.{AreConflictLines}
use Rattle.mh_lint_states.proofs.lines.put_conflicts.Goals as goal

-- The conflict with the index.
abbrev conflict_at : List Conflict → ℕ → Conflict
conflict_at conflicts i = get_or conflicts i (record { state = 0; look = Token 0; kind = Solved })

empty : (conflicts : List Conflict) → None ≡ slice_get conflicts 0 → conflicts ≡ []
empty [] e = refl
empty (c ∷ cs) e = absurd cc

pub returns-in_default : goal.returns-in_default
returns-in_default g c = rw (empty c.args.conflicts.now c.in_default.ensures.value) (appends_none (AreConflictLines c.args.grammar.now c.args.automaton.now) c.args.findings.now.items)

pub loop-conflict-init : goal.loop-conflict-init
loop-conflict-init g c = record {
  lines = appends_none (AreConflictLines c.args.grammar.now c.args.automaton.now) c.args.findings.now.items;
  state = c.in_ok-state.ensures.state;
  closer = c.in_ok-state.ensures.closer;
}

pub loop-conflict-preserved : goal.loop-conflict-preserved
loop-conflict-preserved g c =
    let i = c.loop-conflict.conflict-index in
    let next = conflict_at c.args.conflicts.now i in
    record {
      lines = appends_more (AreConflictLines c.args.grammar.now c.args.automaton.now) c.args.conflicts.now i next c.args.findings.now.items c.loop-conflict.findings.items c.put_conflict.new.findings.items c.loop-conflict-test.true (get_or_own_default c.args.conflicts.now i _ c.loop-conflict-test.true) c.loop-conflict.invariant.lines c.in_ok-put_conflict.ensures;
      state = c.in_ok-state-2.ensures.state;
      closer = c.in_ok-state-2.ensures.closer;
    }
