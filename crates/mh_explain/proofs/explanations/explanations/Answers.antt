use Rattle.std.proofs.Common.{ℕ, List, get_or, rules, sym, subst}
use Rattle.std.proofs.lemmas.List.{take_all}
use Rattle.mh_grammar.proofs.Lists.{all_at, get_or_own_default}
use Rattle.mh_resolve_cells.specs.Conflicts.{IsConflictOf}
use Rattle.mh_grammar.specs.declared.types.Look.TheVariants.{Token}
use Rattle.mh_resolve_cells.specs.declared.conflicts.Conflict.{Conflict}
use Rattle.mh_resolve_cells.specs.declared.kinds.ConflictKind.TheVariants.{Solved}
use Rattle.mh_explain.specs.Explanations.{AreExplanations}
use Rattle.mh_explain.proofs.ExplanationParts.{conflict_explained, conflict_solved, is_solved, is_unsolved}
use Rattle.mh_explain.proofs.explanations.explanations.Goals.{then-is_explained+in_ok-write_explanation, else-is_explained}
use Rattle.mh_explain.proofs.explanations.explanations.Goals as goal

-- The conflict with the index.
abbrev conflict_at : List Conflict → ℕ → Conflict
conflict_at conflicts i = get_or conflicts i (record { state = 0; look = Token 0; kind = Solved })

pub write_explanation-requires : goal.write_explanation-requires
write_explanation-requires g c =
    let Is = IsConflictOf c.args.searched.now.grammar.now c.args.searched.now.automaton.now in (
      search rules,
      (search rules, (c.requires.fits, (c.requires.fit, (c.loop-conflict.invariant.closer, (all_at Is c.args.conflicts.now c.loop-conflict.conflict-index (conflict_at c.args.conflicts.now c.loop-conflict.conflict-index) c.requires.conflicts c.loop-conflict-test.true (get_or_own_default c.args.conflicts.now c.loop-conflict.conflict-index _ c.loop-conflict-test.true), is_unsolved (conflict_at c.args.conflicts.now c.loop-conflict.conflict-index).kind (sym c.if-is_explained.ensures)))))),
    )

pub loop-conflict-preserved : goal.loop-conflict-preserved
loop-conflict-preserved g c =
    let grammar = c.args.searched.now.grammar.now in
    let automaton = c.args.searched.now.automaton.now in
    let table = c.args.searched.now.reach.now in
    let i = c.loop-conflict.conflict-index in
    let next = conflict_at c.args.conflicts.now i in
    let is = get_or_own_default c.args.conflicts.now i _ c.loop-conflict-test.true in
    elim c.if-is_explained.branch [
      | then-is_explained+in_ok-write_explanation w ↦ record {
        closer = rw w.closer-is w.in_ok-write_explanation.ensures.closer;
        text = rw w.text-is
            (conflict_explained grammar automaton table c.args.conflicts.now i next c.loop-conflict-test.true is c.loop-conflict.text.items c.loop-conflict.invariant.text w.write_explanation.new.text.items (is_unsolved next.kind (sym w.if-is_explained.ensures)) w.in_ok-write_explanation.ensures.text);
      }
      | else-is_explained w ↦ record {
        closer = rw w.closer-is c.loop-conflict.invariant.closer;
        text = rw w.text-is (conflict_solved grammar automaton table c.args.conflicts.now i next c.loop-conflict-test.true is c.loop-conflict.text.items c.loop-conflict.invariant.text (is_solved next.kind (sym w.if-is_explained.ensures)));
      }
    ]

pub returns : goal.returns
returns g c =
    subst (λ (cs : List Conflict). AreExplanations c.args.searched.now.grammar.now c.args.searched.now.automaton.now c.args.searched.now.reach.now cs c.loop-conflict.text.items) (take_all c.loop-conflict.conflict-index c.args.conflicts.now c.loop-conflict-test.false)
    c.loop-conflict.invariant.text
