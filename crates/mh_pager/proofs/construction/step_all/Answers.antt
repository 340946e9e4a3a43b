use Rattle.std.proofs.Common.{◌≡◌, ◌∷◌, ◌∙◌, rules}
use Rattle.mh_grammar.specs.Plain.{plain_of}
use Rattle.mh_canon.specs.Limits.{max_states}
use Rattle.mh_pager.specs.code.Worklist.{merge_state_of}
use Rattle.mh_pager.proofs.IsReachedByMerging.{IsReachedByMerging-start, IsReachedByMerging-step, next_well_formed, step_lowers_weight, few_starts}
use Rattle.mh_pager.proofs.construction.step_all.Goals as goal

pub steps-init : goal.steps-init
steps-init g c = record {
  list = IsReachedByMerging-start (plain_of c.args.grammar.now) (merge_state_of c.args.worklist.now) c.requires.begun;
  few = few_starts (plain_of c.args.grammar.now) (merge_state_of c.args.worklist.now) c.requires.fits.range c.requires.begun;
  kept = c.requires.kept;
  mover = c.requires.mover;
}

pub step-requires : goal.step-requires
step-requires g c =
    let rest = c.take_oldest.new.self.states.items in
    let e : c.steps.worklist.queue.states.items ≡ c.in-Some.state ∷ rest = c.in-Some.ensures.oldest in
    let ready = next_well_formed (plain_of c.args.grammar.now) (merge_state_of c.steps.worklist) c.in-Some.state rest e c.steps.invariant.list in
    let kept = c.steps.invariant.kept in
    (search rules, (search rules, (c.requires.fits, (c.steps.invariant.mover, (ready, (c.steps.invariant.few, record { flagged = c.take_oldest.ensures.flagged; flags = c.take_oldest.ensures.len ∙ kept.flags; indexed = kept.indexed }))))))

pub steps-smaller : goal.steps-smaller
steps-smaller g c =
    let rest = c.take_oldest.new.self.states.items in
    let e : c.steps.worklist.queue.states.items ≡ c.in-Some.state ∷ rest = c.in-Some.ensures.oldest in
    step_lowers_weight (plain_of c.args.grammar.now) max_states (merge_state_of c.steps.worklist) (merge_state_of c.step.new.worklist) c.in-Some.state rest e c.in-Ok.ensures.ok c.in-Ok.ensures.few

pub steps-preserved : goal.steps-preserved
steps-preserved g c =
    let rest = c.take_oldest.new.self.states.items in
    let e : c.steps.worklist.queue.states.items ≡ c.in-Some.state ∷ rest = c.in-Some.ensures.oldest in
    record {
      list = IsReachedByMerging-step (plain_of c.args.grammar.now) (merge_state_of c.steps.worklist) (merge_state_of c.step.new.worklist) c.in-Some.state rest e c.steps.invariant.list c.in-Ok.ensures.ok;
      few = c.in-Ok.ensures.few;
      kept = c.in-Ok.ensures.kept;
      mover = c.in-Ok.ensures.mover;
    }
