use Rattle.std.proofs.Common.{◌<◌, ◌∷◌, ◌++◌, [], length, ap, ◌∙◌, arith, rules}
use Rattle.mh_pager.specs.code.Worklist.{merge_state_of}
use Rattle.mh_pager.proofs.IsReachedByMerging.{IsInitialUpTo-none, IsInitialUpTo-push}
use Rattle.mh_pager.proofs.construction.begin.Goals as goal

pub loop-start-init : goal.loop-start-init
loop-start-init g c = record {
  begun = rw c.requires.empty IsInitialUpTo-none;
  kept = c.requires.kept;
}

pub push_start-requires : goal.push_start-requires
push_start-requires g c =
    let small : length c.loop-start.worklist.kernels.items < 4294967296 = omega (arith, c.loop-start.invariant.begun.kernels.len, c.loop-start-test.true, c.len-start-end.ensures, c.requires.fits.range.few_starts) in
    (search rules, (search rules, (c.requires.fits.few, (small, c.loop-start.invariant.kept))))

pub loop-start-preserved : goal.loop-start-preserved
loop-start-preserved g c =
    let old = merge_state_of c.loop-start.worklist in
    let begun = c.loop-start.invariant.begun in
    let made = c.in_ok-push_start.ensures.ok in
    record {
      begun = IsInitialUpTo-push c.loop-start.start old (merge_state_of c.push_start.new.self) c.in_ok-kernel.kernel begun c.in_ok-kernel.ensures.exact made.kernels made.rows (made.queue ∙ ap (λ n. old.queue ++ n ∷ []) begun.kernels.len);
      kept = c.in_ok-push_start.ensures.kept;
    }
