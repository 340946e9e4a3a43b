use Rattle.std.proofs.Common.{◌≡◌, ◌<◌, Some, length, take, get_or, refl, sym, ap, ◌∙◌}
use Rattle.std.specs.List.{slice_get}
use Rattle.std.proofs.lemmas.List.{take_more}
use Rattle.std.proofs.lemmas.Option.{slice_get_read}
use Rattle.mh_grammar.proofs.Lists.{zip_push}
use Rattle.mh_pager.proofs.numbering.pick.Goals as goal

pub loop-state-preserved : goal.loop-state-preserved
loop-state-preserved g c =
    let kernels = c.args.kernels.now in
    let i = c.loop-state.state-index in
    let n = get_or c.args.states.now i 0 in
    let l : n < length kernels = c.requires.within i 0 c.loop-state-test.true in
    let at : slice_get kernels n ≡ Some c.index-kernels-state.result = slice_get_read kernels (length kernels) n c.index-kernels-state.result refl l c.index-kernels-state.is in
    rw (take_more c.args.states.now i 0 c.loop-state-test.true, c.in_ok-push.ensures.ok) (zip_push (λ m k. slice_get kernels m ≡ Some k) (take i c.args.states.now) c.loop-state.all n c.in_ok-kernel.kernel c.loop-state.invariant (at ∙ ap Some (sym c.in_ok-kernel.ensures)))
