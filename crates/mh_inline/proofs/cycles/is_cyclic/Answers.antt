use Rattle.std.proofs.Common.{◌<◌, length, refl, arith}
use Rattle.std.proofs.lemmas.Option.{slice_get_read}
use Rattle.mh_grammar.proofs.NumberingInvariant.{contains_at}
use Rattle.mh_inline_unfold.proofs.InlineProducers.{inline_instance}
use Rattle.mh_inline.proofs.AddsFound.{IsFoundTable-empty}
use Rattle.mh_inline.proofs.IsCyclic.{Searched-start, Searched-step, searched, reaches_used}
use Rattle.mh_inline.proofs.cycles.is_cyclic.Goals as goal

pub loop-done-init : goal.loop-done-init
loop-done-init c = Searched-start c.args.expanded.now.instances c.args.number _ c.add_inlined.new.found c.requires (IsFoundTable-empty c.args.expanded.now.instances _ c.len.result c.len.ensures c.in_ok-found.ensures.flags c.in_ok-found.ensures.queue) c.in_ok-found.ensures.queue c.in_ok-add_inlined.ensures

pub add_inlined-requires-in-loop-done-clause-number : goal.add_inlined-requires-in-loop-done-clause-number
add_inlined-requires-in-loop-done-clause-number c =
    let is = c.args.expanded.now.instances in
    let q = c.loop-done.found.queue.items in
    let within : c.loop-done.done < length q = omega (arith, c.loop-done-test.true, c.len-in-loop-done.ensures, c.loop-done.found.queue.ok.0) in
    let at = slice_get_read q (length q) c.loop-done.done c.index-next.result.now refl within c.index-next.ensures in
    (inline_instance is c.index-next.result.now (reaches_used is c.args.number c.index-next.result.now (c.loop-done.invariant.sound c.index-next.result.now (contains_at q c.loop-done.done c.index-next.result.now at)))).within

pub loop-done-preserved : goal.loop-done-preserved
loop-done-preserved c =
    let is = c.args.expanded.now.instances in
    let q = c.loop-done.found.queue.items in
    let within : c.loop-done.done < length q = omega (arith, c.loop-done-test.true, c.len-in-loop-done.ensures, c.loop-done.found.queue.ok.0) in
    let at = slice_get_read q (length q) c.loop-done.done c.index-next.result.now refl within c.index-next.ensures in
    Searched-step is c.args.number c.loop-done.found c.add_inlined-in-loop-done.new.found c.loop-done.done c.index-next.result.now c.loop-done.invariant within at c.in_ok-add_inlined-2.ensures

pub index-requires : goal.index-requires
index-requires c =
    let w = (inline_instance c.args.expanded.now.instances c.args.number c.requires).within in
    let len = c.loop-done.invariant.table.len in
    omega (arith, c.loop-done.found.flags.ok.0)

pub returns : goal.returns
returns c =
    let w = (inline_instance c.args.expanded.now.instances c.args.number c.requires).within in
    let len = c.loop-done.invariant.table.len in
    let l : c.args.number < length c.loop-done.found.flags.items = omega arith in
    searched c.args.expanded.now.instances c.args.number c.loop-done.found c.loop-done.done c.index.result.now c.loop-done.invariant (omega (arith, c.loop-done-test.false, c.len-in-loop-done.ensures, c.loop-done.found.queue.ok.0)) l c.index.ensures
