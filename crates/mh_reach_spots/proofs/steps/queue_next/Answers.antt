use Rattle.std.proofs.Common.{◌≡◌, ◌<◌, ap, sym, ◌∙◌, arith, length}
use Rattle.std.specs.Global.{Vec}
use Rattle.std.proofs.lemmas.Result.{on_ok_weaker}
use Rattle.mh_reach_spots.specs.declared.goto_rows.NumberedGoto.{NumberedGoto}
use Rattle.mh_facts.specs.code.Queues.{row_of, Among}
use Rattle.mh_facts.specs.code.TokenClasses.{place_of}
use Rattle.mh_reach_spots.specs.code.SpotSteps.{StepsShift, StepsOverGoto}
use Rattle.mh_facts.proofs.QueueRows.{row_is}
use Rattle.mh_facts.proofs.QueueGains.{gains_then}
use Rattle.mh_reach_spots.proofs.steps.queue_next.Goals as goal

row_read : (c : goal.After-as_slice) → row_of c.args.gotos.now (place_of c.args.classes.now c.args.from.spot.state c.args.from.spot.next) ≡ c.as_slice.result.now
row_read c =
    let lt : c.class_of-place.result.place < length c.args.gotos.now = (let a = c.class_of-place.ensures.within in let b = c.requires.rows in omega arith) in
    rw (← c.class_of-place.ensures.place) (row_is c.args.gotos.now c.class_of-place.result.place c.index-gotos-place.result lt ∙ ap (λ (v : Vec NumberedGoto). v.items) (sym c.index-gotos-place.is) ∙ sym c.as_slice.ensures.value)

row_read' : (c : goal.After-step_gotos) → row_of c.args.gotos.now (place_of c.args.classes.now c.args.from.spot.state c.args.from.spot.next) ≡ c.as_slice.result.now
row_read' c =
    let lt : c.class_of-place.result.place < length c.args.gotos.now = (let a = c.class_of-place.ensures.within in let b = c.requires.rows in omega arith) in
    rw (← c.class_of-place.ensures.place) (row_is c.args.gotos.now c.class_of-place.result.place c.index-gotos-place.result lt ∙ ap (λ (v : Vec NumberedGoto). v.items) (sym c.index-gotos-place.is) ∙ sym c.as_slice.ensures.value)

pub step_gotos-requires-clause-gotos : goal.step_gotos-requires-clause-gotos
step_gotos-requires-clause-gotos c w h = c.requires.few (place_of c.args.classes.now c.args.from.spot.state c.args.from.spot.next) w (rw (row_read c) h)

pub returns : goal.returns
returns c =
    let t = c.args.table.now in
    on_ok_weaker c.step_gotos.result (gains_then (StepsShift t c.args.classes.now c.args.from) (Among (StepsOverGoto c.args.from) (row_of c.args.gotos.now (place_of c.args.classes.now c.args.from.spot.state c.args.from.spot.next))) c.args.queue.now.buckets.items c.step_shifts.new.queue.buckets.items c.step_gotos.new.queue.buckets.items
    c.in_ok-step_shifts.ensures) (rw (← row_read' c) at c.step_gotos.ensures)
