use Rattle.std.proofs.Common.{◌≡◌, ◌<◌, ◌++◌, ◌∷◌, [], refl, ap, sym, arith, length, ◌∙◌}
use Rattle.std.specs.Global.{Vec}
use Rattle.mh_facts.specs.code.Queues.{row_of}
use Rattle.mh_facts.specs.code.TokenClasses.{place_of}
use Rattle.mh_facts.proofs.QueueRows.{adds_to_row, row_is}
use Rattle.mh_reach_rests.specs.declared.waiting.SettledRest.{SettledRest}
use Rattle.mh_reach_rests.specs.declared.waiting.SettledGoto.{SettledGoto}
use Rattle.mh_reach_rests.proofs.joins.meet_gotos.Goals as goal

row_read : (c : goal.After-as_slice) → row_of c.args.work.now.gotos.items (place_of c.args.classes.now c.args.rest.key.from c.args.rest.key.first) ≡ c.as_slice.result.now
row_read c =
    let lt : c.class_of-place.result.place < length c.args.work.now.gotos.items = (let a = c.class_of-place.ensures.within in let b = c.requires.rows.gotos in omega arith) in
    rw (← c.class_of-place.ensures.place) (row_is c.args.work.now.gotos.items c.class_of-place.result.place c.index.result.now lt ∙ ap (λ (v : Vec SettledGoto). v.items) (sym c.index.ensures) ∙ sym c.as_slice.ensures.value)

pub join_gotos-requires-clause-gotos : goal.join_gotos-requires-clause-gotos
join_gotos-requires-clause-gotos c g h = c.requires.rows.each_goto (place_of c.args.classes.now c.args.rest.key.from c.args.rest.key.first) g (rw (row_read c) h)

row_read' : (c : goal.In_ok-push) → row_of c.args.work.now.gotos.items (place_of c.args.classes.now c.args.rest.key.from c.args.rest.key.first) ≡ c.as_slice.result.now
row_read' c =
    let lt : c.class_of-place.result.place < length c.args.work.now.gotos.items = (let a = c.class_of-place.ensures.within in let b = c.requires.rows.gotos in omega arith) in
    rw (← c.class_of-place.ensures.place) (row_is c.args.work.now.gotos.items c.class_of-place.result.place c.index.result.now lt ∙ ap (λ (v : Vec SettledGoto). v.items) (sym c.index.ensures) ∙ sym c.as_slice.ensures.value)

pub returns-clause-queue : goal.returns-clause-queue
returns-clause-queue c = rw (← row_read' c) at c.in_ok-join_gotos.ensures

pub returns-clause-rests : goal.returns-clause-rests
returns-clause-rests c =
    let lt : c.class_of-place.result.place < length c.args.work.now.rests.items = (let a = c.class_of-place.ensures.within in let b = c.requires.rows.rests in omega arith) in
    rw (← c.class_of-place.ensures.place) (adds_to_row c.args.work.now.rests.items _ c.class_of-place.result.place _ c.push.new.self lt refl c.args.rest (c.in_ok-push.ensures.items ∙ ap (λ (v : Vec SettledRest). v.items ++ c.args.rest ∷ []) c.index_mut.ensures.value))
