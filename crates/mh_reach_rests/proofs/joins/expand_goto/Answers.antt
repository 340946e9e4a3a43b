use Rattle.std.proofs.Common.{◌≡◌, ◌<◌, ◌++◌, ◌∷◌, [], refl, ap, sym, arith, length, ◌∙◌}
use Rattle.std.specs.Global.{Vec}
use Rattle.mh_grammar.specs.declared.types.Symbol.TheVariants.{N}
use Rattle.mh_facts.specs.code.Queues.{row_of}
use Rattle.mh_facts.specs.code.TokenClasses.{place_of}
use Rattle.mh_facts.proofs.QueueRows.{adds_to_row, row_is}
use Rattle.mh_reach_rests.specs.declared.waiting.SettledRest.{SettledRest}
use Rattle.mh_reach_rests.specs.declared.waiting.SettledGoto.{SettledGoto}
use Rattle.mh_reach_rests.proofs.joins.expand_goto.Goals as goal

pub class_of-place-requires-clause-state : goal.class_of-place-requires-clause-state
class_of-place-requires-clause-state c = c.facts.ensures.each_target c.args.goto.fact.from (N c.args.goto.fact.nonterminal) c.args.goto.target c.requires.goto.edge

row_read : (c : goal.After-as_slice) → row_of c.args.work.now.rests.items (place_of c.args.classes.now c.args.goto.target c.args.goto.fact.next) ≡ c.as_slice.result.now
row_read c =
    let lt : c.class_of-place.result.place < length c.args.work.now.rests.items = (let a = c.class_of-place.ensures.within in let b = c.requires.rows.rests in omega arith) in
    rw (← c.class_of-place.ensures.place) (row_is c.args.work.now.rests.items c.class_of-place.result.place c.index.result.now lt ∙ ap (λ (v : Vec SettledRest). v.items) (sym c.index.ensures) ∙ sym c.as_slice.ensures.value)

pub join_rests-requires-clause-rests : goal.join_rests-requires-clause-rests
join_rests-requires-clause-rests c r h = c.requires.rows.each_rest (place_of c.args.classes.now c.args.goto.target c.args.goto.fact.next) r (rw (row_read c) h)

row_read' : (c : goal.In_ok-push) → row_of c.args.work.now.rests.items (place_of c.args.classes.now c.args.goto.target c.args.goto.fact.next) ≡ c.as_slice.result.now
row_read' c =
    let lt : c.class_of-place.result.place < length c.args.work.now.rests.items = (let a = c.class_of-place.ensures.within in let b = c.requires.rows.rests in omega arith) in
    rw (← c.class_of-place.ensures.place) (row_is c.args.work.now.rests.items c.class_of-place.result.place c.index.result.now lt ∙ ap (λ (v : Vec SettledRest). v.items) (sym c.index.ensures) ∙ sym c.as_slice.ensures.value)

pub returns-clause-queue : goal.returns-clause-queue
returns-clause-queue c = rw (← row_read' c) at c.in_ok-join_rests.ensures

pub returns-clause-gotos : goal.returns-clause-gotos
returns-clause-gotos c =
    let lt : c.class_of-place.result.place < length c.args.work.now.gotos.items = (let a = c.class_of-place.ensures.within in let b = c.requires.rows.gotos in omega arith) in
    rw (← c.class_of-place.ensures.place) (adds_to_row c.args.work.now.gotos.items _ c.class_of-place.result.place _ c.push.new.self lt refl c.args.goto (c.in_ok-push.ensures.items ∙ ap (λ (v : Vec SettledGoto). v.items ++ c.args.goto ∷ []) c.index_mut.ensures.value))
