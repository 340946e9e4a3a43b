use Rattle.std.proofs.Common.{◌<◌, ◌≤◌, ◌∙◌, arith, refl}
use Rattle.std.proofs.lemmas.Result.{IfOk-weaker}
use Rattle.mh_facts.specs.Costs.{cap}
use Rattle.mh_reach_spots.proofs.SpotNumbers.{are_numbered, not_numbered}
use Rattle.mh_reach_spots.proofs.numbering.numbers_of.Goals as goal

pub returns-then-cost-ge-CAP : goal.returns-then-cost-ge-CAP
returns-then-cost-ge-CAP c =
    let ge : cap ≤ c.args.cost = (let a = c.if-cost-ge-CAP.true in omega arith) in
    IfOk-weaker c.no_numbers.result _ _ (λ numbers len. not_numbered c.args.book.now c.args.book.now c.args.cost c.args.all.now numbers.items ge len refl) c.no_numbers.ensures

pub number_all-requires-clause-known : goal.number_all-requires-clause-known
number_all-requires-clause-known c =
    let lt : c.args.cost < cap = (let a = c.if-cost-ge-CAP.false in omega arith) in
    rw (c.as_slice.ensures.value, c.in_ok-made.ensures) (c.requires.sentences lt).known

pub number_all-requires-clause-fresh : goal.number_all-requires-clause-fresh
number_all-requires-clause-fresh c =
    let lt : c.args.cost < cap = (let a = c.if-cost-ge-CAP.false in omega arith) in
    (c.requires.sentences lt).fresh

pub number_all-requires-clause-prefix_free : goal.number_all-requires-clause-prefix_free
number_all-requires-clause-prefix_free c =
    let lt : c.args.cost < cap = (let a = c.if-cost-ge-CAP.false in omega arith) in
    rw (c.as_slice.ensures.value, c.in_ok-made.ensures) (c.requires.sentences lt).prefix_free

pub returns : goal.returns
returns c = are_numbered c.args.book.now c.number_all.new.self c.args.cost c.args.all.now c.in_ok-numbers.numbers.items c.as_slice.result.now (c.as_slice.ensures.value ∙ c.in_ok-made.ensures) c.in_ok-numbers.ensures.numbered c.rising.ensures
