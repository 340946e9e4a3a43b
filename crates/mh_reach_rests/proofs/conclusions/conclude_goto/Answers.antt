use Rattle.std.proofs.Common.{◌≡◌, true, false, refl, sym, ◌∙◌}
use Rattle.std.proofs.lemmas.Result.{on_ok_weaker}
use Rattle.mh_facts.proofs.QueueGains.{gains_none, gains_only}
use Rattle.mh_reach_rests.specs.code.RestRules.{IsGotoOf}
use Rattle.mh_reach_rests.proofs.conclusions.conclude_goto.Goals as goal

pub returns-then-not-reduces : goal.returns-then-not-reduces
returns-then-not-reduces c =
    gains_none (IsGotoOf c.args.table.now c.args.classes.now c.args.path c.args.goto.0 c.args.goto.1) c.args.queue.now.buckets.items
    (λ cost o h. (let y : false ≡ true = c.if-not-reduces.ensures.1 (h.move, h.representative_is) in cc))

pub returns : goal.returns
returns c =
    let reduced = c.if-not-reduces.ensures.0 refl in
    on_ok_weaker c.push.result
    (gains_only (IsGotoOf c.args.table.now c.args.classes.now c.args.path c.args.goto.0 c.args.goto.1) c.args.path.cost c.goto_of.result c.args.queue.now.buckets.items c.push.new.queue.buckets.items
    (record { move = reduced.0; representative_is = reduced.1; cost_is = refl; is = c.goto_of.ensures }, λ cost o h. (h.cost_is, h.is ∙ sym c.goto_of.ensures)))
    c.push.ensures
