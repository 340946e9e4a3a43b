use Rattle.std.proofs.Common.{◌≡◌, true, false, refl}
use Rattle.std.proofs.lemmas.Result.{on_ok_weaker}
use Rattle.mh_facts.proofs.QueueGains.{gains_by, gains_none}
use Rattle.mh_reach_rests.specs.code.RestRules.{FitsRest, FollowsBoth, IsConcluded, after_goto}
use Rattle.mh_reach_rests.proofs.RestRanges.{goto_range}
use Rattle.mh_reach_rests.proofs.joins.join.Goals as goal

pub returns-then-not-fits : goal.returns-then-not-fits
returns-then-not-fits c = gains_none (FollowsBoth c.args.table.now c.args.classes.now c.args.goto c.args.rest) c.args.queue.now.buckets.items (λ cost o h. (let y : false ≡ true = c.if-not-fits.ensures.1 h.0 in cc))

pub conclude-requires-clause-range : goal.conclude-requires-clause-range
conclude-requires-clause-range c =
    let fits : FitsRest c.args.table.now c.args.goto c.args.rest = c.if-not-fits.ensures.0 refl in
    rw c.after_goto.ensures (goto_range c.args.table.now c.facts.ensures c.args.classes.now c.requires.classes c.args.goto c.args.rest c.requires.goto c.requires.rest fits)

pub returns : goal.returns
returns c =
    let t = c.args.table.now in
    let fits : FitsRest t c.args.goto c.args.rest = c.if-not-fits.ensures.0 refl in
    on_ok_weaker c.conclude.result
    (gains_by (IsConcluded t c.args.classes.now (after_goto c.args.goto c.args.rest)) (FollowsBoth t c.args.classes.now c.args.goto c.args.rest) c.args.queue.now.buckets.items c.conclude.new.queue.buckets.items (λ cost o h. (fits, h)) (λ cost o h. h.1))
    (rw c.after_goto.ensures at c.conclude.ensures)
