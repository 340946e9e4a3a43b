use Rattle.std.proofs.Common.{get_or, refl}
use Rattle.mh_grammar.proofs.Lists.{map_step}
use Rattle.mh_reach_words.specs.declared.word_parts.LastPart.TheVariants as lasts
use Rattle.mh_reach_words.specs.code.Arrivals.{spot}
use Rattle.mh_reach_spots.specs.declared.waiting.WaitingSpot.{WaitingSpot}
use Rattle.mh_reach_spots.proofs.numbering.all_made.Goals as goal

pub loop-coming-preserved : goal.loop-coming-preserved
loop-coming-preserved c =
    let all = c.args.all.now in
    let i = c.loop-coming.coming-index in
    let none : WaitingSpot = record { spot = spot 0 0; made = record { front = 0; last = lasts.Token 0 } } in
    map_step (λ (o : WaitingSpot). o.made) all i none (get_or all i none) c.loop-coming.made.items c.push.new.self.items (get_or all i none).made c.loop-coming-test.true refl c.loop-coming.invariant refl c.in_ok-push.ensures.items
