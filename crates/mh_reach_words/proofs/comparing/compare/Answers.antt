use Rattle.mh_reach_words.specs.declared.comparing.Rests.{Rests}
use Rattle.mh_reach_words.specs.code.Words.{spelled, words_of}
use Rattle.mh_reach_words.proofs.IsComparisonStep.{remainders_begin, are_tops, comparison_decides, remainders_kept, weight_less}
use Rattle.mh_reach_words.proofs.comparing.compare.Goals as goal

pub parts-init : goal.parts-init
parts-init c =
    let rests : Rests = record { left = c.put_parts.new.parts; right = c.put_parts-2.new.parts } in
    remainders_begin (words_of c.args.entries.now) c.args.left c.args.right c.clear.new.self.items c.clear-2.new.self.items rests c.clear.ensures.items c.clear-2.ensures.items c.in_ok-put_parts.ensures c.in_ok-put_parts-2.ensures c.requires.left c.requires.right

pub turn-requires-clause-tops : goal.turn-requires-clause-tops
turn-requires-clause-tops c =
    let mid : Rests = record { left = c.take_top-one.new.parts; right = c.take_top-two.new.parts } in
    are_tops (words_of c.args.entries.now) c.parts.rests mid c.take_top-one.result c.take_top-two.result (spelled (words_of c.args.entries.now) c.args.left) (spelled (words_of c.args.entries.now) c.args.right) c.parts.invariant c.take_top-one.ensures c.take_top-two.ensures

pub returns-in-Some : goal.returns-in-Some
returns-in-Some c =
    let mid : Rests = record { left = c.take_top-one.new.parts; right = c.take_top-two.new.parts } in
    comparison_decides (words_of c.args.entries.now) (spelled (words_of c.args.entries.now) c.args.left) (spelled (words_of c.args.entries.now) c.args.right) c.parts.rests mid c.take_top-one.result c.take_top-two.result c.parts.invariant c.take_top-one.ensures c.take_top-two.ensures c.turn.new.rests c.in-Some.ordering
    (rw c.in-Some.is at c.in_ok-turn.ensures)

pub parts-smaller : goal.parts-smaller
parts-smaller c =
    let mid : Rests = record { left = c.take_top-one.new.parts; right = c.take_top-two.new.parts } in
    weight_less (words_of c.args.entries.now) (spelled (words_of c.args.entries.now) c.args.left) (spelled (words_of c.args.entries.now) c.args.right) c.parts.rests mid c.take_top-one.result c.take_top-two.result c.parts.invariant c.take_top-one.ensures c.take_top-two.ensures c.turn.new.rests
    (rw c.in-None.is at c.in_ok-turn.ensures)

pub parts-preserved : goal.parts-preserved
parts-preserved c =
    let mid : Rests = record { left = c.take_top-one.new.parts; right = c.take_top-two.new.parts } in
    remainders_kept (words_of c.args.entries.now) (spelled (words_of c.args.entries.now) c.args.left) (spelled (words_of c.args.entries.now) c.args.right) c.parts.rests mid c.take_top-one.result c.take_top-two.result c.parts.invariant c.take_top-one.ensures c.take_top-two.ensures c.turn.new.rests
    (rw c.in-None.is at c.in_ok-turn.ensures)
