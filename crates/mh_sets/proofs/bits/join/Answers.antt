use Rattle.std.proofs.Common.{arith, length, ◌≡◌}
use Rattle.std.proofs.lemmas.Grind.{common_steps, same_number_lists}
use Rattle.mh_sets.proofs.WordBits.{join_bits, join_each}
use Rattle.mh_sets.proofs.bits.join.Goals as goal

pub returns-clause-each : goal.returns-clause-each
returns-clause-each c =
    let len : length c.words.words ≡ length c.args.words.now = c.words.auto.words in
    join_each c.args.words.now c.args.other.now c.requires.len c.words.words len (λ k l. c.words.invariant.joined k (omega arith)) c.requires.each c.requires.other

pub returns-clause-bits : goal.returns-clause-bits
returns-clause-bits c =
    let len : length c.words.words ≡ length c.args.words.now = c.words.auto.words in
    join_bits c.args.words.now c.args.other.now c.requires.len c.words.words len (λ k l. c.words.invariant.joined k (omega arith))

pub returns-clause-same : goal.returns-clause-same
returns-clause-same c e = same_number_lists c.words.words c.args.words.now c.words.auto.words (λ k l. c.words.invariant.same e k (omega arith))

pub words-preserved : goal.words-preserved
words-preserved c = record {
  joined = grind (arith, common_steps);
  rest = grind (arith, common_steps);
  same = grind (arith, common_steps);
  differs = grind (arith, common_steps);
}
