use Rattle.std.proofs.Common.{arith, refl}
use Rattle.mh_sets.proofs.WordBits.{within_from, token_outside}
use Rattle.mh_sets.proofs.bits.are_within.Goals as goal

pub returns-then-words-k-ne0 : goal.returns-then-words-k-ne0
returns-then-words-k-ne0 c = (
  λ h. cc,
  λ h. absurd (token_outside c.args.words.now c.args.other.now c.requires.len c.words.k (omega arith) c.requires.each c.requires.other (λ e. omega arith) h),
)

pub returns : goal.returns
returns c = (
  λ _. within_from c.args.words.now c.args.other.now c.requires.len c.requires.other (λ k l. c.words.invariant k (omega arith)),
  λ _. refl,
)
