use Rattle.std.proofs.Common.{arith, refl}
use Rattle.mh_sets.proofs.WordBits.{common_token, no_common_token}
use Rattle.mh_sets.proofs.bits.share.Goals as goal

pub returns-then-words-k-ne0 : goal.returns-then-words-k-ne0
returns-then-words-k-ne0 c = (
  λ _. common_token c.args.words.now c.args.other.now c.requires.len c.words.k (omega arith) c.requires.each (λ e. omega arith),
  λ _. refl,
)

pub returns : goal.returns
returns c = (
  λ h. cc,
  λ h. absurd (no_common_token c.args.words.now c.args.other.now c.requires.len (λ k l. c.words.invariant k (omega arith)) h.0 h.1 h.2),
)
