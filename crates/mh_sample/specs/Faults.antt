-- The definition of the faults of a random sentence.
use Rattle.std.specs.Prelude.{◌<◌, ℕ, List, length}
use Rattle.mh_grammar.specs.Plain.{PlainGrammar, IsSentence}
use Rattle.mh_sample.specs.declared.random.RandomFault.{RandomFault}
use Rattle.mh_sample.specs.declared.random.RandomFault.TheVariants.{NoneWithin, Memory}

-- Each sentence of the first start symbol has more than n tokens.
abbrev pub AreLonger : PlainGrammar → ℕ → Type 0
AreLonger g n = (s : List ℕ) → IsSentence g 0 s → n < length s

-- The cause of each fault. Memory may run out at any time.
abbrev pub MayFail : PlainGrammar → ℕ → RandomFault → Type 0
MayFail g n NoneWithin = AreLonger g n
MayFail g n Memory = Unit {0}
