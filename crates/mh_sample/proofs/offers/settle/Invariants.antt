use Rattle.std.proofs.Common.{◌≡◌, length, vec_len}
use Rattle.mh_grammar.specs.Plain.{plain_of}
use Rattle.mh_sample.specs.code.Offers.{load, KeepsDerived}
use Rattle.mh_sample.proofs.offers.settle.Given as goal

abbrev pub invariant-loop-offer : goal.invariant-loop-offer
invariant-loop-offer l = record {
  len : vec_len l.words ≡ length l.grammar.nonterminals;
  derived : KeepsDerived (plain_of l.grammar) l.fn.words.items l.words.items;
}

abbrev pub decreases-loop-offer : goal.decreases-loop-offer
decreases-loop-offer l = load l.waiting
