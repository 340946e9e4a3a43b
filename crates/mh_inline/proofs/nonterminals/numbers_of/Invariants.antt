use Rattle.std.proofs.Common.{◌≡◌, ◌≤◌, ◌<◌, ℕ, length, get_or}
use Rattle.mh_inline.specs.Kept.{nonterminal_number}
use Rattle.mh_inline.proofs.nonterminals.numbers_of.Given as goal

abbrev pub invariant-loop-instance : goal.invariant-loop-instance
invariant-loop-instance l = record {
  next : l.next ≡ nonterminal_number l.instances l.instance-index;
  small : l.next ≤ l.instance-index;
  len : length l.numbers.items ≡ l.instance-index;
  each : (k : ℕ) → k < l.instance-index → get_or l.numbers.items k 0 ≡ nonterminal_number l.instances k;
}
