use Rattle.std.proofs.Common.{◌≡◌, ◌+◌, ◌*◌, false, not, length, count_by, vec_len, if◌then◌else◌}
use Rattle.mh_grammar.specs.FirstFlags.{AreSoundFlags, NoProductionAdds}
use Rattle.mh_grammar.specs.Plain.{plain_of}
use Rattle.mh_grammar.proofs.firsts.first_flags.Given as goal

abbrev pub invariant-loop-grown : goal.invariant-loop-grown
invariant-loop-grown l = record {
  len : vec_len l.flags ≡ length l.grammar.nonterminals * length l.grammar.tokens;
  sound : AreSoundFlags (plain_of l.grammar) (length l.grammar.tokens) l.flags.items;
  added : l.grown ≡ false → NoProductionAdds l.grammar.productions l.nullable (length l.grammar.tokens) l.flags.items;
}

abbrev pub decreases-loop-grown : goal.decreases-loop-grown
decreases-loop-grown l = count_by not l.flags.items + (if l.grown then 1 else 0)
