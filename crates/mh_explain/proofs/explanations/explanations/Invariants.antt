use Rattle.std.proofs.Common.{take}
use Rattle.mh_grammar.specs.Plain.{plain_of}
use Rattle.mh_items.specs.code.ClosureBuilder.{IsClosureBuilder}
use Rattle.mh_explain.specs.Explanations.{AreExplanations}
use Rattle.mh_explain.proofs.explanations.explanations.Given as goal

abbrev pub invariant-loop-conflict : goal.invariant-loop-conflict
invariant-loop-conflict g l = record {
  closer : IsClosureBuilder (plain_of l.searched.grammar.now) l.closer;
  text : AreExplanations l.searched.grammar.now l.searched.automaton.now l.searched.reach.now (take l.conflict-index l.conflicts) l.text.items;
}
