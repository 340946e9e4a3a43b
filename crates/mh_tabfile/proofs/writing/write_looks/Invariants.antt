use Rattle.std.proofs.Common.{◌≡◌, ◌++◌, map}
use Rattle.mh_resolve_cells.specs.Names.{look_name}
use Rattle.mh_tabfile.specs.code.Texts.{words_after}
use Rattle.mh_tabfile.proofs.writing.write_looks.Given as goal

abbrev pub invariant-loop-look : goal.invariant-loop-look
invariant-loop-look g l = record {
  can : (goal.iterator-loop-look g).can_next l.look-iterator;
  ends : (goal.iterator-loop-look g).is_finite l.look-iterator;
  rest : l.text.items ++ words_after (map (look_name l.grammar) l.look-iterator.left) ≡ l.initial.text.items ++ words_after (map (look_name l.grammar) l.looks);
}
