-- The measure of the worklist of marks.
use Rattle.std.specs.Prelude.{◌+◌, ℕ, length, sum}
use Rattle.mh_grammar.specs.declared.worklist.Waiting.{Waiting}

-- The number of symbols that still lack a mark and of productions that are ready.
abbrev pub load : Waiting → ℕ
load w = sum w.missing.items + length w.ready.items
