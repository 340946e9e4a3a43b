-- The limit on automata.
use Rattle.std.specs.Prelude.{ℕ}

-- The most states of an automaton.
abbrev pub max_states : ℕ
max_states = 200000
