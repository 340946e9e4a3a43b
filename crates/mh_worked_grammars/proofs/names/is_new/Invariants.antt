use Rattle.std.proofs.Common.{◌≡◌, ◌<◌, ℕ}
use Rattle.mh_grammar.specs.Names.{token_name}
use Rattle.mh_worked_grammars.proofs.names.is_new.Given as goal

abbrev pub invariant-loop-other : goal.invariant-loop-other
invariant-loop-other l = (n : ℕ) → n < l.other → token_name l.grammar n ≡ token_name l.grammar l.token → ⊥
