-- Proves that lists of lookaheads which compare equal are equal.
use Rattle.std.specs.Prelude.{◌≡◌, List, refl}
use Rattle.std.proofs.Common.{Decides, rules}
use Rattle.std.specs.Cmp.Lexicographic.{pointwise}
use Rattle.std.proofs.lemmas.Slice.Eq.{slice_eq-Decides}
use Rattle.mh_grammar.specs.declared.types.Look.{Look}
use Rattle.mh_grammar.specs.contracts.types.LookPartialEq.TheImpl.{eq-value}

look_Decides : (a b : Look) → Decides (eq-value.it a b) (a ≡ b)
look_Decides a b = search rules

pub looks_Decides : (xs ys : List Look) → Decides (pointwise eq-value.it xs ys) (xs ≡ ys)
looks_Decides xs ys = slice_eq-Decides {E = eq-value.it} look_Decides xs ys (pointwise eq-value.it xs ys) refl
