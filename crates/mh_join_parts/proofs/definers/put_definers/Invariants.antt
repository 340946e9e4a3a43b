use Rattle.std.proofs.Common.{◌≡◌, ℕ, take}
use Rattle.std.specs.Prelude.{◌&&◌, ◌==◌, not}
use Rattle.std.specs.List.{list_any, enumerate_from}
use Rattle.std.specs.HashMap.{get}
use Rattle.mh_grammar.specs.Text.{Text}
use Rattle.mh_join_names.specs.Names.{same, defines}
use Rattle.mh_join_names.specs.code.DefiningFiles.{elsewhere_by}
use Rattle.mh_join_parts.proofs.definers.put_definers.Given as goal

abbrev pub invariant-loop-at : goal.invariant-loop-at
invariant-loop-at l = (k : ℕ) (x : Text) → elsewhere_by (get same l.definers x) k ≡ list_any (λ f. not (f.0 == k) && defines f.1 x) (enumerate_from 1 (take l.at l.files))
