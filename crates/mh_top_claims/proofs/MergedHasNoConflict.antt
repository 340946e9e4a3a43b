-- Proves that the automaton that is built for an LR(1) grammar has no conflict, be it merged or canonical.
use Rattle.std.proofs.Common.{◌≤◌, length, arith}
use Rattle.mh_grammar.specs.declared.types.Grammar.{Grammar}
use Rattle.mh_grammar.specs.Plain.{plain_of}
use Rattle.mh_items_kernels.specs.KernelTypes.{Automaton}
use Rattle.mh_items_kernels.specs.Automaton.{IsAutomaton}
use Rattle.mh_canon.specs.Canonical.{IsCanonical}
use Rattle.mh_canon.specs.Limits.{max_states}
use Rattle.mh_pager.specs.MergeSteps.{IsMerged}
use Rattle.mh_pager.proofs.IsMerged.{merged_automaton}
use Rattle.mh_pager.proofs.ConflictsAgree.{merged_reaches_any, canonical_reaches_any}
use Rattle.mh_resolve_cells.specs.NoConflicts.{HasNoConflicts}
use Rattle.mh_resolve_cells.proofs.ConflictsAgree.{no_conflicts_agree}
use Rattle.mh_top_claims.specs.VerdictClaims.{IsLR1Grammar}

pub merged_has_no_conflict : (g : Grammar) (a : Automaton) → IsMerged (plain_of g) a → length a.kernels ≤ max_states → IsLR1Grammar g → HasNoConflicts g a
merged_has_no_conflict g a m few lr1 = (no_conflicts_agree g a (merged_automaton (plain_of g) a m few)).1 (λ f. lr1 ((merged_reaches_any (plain_of g) a m (omega (arith, few))).0 f))

pub canonical_has_no_conflict : (g : Grammar) (a : Automaton) → IsAutomaton (plain_of g) a → IsCanonical (plain_of g) a → IsLR1Grammar g → HasNoConflicts g a
canonical_has_no_conflict g a automaton is lr1 = (no_conflicts_agree g a automaton).1 (λ f. lr1 ((canonical_reaches_any (plain_of g) a is).0 f))
