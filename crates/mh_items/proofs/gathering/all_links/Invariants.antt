use Rattle.std.proofs.Common.{◌≡◌, ℕ, List, Some, length, vec_len}
use Rattle.std.specs.List.{slice_get}
use Rattle.mh_grammar.specs.Plain.{plain_of}
use Rattle.mh_items.specs.declared.links.FirstLink.{FirstLink}
use Rattle.mh_items.proofs.IsStringFirst.{LinksSoFar}
use Rattle.mh_items.proofs.gathering.all_links.Given as goal

abbrev pub invariant-loop-production : goal.invariant-loop-production
invariant-loop-production gg l = record {
  len : vec_len l.rows ≡ length l.grammar.nonterminals;
  links : (n : ℕ) (row : List (FirstLink gg.row.W)) → slice_get l.rows.items n ≡ Some row → LinksSoFar (plain_of l.grammar) n row l.production-index;
}
