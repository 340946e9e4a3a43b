use Rattle.std.proofs.Common.{ap, length, ◌∙◌}
use Rattle.std.proofs.lemmas.List.{length-replicate}
use Rattle.mh_reach_rests.proofs.numbering.fresh_book.Goals as goal

pub returns : goal.returns
returns c = record {
  book = c.new.ensures;
  len = ap length (c.in_ok-tokens.ensures.items_if_clones_equal (λ y e. e)) ∙ length-replicate _ _ ∙ c.tokens.ensures;
  by_cost = c.in_ok-by_cost.ensures;
}
