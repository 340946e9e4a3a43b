use Rattle.std.specs.Prelude.{is_some}
use Rattle.std.proofs.Common.{sym, ap, ◌∙◌}
use Rattle.mh_reach_words.proofs.numbering.number_for.Goals as goal

pub unwrap-requires : goal.unwrap-requires
unwrap-requires c = ap is_some (c.copied.ensures ∙ c.get.ensures.value) ∙ c.requires

pub returns : goal.returns
returns c = sym c.unwrap.ensures ∙ c.copied.ensures ∙ c.get.ensures.value
