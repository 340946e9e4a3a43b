use Rattle.std.specs.Prelude.{is_some}
use Rattle.std.proofs.Common.{sym, ap, ◌∙◌}
use Rattle.mh_join_names.proofs.Resolved.{known_unless}
use Rattle.mh_join_parts.proofs.building.start_number.Goals as goal

pub unwrap-requires : goal.unwrap-requires
unwrap-requires c = ap is_some (c.copied.ensures ∙ c.get.ensures.value) ∙ known_unless _ _ c.requires

pub returns : goal.returns
returns c = sym c.unwrap.ensures ∙ c.copied.ensures ∙ c.get.ensures.value
