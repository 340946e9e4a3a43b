use Rattle.std.proofs.Common.{ap, ◌∙◌}
use Rattle.std.specs.List.{position}
use Rattle.mh_join_names.specs.code.KeyLists.{KeyList}
use Rattle.mh_join_names.specs.Names.{same}
use Rattle.mh_join_names.proofs.IsPositionMap.{place_within}
use Rattle.mh_join_names.proofs.name_list.NameList.place_of.Goals as goal

pub returns-clause-within : goal.returns-clause-within
returns-clause-within c =
    place_within c.args.self.now.keys c.args.name.now c.copied.result (c.copied.ensures ∙ c.get.ensures.value ∙ c.self.invariant c.args.name.now ∙ ap (λ (l : KeyList). position (same c.args.name.now) l.keys) c.self.view_is)
