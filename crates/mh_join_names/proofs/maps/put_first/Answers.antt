use Rattle.std.proofs.Common.{sym, ◌∙◌}
use Rattle.std.specs.HashMap.{get}
use Rattle.mh_join_names.specs.Names.{same}
use Rattle.mh_join_names.proofs.Lists.{put_case}
use Rattle.mh_join_names.proofs.maps.put_first.Goals as goal

pub returns-in_ok-insert : goal.returns-in_ok-insert
returns-in_ok-insert g c =
    put_case (λ x. get same c.args.map.now x) (λ x. get same c.insert.new.self x) c.args.name.now c.args.value
    (sym c.contains_key.ensures ∙ c.if-not-contains_key.true)
    (rw c.in_ok-clone.ensures.cases at c.in_ok-insert.ensures.updates.0)
