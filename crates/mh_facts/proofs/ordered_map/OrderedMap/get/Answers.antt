use Rattle.std.proofs.Common.{◌≡◌, ◌<◌, Some, length, sym, rules, ◌∙◌}
use Rattle.mh_facts.specs.Ordered.{index_in}
use Rattle.mh_facts.proofs.OrderedEntries.{place_within, value_at, no_place_none}
use Rattle.mh_facts.proofs.ordered_map.OrderedMap.get.Goals as goal

pub index-requires : goal.index-requires
index-requires g c =
    let there : index_in (g.K.PartialEq.eq c.args.key.now) c.self.inside.entries.items ≡ Some c.in-Some.place = rw c.self.view_is (sym c.place.ensures ∙ c.in-Some.is) in
    let below : c.in-Some.place < length c.self.inside.entries.items = place_within (g.K.PartialEq.eq c.args.key.now) c.self.inside.entries.items c.in-Some.place there in
    search rules

pub returns-in-None : goal.returns-in-None
returns-in-None g c = sym (no_place_none (g.K.PartialEq.eq c.args.key.now) c.args.self.now (sym c.place.ensures ∙ c.in-None.is))

pub returns-in-Some : goal.returns-in-Some
returns-in-Some g c = value_at (g.K.PartialEq.eq c.args.key.now) c.args.self.now c.in-Some.place c.index.result.now (sym c.place.ensures ∙ c.in-Some.is) (rw (← c.self.view_is) c.index.ensures)
