use Rattle.mh_facts.proofs.StoreEntries.{place_found, place_none}
use Rattle.mh_facts.proofs.store.FactStore.place.Goals as goal

pub returns-clause-none : goal.returns-clause-none
returns-clause-none c = rw (← c.self.view_is) (place_none c.self.inside.facts c.args.key.now c.place.result c.place.ensures)

pub returns-clause-place : goal.returns-clause-place
returns-clause-place c = rw (← c.self.view_is) (place_found c.self.inside.facts c.args.key.now c.place.result c.place.ensures)
