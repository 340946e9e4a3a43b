use Rattle.std.proofs.Common.{◌≡◌, ◌∙◌}
use Rattle.mh_facts.proofs.store.FactStore.fact.Goals as goal

pub returns : goal.returns
returns c =
    let same : c.self.inside.facts ≡ c.args.self.now = cc in
    rw (← same) (c.copied.ensures ∙ c.get.ensures)
