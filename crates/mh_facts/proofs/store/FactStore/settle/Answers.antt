use Rattle.std.proofs.Common.{◌≡◌, sym, ◌∙◌, ap, ◌++◌, ◌∷◌, []}
use Rattle.mh_facts.specs.Stored.{highest_cost}
use Rattle.mh_facts.proofs.StoreEntries.{highest_cost-push}
use Rattle.mh_facts.proofs.store.FactStore.settle.Goals as goal

whole : (c : goal.After-self-1) → c.push.new.self ≡ c.args.self.now ++ (c.args.key, record { cost = c.args.cost; back = c.args.back }) ∷ []
whole c =
    let same : c.self.inside.facts ≡ c.args.self.now = cc in
    rw (← same) c.in_ok-push.ensures.pushed

pub invariant_of-self-2 : goal.invariant_of-self-2
invariant_of-self-2 c = sym (ap highest_cost (whole c) ∙ highest_cost-push c.args.self.now c.args.key (record { cost = c.args.cost; back = c.args.back }) c.requires)

pub returns-clause-stored : goal.returns-clause-stored
returns-clause-stored c e = whole c
