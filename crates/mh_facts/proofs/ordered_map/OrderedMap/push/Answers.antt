use Rattle.std.proofs.Common.{◌≡◌, Some, length, rules}
use Rattle.std.specs.HashMap.{Updates}
use Rattle.mh_facts.proofs.OrderedEntries.{knows_push}
use Rattle.mh_facts.proofs.ordered_map.OrderedMap.push.Goals as goal

pub invariant_of-self-2 : goal.invariant_of-self-2
invariant_of-self-2 g c =
    let es = c.self.inside.entries.items in
    let same : c.reserve.new.self.items ≡ es = c.in_ok-reserve.ensures.items in
    let behind : c.len.result ≡ length es = search rules in
    let put : Updates g.K.PartialEq.eq c.self.inside.places c.insert.new.self c.args.key (Some (length es)) = rw behind at c.in_ok-insert.ensures.updates in
    rw (c.in_ok-push.ensures.items, same) (knows_push g.met.K.Eq.laws es c.args.key c.args.value (rw c.self.view_is c.requires) c.self.inside.places c.insert.new.self c.self.invariant put)
