use Rattle.mh_expand.proofs.SharedTerms.{AreNodes-result, AreNodes-placed, Placed-term}
use Rattle.mh_expand.proofs.terms.Terms.insert.Goals as goal

pub invariant_of-self : goal.invariant_of-self
invariant_of-self c =
    let old = c.args.self.now.nodes.keys in
    record { nodes_ok = AreNodes-result c.place.result old c.place.new.nodes.keys c.args.node c.args.self.now.nodes_ok c.requires c.place.ensures.ok c.place.ensures.err }

pub returns : goal.returns
returns c =
    let old = c.args.self.now.nodes.keys in
    let new = c.place.new.nodes.keys in
    let p = c.in_ok-place.ensures.ok in
    Placed-term old new c.args.node c.in_ok-place.field-0 c.args.self.now.nodes_ok (AreNodes-placed old new c.args.node c.in_ok-place.field-0 c.args.self.now.nodes_ok c.requires p) p
