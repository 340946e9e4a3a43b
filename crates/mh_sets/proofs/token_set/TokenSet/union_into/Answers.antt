use Rattle.std.proofs.Common.{◌∙◌}
use Rattle.mh_sets.proofs.LooksOf.{is_set}
use Rattle.mh_sets.proofs.TokenSetCalls.{union_members, union_grew}
use Rattle.mh_sets.proofs.token_set.TokenSet.union_into.Goals as goal

pub returns-clause-set : goal.returns-clause-set
returns-clause-set g c = is_set c.join-fresh.new.words _ g.row.W (record { few = c.self.invariant.few; width = c.join-fresh.ensures.len ∙ c.self.invariant.width; each = c.join-fresh.ensures.each })

pub returns-clause-members : goal.returns-clause-members
returns-clause-members g c = union_members c.self.inside.words c.self.inside.end c.args.self.now c.self.view_is c.other.inside.words c.other.inside.end c.args.other.now c.other.view_is c.join-fresh.new.words c.join-fresh.ensures.bits

pub returns-clause-grew : goal.returns-clause-grew
returns-clause-grew g c = union_grew c.self.inside.words c.self.inside.end c.args.self.now c.self.view_is c.other.inside.words c.other.inside.end c.args.other.now c.other.view_is g.row.W c.join-fresh.new.words c.join-fresh.result
    c.self.invariant (record { few = c.self.invariant.few; width = c.join-fresh.ensures.len ∙ c.self.invariant.width; each = c.join-fresh.ensures.each }) c.join-fresh.ensures.bits c.join-fresh.ensures.fresh
