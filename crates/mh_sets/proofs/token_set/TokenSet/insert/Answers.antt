use Rattle.std.proofs.Common.{◌∙◌}
use Rattle.mh_sets.proofs.LooksOf.{is_set}
use Rattle.mh_sets.proofs.TokenSetCalls.{insert_token, insert_end, fresh_token, fresh_end}
use Rattle.mh_sets.proofs.token_set.TokenSet.insert.Goals as goal

pub returns-in-Token-clause-set : goal.returns-in-Token-clause-set
returns-in-Token-clause-set g c = is_set c.set_bit.new.words c.self.inside.end g.row.W (record { few = c.self.invariant.few; width = c.set_bit.ensures.len ∙ c.self.invariant.width; each = c.set_bit.ensures.each })

pub returns-in-Token-clause-members : goal.returns-in-Token-clause-members
returns-in-Token-clause-members g c = insert_token c.self.inside.words c.self.inside.end c.args.self.now c.self.view_is c.set_bit.new.words c.args.look c.in-Token.token c.in-Token.is (rw c.from.ensures at c.set_bit.ensures.bits)

pub returns-in-Token-clause-fresh : goal.returns-in-Token-clause-fresh
returns-in-Token-clause-fresh g c = fresh_token c.self.inside.words c.self.inside.end c.args.self.now c.self.view_is c.args.look c.in-Token.token c.set_bit.result c.in-Token.is (rw c.from.ensures at c.set_bit.ensures.fresh)

pub returns-in-End-clause-set : goal.returns-in-End-clause-set
returns-in-End-clause-set g c = is_set c.self.inside.words _ g.row.W c.self.invariant

pub returns-in-End-clause-members : goal.returns-in-End-clause-members
returns-in-End-clause-members g c = insert_end c.self.inside.words c.self.inside.end c.args.self.now c.self.view_is c.args.look c.in-End.is

pub returns-in-End-clause-fresh : goal.returns-in-End-clause-fresh
returns-in-End-clause-fresh g c = fresh_end c.self.inside.words c.self.inside.end c.args.self.now c.self.view_is c.args.look c.in-End.is
