use Rattle.std.proofs.Common.{sym, ◌∙◌}
use Rattle.mh_session.proofs.IsServed.{stack_served}
use Rattle.mh_session.proofs.session.Session.stack.Goals as goal

pub returns : goal.returns
returns c = stack_served c.args.self.now c.args.name.now c.in-Some.checkpoint.now c.from_vec.result (sym c.in-Some.ensures.found) c.in-Some.ensures.table (c.from_vec.ensures ∙ c.in_ok-symbols.ensures)
