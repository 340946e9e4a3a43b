use Rattle.mh_session.proofs.StepClauses.{served_reply, served_next, served_same, served_fault, served_table}
use Rattle.mh_session.proofs.session.Session.step.Goals as goal

pub returns : goal.returns
returns c = record {
  served = c.serve.ensures;
  reply = served_reply c.args.self.now c.serve.new.self c.args.command.now c.serve.result c.serve.ensures;
  next = served_next c.args.self.now c.serve.new.self c.args.command.now c.serve.result c.serve.ensures;
  same = served_same c.args.self.now c.serve.new.self c.args.command.now c.serve.result c.serve.ensures;
  fault = served_fault c.args.self.now c.serve.new.self c.args.command.now c.serve.result c.serve.ensures;
  table = served_table c.args.self.now c.serve.new.self c.args.command.now c.serve.result c.serve.ensures;
}
