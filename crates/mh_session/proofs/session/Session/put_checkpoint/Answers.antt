use Rattle.std.proofs.Common.{Some, ap, subst, sym, ◌∙◌}
use Rattle.std.specs.Map.{update}
use Rattle.mh_grammar.specs.Text.{Text}
use Rattle.mh_session_branches.specs.Names.{at_name, same}
use Rattle.mh_session.specs.SessionState.{SessionState}
use Rattle.mh_session.specs.code.ChangesName.{ChangesName}
use Rattle.mh_session.proofs.ChangesName.{put_keeps_table}
use Rattle.mh_session.proofs.session.Session.put_checkpoint.Goals as goal

pub invariant_of-self-2 : goal.invariant_of-self-2
invariant_of-self-2 c =
    put_keeps_table c.self.inside.table.now c.self.inside.branches.entries c.insert.new.self.entries c.in_ok-name.name c.args.checkpoint c.self.invariant c.in_ok-insert.ensures.updates.0 (c.requires ∙ ap (λ (m : SessionState). m.table) (sym c.self.view_is))

pub returns-clause-put : goal.returns-clause-put
returns-clause-put c =
    let new : SessionState = record { table = c.self.inside.table.now; held = c.insert.new.self.entries } in
    let put : ChangesName c.args.self.now c.in_ok-name.name (Some c.args.checkpoint) new = record {
      table = ap (λ (m : SessionState). m.table) c.self.view_is;
      held = λ q. c.in_ok-insert.ensures.updates.0 q ∙ ap (λ (m : SessionState). update same (λ k. at_name k m.held) c.in_ok-name.name (Some c.args.checkpoint) q) c.self.view_is;
    } in
    subst (λ (name : Text). ChangesName c.args.self.now name (Some c.args.checkpoint) new) c.in_ok-name.ensures.cases put
