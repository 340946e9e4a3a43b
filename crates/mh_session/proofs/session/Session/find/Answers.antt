use Rattle.std.proofs.Common.{◌≡◌, ap, sym, subst, ◌∙◌}
use Rattle.mh_session_branches.specs.Names.{at_name}
use Rattle.mh_session.specs.SessionState.{SessionState}
use Rattle.mh_session.specs.code.ChangesName.{HaveTable}
use Rattle.mh_session.proofs.ChangesName.{of_table}
use Rattle.mh_session.proofs.session.Session.find.Goals as goal

pub returns-clause-found : goal.returns-clause-found
returns-clause-found c = c.get.ensures.value ∙ ap (λ (m : SessionState). at_name c.args.name.now m.held) c.self.view_is

pub returns-clause-table : goal.returns-clause-table
returns-clause-table c =
    of_table c.args.self.now.table c.args.self.now.held c.args.name.now c.get.result (c.get.ensures.value ∙ ap (λ (m : SessionState). at_name c.args.name.now m.held) c.self.view_is) (subst (λ (m : SessionState). HaveTable m.table m.held) c.self.view_is c.self.invariant)
