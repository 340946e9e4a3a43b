use Rattle.std.proofs.Common.{◌≡◌, ap, sym, ◌∙◌, None, Some}
use Rattle.std.specs.Map.{update}
use Rattle.mh_session.specs.SessionState.{SessionState}
use Rattle.mh_session_branches.specs.Names.{at_name, same}
use Rattle.mh_session.specs.code.ChangesName.{ChangesName}
use Rattle.mh_session.proofs.ChangesName.{removal_keeps_table}
use Rattle.mh_session.proofs.IsServed.{forget_served}
use Rattle.mh_session.proofs.session.Session.forget.Goals as goal

pub invariant_of-self-2 : goal.invariant_of-self-2
invariant_of-self-2 c = removal_keeps_table c.self.inside.table.now c.self.inside.branches.entries c.remove.new.self.entries c.args.name.now c.self.invariant c.remove.ensures.updates.0

pub returns : goal.returns
returns c =
    let new : SessionState = record { table = c.self.inside.table.now; held = c.remove.new.self.entries } in
    let has : at_name c.args.name.now c.args.self.now.held ≡ Some c.in-Some.field-0 = ap (λ (m : SessionState). at_name c.args.name.now m.held) (sym c.self.view_is) ∙ sym c.in-Some.ensures.value in
    let put : ChangesName c.args.self.now c.args.name.now None new = record {
      table = ap (λ (m : SessionState). m.table) c.self.view_is;
      held = λ q. c.remove.ensures.updates.0 q ∙ ap (λ (m : SessionState). update same (λ k. at_name k m.held) c.args.name.now None q) c.self.view_is;
    } in
    forget_served c.args.self.now new c.args.name.now c.in-Some.field-0 has put
