use Rattle.std.proofs.Common.{◌≡◌, ap, sym, subst, ◌∙◌, refl}
use Rattle.std.specs.Prelude.{IsTrue, true}
use Rattle.mh_engine.specs.Positions.{Position}
use Rattle.mh_engine.specs.Phases.{phase_of, CanResume}
use Rattle.mh_engine.specs.Steps.{resumed}
use Rattle.mh_tables_core.specs.TooDeep.{too_deep}
use Rattle.mh_session.specs.SessionState.{SessionState}
use Rattle.mh_session_branches.specs.Names.{at_name}
use Rattle.mh_session.proofs.ChangesName.{removal_keeps_table}
use Rattle.mh_session.proofs.IsServed.{found_none, begin_served, offer_served, resume_served, deep_served, resumed_of, fork_served, forget_served, DidPut}
use Rattle.mh_session.proofs.session.Session.offer.Goals as goal

pub returns : goal.returns
returns c =
    offer_served c.args.self.now c.put.new.self c.args.name.now c.args.token c.in-InputNeeded.state c.in-Some.checkpoint.now c.in_ok-offered.offered c.put.result (sym c.in-Some.ensures.found) c.in-Some.ensures.table (sym c.in-InputNeeded.ensures)
    c.in_ok-offered.ensures.value
    (record { reply = c.put.ensures.reply; fault = c.put.ensures.fault; name_changed = c.put.ensures.put; same = c.put.ensures.same })
