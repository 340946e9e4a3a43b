use Rattle.std.proofs.Common.{◌≡◌, ap, sym, subst, ◌∙◌, refl, []}
use Rattle.std.specs.Prelude.{IsTrue, true}
use Rattle.mh_engine.specs.Positions.{Position}
use Rattle.mh_engine.specs.Phases.{phase_of, CanResume}
use Rattle.mh_engine.specs.Steps.{resumed, initial_position}
use Rattle.mh_tables_core.specs.TooDeep.{too_deep}
use Rattle.mh_session.specs.SessionState.{SessionState}
use Rattle.mh_session_branches.specs.Names.{at_name}
use Rattle.mh_session.proofs.ChangesName.{removal_keeps_table}
use Rattle.mh_session.proofs.IsServed.{found_none, begin_served, offer_served, resume_served, deep_served, resumed_of, fork_served, forget_served, DidPut}
use Rattle.mh_session.proofs.session.Session.begin.Goals as goal

pub returns : goal.returns
returns c =
    begin_served c.args.self.now c.put.new.self c.args.name.now c.args.start c.begin-checkpoint.result c.put.result (found_none c.find.result _ c.find.ensures.found (sym c.is_some.ensures ∙ c.if-is_some.false))
    (c.begin-checkpoint.ensures.value ∙ ap (λ (m : SessionState). initial_position m.table c.args.start []) c.self.view_is)
    (record { reply = c.put.ensures.reply; fault = c.put.ensures.fault; name_changed = c.put.ensures.put; same = c.put.ensures.same })
