use Rattle.std.proofs.Common.{◌≡◌, ap, sym, subst, ◌∙◌, refl}
use Rattle.std.specs.Prelude.{IsTrue, true}
use Rattle.mh_engine.specs.Positions.{Position}
use Rattle.mh_engine.specs.Phases.{phase_of, CanResume}
use Rattle.mh_engine.specs.Steps.{resumed}
use Rattle.mh_tables_core.specs.TooDeep.{too_deep}
use Rattle.mh_session.specs.SessionState.{SessionState}
use Rattle.mh_session_branches.specs.Names.{at_name}
use Rattle.mh_session.proofs.ChangesName.{removal_keeps_table}
use Rattle.mh_session.proofs.IsServed.{found_none, begin_served, offer_served, resume_served, deep_served, resumed_of, fork_served, forget_served, DidPut}
use Rattle.mh_session.proofs.session.Session.resume.Goals as goal

pub returns-in-Err-TooDeep : goal.returns-in-Err-TooDeep
returns-in-Err-TooDeep c =
    let going : CanResume (phase_of c.in-Some.checkpoint.now) = subst CanResume c.phase-phase.ensures (c.if-not-can_resume.ensures.0 refl) in
    (refl, deep_served c.args.self.now c.args.name.now c.in-Some.checkpoint.now (sym c.in-Some.ensures.found) c.in-Some.ensures.table going (c.in-Err-TooDeep.ensures.deep c.in-Err-TooDeep.field-0-is))

pub put-requires : goal.put-requires
put-requires c = resumed_of c.in-Some.checkpoint.now c.in-Ok.resumed c.args.self.now.table c.in-Ok.ensures.value c.in-Some.ensures.table

pub returns : goal.returns
returns c =
    let going : CanResume (phase_of c.in-Some.checkpoint.now) = subst CanResume c.phase-phase.ensures (c.if-not-can_resume.ensures.0 refl) in
    resume_served c.args.self.now c.put.new.self c.args.name.now c.in-Some.checkpoint.now c.in-Ok.resumed c.put.result (sym c.in-Some.ensures.found) c.in-Some.ensures.table going c.in-Ok.ensures.value c.in-Ok.ensures.fits
    (record { reply = c.put.ensures.reply; fault = c.put.ensures.fault; name_changed = c.put.ensures.put; same = c.put.ensures.same })
