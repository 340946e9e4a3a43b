use Rattle.std.proofs.Common.{sym, subst, ◌∙◌}
use Rattle.std.proofs.lemmas.Result.{IfOk-weaker, IfErr-weaker}
use Rattle.mh_engine.specs.Positions.{Position}
use Rattle.mh_engine.specs.code.Settling.{SettlesTo}
use Rattle.mh_engine.proofs.FedTokens.{IsTokenFed-stopped, IsTokenFed-shifted, shift_too_deep, end_too_deep}
use Rattle.mh_engine.proofs.feeding.feed_token.Goals as goal

pub returns-in_default : goal.returns-in_default
returns-in_default c =
    record {
      fed = IsTokenFed-stopped c.args.asking c.args.token c.requires.can_offer c.in-Ok.settled (subst (λ (p : Position). SettlesTo p c.in-Ok.settled) c.in_ok-offered.ensures c.in-Ok.ensures.settled) (λ q y e. c.in_default.not-Shifting q y (c.phase.ensures ∙ e));
      deep = tt;
    }

pub returns-in-Ok-resume_from-clause-fed : goal.returns-in-Ok-resume_from-clause-fed
returns-in-Ok-resume_from-clause-fed c =
    IfOk-weaker c.settle-in-Ok-resume_from.result _ _
    (λ end s. IsTokenFed-shifted c.args.asking c.args.token c.requires.can_offer c.in-Ok.settled (subst (λ (p : Position). SettlesTo p c.in-Ok.settled) c.in_ok-offered.ensures c.in-Ok.ensures.settled) c.in-Shifting.state c.in-Shifting.token (sym c.in-Shifting.ensures) c.in-Ok-resume_from.shifted end
    c.in-Ok-resume_from.ensures.value c.in-Ok-resume_from.ensures.fits s)
    c.settle-in-Ok-resume_from.ensures.settled

pub returns-in-Ok-resume_from-clause-deep : goal.returns-in-Ok-resume_from-clause-deep
returns-in-Ok-resume_from-clause-deep c =
    IfErr-weaker c.settle-in-Ok-resume_from.result _ _
    (λ fault deep e. end_too_deep c.args.asking c.args.token c.requires.can_offer c.in-Ok.settled (subst (λ (p : Position). SettlesTo p c.in-Ok.settled) c.in_ok-offered.ensures c.in-Ok.ensures.settled) c.in-Shifting.state c.in-Shifting.token (sym c.in-Shifting.ensures) c.in-Ok-resume_from.shifted
    c.in-Ok-resume_from.ensures.value c.in-Ok-resume_from.ensures.fits (deep e))
    c.settle-in-Ok-resume_from.ensures.deep

pub returns-in-Err-resume_from-clause-deep : goal.returns-in-Err-resume_from-clause-deep
returns-in-Err-resume_from-clause-deep c = λ e.
    shift_too_deep c.args.asking c.args.token c.requires.can_offer c.in-Ok.settled (subst (λ (p : Position). SettlesTo p c.in-Ok.settled) c.in_ok-offered.ensures c.in-Ok.ensures.settled) c.in-Shifting.state c.in-Shifting.token (sym c.in-Shifting.ensures) (c.in-Err-resume_from.ensures.deep e)
