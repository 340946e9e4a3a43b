use Rattle.std.proofs.Common.{◌≡◌, ◌<◌, ℕ, List, [], ◌∷◌, ◌++◌, ap, sym, subst, ◌∙◌}
use Rattle.mh_tables_core.specs.Table.{TableData}
use Rattle.mh_engine.specs.Positions.{Position}
use Rattle.mh_engine.specs.code.Settling.{SettlesTo}
use Rattle.mh_engine.specs.Steps.{offered}
use Rattle.mh_engine.specs.code.SentenceOutcomes.{IsBeforeGivenToken}
use Rattle.mh_engine.proofs.SentenceTokens.{IsTokenOffered, IsBeforeToken-settled, IsTokenOffered-offered, IsTokenOffered-settled, IsBeforeToken-too_deep, IsTokenOffered-too_deep, SettlesTooDeep-step, IsBeforeToken-accept, IsTokenOffered-accept, IsTokenOffered-reject, IsBeforeToken-next, no_other_phase_at_end, no_other_phase_at_token, settles_table, can_resume_at_shift}
use Rattle.mh_engine.proofs.sentence.feed.Goals as goal

-- After the reductions before the offer, the token is offered and not shifted yet.
waits : (t : TableData) (start : ℕ) (w : List ℕ) (i z : ℕ) (c d e : Position) → IsBeforeGivenToken t start w i z c → SettlesTo c d → e ≡ offered d z → IsTokenOffered t start w i z e
waits t start w i z c d e r s h = IsTokenOffered-offered t start w i z 0 d e (IsBeforeToken-settled t start w i c d r.reads s) r.index_known r.token_is h

-- After the reductions that follow the offer, the token is still offered and not shifted yet.
waits_on : (t : TableData) (start : ℕ) (w : List ℕ) (i z : ℕ) (c d e f : Position) → IsBeforeGivenToken t start w i z c → SettlesTo c d → e ≡ offered d z → SettlesTo e f → IsTokenOffered t start w i z f
waits_on t start w i z c d e f r s h s2 = IsTokenOffered-settled t start w i z e f (waits t start w i z c d e r s h) s2

offered_left : (z : ℕ) (d e : Position) → e ≡ offered d z → d.left ≡ [] → e.left ≡ z ∷ []
offered_left z d e h none = ap (λ (p : Position). p.left) h ∙ ap (λ (l : List ℕ). l ++ z ∷ []) none

pub returns-in-Err-clause-deep : goal.returns-in-Err-clause-deep
returns-in-Err-clause-deep c = λ e t start w r. IsBeforeToken-too_deep t start w c.args.place c.args.at r.reads (c.in-Err.ensures.deep e)

pub returns-in-Accepted-clause-read : goal.returns-in-Accepted-clause-read
returns-in-Accepted-clause-read c = λ t start w r.
    IsBeforeToken-accept t start w c.args.place c.in-Ok.asking c.in_ok-accept-in-Accepted.field-0 (IsBeforeToken-settled t start w c.args.place c.args.at c.in-Ok.asking r.reads c.in-Ok.ensures.settled) (sym c.in-Accepted.ensures) c.in_ok-accept-in-Accepted.ensures

pub unreachable-requires : goal.unreachable-requires
unreachable-requires c =
    let s = c.in-Ok.ensures.settled in
    no_other_phase_at_end c.in-Ok.asking (s.left ∙ c.requires.empty) (s.not_refused c.requires.not_refused) s.settled (λ s e. c.in_default.not-InputNeeded s (c.phase.ensures ∙ e)) (λ e. c.in_default.not-Accepted (c.phase.ensures ∙ e))

pub offer_to-requires-clause-token : goal.offer_to-requires-clause-token
offer_to-requires-clause-token c = subst (λ (t : TableData). c.args.token < t.grammar.tokens) (sym (settles_table c.args.at c.in-Ok.asking c.in-Ok.ensures.settled)) c.requires.token

pub returns-in-Err-settle-clause-deep : goal.returns-in-Err-settle-clause-deep
returns-in-Err-settle-clause-deep c = λ e t start w r.
    IsTokenOffered-too_deep t start w c.args.place c.args.token c.in_ok-offered.offered (waits t start w c.args.place c.args.token c.args.at c.in-Ok.asking c.in_ok-offered.offered r c.in-Ok.ensures.settled c.in_ok-offered.ensures) (c.in-Err-settle.ensures.deep e)

pub returns-in-Accepted-phase-clause-read : goal.returns-in-Accepted-phase-clause-read
returns-in-Accepted-phase-clause-read c = λ t start w r.
    IsTokenOffered-accept t start w c.args.place c.args.token c.in-Ok-settle.fed c.in_ok-accept-in-Accepted-phase.field-0
    (waits_on t start w c.args.place c.args.token c.args.at c.in-Ok.asking c.in_ok-offered.offered c.in-Ok-settle.fed r c.in-Ok.ensures.settled c.in_ok-offered.ensures c.in-Ok-settle.ensures.settled) (sym c.in-Accepted-phase.ensures) c.in_ok-accept-in-Accepted-phase.ensures

pub returns-in-HandlingError-clause-read : goal.returns-in-HandlingError-clause-read
returns-in-HandlingError-clause-read c = λ t start w r.
    IsTokenOffered-reject t start w c.args.place c.args.token c.in-HandlingError.state c.in-Ok-settle.fed (waits_on t start w c.args.place c.args.token c.args.at c.in-Ok.asking c.in_ok-offered.offered c.in-Ok-settle.fed r c.in-Ok.ensures.settled c.in_ok-offered.ensures c.in-Ok-settle.ensures.settled)
    (sym c.in-HandlingError.ensures)

pub unreachable-requires-in_default-phase : goal.unreachable-requires-in_default-phase
unreachable-requires-in_default-phase c =
    let s = c.in-Ok.ensures.settled in
    let s2 = c.in-Ok-settle.ensures.settled in
    no_other_phase_at_token c.in-Ok-settle.fed c.args.token (s2.left ∙ offered_left c.args.token c.in-Ok.asking c.in_ok-offered.offered c.in_ok-offered.ensures (s.left ∙ c.requires.empty))
    (s2.not_refused (ap (λ (p : Position). p.refused) c.in_ok-offered.ensures ∙ s.not_refused c.requires.not_refused)) s2.settled (λ s y e. c.in_default-phase.not-Shifting s y (c.phase-2.ensures ∙ e)) (λ s e. c.in_default-phase.not-HandlingError s (c.phase-2.ensures ∙ e))
    (λ e. c.in_default-phase.not-Accepted (c.phase-2.ensures ∙ e))

pub returns-in-Ok-resume_from-clause-read : goal.returns-in-Ok-resume_from-clause-read
returns-in-Ok-resume_from-clause-read c = λ t start w r.
    IsBeforeToken-next t start w c.args.place c.args.token c.in-Shifting.state c.in-Shifting.token c.in-Ok-settle.fed c.in-Ok-resume_from.next
    (waits_on t start w c.args.place c.args.token c.args.at c.in-Ok.asking c.in_ok-offered.offered c.in-Ok-settle.fed r c.in-Ok.ensures.settled c.in_ok-offered.ensures c.in-Ok-settle.ensures.settled) (sym c.in-Shifting.ensures) c.in-Ok-resume_from.ensures.value
    c.in-Ok-resume_from.ensures.fits

pub returns-in-Err-resume_from-clause-deep : goal.returns-in-Err-resume_from-clause-deep
returns-in-Err-resume_from-clause-deep c = λ e t start w r.
    IsTokenOffered-too_deep t start w c.args.place c.args.token c.in-Ok-settle.fed (waits_on t start w c.args.place c.args.token c.args.at c.in-Ok.asking c.in_ok-offered.offered c.in-Ok-settle.fed r c.in-Ok.ensures.settled c.in_ok-offered.ensures c.in-Ok-settle.ensures.settled)
    (SettlesTooDeep-step c.in-Ok-settle.fed (can_resume_at_shift c.in-Ok-settle.fed c.in-Shifting.state c.in-Shifting.token (sym c.in-Shifting.ensures)) (c.in-Err-resume_from.ensures.deep e))
