use Rattle.std.proofs.Common.{◌≡◌, sym, ◌∙◌, arith, true, false, rules}
use Rattle.mh_grammar.specs.Plain.{plain_of}
use Rattle.mh_pager.specs.code.StateTests.{HasCoreAndPasses}
use Rattle.mh_pager.proofs.AreCandidates.{Search, candidate_at, first_candidate, none_before_step, none_in_all}
use Rattle.mh_pager.proofs.finding.first_fitting.Goals as goal

pub fits-requires : goal.fits-requires
fits-requires g c =
    let s : Search = record { g = plain_of c.args.grammar.now; kernels = c.args.kernels.now; move = c.args.kernel.now; states = c.args.states.now; each = c.requires.kernels; valid = c.requires.kernel; candidates = c.requires.states } in
    let it = candidate_at s c.loop-candidate.candidate-index c.index-kernels-candidate.result c.loop-candidate-test.true c.index-kernels-candidate.is in
    (search rules, (c.requires.few, (it.valid, (c.requires.kernel, it.core))))

pub returns-then-fits : goal.returns-then-fits
returns-then-fits g c =
    let s : Search = record { g = plain_of c.args.grammar.now; kernels = c.args.kernels.now; move = c.args.kernel.now; states = c.args.states.now; each = c.requires.kernels; valid = c.requires.kernel; candidates = c.requires.states } in
    let k = c.index-kernels-candidate.result in
    let it = candidate_at s c.loop-candidate.candidate-index k c.loop-candidate-test.true c.index-kernels-candidate.is in
    (k, first_candidate s (HasCoreAndPasses c.args.fit c.args.kernel.now) (λ j p. p.0) c.loop-candidate.candidate-index k it (it.core, c.fits.ensures.0 c.if-fits.true) c.loop-candidate.invariant)

pub loop-candidate-preserved : goal.loop-candidate-preserved
loop-candidate-preserved g c =
    let s : Search = record { g = plain_of c.args.grammar.now; kernels = c.args.kernels.now; move = c.args.kernel.now; states = c.args.states.now; each = c.requires.kernels; valid = c.requires.kernel; candidates = c.requires.states } in
    let k = c.index-kernels-candidate.result in
    let it = candidate_at s c.loop-candidate.candidate-index k c.loop-candidate-test.true c.index-kernels-candidate.is in
    none_before_step s (HasCoreAndPasses c.args.fit c.args.kernel.now) (λ j p. p.0) c.loop-candidate.candidate-index k it (λ p. (let u : true ≡ false = sym (c.fits.ensures.1 p.1) ∙ c.if-fits.false in cc)) c.loop-candidate.invariant

pub returns : goal.returns
returns g c =
    let s : Search = record { g = plain_of c.args.grammar.now; kernels = c.args.kernels.now; move = c.args.kernel.now; states = c.args.states.now; each = c.requires.kernels; valid = c.requires.kernel; candidates = c.requires.states } in
    none_in_all s (HasCoreAndPasses c.args.fit c.args.kernel.now) (λ j p. p.0) c.loop-candidate.candidate-index (omega (arith, c.loop-candidate-test.false)) c.loop-candidate.invariant
