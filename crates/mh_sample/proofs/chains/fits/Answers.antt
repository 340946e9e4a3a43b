use Rattle.std.proofs.Common.{◌∙◌, sym, refl, false, arith}
use Rattle.std.proofs.lemmas.Bool.{both_ways}
use Rattle.mh_grammar.proofs.Lists.{get_or_own_default}
use Rattle.mh_sample.proofs.Chain.{fits_more, fits_over}
use Rattle.mh_sample.proofs.chains.fits.Goals as goal

pub returns-then-left-length : goal.returns-then-left-length
returns-then-left-length c = (
  (λ e. absurd (both_ways false refl e)),
  (λ h. absurd (fits_over c.args.words.now c.args.symbols.now c.loop-symbol.symbol-index _ c.loop-symbol-test.true (get_or_own_default c.args.symbols.now c.loop-symbol.symbol-index _ c.loop-symbol-test.true) c.in-Some.length c.loop-symbol.left (sym c.length_of.ensures ∙ c.in-Some.is) (omega (arith, c.if-left-length.true)) (c.loop-symbol.invariant.1 h))),
)

pub loop-symbol-preserved : goal.loop-symbol-preserved
loop-symbol-preserved c =
    fits_more c.args.words.now c.args.symbols.now c.loop-symbol.symbol-index _ c.loop-symbol-test.true (get_or_own_default c.args.symbols.now c.loop-symbol.symbol-index _ c.loop-symbol-test.true) c.in-Some.length c.loop-symbol.left _ (sym c.length_of.ensures ∙ c.in-Some.is) (omega (arith, c.if-left-length.false)) c.loop-symbol.invariant
