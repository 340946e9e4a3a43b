use Rattle.std.proofs.Common.{length, refl, sym, ap, ◌∙◌, arith}
use Rattle.std.specs.List.{slice_get}
use Rattle.std.proofs.lemmas.Option.{slice_get_read}
use Rattle.mh_inline.proofs.OriginOrder.{AreOriginsBelow-more, AreOriginsBelow-instance, rising_keys}
use Rattle.mh_inline.proofs.origins.add_origins.Goals as goal

pub loop-alternative-preserved : goal.loop-alternative-preserved
loop-alternative-preserved c =
    let is = c.args.expanded.now.instances in
    let n = c.args.number in
    let k = c.loop-alternative.alternative in
    let i = c.index.result.now in
    let p = c.index-productions-alternative.result in
    let ps = c.as_slice-productions.result.now in
    let at = slice_get_read is (length is) n i refl c.requires.number c.index.ensures in
    let here = ap (λ l. slice_get l k) (sym c.as_slice-productions.ensures) ∙ slice_get_read ps (length ps) k p refl c.loop-alternative-test.true c.index-productions-alternative.is in
    AreOriginsBelow-more is n k i p c.loop-alternative.origins.keys c.insert.new.self.keys c.origin_of.result at c.requires.kept here c.origin_of.ensures (rising_keys c.insert.new.self c.in_ok-insert.ensures.ordered) c.in_ok-insert.ensures.keys c.loop-alternative.invariant

pub returns : goal.returns
returns c =
    let is = c.args.expanded.now.instances in
    let at = slice_get_read is (length is) c.args.number c.index.result.now refl c.requires.number c.index.ensures in
    AreOriginsBelow-instance is c.args.number c.loop-alternative.alternative c.index.result.now c.loop-alternative.origins.keys at (omega (arith, c.loop-alternative-test.false, ap length c.as_slice-productions.ensures)) c.loop-alternative.invariant
