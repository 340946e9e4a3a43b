use Rattle.std.proofs.Common.{◌∙◌, sym, arith}
use Rattle.mh_sample.proofs.Closes.{closes_by_word}
use Rattle.mh_sample.proofs.Improves.{improved, read_word}
use Rattle.mh_sample.proofs.improving.improve.Goals as goal

pub returns-then-not-comes_before-clause-closed : goal.returns-then-not-comes_before-clause-closed
returns-then-not-comes_before-clause-closed c = λ e.
    let words = c.args.words.now.items in
    let p = c.args.production.now in
    let present = read_word words c.from-lhs.result p.lhs c.index-in-Some.result.now c.from-lhs.ensures (omega (arith, c.requires.lhs, c.args.words.now.ok.0)) c.index-in-Some.ensures in
    let spelled = rw (c.deref-2.ensures.value, c.as_slice-2.ensures) at c.in_ok-spelled.ensures in
    let before = rw present at (sym c.comes_before.ensures ∙ c.if-not-comes_before.true) in
    closes_by_word words p c.in-Some.word (sym spelled ∙ c.in-Some.is) before

pub returns-else-not-comes_before-clause-improves : goal.returns-else-not-comes_before-clause-improves
returns-else-not-comes_before-clause-improves c = λ g r k at.
    let words = c.args.words.now.items in
    let p = c.args.production.now in
    let first = read_word words c.from-lhs.result p.lhs c.index.result.now c.from-lhs.ensures (omega (arith, c.requires.lhs, c.args.words.now.ok.0)) c.index.ensures in
    let present = read_word words c.from-lhs.result p.lhs c.index-in-Some.result.now c.from-lhs.ensures (omega (arith, c.requires.lhs, c.args.words.now.ok.0)) c.index-in-Some.ensures in
    let spelled = rw (c.deref-2.ensures.value, c.as_slice-2.ensures) at c.in_ok-spelled.ensures in
    let within = rw (c.limit_for-limit.ensures, c.deref.ensures.value, c.as_slice.ensures, first) at (c.fits.ensures.0 (c.if-not-fits.false)) in
    let before = rw present at (sym c.comes_before.ensures ∙ c.if-not-comes_before.false) in
    improved g r words k p at c.in-Some.word (omega (arith, c.requires.lhs, c.args.words.now.ok.0)) (sym spelled ∙ c.in-Some.is) within before c.from-lhs.result c.from-lhs.ensures
