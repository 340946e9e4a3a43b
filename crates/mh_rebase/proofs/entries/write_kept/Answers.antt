use Rattle.std.proofs.Common.{◌<◌, ◌^◌, ℕ, List, length, arith, rules, subst, sym}
use Rattle.std.proofs.lemmas.Result.{on_ok_weaker}
use Rattle.mh_tables_core.specs.Failing.{Fails}
use Rattle.mh_report_notation.proofs.KernelItems.{kernel_items}
use Rattle.mh_report.proofs.CommentParts.{kernel_has, some_item}
use Rattle.mh_rebase.proofs.DecidesLine.{kept_plainly, kept_with_expected}
use Rattle.mh_rebase.proofs.entries.write_kept.Goals as goal

pub write_comments-requires : goal.write_comments-requires
write_comments-requires g c =
    let a = c.args.to.now.automaton.now in
    let known : c.args.state < length a.kernels = omega (arith, c.requires.state, c.requires.fits.states) in (
      search rules,
      (
        c.requires.fits.few,
        (
          some_item c.args.to.now.grammar.now a c.requires.fits.automaton c.args.state c.as_slice-items.result.now known (kernel_has a c.args.state c.index.result.now c.as_slice-items.result.now known c.index.ensures c.as_slice-items.ensures),
          kernel_items c.args.to.now.grammar.now a c.requires.fits.automaton c.args.state c.index.result.now c.as_slice-items.result.now known c.index.ensures c.as_slice-items.ensures,
        ),
      ),
    )

pub write_expected-requires : goal.write_expected-requires
write_expected-requires g c = record {
  fails = (c.args.state, subst (λ (ts : List ℕ). Fails c.args.to.now.table.now c.args.sentence.now.start ts c.args.state) (sym c.as_slice-tokens.ensures) c.requires.fails);
  size = subst (λ (ts : List ℕ). length ts < 2 ^ 32) (sym c.as_slice-tokens.ensures) c.requires.few;
}

pub returns-then-not-to : goal.returns-then-not-to
returns-then-not-to g c =
    let to = c.args.to.now in
    let a = to.automaton.now in
    let known : c.args.state < length a.kernels = omega (arith, c.requires.state, c.requires.fits.states) in
    let items = kernel_has a c.args.state c.index.result.now c.as_slice-items.result.now known c.index.ensures c.as_slice-items.ensures in
    rw c.if-not-to.true
    (kept_plainly to.grammar.now a to.table.now c.args.sentence.now c.args.state c.args.reduced.now c.as_slice-tokens.result.now c.as_slice-items.result.now c.as_slice-tokens.ensures items c.args.text.now.items _ c.push.new.self.items c.write_comments.new.text.items
    c.in_ok-write_sentence.ensures c.in_ok-push.ensures.items c.in_ok-write_comments.ensures)

pub returns : goal.returns
returns g c =
    let to = c.args.to.now in
    let a = to.automaton.now in
    let known : c.args.state < length a.kernels = omega (arith, c.requires.state, c.requires.fits.states) in
    let items = kernel_has a c.args.state c.index.result.now c.as_slice-items.result.now known c.index.ensures c.as_slice-items.ensures in
    on_ok_weaker c.write_expected.result
    (λ appended. rw c.if-not-to.false
    (kept_with_expected to.grammar.now a to.table.now c.args.sentence.now c.args.state c.args.reduced.now c.as_slice-tokens.result.now c.as_slice-items.result.now c.as_slice-tokens.ensures items c.args.text.now.items _ c.push.new.self.items c.write_comments.new.text.items
    c.in_ok-write_sentence.ensures c.in_ok-push.ensures.items c.write_expected.new.text.items c.in_ok-write_comments.ensures appended)) c.write_expected.ensures
