use Rattle.std.proofs.Common.{◌≡◌, ◌<◌, length, rules, arith}
use Rattle.mh_report_notation.proofs.KernelItems.{kernel_items}
use Rattle.mh_report.proofs.CommentParts.{refuses, state_below, kernel_has, some_item, appends_comments}
use Rattle.mh_report.proofs.lines.comment_lines.Goals as goal

pub unreachable-requires : goal.unreachable-requires
unreachable-requires g c =
    c.in_default.not-Reject _ _ (refuses c.args.table.now c.table-facts.ensures.facts.facts c.args.start c.args.sentence.now c.requires.fails c.in_ok-verdict.verdict c.in_ok-verdict.reduced.items c.in_ok-verdict.ensures)

pub index-requires : goal.index-requires
index-requires g c =
    let below : c.in-Reject.state < length c.args.table.now.states =
    state_below c.args.table.now c.table-facts.ensures.facts.facts c.args.start c.args.sentence.now c.requires.fails c.in_ok-verdict.verdict c.in_ok-verdict.reduced.items c.in_ok-verdict.ensures c.in-Reject.at c.in-Reject.state c.in-Reject.is in
    omega (arith, below, c.requires.fits.states)

pub write_comments-requires : goal.write_comments-requires
write_comments-requires g c =
    let below : c.in-Reject.state < length c.args.table.now.states =
    state_below c.args.table.now c.table-facts.ensures.facts.facts c.args.start c.args.sentence.now c.requires.fails c.in_ok-verdict.verdict c.in_ok-verdict.reduced.items c.in_ok-verdict.ensures c.in-Reject.at c.in-Reject.state c.in-Reject.is in
    let known : c.in-Reject.state < length c.args.automaton.now.kernels = omega (arith, below, c.requires.fits.states) in (
      search rules,
      (
        c.requires.fits.few,
        (
          some_item c.args.grammar.now c.args.automaton.now c.requires.fits.automaton c.in-Reject.state c.as_slice-items.result.now known (kernel_has c.args.automaton.now c.in-Reject.state c.index.result.now c.as_slice-items.result.now known c.index.ensures c.as_slice-items.ensures),
          kernel_items c.args.grammar.now c.args.automaton.now c.requires.fits.automaton c.in-Reject.state c.index.result.now c.as_slice-items.result.now known c.index.ensures c.as_slice-items.ensures,
        ),
      ),
    )

pub returns : goal.returns
returns g c =
    let below : c.in-Reject.state < length c.args.table.now.states =
    state_below c.args.table.now c.table-facts.ensures.facts.facts c.args.start c.args.sentence.now c.requires.fails c.in_ok-verdict.verdict c.in_ok-verdict.reduced.items c.in_ok-verdict.ensures c.in-Reject.at c.in-Reject.state c.in-Reject.is in
    let known : c.in-Reject.state < length c.args.automaton.now.kernels = omega (arith, below, c.requires.fits.states) in
    appends_comments c.args.table.now c.table-facts.ensures.facts.facts c.args.start c.args.sentence.now c.requires.fails c.in_ok-verdict.verdict c.in_ok-verdict.reduced.items c.in_ok-verdict.ensures
    c.args.grammar.now c.args.automaton.now c.in-Reject.at c.in-Reject.state c.in-Reject.is c.as_slice-items.result.now
    (kernel_has c.args.automaton.now c.in-Reject.state c.index.result.now c.as_slice-items.result.now known c.index.ensures c.as_slice-items.ensures)
    c.new-text.result.items c.write_comments.new.text.items c.new-text.ensures.items (let same : c.as_slice.result.now ≡ c.in_ok-verdict.reduced.items = c.as_slice.ensures.value in rw (← same) c.in_ok-write_comments.ensures)
