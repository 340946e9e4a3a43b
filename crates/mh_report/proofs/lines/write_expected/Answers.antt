use Rattle.std.proofs.Common.{◌<◌, ℕ, List, subst, sym}
use Rattle.std.proofs.lemmas.Result.{on_ok_weaker}
use Rattle.std.specs.List.{All}
use Rattle.mh_expected.specs.Expected.{ExpectedTokens, Overshoots}
use Rattle.mh_report.proofs.CommentParts.{before_known, before_overshoots}
use Rattle.mh_report.proofs.lines.write_expected.Goals as goal

pub expected-requires-clause-overshoots : goal.expected-requires-clause-overshoots
expected-requires-clause-overshoots c =
    before_overshoots c.args.table.now c.args.start c.args.sentence.now c.requires.fails c.table-facts.ensures.facts

pub returns : goal.returns
returns c =
    on_ok_weaker c.write_expected_line.result
    (λ appended. (
      c.in_ok-tokens.tokens,
      c.in_ok-tokens.ensures,
      rw (← c.as_slice.ensures) appended,
    )) c.write_expected_line.ensures
