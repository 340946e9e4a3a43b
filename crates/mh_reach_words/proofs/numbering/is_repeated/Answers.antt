use Rattle.std.proofs.Common.{◌-◌, arith}
use Rattle.std.proofs.lemmas.Result.{IfOk-weaker}
use Rattle.mh_grammar.proofs.Lists.{contains_at}
use Rattle.mh_reach_words.specs.code.Words.{words_of}
use Rattle.mh_reach_words.proofs.IsNumberedUpTo.{repeated_by}
use Rattle.mh_reach_words.proofs.numbering.is_repeated.Goals as goal

pub returns : goal.returns
returns c =
    IfOk-weaker c.is_equal.result _ _
    (λ b h. repeated_by (words_of c.args.entries.now) c.args.ordered.now.made.now c.args.place (c.args.place - 1) c.made_at-before.result c.made_at-made.result b (let apart = c.if-place-eq0.false in omega arith) c.made_at-before.ensures c.made_at-made.ensures h) c.is_equal.ensures

pub is_equal-requires-clause-left : goal.is_equal-requires-clause-left
is_equal-requires-clause-left c = c.requires.known c.made_at-before.result (contains_at c.args.ordered.now.made.now (c.args.place - 1) c.made_at-before.result c.made_at-before.ensures)

pub is_equal-requires-clause-right : goal.is_equal-requires-clause-right
is_equal-requires-clause-right c = c.requires.known c.made_at-made.result (contains_at c.args.ordered.now.made.now c.args.place c.made_at-made.result c.made_at-made.ensures)
