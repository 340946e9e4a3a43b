use Rattle.mh_grammar.proofs.Lists.{get_or_own_default}
use Rattle.mh_sample.proofs.Chain.{put_true, spelled_more}
use Rattle.mh_sample.proofs.chains.spelled.Goals as goal

pub loop-symbol-preserved : goal.loop-symbol-preserved
loop-symbol-preserved c =
    spelled_more c.args.words.now c.args.symbols.now c.loop-symbol.symbol-index _ c.loop-symbol-test.true (get_or_own_default c.args.symbols.now c.loop-symbol.symbol-index _ c.loop-symbol-test.true) c.loop-symbol.tokens.items c.put_word.new.tokens.items _ c.loop-symbol.invariant
    (put_true _ _ _ c.in_ok-put_word.field-0 c.in_ok-put_word.ensures c.if-not-branch.false)
