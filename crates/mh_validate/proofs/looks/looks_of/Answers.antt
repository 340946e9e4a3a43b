use Rattle.std.proofs.Common.{arith, length, rules, true≢false, sym, ◌∙◌}
use Rattle.mh_validate.proofs.ItemsRead.{looks_none, looks_more, looks_never, looks_all, look_wide, look_unique}
use Rattle.mh_validate.proofs.looks.looks_of.Goals as goal

pub loop-index-init : goal.loop-index-init
loop-index-init g c = rw c.empty-looks.ensures (looks_none c.args.grammar.now c.requires.distinct_names)

pub returns-in_default : goal.returns-in_default
returns-in_default g c ls are = looks_never c.args.grammar.now c.requires.distinct_names c.args.names.now c.loop-index.index c.at.result.now c.loop-index.looks c.loop-index.last ls (let n = c.len-index-end.ensures in omega (arith, n, c.loop-index-test.true)) c.at.ensures c.loop-index.invariant (λ look is _. c.in_default.ensures look is) are

pub returns-then-not-is_after_last : goal.returns-then-not-is_after_last
returns-then-not-is_after_last g c ls are = looks_never c.args.grammar.now c.requires.distinct_names c.args.names.now c.loop-index.index c.at.result.now c.loop-index.looks c.loop-index.last ls (let n = c.len-index-end.ensures in omega (arith, n, c.loop-index-test.true)) c.at.ensures c.loop-index.invariant
    (λ look is behind. true≢false (sym (c.is_after_last.ensures.1 (rw (look_unique c.args.grammar.now c.requires.distinct_names c.at.result.now look c.in-Some.look is c.in-Some.ensures) at behind)) ∙ c.if-not-is_after_last.true)) are

pub insert-requires : goal.insert-requires
insert-requires g c = (search rules, look_wide (length c.args.grammar.now.tokens) _ c.requires.fits.width c.in-Some.look c.in-Some.ensures.below)

pub loop-index-preserved : goal.loop-index-preserved
loop-index-preserved g c = looks_more c.args.grammar.now c.requires.distinct_names {W = g.row.W} c.args.names.now c.loop-index.index c.at.result.now c.loop-index.looks c.insert.new.self c.loop-index.last c.in-Some.look (let n = c.len-index-end.ensures in omega (arith, n, c.loop-index-test.true)) c.at.ensures c.loop-index.invariant c.in-Some.ensures (c.is_after_last.ensures.0 c.if-not-is_after_last.false) c.insert.ensures.set c.insert.ensures.members

pub returns : goal.returns
returns g c = looks_all c.args.grammar.now c.requires.distinct_names c.args.names.now c.loop-index.index c.loop-index.looks c.loop-index.last (let n = c.len-index-end.ensures in let e = c.loop-index.auto.index-end in omega (arith, n, e, c.loop-index-test.false)) c.loop-index.invariant
