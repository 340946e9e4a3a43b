use Rattle.std.proofs.Common.{ℕ, map, get_or, slice_index, ap, refl, ◌∙◌}
use Rattle.std.proofs.lemmas.List.{take_all}
use Rattle.mh_grammar.proofs.Lists.{map_step}
use Rattle.mh_inline.proofs.nonterminals.starts_of.Goals as goal

pub loop-start-preserved : goal.loop-start-preserved
loop-start-preserved c =
    let f : ℕ → ℕ = slice_index c.args.numbers.now in
    let starts = c.args.starts.now in
    let i = c.loop-start.start-index in
    map_step f starts i 0 (get_or starts i 0) c.loop-start.found.items c.push.new.self.items (f (get_or starts i 0)) c.loop-start-test.true refl c.loop-start.invariant refl c.in_ok-push.ensures.items

pub returns : goal.returns
returns c =
    let f : ℕ → ℕ = slice_index c.args.numbers.now in
    c.loop-start.invariant ∙ ap (map f) (take_all c.loop-start.start-index c.args.starts.now c.loop-start-test.false)
