use Rattle.std.proofs.Common.{◌≡◌, ◌∷◌, ◌++◌, [], Some, nat_eq, length, take, ap, ◌∙◌, arith}
use Rattle.std.specs.List.{slice_get}
use Rattle.std.proofs.lemmas.List.{take_all}
use Rattle.indexmap.specs.IndexMap.{get}
use Rattle.mh_grammar.proofs.Lists.{take_step}
use Rattle.mh_expand.specs.Terms.{term_of}
use Rattle.mh_expand.specs.code.SharedTerms.{terms_of}
use Rattle.mh_expand.specs.code.InstanceSearch.{AddsRank}
use Rattle.mh_expand.proofs.SharedTerms.{terms_of-distinct}
use Rattle.mh_expand.proofs.AreRanks.{replaced-none, AreRanks-open, AreRanks-grows, AreRanks-add}
use Rattle.mh_expand.proofs.ranks.add_ranks.Goals as goal

pub loop-applied-init : goal.loop-applied-init
loop-applied-init c = λ before len w. AreRanks-open before (terms_of c.args.terms.now.nodes.keys) (get nat_eq c.args.ranks.now) w

pub loop-applied-preserved : goal.loop-applied-preserved
loop-applied-preserved c = λ before len w.
    let items = c.args.declaration.now in
    let i = c.loop-applied.applied-index in
    let a = c.applied-item.result in
    let ts = terms_of c.loop-applied.terms.nodes.keys in
    let us = terms_of c.replace.new.terms.nodes.keys in
    let distinct = terms_of-distinct c.replace.new.terms.nodes.keys c.replace.new.terms.nodes_ok in
    let here : slice_get us c.in_ok-number.number ≡ Some (term_of a) = c.in_ok-number.ensures.term ∙ ap Some (replaced-none (term_of a)) in
    let grown = AreRanks-grows (before ++ take i items ∷ []) ts us (get nat_eq c.loop-applied.ranks) distinct c.in_ok-number.ensures.grows (c.loop-applied.invariant before len w) in
    let add : AddsRank (get nat_eq c.loop-applied.ranks) (get nat_eq c.add_rank.new.ranks) c.in_ok-number.number (length before) = rw len c.in_ok-add_rank.ensures in
    rw (take_step items i a c.loop-applied-test.true c.applied-item.is) (AreRanks-add before (take i items) a us (get nat_eq c.loop-applied.ranks) (get nat_eq c.add_rank.new.ranks) c.in_ok-number.number distinct here grown add)

pub returns : goal.returns
returns c = λ before len w. rw (take_all c.loop-applied.applied-index c.args.declaration.now (omega arith)) at (c.loop-applied.invariant before len w)
