use Rattle.std.proofs.Common.{◌≡◌, ◌<◌, ◌≤◌, ◌-◌, [], length, get_or, ◌∙◌, arith}
use Rattle.std.proofs.lemmas.List.{get_or_read}
use Rattle.mh_grammar.specs.Plain.{plain_of, IsProductionBelow}
use Rattle.mh_sets.specs.Sets.{IsSet}
use Rattle.mh_items.specs.code.PendingLooks.{looks_at}
use Rattle.mh_items.proofs.AreAddedItems.{AddedSoFar-push, are_added_items, next_number}
use Rattle.mh_grammar.proofs.Lists.{all_at}
use Rattle.mh_items.proofs.added.added_items.Goals as goal

pub overflow_sub-number : goal.overflow_sub-number
overflow_sub-number _ c =
    let xs = c.as_slice-number-items.result.now in
    let i = c.loop-number.number-index in
    let next = next_number (plain_of c.args.grammar.now) c.args.set.now xs i (rw c.as_slice-number-items.ensures.value c.in_ok-numbers.ensures.exact) c.loop-number-test.true in
    omega (arith, next.ordinary, c.len-starts.ensures)

pub index-production-requires : goal.index-production-requires
index-production-requires _ c =
    let xs = c.as_slice-number-items.result.now in
    let i = c.loop-number.number-index in
    let next = next_number (plain_of c.args.grammar.now) c.args.set.now xs i (rw c.as_slice-number-items.ensures.value c.in_ok-numbers.ensures.exact) c.loop-number-test.true in
    rw c.len-starts.ensures next.within

pub index-requires : goal.index-requires
index-requires _ c =
    let g = plain_of c.args.grammar.now in
    let xs = c.as_slice-number-items.result.now in
    let i = c.loop-number.number-index in
    let next = next_number g c.args.set.now xs i (rw c.as_slice-number-items.ensures.value c.in_ok-numbers.ensures.exact) c.loop-number-test.true in
    let read = rw c.len-starts.ensures at c.index-production.ensures in
    let below = all_at (IsProductionBelow g.tokens g.nonterminals) g.productions (get_or xs i 0 - length g.starts) c.index-production.result.now c.requires.fits.range.productions next.within read in
    let l = below.lhs in
    let size = c.requires.size in
    rw c.from.ensures (omega arith)

pub loop-number-preserved : goal.loop-number-preserved
loop-number-preserved _ c =
    let g = plain_of c.args.grammar.now in
    let s = c.args.set.now in
    let xs = c.as_slice-number-items.result.now in
    let i = c.loop-number.number-index in
    let next = next_number g s xs i (rw c.as_slice-number-items.ensures.value c.in_ok-numbers.ensures.exact) c.loop-number-test.true in
    let read = rw c.len-starts.ensures at c.index-production.ensures in
    let is = next.is c.index-production.result.now read in
    let below = all_at (IsProductionBelow g.tokens g.nonterminals) g.productions (get_or xs i 0 - length g.starts) c.index-production.result.now c.requires.fits.range.productions next.within read in
    let l = below.lhs in
    let size = c.requires.size in
    let w = c.requires.wanted in
    let n = c.index-production.result.now.lhs in
    let within : n < length s.looks.items = omega (arith, s.looks.ok.0) in
    let at = rw c.from.ensures at c.index.ensures in
    let looks : c.copied.result ≡ looks_at s n = c.copied.ensures ∙ get_or_read s.looks.items n c.index.result.now within at [] in
    let set : IsSet _ c.copied.result = rw looks (c.requires.table.sets n [] within) in
    rw c.in_ok-push.ensures.items
    (AddedSoFar-push g c.requires.fits.range w.0 w.1 s c.requires.table xs c.loop-number.items.items i (get_or xs i 0) n w.2 (rw c.as_slice-number-items.ensures.value c.in_ok-numbers.ensures.rising) c.loop-number.invariant next.at is.0 is.1
    c.copied.result set looks)

pub returns-clause-exact : goal.returns-clause-exact
returns-clause-exact _ c =
    let g = plain_of c.args.grammar.now in
    let xs = c.as_slice-number-items.result.now in
    let all : length xs ≤ c.loop-number.number-index = c.loop-number-test.false in
    are_added_items g c.args.set.now xs c.loop-number.items.items c.loop-number.number-index (rw c.as_slice-number-items.ensures.value c.in_ok-numbers.ensures.exact) all c.loop-number.invariant
