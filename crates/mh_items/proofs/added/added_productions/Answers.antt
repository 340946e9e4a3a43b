use Rattle.std.proofs.Common.{◌<◌, ◌≤◌, length, get_or, refl, arith}
use Rattle.std.proofs.lemmas.List.Filters.{dedup_is}
use Rattle.std.proofs.lemmas.List.Kept.{Contains-dedup_nat, Contains-from_dedup}
use Rattle.std.proofs.lemmas.List.Sorted.{Contains-permutation, IsPermutation-sym}
use Rattle.std.proofs.lemmas.Map.Keys.{IsStrictlyIncreasing-dedup}
use Rattle.std.proofs.lemmas.Option.{slice_get-get_or, slice_get_read}
use Rattle.mh_grammar.specs.Plain.{plain_of}
use Rattle.mh_grammar.proofs.Lists.{contains_at}
use Rattle.mh_items.proofs.AreAddedItems.{NumbersUpto-extend, NumbersUpto-all, queue_known}
use Rattle.mh_items.proofs.added.added_productions.Goals as goal

pub index-requires : goal.index-requires
index-requires _ c =
    let g = plain_of c.args.grammar.now in
    let s = c.args.set.now in
    let i = c.loop-n.n-index in
    let same = c.as_slice-n-items.ensures.value in
    let short : i < length s.queue.items = rw same at c.loop-n-test.true in
    let at = slice_get-get_or s.queue.items i 0 short in
    let known = queue_known g s (get_or s.queue.items i 0) c.requires.table c.requires.size (omega (arith, s.looks.ok.0)) (contains_at s.queue.items i (get_or s.queue.items i 0) at) in
    let len = c.requires.firsts.productions_len in
    rw (c.from.ensures, same) (omega arith)

pub loop-n-preserved : goal.loop-n-preserved
loop-n-preserved _ c =
    let g = plain_of c.args.grammar.now in
    let s = c.args.set.now in
    let i = c.loop-n.n-index in
    let same = c.as_slice-n-items.ensures.value in
    let short : i < length s.queue.items = rw same at c.loop-n-test.true in
    let n = get_or s.queue.items i 0 in
    let at = slice_get-get_or s.queue.items i 0 short in
    let known = queue_known g s n c.requires.table c.requires.size (omega (arith, s.looks.ok.0)) (contains_at s.queue.items i n at) in
    let row = c.index.result.now in
    let read = slice_get_read c.args.firsts.now.productions (length c.args.firsts.now.productions) n row refl (omega (arith, c.requires.firsts.productions_len)) (rw (c.from.ensures, same) at c.index.ensures) in
    rw (c.in_ok-extend_from_slice.ensures.items, c.as_slice.ensures) (NumbersUpto-extend g s c.loop-n.numbers.items row i n c.requires.table c.loop-n.invariant at (c.requires.firsts.productions n row read))

pub returns-clause-rising : goal.returns-clause-rising
returns-clause-rising _ c = let is = dedup_is _ _ _ c.dedup.ensures.filtered in rw is (IsStrictlyIncreasing-dedup _ c.sort_unstable.ensures.sorted)

pub returns-clause-exact : goal.returns-clause-exact
returns-clause-exact _ c =
    let s = c.args.set.now in
    let is = dedup_is _ _ _ c.dedup.ensures.filtered in
    let sorted = c.sort_unstable.ensures.permutation in
    let all : length s.queue.items ≤ c.loop-n.n-index = rw c.as_slice-n-items.ensures.value at c.loop-n-test.false in
    let exact = NumbersUpto-all (plain_of c.args.grammar.now) s c.loop-n.numbers.items c.loop-n.n-index c.requires.table all c.loop-n.invariant in
    λ p. (
      (λ h. (exact p).0 (Contains-permutation _ _ p (IsPermutation-sym _ _ sorted) (Contains-from_dedup _ _ p (rw is at h)))),
      (λ n. rw is (Contains-dedup_nat _ p (Contains-permutation _ _ p sorted ((exact p).1 n)))),
    )
