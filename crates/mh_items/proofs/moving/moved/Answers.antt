use Rattle.std.proofs.Common.{◌≤◌, length, sym, ◌∙◌, arith, rules}
use Rattle.std.proofs.lemmas.Bool.{false≢true}
use Rattle.std.proofs.lemmas.Option.{slice_get_within}
use Rattle.mh_grammar.specs.Plain.{plain_of, rhs_of}
use Rattle.mh_items_kernels.proofs.RhsInRange.{short_rhs}
use Rattle.mh_items_kernels.proofs.IsMove.{MovedSoFar-push, MovedSoFar-skip, moved_of}
use Rattle.mh_items.proofs.ItemAt.{item_at, item_is}
use Rattle.mh_items.proofs.moving.moved.Goals as goal
use Rattle.mh_items.proofs.moving.moved.Goals.{then-is_before+in_ok-push, else-is_before}

pub is_before-requires : goal.is_before-requires
is_before-requires g c =
    let item = item_is _ _ c.as_slice-item-items.ensures _ _ c.loop-item-test.true c.item-item.is (plain_of c.args.grammar.now) c.requires.kernel.items in
    (search rules, (c.requires.range, item.production))

pub advanced-requires : goal.advanced-requires
advanced-requires g c =
    let g = plain_of c.args.grammar.now in
    let y = c.item-item.result in
    let item = item_is _ _ c.as_slice-item-items.ensures _ _ c.loop-item-test.true c.item-item.is g c.requires.kernel.items in
    let few = short_rhs g c.requires.range y.production item.production in
    let within = slice_get_within (rhs_of g y.production) y.dot c.args.symbol (c.is_before.ensures.0 c.if-is_before.true) in
    omega arith

pub loop-item-preserved : goal.loop-item-preserved
loop-item-preserved g c =
    let g = plain_of c.args.grammar.now in
    let items = c.args.closed.now.items in
    let out = c.loop-item.items.items in
    let i = c.loop-item.item-index in
    let y = c.item-item.result in
    let at = item_at _ items c.as_slice-item-items.ensures i y c.loop-item-test.true c.item-item.is in
    elim c.if-is_before.branch [
      | then-is_before+in_ok-push w ↦ rw (w.items-is, w.in_ok-push.ensures.items, w.advanced.ensures)
          (MovedSoFar-push g c.args.symbol items out i y c.requires.kernel c.loop-item.invariant at (c.is_before.ensures.0 w.if-is_before.true))
      | else-is_before w ↦ rw w.items-is (MovedSoFar-skip g c.args.symbol items out i y c.requires.kernel c.loop-item.invariant at (λ e. false≢true (sym w.if-is_before.false ∙ c.is_before.ensures.1 e)))
    ]

pub returns-clause-kernel : goal.returns-clause-kernel
returns-clause-kernel g c = rw c.from_vec.ensures c.loop-item.invariant.kernel

pub returns-clause-exact : goal.returns-clause-exact
returns-clause-exact g c =
    let all : length c.args.closed.now.items ≤ c.loop-item.item-index = rw c.as_slice-item-items.ensures at c.loop-item-test.false in
    rw c.from_vec.ensures (moved_of (plain_of c.args.grammar.now) c.args.symbol c.args.closed.now c.loop-item.items.items c.loop-item.item-index all c.loop-item.invariant)
