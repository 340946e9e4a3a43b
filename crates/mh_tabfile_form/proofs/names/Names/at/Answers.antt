use Rattle.std.proofs.Common.{[], ◌∙◌, arith}
use Rattle.mh_tabfile_form.proofs.Pieces.{count_bounds, piece_at}
use Rattle.mh_tabfile_form.proofs.names.Names.at.Goals as goal

pub index-requires : goal.index-requires
index-requires c =
    let count = count_bounds c.self.inside.bytes.items c.self.inside.bounds.items c.self.invariant in
    let all = c.self.inside.bounds.ok.0 in
    let lt = rw (← c.self.view_is) at c.requires in
    omega (arith, count, all, lt)

pub overflow_add-index : goal.overflow_add-index
overflow_add-index c =
    let count = count_bounds c.self.inside.bytes.items c.self.inside.bounds.items c.self.invariant in
    let all = c.self.inside.bounds.ok.0 in
    let small = c.self.inside.bounds.small in
    let lt = rw (← c.self.view_is) at c.requires in
    omega (arith, count, all, lt, small)

pub index-requires-2 : goal.index-requires-2
index-requires-2 c =
    let count = count_bounds c.self.inside.bytes.items c.self.inside.bounds.items c.self.invariant in
    let all = c.self.inside.bounds.ok.0 in
    let lt = rw (← c.self.view_is) at c.requires in
    omega (arith, count, all, lt)

pub part_of-requires-clause-order : goal.part_of-requires-clause-order
part_of-requires-clause-order c =
    let lt = rw (← c.self.view_is) at c.requires in
    (piece_at c.self.inside.bytes.items c.self.inside.bounds.items c.args.index c.index.result.now c.index-2.result.now [] c.self.invariant lt c.index.ensures c.index-2.ensures).0

pub part_of-requires-clause-within : goal.part_of-requires-clause-within
part_of-requires-clause-within c =
    let lt = rw (← c.self.view_is) at c.requires in
    rw c.as_slice.ensures.value (piece_at c.self.inside.bytes.items c.self.inside.bounds.items c.args.index c.index.result.now c.index-2.result.now [] c.self.invariant lt c.index.ensures c.index-2.ensures).1

pub returns : goal.returns
returns c =
    let lt = rw (← c.self.view_is) at c.requires in
    let piece = (piece_at c.self.inside.bytes.items c.self.inside.bounds.items c.args.index c.index.result.now c.index-2.result.now c.part_of.result.now c.self.invariant lt c.index.ensures c.index-2.ensures).2 in
    let read = rw c.as_slice.ensures.value at c.part_of.ensures in
    rw (← c.self.view_is) (read ∙ piece)
