use Rattle.std.proofs.Common.{drop, sym, ◌∙◌, true≢false}
use Rattle.mh_tabfile_form.specs.code.Pieces.{pieces}
use Rattle.mh_tabfile_form.proofs.Pieces.{same_pieces}
use Rattle.mh_tabfile_form.proofs.names.Names.is_same.Goals as goal

pub returns-then-are_same_bounds : goal.returns-then-are_same_bounds
returns-then-are_same_bounds c =
    let bounds = (rw (c.as_slice.ensures.value, c.as_slice-2.ensures.value) at c.are_same_bounds.ensures).0 c.if-are_same_bounds.true in
    let bytes = rw (c.as_slice-then-are_same_bounds.ensures.value, c.as_slice-then-are_same_bounds-2.ensures.value) at c.are_same_bytes.ensures in
    rw (← c.self.view_is, ← c.other.view_is)
    (λ t. (let same = bytes.0 t in λ k. pieces (same k) 0 (drop 1 (bounds k))), λ e. bytes.1 (same_pieces c.self.inside.bytes.items c.other.inside.bytes.items c.self.inside.bounds.items c.other.inside.bounds.items c.self.invariant c.other.invariant e).0)

pub returns-else-are_same_bounds : goal.returns-else-are_same_bounds
returns-else-are_same_bounds c =
    let bounds = rw (c.as_slice.ensures.value, c.as_slice-2.ensures.value) at c.are_same_bounds.ensures in
    rw (← c.self.view_is, ← c.other.view_is)
    (λ t. absurd (true≢false (sym t ∙ c.if-are_same_bounds.false)), λ e. bounds.1 (same_pieces c.self.inside.bytes.items c.other.inside.bytes.items c.self.inside.bounds.items c.other.inside.bounds.items c.self.invariant c.other.invariant e).1)
