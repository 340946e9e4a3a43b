use Rattle.std.proofs.Common.{◌-◌, sym, ap, ◌∙◌, arith, inl, inr, subst}
use Rattle.std.proofs.lemmas.Bool.{cases_eq, or_parts}
use Rattle.mh_inline_unfold.specs.declared.sizes.SizeTable.{SizeTable}
use Rattle.mh_inline_unfold.specs.code.Sizes.{IsFixedAt, unsized_count}
use Rattle.mh_inline.proofs.SizeOrder.{less_by_either}
use Rattle.mh_inline.proofs.sizes.size_once.Goals as goal

pub loop-done-preserved : goal.loop-done-preserved
loop-done-preserved c =
    let is = c.args.expanded.now.instances in
    let old = c.loop-done.sizing in
    let new = c.size_one.new.sizing in
    let before = c.loop-done.changed in
    let now = c.in_ok-changed.field-0 in
    let inv = c.loop-done.invariant in
    record {
      sizing = c.in_ok-changed.ensures.sizing;
      count = inv.count;
      same = λ e. let both = or_parts before now e in (c.in_ok-changed.ensures.same both.1).0 ∙ inv.same both.0;
      settled = λ e n l.
          let both = or_parts before now e in
          let one = c.in_ok-changed.ensures.same both.1 in
          subst (λ (s : SizeTable). IsFixedAt is s.sizes.items n) (sym one.0) (elim (cases_eq n (c.len-count.result - 1 - c.loop-done.done)) [
            | inl here ↦ rw here one.1
            | inr other ↦ inv.settled both.0 n (omega arith)
          ]);
      more = less_by_either before now (unsized_count new) (unsized_count old) (unsized_count c.args.sizing.now) inv.more (λ e. ap unsized_count (inv.same e)) c.in_ok-changed.ensures.more (λ e. ap unsized_count (c.in_ok-changed.ensures.same e).0);
    }
