use Rattle.std.proofs.Common.{refl, sym, ◌∙◌}
use Rattle.mh_inline_unfold.proofs.InlineProducers.{inline_within}
use Rattle.mh_inline.proofs.UnfoldingSizes.{kept_size, part_sized, sized_inline, sized_kept}
use Rattle.mh_inline.proofs.sizes.size_of_part.Goals as goal

pub bounds-sizes-number : goal.bounds-sizes-number
bounds-sizes-number c = inline_within c.args.expanded.now.instances c.args.part c.in-Some.number _ (sym c.inline_part.ensures ∙ c.in-Some.is) c.requires.len

pub returns-in-Some : goal.returns-in-Some
returns-in-Some c =
    let is = c.args.expanded.now.instances in
    let e = sym c.inline_part.ensures ∙ c.in-Some.is in
    let l = inline_within is c.args.part c.in-Some.number _ e c.requires.len in
    record {
      size = part_sized is c.args.sizes.now c.args.part c.in-Some.number c.requires e l;
      sized = sized_inline is c.args.sizes.now c.args.part c.in-Some.number e l;
    }

pub returns-in-None : goal.returns-in-None
returns-in-None c =
    let is = c.args.expanded.now.instances in
    let e = sym c.inline_part.ensures ∙ c.in-None.is in
    record { size = kept_size is c.args.part _ e refl refl; sized = sized_kept is c.args.sizes.now c.args.part e }
