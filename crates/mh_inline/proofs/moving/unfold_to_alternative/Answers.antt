use Rattle.std.proofs.Common.{◌≡◌, ◌+◌, ◌++◌, Some, length, map, take, refl, sym, ap, ◌∙◌, subst}
use Rattle.std.specs.List.{slice_get}
use Rattle.std.proofs.lemmas.Option.{same_Some, slice_get_within, slice_get_read}
use Rattle.std.proofs.lemmas.Result.{IfOk-weaker}
use Rattle.mh_rules.specs.declared.instances.Part.TheVariants.{Instance as Applied}
use Rattle.mh_rules.specs.declared.instances.InstanceProduction.{InstanceProduction}
use Rattle.mh_inline_unfold.specs.Unfoldings.{with_own_prec, UnfoldsEach}
use Rattle.mh_inline.proofs.MovedUnfoldings.{each_prefix, each_then}
use Rattle.mh_inline.proofs.moving.unfold_to_alternative.Goals as goal

pub front_to-front-requires : goal.front_to-front-requires
front_to-front-requires c = slice_get_within c.args.productions.now c.args.last_use.alternative c.requires.last.production c.requires.last.alternative

pub unfold_alternatives-requires : goal.unfold_alternatives-requires
unfold_alternatives-requires c = rw (c.deref.ensures.value, c.front_to-front.ensures) (each_prefix c.args.expanded.now.instances c.args.known.now.items c.args.productions.now c.args.last_use.alternative c.requires.known)

pub unfold_around-requires-clause-known : goal.unfold_around-requires-clause-known
unfold_around-requires-clause-known c =
    let ps = c.args.productions.now in
    let last_use = c.args.last_use in
    let l = slice_get_within ps last_use.alternative c.requires.last.production c.requires.last.alternative in
    rw c.as_slice.ensures (c.requires.known.each last_use.alternative c.index-productions-last_use.result (slice_get_read ps (length ps) last_use.alternative c.index-productions-last_use.result refl l c.index-productions-last_use.is))

pub unfold_around-requires-clause-at : goal.unfold_around-requires-clause-at
unfold_around-requires-clause-at c =
    let ps = c.args.productions.now in
    let last_use = c.args.last_use in
    let last = c.requires.last in
    let l = slice_get_within ps last_use.alternative last.production last.alternative in
    let same = same_Some last.production c.index-productions-last_use.result (sym last.alternative ∙ slice_get_read ps (length ps) last_use.alternative c.index-productions-last_use.result refl l c.index-productions-last_use.is) in
    rw c.as_slice.ensures (subst (λ (x : InstanceProduction). slice_get x.rhs last_use.producer ≡ Some (Applied last_use.number)) same last.at)

pub returns-clause-unfolds : goal.returns-clause-unfolds
returns-clause-unfolds c =
    let is = c.args.expanded.now.instances in
    let ps = c.args.productions.now in
    let k = c.args.last_use.alternative in
    let p = c.index-productions-last_use.result in
    let before = c.in_ok-before.before.items in
    let side = c.in_ok-side.side.items in
    let l = slice_get_within ps k c.requires.last.production c.requires.last.alternative in
    let at = slice_get_read ps (length ps) k p refl l c.index-productions-last_use.is in
    IfOk-weaker c.append_with_prec.result (λ more. more.items ≡ before ++ map (with_own_prec p.prec) side) (λ more. UnfoldsEach is (take (k + 1) ps) more.items)
    (λ more e. subst (UnfoldsEach is (take (k + 1) ps)) (sym e) (each_then is ps k p before side at (rw c.front_to-front.ensures at c.in_ok-before.ensures) (rw c.as_slice.ensures at c.in_ok-side.ensures.unfolds))) c.append_with_prec.ensures
