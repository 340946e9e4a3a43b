use Rattle.std.proofs.Common.{◌≡◌, ◌++◌, drop, map, suc, sym, ap, ◌∙◌, subst}
use Rattle.std.proofs.lemmas.Option.{slice_get_within}
use Rattle.mh_rules.specs.declared.joined.Prec.TheVariants.{Absent}
use Rattle.mh_inline_unfold.specs.Unfoldings.{with_own_prec, UnfoldsEach}
use Rattle.mh_inline.proofs.MovedUnfoldings.{each_rest, each_done}
use Rattle.mh_inline.proofs.moving.unfold_moved.Goals as goal

pub rest_from-rest-requires : goal.rest_from-rest-requires
rest_from-rest-requires c = slice_get_within c.args.productions.now c.args.last_use.alternative c.requires.last.production c.requires.last.alternative

pub unfold_alternatives-requires : goal.unfold_alternatives-requires
unfold_alternatives-requires c = rw (c.deref.ensures.value, c.rest_from-rest.ensures) (each_rest c.args.expanded.now.instances c.args.known.now.items c.args.productions.now (suc c.args.last_use.alternative) c.requires.known)

pub returns-clause-unfolds : goal.returns-clause-unfolds
returns-clause-unfolds c =
    let last = c.requires.last in
    let ps = c.args.productions.now in
    subst (UnfoldsEach c.args.expanded.now.instances ps) (sym c.in_ok-add_own.ensures) (each_done c.args.expanded.now.instances ps c.args.last_use.alternative last.production c.in_ok-all.all.items c.in_ok-behind.behind.items last.alternative c.in_ok-all.ensures.unfolds (rw c.rest_from-rest.ensures at c.in_ok-behind.ensures))
