use Rattle.std.proofs.Common.{◌≡◌, ◌<◌, length, Some, ap, ◌∙◌, sym, arith}
use Rattle.std.specs.List.{slice_get}
use Rattle.std.proofs.lemmas.Option.{slice_get-get_or}
use Rattle.mh_expand.proofs.SharedTerms.{terms_of-length, terms_of-means}
use Rattle.mh_expand.proofs.terms.Terms.at.Goals as goal

pub offset_bounds-as_slice-number : goal.offset_bounds-as_slice-number
offset_bounds-as_slice-number c =
    let l : c.args.number < length c.args.self.now.nodes.keys = omega (arith, terms_of-length c.args.self.now.nodes.keys) in
    let m : c.args.number < length c.as_slice.result.now = rw c.as_slice.ensures.keys l in
    omega (arith, c.as_slice.type_inv.1)

pub bounds-as_slice-number : goal.bounds-as_slice-number
bounds-as_slice-number c =
    let l : c.args.number < length c.args.self.now.nodes.keys = omega (arith, terms_of-length c.args.self.now.nodes.keys) in
    rw c.as_slice.ensures.keys l

pub returns-clause-means : goal.returns-clause-means
returns-clause-means c =
    let keys = c.args.self.now.nodes.keys in
    let l : c.args.number < length keys = omega (arith, terms_of-length keys) in
    let e : slice_get keys c.args.number ≡ Some c.index-as_slice-number.result =
    slice_get-get_or keys c.args.number c.index-as_slice-number.result l ∙ ap Some (rw (sym c.as_slice.ensures.keys) (sym c.index-as_slice-number.is)) in
    terms_of-means keys c.args.self.now.nodes_ok c.args.number c.index-as_slice-number.result e

pub returns-clause-below : goal.returns-clause-below
returns-clause-below c =
    let keys = c.args.self.now.nodes.keys in
    let l : c.args.number < length keys = omega (arith, terms_of-length keys) in
    let e : slice_get keys c.args.number ≡ Some c.index-as_slice-number.result =
    slice_get-get_or keys c.args.number c.index-as_slice-number.result l ∙ ap Some (rw (sym c.as_slice.ensures.keys) (sym c.index-as_slice-number.is)) in
    c.args.self.now.nodes_ok.below c.args.number c.index-as_slice-number.result e
