use Rattle.std.proofs.Common.{◌≡◌, Some, length, refl, rules}
use Rattle.std.specs.List.{slice_get}
use Rattle.std.proofs.lemmas.Option.{slice_get_read, slice_get_within}
use Rattle.mh_pager.proofs.IsCoreIndex.{candidates_of}
use Rattle.mh_pager.proofs.worklist.Worklist.fitting.Goals as goal

pub first_fitting-requires : goal.first_fitting-requires
first_fitting-requires g c =
    let kernels = c.args.self.now.kernels.items in
    let index = c.args.self.now.index in
    let states = index.states.items in
    let group = c.requires.group in
    let read : slice_get states c.args.core ≡ Some c.index.result.now = slice_get_read states (length states) c.args.core c.index.result.now refl (slice_get_within states c.args.core group.group group.group_is) c.index.ensures in
    let candidates = candidates_of kernels index.places.entries states c.requires.kept.indexed c.args.kernel.now c.args.core c.index.result.now group.at read in
    (search rules, (c.requires.small, (rw c.as_slice.ensures.value c.requires.ready.valid, (c.requires.kernel, rw (c.as_slice.ensures.value, c.as_slice-2.ensures) candidates))))

pub returns : goal.returns
returns g c = rw c.as_slice.ensures.value at c.first_fitting.ensures
