use Rattle.std.proofs.Common.{◌≡◌, Some, length, refl, sym, ◌∙◌, rules}
use Rattle.std.specs.List.{slice_get}
use Rattle.std.proofs.lemmas.List.{length-set}
use Rattle.std.proofs.lemmas.Option.{slice_get_read}
use Rattle.mh_grammar.specs.Plain.{plain_of}
use Rattle.mh_pager.specs.code.Cores.{core_of}
use Rattle.mh_pager.proofs.IsCoreIndex.{joined_core, indexed_join}
use Rattle.mh_pager.proofs.worklist.Worklist.take.Goals as goal

pub joined-requires : goal.joined-requires
joined-requires g c =
    let kernels = c.args.self.now.kernels.items in
    let k = c.index.result.now in
    let at : slice_get kernels c.args.state ≡ Some k = slice_get_read kernels (length kernels) c.args.state k refl c.requires.within c.index.ensures in
    (search rules, (c.requires.fits.few, (c.requires.ready.valid c.args.state k at, (c.requires.kernel, c.requires.core k at))))

pub returns-clause-work : goal.returns-clause-work
returns-clause-work g c =
    let kernels = c.args.self.now.kernels.items in
    let k = c.index.result.now in
    let at : slice_get kernels c.args.state ≡ Some k = slice_get_read kernels (length kernels) c.args.state k refl c.requires.within c.index.ensures in
    record {
      kernel = k;
      joined = c.in_ok-joined.joined;
      at = at;
      valid = c.in_ok-joined.ensures.kernel;
      join = c.in_ok-joined.ensures.exact;
      kernels = refl;
      rows = refl;
      queue = c.in_ok-add_again.ensures.states;
    }

pub returns-clause-kept : goal.returns-clause-kept
returns-clause-kept g c =
    let kernels = c.args.self.now.kernels.items in
    let index = c.args.self.now.index in
    let k = c.index.result.now in
    let joined = c.in_ok-joined.joined in
    let kept = c.requires.kept in
    let at : slice_get kernels c.args.state ≡ Some k = slice_get_read kernels (length kernels) c.args.state k refl c.requires.within c.index.ensures in
    let same : core_of joined ≡ core_of k = joined_core (plain_of c.args.grammar.now) k c.args.kernel.now joined (c.requires.ready.valid c.args.state k at) c.in_ok-joined.ensures.kernel (c.requires.core k at) c.in_ok-joined.ensures.exact in
    record {
      flagged = c.in_ok-add_again.ensures.flagged;
      flags = c.in_ok-add_again.ensures.len ∙ kept.flags ∙ sym (length-set kernels c.args.state joined);
      indexed = indexed_join kernels index.places.entries index.states.items kept.indexed c.args.state k joined at same;
    }
