use Rattle.std.proofs.Common.{◌≡◌, ◌<◌, Some, length, sym, subst, ◌∙◌, rules}
use Rattle.std.proofs.lemmas.Option.{slice_get_within}
use Rattle.mh_grammar.specs.Plain.{plain_of}
use Rattle.mh_items_kernels.specs.KernelTypes.{Kernel}
use Rattle.mh_items_kernels.specs.Kernels.{Holds}
use Rattle.mh_pager.specs.WeakCompatibility.{HaveSameCore}
use Rattle.mh_canon.specs.Limits.{max_states}
use Rattle.mh_pager.specs.code.Worklist.{merge_state_of, HasSameCoreAt}
use Rattle.mh_pager.proofs.JoinsMoveAt.{if_ok, placed_by_joining, placed_by_appending, placing_exceeds}
use Rattle.mh_pager.proofs.worklist.Worklist.put_unkept.Goals as goal

pub fitting-requires : goal.fitting-requires
fitting-requires g c = (search rules, (search rules, (c.requires.fits.few, (c.requires.kernel, (c.requires.ready, (c.requires.kept, c.requires.group))))))

pub take-requires : goal.take-requires
take-requires g c =
    let first = c.in-Some.ensures in
    let kernels = c.args.self.now.kernels.items in
    let within : c.in-Some.n < length kernels = slice_get_within kernels c.in-Some.n first.0 first.1.at in
    let P : Kernel → Type 0 = λ k. HaveSameCore (Holds k) (Holds c.args.kernel) in
    let core : HasSameCoreAt c.args.kernel kernels c.in-Some.n = (λ k at. (let one : Some first.0 ≡ Some k = sym first.1.at ∙ at in let same : first.0 ≡ k = cc in subst P same first.1.holds.0)) in
    (search rules, (search rules, (c.requires.fits, (c.requires.kernel, (c.requires.ready, (within, (core, c.requires.kept)))))))

pub returns-in_ok-take-in-Some-clause-ok : goal.returns-in_ok-take-in-Some-clause-ok
returns-in_ok-take-in-Some-clause-ok g c =
    let first = c.in-Some.ensures in
    placed_by_joining (plain_of c.args.grammar.now) c.args.kernel (merge_state_of c.args.self.now) (merge_state_of c.take.new.self) c.in-Some.n c.requires.unkept first.0 first.1 c.in_ok-take-in-Some.ensures.work

pub returns-in-None-clause-ok : goal.returns-in-None-clause-ok
returns-in-None-clause-ok g c =
    let untaken = c.in-None.ensures in
    if_ok c.append.result c.append.ensures.ok (λ n a. placed_by_appending (plain_of c.args.grammar.now) c.args.kernel (merge_state_of c.args.self.now) (merge_state_of c.append.new.self) n c.requires.unkept untaken a)

pub returns-in-None-clause-exceeds : goal.returns-in-None-clause-exceeds
returns-in-None-clause-exceeds g c e =
    let untaken = c.in-None.ensures in
    placing_exceeds (plain_of c.args.grammar.now) c.args.kernel (merge_state_of c.args.self.now) max_states c.requires.unkept untaken (c.append.ensures.exceeds e)
