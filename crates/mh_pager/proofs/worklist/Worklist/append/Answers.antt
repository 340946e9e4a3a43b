use Rattle.std.proofs.Common.{◌≡◌, Err, length, ap, ◌∙◌, arith}
use Rattle.std.proofs.lemmas.List.{length_push}
use Rattle.mh_items_kernels.specs.declared.kernels.StatesFault.TheVariants.{TooManyStates}
use Rattle.mh_pager.proofs.worklist.Worklist.append.Goals as goal

pub returns-in_ok-push-in-Ok-clause-ok : goal.returns-in_ok-push-in-Ok-clause-ok
returns-in_ok-push-in-Ok-clause-ok _ c =
    let kernels = c.args.self.now.kernels in
    let count : c.in-Ok.n ≡ length kernels.items = c.in-Ok.ensures.ok.0 ∙ c.len.ensures ∙ kernels.ok.0 in
    rw count c.in_ok-push-in-Ok.ensures.ok

pub returns-in_ok-push-in-Ok-clause-few : goal.returns-in_ok-push-in-Ok-clause-few
returns-in_ok-push-in-Ok-clause-few _ c =
    let kernels = c.args.self.now.kernels in
    let count : c.in-Ok.n ≡ length kernels.items = c.in-Ok.ensures.ok.0 ∙ c.len.ensures ∙ kernels.ok.0 in
    let longer = ap length c.in_ok-push-in-Ok.ensures.ok.kernels ∙ length_push kernels.items c.args.kernel in
    omega (arith, longer, count, c.in-Ok.ensures.ok.1)

pub returns-in_ok-push-in-Ok-clause-exceeds : goal.returns-in_ok-push-in-Ok-clause-exceeds
returns-in_ok-push-in-Ok-clause-exceeds _ c same = cc

pub returns-in-Err-clause-exceeds : goal.returns-in-Err-clause-exceeds
returns-in-Err-clause-exceeds _ c same =
    let fault : c.in-Err.fault ≡ TooManyStates = cc in
    let over = c.in-Err.ensures.exceeds (ap Err fault) in
    let count : c.len.result ≡ length c.args.self.now.kernels.items = c.len.ensures ∙ c.args.self.now.kernels.ok.0 in
    let few = c.requires.few in
    omega (arith, over, count, few)
