use Rattle.std.proofs.Common.{◌≡◌, Err, ap}
use Rattle.mh_grammar.specs.Plain.{plain_of}
use Rattle.mh_items_kernels.specs.declared.kernels.StatesFault.TheVariants.{TooManyStates}
use Rattle.mh_canon.specs.Limits.{max_states}
use Rattle.mh_pager.specs.code.Worklist.{merge_state_of}
use Rattle.mh_pager.proofs.IsMerged.{not_exceeded}
use Rattle.mh_pager.proofs.merging.merged_over.Goals as goal

pub returns-in_ok-numbered-in-Ok-clause-ok : goal.returns-in_ok-numbered-in-Ok-clause-ok
returns-in_ok-numbered-in-Ok-clause-ok g c = c.in_ok-numbered-in-Ok.ensures.ok

pub returns-in_ok-numbered-in-Ok-clause-few : goal.returns-in_ok-numbered-in-Ok-clause-few
returns-in_ok-numbered-in-Ok-clause-few g c = c.in_ok-numbered-in-Ok.ensures.few

pub returns-in_ok-numbered-in-Ok-clause-exact : goal.returns-in_ok-numbered-in-Ok-clause-exact
returns-in_ok-numbered-in-Ok-clause-exact g c = not_exceeded (plain_of c.args.grammar.now) (merge_state_of c.list_all.new.worklist) c.in-Ok.ensures.ok c.in-Ok.ensures.done max_states c.in-Ok.ensures.few

pub returns-in_ok-numbered-in-Ok-clause-exceeds : goal.returns-in_ok-numbered-in-Ok-clause-exceeds
returns-in_ok-numbered-in-Ok-clause-exceeds g c same = cc

pub returns-in-Err-clause-exceeds : goal.returns-in-Err-clause-exceeds
returns-in-Err-clause-exceeds g c same = let fault : c.in-Err.fault ≡ TooManyStates = cc in c.in-Err.ensures.exceeds (ap Err fault)
