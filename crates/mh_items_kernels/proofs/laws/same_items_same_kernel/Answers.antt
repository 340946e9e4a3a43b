use Rattle.mh_grammar.specs.Plain.{plain_of}
use Rattle.mh_items_kernels.proofs.UniqueItemList.{kernel_same}
use Rattle.mh_items_kernels.proofs.laws.same_items_same_kernel.Goals as goal

pub returns : goal.returns
returns c = λ left right h k s. kernel_same (plain_of c.args.grammar.now) left right h k s
