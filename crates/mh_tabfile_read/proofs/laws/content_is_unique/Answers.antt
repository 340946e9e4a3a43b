use Rattle.mh_tabfile_read.proofs.ReadingUnique.{same_table}
use Rattle.mh_tabfile_read.proofs.laws.content_is_unique.Goals as goal

pub returns : goal.returns
returns c = λ one two f g. same_table c.args.bytes.now one two f g
