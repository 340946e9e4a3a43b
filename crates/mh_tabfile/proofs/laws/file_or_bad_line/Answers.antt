use Rattle.mh_tabfile.proofs.FileOrBadLine.{read_or_bad}
use Rattle.mh_tabfile.proofs.laws.file_or_bad_line.Goals as goal

pub returns : goal.returns
returns c = read_or_bad c.args.bytes.now
