use Rattle.std.proofs.Common.{ap, sym, ◌∙◌}
use Rattle.mh_tabfile_read.specs.code.Lines.{words_of}
use Rattle.mh_tabfile_read.proofs.SplitLines.{other_version, bytes_of_parts}
use Rattle.mh_tabfile_read.proofs.ReadingUnique.{never_other}
use Rattle.mh_tabfile_read.proofs.reading.is_other.Goals as goal

pub returns : goal.returns
returns c =
    let words = ap bytes_of_parts c.as_slice.ensures.value ∙ c.in_ok-head.ensures ∙ ap words_of c.first_line.ensures in (
      λ t. other_version c.args.bytes.now c.args.parts.now _ c.requires.cut c.requires.some words (sym c.is_other_head.ensures ∙ t),
      λ f. never_other c.args.bytes.now c.args.parts.now _ c.requires.cut c.requires.some words (sym c.is_other_head.ensures ∙ f),
    )
