-- The lines on err for files and inputs that cannot be read or are too big, and for lack of memory (the words are this
-- project's own).
use Rattle.std.specs.Prelude.{◌++◌, codes}
use Rattle.mh_grammar.specs.Text.{Text}

abbrev pub cannot_read : Text → Text
cannot_read name = codes "menhir: cannot read " ++ name ++ codes "\n"

abbrev pub cannot_read_input : Text
cannot_read_input = codes "menhir: cannot read the input\n"

abbrev pub too_big : Text → Text
too_big name = codes "menhir: too big: " ++ name ++ codes "\n"

abbrev pub too_big_input : Text
too_big_input = codes "menhir: too big: the input\n"

abbrev pub out_of_memory : Text
out_of_memory = codes "menhir: out of memory\n"
