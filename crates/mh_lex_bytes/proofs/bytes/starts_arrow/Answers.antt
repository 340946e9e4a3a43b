use Rattle.std.proofs.Common.{rules}
use Rattle.mh_lex_bytes.proofs.bytes.starts_arrow.Goals as goal

pub returns-then-has_byte-clause-value : goal.returns-then-has_byte-clause-value
returns-then-has_byte-clause-value c = search rules
