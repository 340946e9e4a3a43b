use Rattle.std.proofs.Common.{◌∙◌}
use Rattle.mh_reader_places.proofs.MentionsFrom.{mentions_from-in_file}
use Rattle.mh_reader_places.proofs.reading.with_places.Goals as goal

pub returns-in-Ok-clause-places : goal.returns-in-Ok-clause-places
returns-in-Ok-clause-places c = record {
  lexemes = c.args.lexemes.now;
  lexes = c.requires.lexes;
  file = c.requires.file;
  mentions = c.from_vec.ensures ∙ c.in-Ok.ensures.mentions ∙ mentions_from-in_file c.args.bytes.now c.args.lexemes.now c.args.made c.requires.file;
  bad = c.from_vec-in-Ok.ensures ∙ c.in-Ok.ensures.costs;
}
