use Rattle.std.proofs.lemmas.Result.{on_ok_weaker}
use Rattle.mh_reach_words.specs.code.Words.{words_of}
use Rattle.mh_reach_words.proofs.WritesPart.{writes_token, writes_word}
use Rattle.mh_reach_words.proofs.writing.write_part.Goals as goal

pub returns-in_ok-push-in-Token : goal.returns-in_ok-push-in-Token
returns-in_ok-push-in-Token c = rw c.in-Token.is (writes_token (words_of c.args.entries.now) c.in-Token.token c.args.parts.now.items c.args.letters.now.items c.push.new.self.items c.in_ok-push-in-Token.ensures.items)

pub open-requires-clause-known : goal.open-requires-clause-known
open-requires-clause-known c = rw c.in-Word.is at c.requires.known

pub returns-in-Word : goal.returns-in-Word
returns-in-Word c = rw c.in-Word.is (on_ok_weaker c.open.result (writes_word (words_of c.args.entries.now) c.in-Word.number c.args.parts.now.items c.open.new.parts.items c.args.letters.now.items) c.open.ensures)
