use Rattle.std.proofs.Common.{◌≡◌, ◌+◌, ◌≤◌, length}
use Rattle.std.specs.List.{list_all}
use Rattle.mh_lex_bytes.specs.Words.{is_word}
use Rattle.mh_msgfile.specs.code.LineSteps.{after_unknown}
use Rattle.mh_msgfile.specs.Sentences.{pieces, vocabulary_in, tokens_of}
use Rattle.mh_msgfile.proofs.sentence.put_tokens.Given as goal

abbrev pub invariant-loop-name : goal.invariant-loop-name
invariant-loop-name l = record {
  names : list_all is_word (pieces l.line) ≡ list_all is_word (pieces l.rest);
  so_far : tokens_of (vocabulary_in l.lexicon) (pieces l.line) ≡ after_unknown l.unknown l.tokens.items (tokens_of (vocabulary_in l.lexicon) (pieces l.rest));
  few : length l.tokens.items + length l.rest ≤ length l.line;
}

abbrev pub decreases-loop-name : goal.decreases-loop-name
decreases-loop-name l = length l.rest
