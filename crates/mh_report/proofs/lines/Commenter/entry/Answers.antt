use Rattle.mh_msgfile.specs.FileTexts.{sentence_text}
use Rattle.mh_report.proofs.CommentParts.{entry_is}
use Rattle.mh_report.proofs.lines.Commenter.entry.Goals as goal

pub returns : goal.returns
returns g c = record {
  comments = c.in_ok-comments.comments.items;
  are_comments = c.in_ok-comments.ensures;
  is = entry_is c.new-text.result.items (sentence_text c.args.self.now.grammar.now c.args.start c.args.sentence.now) c.in_ok-comments.comments.items c.as_slice.result.now _ _ _ _
      c.new-text.ensures.items c.in_ok-write_sentence.ensures c.in_ok-push.ensures.items c.as_slice.ensures.value c.in_ok-extend_from_slice.ensures.items c.in_ok-write_message_place.ensures;
}
