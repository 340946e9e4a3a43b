use Rattle.std.proofs.Common.{ap, ◌∙◌, ◌++◌, ◌∷◌, [], List}
use Rattle.mh_reach_words.specs.declared.word_parts.LastPart.{LastPart}
use Rattle.mh_reach_words.specs.declared.word_parts.LastPart.TheVariants as lasts
use Rattle.mh_reach_words.specs.code.Words.{words_of}
use Rattle.mh_reach_words.proofs.WritesPart.{less_left, top_below, written_begins, written_ends, written_more}
use Rattle.mh_reach_words.proofs.writing.spell.Goals as goal

pub parts-init : goal.parts-init
parts-init c = written_begins (words_of c.args.entries.now) c.args.number c.push.new.self.items c.new-letters.result.items c.requires.known (c.in_ok-push.ensures.items ∙ ap (λ (ps : List LastPart). ps ++ lasts.Word c.args.number ∷ []) c.new-parts.ensures.items) c.new-letters.ensures.items

pub returns-in-None : goal.returns-in-None
returns-in-None c = written_ends (words_of c.args.entries.now) c.args.number c.parts.parts.items c.parts.letters.items ((rw c.in-None.is at c.take_top.ensures).0) c.parts.invariant

pub write_part-requires-clause-known : goal.write_part-requires-clause-known
write_part-requires-clause-known c = top_below (words_of c.args.entries.now) c.args.number c.parts.parts.items c.take_top.new.parts.items c.in-Some.part c.parts.letters.items (rw c.in-Some.is at c.take_top.ensures) c.parts.invariant

pub parts-preserved : goal.parts-preserved
parts-preserved c = written_more (words_of c.args.entries.now) c.args.number c.parts.parts.items c.take_top.new.parts.items c.in-Some.part c.parts.letters.items (rw c.in-Some.is at c.take_top.ensures) c.parts.invariant c.write_part.new.parts.items c.write_part.new.letters.items c.in_ok-write_part-in-Some.ensures

pub parts-smaller : goal.parts-smaller
parts-smaller c = less_left (words_of c.args.entries.now) c.args.number c.parts.parts.items c.take_top.new.parts.items c.in-Some.part c.parts.letters.items (rw c.in-Some.is at c.take_top.ensures) c.parts.invariant c.write_part.new.parts.items c.write_part.new.letters.items c.in_ok-write_part-in-Some.ensures
