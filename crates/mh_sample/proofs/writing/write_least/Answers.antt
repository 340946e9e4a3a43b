use Rattle.std.proofs.Common.{◌≡◌, ◌∙◌, ◌<◌, Some, length, refl, sym, ap, arith, subst}
use Rattle.std.specs.List.{slice_get}
use Rattle.std.proofs.lemmas.Option.{slice_get_read}
use Rattle.mh_grammar.specs.declared.types.Symbol.TheVariants.{N}
use Rattle.mh_grammar.specs.Plain.{plain_of}
use Rattle.mh_sample.specs.Shortest.{IsLeast}
use Rattle.mh_sample.specs.declared.word.Shortest.TheVariants.{Word}
use Rattle.mh_sample.proofs.Treats.{treats_by_least}
use Rattle.mh_sample.proofs.writing.write_least.Goals as goal

pub returns-clause-treats : goal.returns-clause-treats
returns-clause-treats c =
    let guide = c.args.guide.now in
    let x = c.args.nonterminal in
    let shortest = guide.shortest.now in
    let within : c.from.result < length shortest = omega (arith, c.requires.popped.symbol, c.requires.guide.known.same, c.requires.guide.known.all, c.from.ensures) in
    let read = slice_get_read shortest (length shortest) c.from.result c.index-guide-from.result refl within c.index-guide-from.is in
    let at = subst (λ i. slice_get shortest i ≡ Some c.index-guide-from.result) c.from.ensures read in
    let least = (c.requires.guide.known.each x (Word c.in-Word.word) (at ∙ ap Some (c.index-guide-from.is ∙ c.in-Word.is))).0 in
    treats_by_least guide x c.args.writing.now c.as_slice.result.now c.extend_from_slice.new.self.items (subst (IsLeast (plain_of guide.grammar.now) (N x)) (sym c.as_slice.ensures) least) c.requires.draws c.in_ok-extend_from_slice.ensures.items
