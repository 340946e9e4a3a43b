use Rattle.std.proofs.Common.{◌≡◌, ◌∙◌, ◌++◌, ◌∷◌, [], get_or, refl, ap}
use Rattle.std.specs.Prelude.{slice_index}
use Rattle.std.proofs.lemmas.List.{get_or_default}
use Rattle.mh_grammar.specs.declared.types.Symbol.TheVariants.{N}
use Rattle.mh_sample.specs.declared.writing.Writing.{Writing}
use Rattle.mh_sample.proofs.Treats.{begun_is}
use Rattle.mh_sample.proofs.writing.begun.Goals as goal

pub returns-clause-keeps : goal.returns-clause-keeps
returns-clause-keeps c =
    let guide = c.args.guide.now in
    let starts = guide.grammar.now.starts in
    let first : c.index.result.now ≡ slice_index starts 0 = c.index.ensures ∙ get_or_default starts 0 c.index.result.now 0 c.requires.some in
    let pending = c.in_ok-push.ensures.items ∙ ap (λ l. l ++ N c.index.result.now ∷ []) c.new-pending.ensures.items ∙ ap (λ n. N n ∷ []) first in
    let w : Writing = record { generator = c.seed_from_u64.result; draws = 0; written = c.new.result; pending = c.push.new.self; needed = c.length_of.result } in
    begun_is guide c.requires.guide c.requires.some c.requires.fits w c.seed_from_u64.ensures refl c.new.ensures.items pending (c.length_of.ensures ∙ ap (λ n. get_or guide.lengths.now n 0) first)
