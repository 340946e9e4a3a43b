use Rattle.std.proofs.Common.{ap, ◌∙◌, ◌++◌, ◌∷◌, [], codes, decimal}
use Rattle.mh_tabfile.proofs.LinesWritten.{three_words}
use Rattle.mh_tabfile.proofs.writing.write_version.Goals as goal

pub returns : goal.returns
returns c =
    three_words c.args.text.now.items (codes "menhir-tables") (decimal c.args.version) c.args.mode.now c.push.new.self.items
    (c.in_ok-push.ensures.items ∙ ap (λ t. t ++ 10 ∷ []) (c.in_ok-write_word.ensures ∙ ap (λ t. t ++ 32 ∷ c.args.mode.now) (c.in_ok-write_numeral.ensures ∙ ap (λ t. t ++ 32 ∷ decimal c.args.version) c.in_ok-extend_from_slice.ensures.items)))
