use Rattle.mh_grammar.specs.Plain.{plain_of, start_symbol}
use Rattle.std.proofs.Common.{[], ◌∷◌}
use Rattle.mh_sample.proofs.RandomUnique.{written_once}
use Rattle.mh_sample.proofs.random_laws.random_sentence_is_unique.Goals as goal

pub returns : goal.returns
returns c = λ seed n s t. let g = plain_of c.args.grammar.now in written_once g seed n 0 [] (start_symbol g 0 ∷ []) s t
