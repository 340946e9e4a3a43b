use Rattle.std.proofs.Common.{◌∷◌, refl}
use Rattle.mh_grammar.specs.Plain.{plain_of}
use Rattle.mh_grammar.proofs.DerivesFirst.{first_from-derivation, first_of_from-derivations}
use Rattle.mh_grammar.proofs.laws.words_begin_with_first.Goals as goal

pub returns-clause-symbol : goal.returns-clause-symbol
returns-clause-symbol c = λ x a w d. first_from-derivation (plain_of c.args.grammar.now) a x (a ∷ w) w d refl

pub returns-clause-string : goal.returns-clause-string
returns-clause-string c = λ xs a w d. first_of_from-derivations (plain_of c.args.grammar.now) a xs (a ∷ w) w d refl
