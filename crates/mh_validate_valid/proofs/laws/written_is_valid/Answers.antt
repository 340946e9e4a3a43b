use Rattle.mh_validate_valid.proofs.WrittenIsValid.{written_is_valid_for}
use Rattle.mh_validate_valid.proofs.laws.written_is_valid.Goals as goal

pub returns : goal.returns
returns g c = λ parts r. written_is_valid_for c.args.grammar.now c.args.automaton.now c.args.mode parts c.requires r
