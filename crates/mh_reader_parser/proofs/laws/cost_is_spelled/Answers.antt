use Rattle.mh_reader_parser.proofs.CostText.{cost_of_text, text_of_cost}
use Rattle.mh_reader_parser.proofs.laws.cost_is_spelled.Goals as goal

pub returns : goal.returns
returns c = λ t n. (text_of_cost t n, cost_of_text t n)
