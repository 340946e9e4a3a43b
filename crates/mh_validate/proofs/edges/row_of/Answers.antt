use Rattle.std.proofs.Common.{rules}
use Rattle.mh_grammar.proofs.Lists.{zip_length}
use Rattle.mh_validate.specs.code.MatchedEdges.{MatchesMove}
use Rattle.mh_validate.proofs.edges.row_of.Goals as goal

pub edges_on-requires : goal.edges_on-requires
edges_on-requires g c = (search rules, (c.requires.few, zip_length (MatchesMove c.args.grammar.now c.args.kernels.now) c.args.moves.now c.args.raws.now (c.all_lead.ensures.0 c.if-not-all_lead.false)))
