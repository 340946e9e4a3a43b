use Rattle.mh_expand.proofs.AreFound.{arity_fault}
use Rattle.mh_expand.specs.code.SharedTerms.{terms_of, term_at}
use Rattle.mh_expand.proofs.search.wrong_count.Goals as goal

pub returns-in-Some : goal.returns-in-Some
returns-in-Some c = λ before. arity_fault c.args.joined.now before (term_at (terms_of c.args.terms.now.nodes.keys) c.args.number) 16777216 c.in-Ok.name c.in-Some.instance c.requires.count c.in-Ok.ensures c.in-Some.is
