use Rattle.std.proofs.Common.{eqb}
use Rattle.std.proofs.lemmas.Bool.Decides.{Decides-eqb}
use Rattle.mh_grammar.proofs.NumberingInvariant.{Placed-insert}
use Rattle.mh_expand.proofs.search.place.Goals as goal

pub returns : goal.returns
returns c =
    let s = c.in_ok-at.ensures.stored in
    Placed-insert eqb c.args.found.now.keys c.insert_full.new.self.keys c.args.number c.in_ok-at.at c.in_ok-at.ensures.keys Decides-eqb s.0 s.1 s.2
