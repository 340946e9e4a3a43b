use Rattle.std.proofs.lemmas.Bool.Decides.{Decides-eqb}
use Rattle.mh_grammar.proofs.NumberingInvariant.{Placed-insert}
use Rattle.mh_pager.proofs.starts.place_state.Goals as goal

pub returns : goal.returns
returns c =
    let s = c.in_ok-at.ensures.stored in
    Placed-insert _ c.args.states.now.keys c.insert_full.new.self.keys c.args.state c.in_ok-at.at c.in_ok-at.ensures.keys Decides-eqb s.0 s.1 s.2
