use Rattle.std.proofs.Common.{refl}
use Rattle.mh_grammar.proofs.NumberingInvariant.{Placed-insert}
use Rattle.mh_expand.proofs.ApplicationEquality.{compares_Decides}
use Rattle.mh_expand.specs.contracts.applications.ApplicationPartialEq.TheImpl.{ghosts}
use Rattle.mh_expand.proofs.terms.place.Goals as goal

pub returns-clause-ok : goal.returns-clause-ok
returns-clause-ok c =
    let s = c.in_ok-number.ensures.stored in
    Placed-insert ghosts.eq c.args.nodes.now.keys c.insert_full.new.self.keys c.args.node c.in_ok-number.number c.in_ok-number.ensures.keys (compares_Decides ghosts.eq (record {
      formals = λ k l xs ys. refl;
      tokens = λ k l xs ys. refl;
      rules = λ k l xs ys. refl;
      formal_token = λ k l xs ys. refl;
      formal_rule = λ k l xs ys. refl;
      token_formal = λ k l xs ys. refl;
      token_rule = λ k l xs ys. refl;
      rule_formal = λ k l xs ys. refl;
      rule_token = λ k l xs ys. refl;
    })) s.0 s.1 s.2
