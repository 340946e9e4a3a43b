use Rattle.mh_lint.proofs.IsPrecUsed.{used_group, used_own}
use Rattle.mh_lint.proofs.levels.UsedLevels.has_prec.Goals as goal

pub returns-in-Prec : goal.returns-in-Prec
returns-in-Prec c =
    let both = used_own c.args.self.now.alternatives.keys c.args.file c.args.own.now.keys c.args.role c.in-Prec.alternative c.in-Prec.is in
    (λ e. both.0 (c.has_alternative.ensures.0 e), λ used. c.has_alternative.ensures.1 (both.1 used))

pub returns-in-GroupPrec : goal.returns-in-GroupPrec
returns-in-GroupPrec c =
    let both = used_group c.args.self.now.alternatives.keys c.args.file c.args.own.now.keys c.args.role c.in-GroupPrec.first c.in-GroupPrec.last c.in-GroupPrec.is in
    (λ e. both.0 (c.has_group.ensures.0 e), λ used. c.has_group.ensures.1 (both.1 used))
