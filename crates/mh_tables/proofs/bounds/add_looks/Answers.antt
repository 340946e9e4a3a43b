use Rattle.std.proofs.Common.{arith}
use Rattle.mh_tables.proofs.BoundsProveHalting.{none_kept, looks_more, looks_all}
use Rattle.mh_tables.proofs.bounds.add_looks.Goals as goal

pub tokens-preserved : goal.tokens-preserved
tokens-preserved c =
    let added = c.in_ok-add_passage-2.ensures in
    record {
      known = added.known;
      kept = λ p there. added.kept p (c.tokens.invariant.kept p there);
      none = none_kept c.args.table.now c.tokens.passages.items c.add_passage-in-tokens.new.passages.items c.args.from c.args.state added.kept c.tokens.invariant.none;
      each = looks_more c.args.table.now c.tokens.passages.items c.add_passage-in-tokens.new.passages.items c.args.from c.args.state c.tokens.token added.kept added.covered c.tokens.invariant.each;
    }

pub returns-clause-covered : goal.returns-clause-covered
returns-clause-covered c = looks_all c.args.table.now c.tokens.passages.items c.args.from c.args.state c.tokens.token c.tokens.invariant.none c.tokens.invariant.each (omega arith)
