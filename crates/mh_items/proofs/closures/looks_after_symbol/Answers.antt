use Rattle.std.proofs.Common.{sym, ◌∙◌, rules, lit<}
use Rattle.mh_grammar.specs.Plain.{plain_of}
use Rattle.mh_items_kernels.proofs.RhsInRange.{rest_fits}
use Rattle.mh_items.proofs.IsKernelLook.{may_follow_exact}
use Rattle.mh_items.proofs.closures.looks_after_symbol.Goals as goal

pub rest_of-rest-requires : goal.rest_of-rest-requires
rest_of-rest-requires g c = (
  lit< tt,
  (
    search rules,
    (
      c.requires.fits.few,
      (
        c.requires.sets.first_len ∙ sym c.requires.sets.nullable_len,
        rest_fits g.row.W (plain_of c.args.grammar.now) _ c.symbols_after_dot.result.now c.requires.fits.range c.requires.fits.width c.requires.sets.nullable_len c.args.item.now.production c.args.item.now.dot c.requires.item.production c.symbols_after_dot.ensures,
      ),
    ),
  ),
)

pub returns : goal.returns
returns g c b =
    let m = c.passed_on.ensures b in
    let rest = rw c.symbols_after_dot.ensures at (c.rest_of-rest.ensures (plain_of c.args.grammar.now) c.requires.sets) in
    let f = may_follow_exact (plain_of c.args.grammar.now) c.args.item.now c.requires.item c.rest_of-rest.result.tokens c.rest_of-rest.result.passes rest b in
    ((λ k. f.0 (m.0 k)), (λ k. m.1 (f.1 k)))
