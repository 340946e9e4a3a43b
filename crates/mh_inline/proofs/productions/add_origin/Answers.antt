use Rattle.std.proofs.Common.{◌++◌, ap, ◌∙◌}
use Rattle.std.proofs.lemmas.Option.{slice_get_within}
use Rattle.std.proofs.lemmas.Result.{on_ok_weaker}
use Rattle.mh_inline.proofs.MadeProductions.{alternative_below, productions_same}
use Rattle.mh_inline.proofs.productions.add_origin.Goals as goal

pub add_productions-requires : goal.add_productions-requires
add_productions-requires c =
    let e = c.args.expanded.now in
    let s = c.args.origin.now in
    let below = alternative_below e c.requires.ready s.instance s.alternative c.alternative-from.result.now c.in_ok-unfoldings.unfoldings.items c.alternative-from.ensures (rw c.as_slice.ensures at c.in_ok-unfoldings.ensures) in
    rw (c.as_slice-3.ensures.value, c.requires.numbers.len) below

pub returns : goal.returns
returns c =
    let e = c.args.expanded.now in
    let s = c.args.origin.now in
    let p = c.alternative-from.result.now in
    let us = c.in_ok-unfoldings.unfoldings.items in
    let f = rw c.as_slice.ensures at c.in_ok-unfoldings.ensures in
    let below = alternative_below e c.requires.ready s.instance s.alternative p us c.alternative-from.ensures f in
    let number = c.requires.numbers.each s.instance (slice_get_within e.instances s.instance c.alternative-from.ensures.instance c.alternative-from.ensures.at) in
    on_ok_weaker c.add_productions.result (λ added. record {
      production = p;
      alternative = c.alternative-from.ensures;
      unfoldings = us;
      unfolds = f;
      added = rw (c.as_slice-2.ensures, c.as_slice-3.ensures.value) at added ∙ ap (λ l. c.args.productions.now.items ++ l) (productions_same 65536 e.instances c.args.numbers.now c.requires.numbers e.tokens s.instance _ p.prec us number below);
    }) c.add_productions.ensures
