use Rattle.std.proofs.Common.{◌≡◌, ◌+◌, ◌-◌, ◌/◌, ◌<◌, ◌∙◌, Some, length, get_or, sym, arith}
use Rattle.std.specs.List.{slice_get}
use Rattle.std.proofs.lemmas.Option.{slice_get-get_or}
use Rattle.mh_grammar.specs.declared.types.Symbol.TheVariants.{T}
use Rattle.mh_grammar.specs.declared.edges.Edge.{Edge}
use Rattle.mh_grammar.proofs.EdgeOrder.{edge_found, equal_from_same, before_otherwise, between_above, between_below, none_between}
use Rattle.mh_grammar.proofs.edges.find_edge.Goals as goal

pub returns-then-is_same : goal.returns-then-is_same
returns-then-is_same c =
    let es = c.args.edges.now in
    let m = c.loop-low.low + (c.loop-low.high - c.loop-low.low) / 2 in
    let e : Edge = get_or es m (record { symbol = T 0; target = 0 }) in
    let within : m < length es = omega (arith, c.loop-low-test.true, c.loop-low.invariant.within) in
    let at : slice_get es m ≡ Some e = slice_get-get_or es m (record { symbol = T 0; target = 0 }) within in
    let same : e.symbol ≡ c.args.symbol = equal_from_same e.symbol c.args.symbol (sym c.is_same.ensures ∙ c.if-is_same.true) in
    rw (← same) (sym (edge_found es m e c.requires at))

pub loop-low-preserved-then-is_before : goal.loop-low-preserved-then-is_before
loop-low-preserved-then-is_before c =
    let es = c.args.edges.now in
    let m = c.loop-low.low + (c.loop-low.high - c.loop-low.low) / 2 in
    let e : Edge = get_or es m (record { symbol = T 0; target = 0 }) in
    let below : m < c.loop-low.high = omega (arith, c.loop-low-test.true) in
    let within : m < length es = omega (arith, c.loop-low.invariant.within) in
    between_above es c.args.symbol c.loop-low.low c.loop-low.high m e c.requires c.loop-low.invariant (omega arith) below (slice_get-get_or es m (record { symbol = T 0; target = 0 }) within) (c.is_before.ensures.0 c.if-is_before.true)

pub loop-low-preserved : goal.loop-low-preserved
loop-low-preserved c =
    let es = c.args.edges.now in
    let m = c.loop-low.low + (c.loop-low.high - c.loop-low.low) / 2 in
    let e : Edge = get_or es m (record { symbol = T 0; target = 0 }) in
    let below : m < c.loop-low.high = omega (arith, c.loop-low-test.true) in
    let within : m < length es = omega (arith, c.loop-low.invariant.within) in
    between_below es c.args.symbol c.loop-low.low c.loop-low.high m e c.requires c.loop-low.invariant (omega arith) below (slice_get-get_or es m (record { symbol = T 0; target = 0 }) within)
    (before_otherwise e.symbol c.args.symbol (sym c.is_same.ensures ∙ c.if-is_same.false) (λ h. let yes = c.is_before.ensures.1 h in let not = c.if-is_before.false in cc))

pub returns : goal.returns
returns c = sym (none_between c.args.edges.now c.args.symbol c.loop-low.low c.loop-low.high c.loop-low.invariant (omega (arith, c.loop-low-test.false)))
