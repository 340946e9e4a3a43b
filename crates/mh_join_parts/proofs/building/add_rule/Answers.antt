use Rattle.std.proofs.Common.{◌∙◌, get_or, sym, ap, refl}
use Rattle.mh_join_names.specs.code.SymbolTables.{meanings_in}
use Rattle.mh_join_parts.proofs.AddsAlternatives.{AddsAlternatives-at, AddsAlternatives-out_of_range}
use Rattle.mh_join_parts.proofs.building.add_rule.Goals as goal

pub returns-in_ok-add_definition : goal.returns-in_ok-add_definition
returns-in_ok-add_definition c =
    let old = c.args.joined.now in let n = c.in-Some.number in
    AddsAlternatives-at (meanings_in c.args.names.now) (record { file = c.args.definition.now.file; owner = c.args.definition.now.owner; place = c.args.definition.now.place; rule = c.args.definition.now.rule.now }) old _ n (get_or old n c.index-joined-number.result) c.add_definition.new.joined
    (sym c.number_of.ensures ∙ c.in-Some.is) c.if-number-joined.true (ap (λ d. get_or old n d) c.index-joined-number.is) c.in_ok-add_definition.ensures refl

pub returns-else-number-joined : goal.returns-else-number-joined
returns-else-number-joined c =
    AddsAlternatives-out_of_range (meanings_in c.args.names.now) (record { file = c.args.definition.now.file; owner = c.args.definition.now.owner; place = c.args.definition.now.place; rule = c.args.definition.now.rule.now }) c.args.joined.now c.in-Some.number
    (sym c.number_of.ensures ∙ c.in-Some.is) c.if-number-joined.false
