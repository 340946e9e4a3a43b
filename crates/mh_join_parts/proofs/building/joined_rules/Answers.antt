use Rattle.std.proofs.Common.{List, ◌∙◌, sym, subst, arith}
use Rattle.std.proofs.lemmas.List.{take_at}
use Rattle.mh_rules.specs.declared.joined.JoinedRule.{JoinedRule}
use Rattle.mh_join_names.specs.code.SymbolTables.{meanings_in, elsewhere_in}
use Rattle.mh_join_parts.specs.code.CanJoin.{AddsAlternatives, definitions_by}
use Rattle.mh_join_parts.proofs.AddsAlternatives.{AreRules-from}
use Rattle.mh_join_parts.proofs.building.joined_rules.Goals as goal

pub returns-in-Ok : goal.returns-in-Ok
returns-in-Ok c =
    let w = meanings_in c.args.names.now in let ds = definitions_by c.args.names.now c.args.modules.now c.args.from_prelude.now in
    AreRules-from w (elsewhere_in c.args.names.now) c.args.names.now.numbering.rules.items ds c.as_mut_slice.result.now c.from_vec.result
    (c.as_mut_slice.ensures.value ∙ c.in_ok-rules.ensures)
    (subst (λ (k : List JoinedRule). AddsAlternatives w ds c.as_mut_slice.result.now k) (sym (c.from_vec.ensures ∙ take_at c.add_all.new.joined _ c.in_ok-rules.rules.len (omega (arith, c.add_all.auto.joined, c.as_mut_slice.ensures.len)))) c.in-Ok.ensures)
