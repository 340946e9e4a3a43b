use Rattle.std.proofs.Common.{◌≡◌, suc, ℕ, List, ◌∷◌, Some, refl, drop, sym, ap, ◌∙◌, rules}
use Rattle.std.specs.List.{slice_get}
use Rattle.std.proofs.lemmas.List.Elements.{All-drop}
use Rattle.std.proofs.lemmas.Option.{slice_get_within}
use Rattle.mh_grammar.specs.Plain.{IsSymbolBelow}
use Rattle.mh_grammar.specs.declared.types.Symbol.{Symbol}
use Rattle.mh_grammar.specs.declared.types.Symbol.TheVariants.{N}
use Rattle.mh_items_kernels.proofs.SymbolAtDot.{drop_from-slice_get}
use Rattle.mh_items.proofs.IsStringFirst.{no_token, not_none}
use Rattle.mh_items.proofs.links.link_of.Goals as goal

first_of : (symbols : List Symbol) (n : ℕ) (y : List Symbol) → symbols ≡ N n ∷ y → slice_get symbols 0 ≡ Some (N n)
first_of symbols n y e = rw e refl

pub rest_from-requires : goal.rest_from-requires
rest_from-requires _ c = slice_get_within c.args.symbols.now 0 (N c.in-Some-N.to) (sym c.symbol_in.ensures ∙ c.in-Some-N.is ∙ ap Some c.in-Some-N.field-0-is)

pub rest_of-rest-requires : goal.rest_of-rest-requires
rest_of-rest-requires _ c = (search rules, (search rules, (c.requires.few, (c.requires.len, rw c.rest_from.ensures (All-drop (IsSymbolBelow _ _) 1 c.args.symbols.now c.requires.symbols)))))

pub returns-in-Some-N : goal.returns-in-Some-N
returns-in-Some-N _ c = λ g s.
    let xs = c.args.symbols.now in
    record {
      suffix = drop (suc 0) xs;
      side = drop_from-slice_get xs 0 (N c.in-Some-N.to) (sym c.symbol_in.ensures ∙ c.in-Some-N.is ∙ ap Some c.in-Some-N.field-0-is);
      rest = rw c.rest_from.ensures at (c.rest_of-rest.ensures g s);
    }

pub returns-in-Some-T : goal.returns-in-Some-T
returns-in-Some-T _ c = λ g s n y e. no_token n _ (sym (first_of c.args.symbols.now n y e) ∙ sym c.symbol_in.ensures ∙ c.in-Some-T.is ∙ ap Some c.in-Some-T.field-0-is)

pub returns-in-None : goal.returns-in-None
returns-in-None _ c = λ g s n y e. not_none n (sym (first_of c.args.symbols.now n y e) ∙ sym c.symbol_in.ensures ∙ c.in-None.is)
