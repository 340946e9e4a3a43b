-- The tokens after `%prec` of all files.
use Rattle.std.proofs.Common.{◌↔◌, suc, List, ◌∷◌, Option, map, take, drop, sym, ap, subst, ◌∙◌}
use Rattle.std.specs.List.{Any, Contains}
use Rattle.std.specs.Option.{option_map}
use Rattle.std.proofs.lemmas.List.Elements.{Contains-append_right}
use Rattle.std.proofs.lemmas.Option.{slice_get-map}
use Rattle.mh_grammar.specs.Text.{Text}
use Rattle.mh_grammar.proofs.Lists.{at_contains, contains_at, contains_here, map_contains, split_at}
use Rattle.mh_reader_places.specs.declared.mentions.Mention.{Mention}
use Rattle.mh_reader_places.specs.declared.reading.PlacedModule.{PlacedModule}
use Rattle.mh_lint.specs.code.Uses.{ArePrecTokens, NamesTokenByPrec}
use Rattle.mh_lint.proofs.Gains.{any_of, of_any}

abbrev pub NamesIn : List Text → (Text → Option Text) → List Mention → Text → Type 0
NamesIn tokens aliased mentions name = Any (λ x. NamesTokenByPrec tokens aliased x name) mentions

abbrev pub mentions_of : List PlacedModule → List (List Mention)
mentions_of found = map (λ (p : PlacedModule). p.mentions) found

pub named_in_files : (tokens : List Text) (aliased : Text → Option Text) (found : List PlacedModule) (name : Text) → Any (λ mentions. NamesIn tokens aliased mentions name) (mentions_of found) ↔ ArePrecTokens tokens aliased found name
named_in_files tokens aliased found name = (to, back)
  where
    to : Any (λ mentions. NamesIn tokens aliased mentions name) (mentions_of found) → ArePrecTokens tokens aliased found name
    to some =
        let list = of_any (λ mentions. NamesIn tokens aliased mentions name) (mentions_of found) some in
        let p = map_contains (λ (q : PlacedModule). q.mentions) found list.0 list.1 in
        let file = at_contains found p.0 p.1 in
        let x = of_any (λ m. NamesTokenByPrec tokens aliased m name) list.0 list.2 in
        let whole = split_at list.0 (x.1).0 x.0 (x.1).1 (sym (x.1).2) in
        ((file.0, take (x.1).0 list.0, x.0, record { placed = p.0; after = drop (suc (x.1).0) list.0; of_files = file.1; split = p.2 ∙ whole }, (x.2).0), (x.2).1)

    back : ArePrecTokens tokens aliased found name → Any (λ mentions. NamesIn tokens aliased mentions name) (mentions_of found)
    back ((file, before, x, m, named), token) =
        let there = contains_at (mentions_of found) file m.placed.mentions (slice_get-map (λ (q : PlacedModule). q.mentions) found file ∙ ap (option_map (λ (q : PlacedModule). q.mentions)) m.of_files) in
        let here : Contains m.placed.mentions x = subst (λ ys. Contains ys x) (sym m.split) (Contains-append_right before (x ∷ m.after) x (contains_here x m.after)) in
        any_of (λ mentions. NamesIn tokens aliased mentions name) (mentions_of found) m.placed.mentions there (any_of (λ y. NamesTokenByPrec tokens aliased y name) m.placed.mentions x here (named, token))
