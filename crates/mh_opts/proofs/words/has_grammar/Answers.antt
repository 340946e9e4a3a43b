use Rattle.std.proofs.Common.{◌≡◌, [], Some, None, map, ap, sym, codes, unwrap_or, ◌∙◌}
use Rattle.std.proofs.lemmas.List.{length-map}
use Rattle.std.specs.Prelude.{not, ◌==◌}
use Rattle.clap.specs.Walk.{is_empty}
use Rattle.clap.specs.Words.{all_of, found_of, rows_of}
use Rattle.clap.proofs.WalkLemmas.{raw_values-rows}
use Rattle.mh_opts.proofs.words.has_grammar.Goals as goal

pub returns-in-Some : goal.returns-in-Some
returns-in-Some c =
    let found = found_of c.args.matches.now in
    let words : all_of (codes "grammars") (rows_of found) ≡ Some (map (λ w. w.now) c.in-Some.words.now) = sym (raw_values-rows found (codes "grammars")) ∙ sym c.in-Some.ensures in
    ap not (c.is_empty.ensures ∙ ap (λ n. n == 0) (sym (length-map c.in-Some.words.now (λ w. w.now))) ∙ sym (ap (λ o. is_empty (unwrap_or o [])) words))

pub returns-in-None : goal.returns-in-None
returns-in-None c =
    let found = found_of c.args.matches.now in
    let words : all_of (codes "grammars") (rows_of found) ≡ None = sym (raw_values-rows found (codes "grammars")) ∙ sym c.in-None.ensures in
    sym (ap (λ o. not (is_empty (unwrap_or o []))) words)
