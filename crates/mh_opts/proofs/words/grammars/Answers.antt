use Rattle.std.proofs.Common.{◌≡◌, [], Some, None, map, ap, sym, codes, unwrap_or, ◌∙◌}
use Rattle.std.proofs.lemmas.Result.{IfOk-weaker}
use Rattle.clap.specs.Words.{all_of, found_of, rows_of}
use Rattle.clap.proofs.WalkLemmas.{raw_values-rows}
use Rattle.mh_opts.proofs.words.grammars.Goals as goal

pub returns-in-Some : goal.returns-in-Some
returns-in-Some c =
    let found = found_of c.args.matches.now in
    let words : all_of (codes "grammars") (rows_of found) ≡ Some (map (λ w. w.now) c.in-Some.words.now) = sym (raw_values-rows found (codes "grammars")) ∙ sym c.in-Some.ensures in
    IfOk-weaker c.names_of.result _ _ (λ names same. same ∙ sym (ap (λ o. unwrap_or o []) words)) c.names_of.ensures

pub returns-in-None : goal.returns-in-None
returns-in-None c =
    let found = found_of c.args.matches.now in
    let words : all_of (codes "grammars") (rows_of found) ≡ None = sym (raw_values-rows found (codes "grammars")) ∙ sym c.in-None.ensures in
    c.new.ensures ∙ sym (ap (λ o. unwrap_or o []) words)
