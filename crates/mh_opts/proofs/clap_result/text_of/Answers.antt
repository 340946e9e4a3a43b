use Rattle.std.proofs.Common.{◌≡◌, [], Some, None, ap, unwrap_or, ◌∙◌}
use Rattle.clap.specs.Words.{first_of, found_of, rows_of}
use Rattle.clap.proofs.WalkLemmas.{first_value-rows}
use Rattle.mh_opts.proofs.clap_result.text_of.Goals as goal

pub returns-in-Some : goal.returns-in-Some
returns-in-Some c =
    let value : Some c.in-Some.value.now ≡ first_of c.args.name.now (rows_of (found_of c.args.matches.now)) = c.in-Some.ensures ∙ first_value-rows (found_of c.args.matches.now) c.args.name.now in
    ap (λ o. unwrap_or o []) value

pub returns-in-None : goal.returns-in-None
returns-in-None c =
    let none : None ≡ first_of c.args.name.now (rows_of (found_of c.args.matches.now)) = c.in-None.ensures ∙ first_value-rows (found_of c.args.matches.now) c.args.name.now in
    ap (λ o. unwrap_or o []) none
