use Rattle.std.proofs.Common.{◌≡◌, [], Some, None, ap, ◌∙◌, unwrap_or}
use Rattle.std.proofs.lemmas.Result.{IfOk-weaker}
use Rattle.clap.specs.Words.{first_of, found_of, rows_of}
use Rattle.clap.proofs.WalkLemmas.{first_value-rows}
use Rattle.mh_opts.specs.Orders as orders
use Rattle.mh_opts.proofs.clap_result.file_of.Goals as goal

pub returns-in-Some : goal.returns-in-Some
returns-in-Some c =
    let rows = rows_of (found_of c.args.matches.now) in
    let value : Some c.in-Some.value.now ≡ first_of c.args.name.now rows = c.in-Some.ensures ∙ first_value-rows (found_of c.args.matches.now) c.args.name.now in
    IfOk-weaker c.from_bytes.result (λ file. file ≡ c.as_bytes.result.now) (λ file. file ≡ orders.file_of rows c.args.name.now)
    (λ _ same. same ∙ c.as_bytes.ensures.value ∙ ap (λ o. unwrap_or o []) value) c.from_bytes.ensures

pub returns-in-None : goal.returns-in-None
returns-in-None c =
    let rows = rows_of (found_of c.args.matches.now) in
    let none : None ≡ first_of c.args.name.now rows = c.in-None.ensures ∙ first_value-rows (found_of c.args.matches.now) c.args.name.now in
    IfOk-weaker c.from_bytes-in-None.result (λ file. file ≡ []) (λ file. file ≡ orders.file_of rows c.args.name.now)
    (λ _ same. same ∙ ap (λ o. unwrap_or o []) none) c.from_bytes-in-None.ensures
