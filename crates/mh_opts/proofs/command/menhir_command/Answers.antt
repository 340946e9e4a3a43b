use Rattle.std.proofs.Common.{◌≡◌, ◌∙◌, ap₂}
use Rattle.std.proofs.lemmas.Result.{IfOk-weaker}
use Rattle.clap.specs.Words.{app_of}
use Rattle.mh_opts.specs.App.{menhir_app, plain_rows, with_options}
use Rattle.mh_opts.proofs.command.menhir_command.Goals as goal

pub returns-in-Ok : goal.returns-in-Ok
returns-in-Ok c =
    let bare = app_of c.in-Ok.command in
    let given = plain_rows c.options.result.now (λ name. name.now) in
    let app : with_options given bare ≡ menhir_app = ap₂ with_options c.options.ensures c.in-Ok.ensures in
    IfOk-weaker c.with_all.result (λ made. app_of made ≡ with_options given bare) (λ made. app_of made ≡ menhir_app) (λ _ same. same ∙ app) c.with_all.ensures
