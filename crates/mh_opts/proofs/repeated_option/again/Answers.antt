use Rattle.std.proofs.Common.{◌≡◌, ◌++◌, ◌∙◌, string_bytes}
use Rattle.std.proofs.lemmas.Result.{IfOk-weaker}
use Rattle.mh_opts.specs.RepeatedOption as twice
use Rattle.mh_opts.specs.declared.repeated_option.TheConstants.{AGAIN, ONCE}
use Rattle.mh_opts.proofs.RenamedWord.{kept_is, renamed_is}
use Rattle.mh_opts.proofs.repeated_option.again.Goals as goal

pub returns-in-Some : goal.returns-in-Some
returns-in-Some c =
    let at = c.in-Some.ensures.cases in
    let word = c.args.word.now in
    IfOk-weaker c.with_other_name.result (λ new. string_bytes new ≡ AGAIN.now ++ c.in-Some.value.now) (λ new. string_bytes new ≡ twice.again word)
    (λ _ same. same ∙ renamed_is ONCE.now AGAIN.now word c.in-Some.value.now at.0 at.1.0 at.1.1 at.2) c.with_other_name.ensures

pub returns-in-None : goal.returns-in-None
returns-in-None c =
    let word = c.args.word.now in
    IfOk-weaker c.copy_of.result (λ copy. string_bytes copy ≡ word) (λ new. string_bytes new ≡ twice.again word)
    (λ _ same. same ∙ kept_is ONCE.now AGAIN.now word c.in-None.ensures.cases) c.copy_of.ensures
