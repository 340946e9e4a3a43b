use Rattle.std.proofs.Common.{Some, ap, sym, ◌∙◌}
use Rattle.clap.specs.Words.{found_of}
use Rattle.mh_opts.proofs.Given.{given_else, given_from}
use Rattle.mh_opts.proofs.clap_result.is_given.Goals as goal

pub returns-in-Some-CommandLine : goal.returns-in-Some-CommandLine
returns-in-Some-CommandLine c =
    let at = c.in-Some-CommandLine in
    given_from (found_of c.args.matches.now) c.args.name.now _ (sym c.value_source.ensures ∙ at.is ∙ ap Some at.field-0-is)

pub returns-in-Some-DefaultValue : goal.returns-in-Some-DefaultValue
returns-in-Some-DefaultValue c =
    let at = c.in-Some-DefaultValue in
    given_from (found_of c.args.matches.now) c.args.name.now _ (sym c.value_source.ensures ∙ at.is ∙ ap Some at.field-0-is)

pub returns-in-None : goal.returns-in-None
returns-in-None c =
    c.contains_id.ensures ∙ given_else (found_of c.args.matches.now) c.args.name.now (sym c.value_source.ensures ∙ c.in-None.is)
