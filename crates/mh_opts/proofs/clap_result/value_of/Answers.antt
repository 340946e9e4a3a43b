use Rattle.std.proofs.Common.{Some, ap, ◌∙◌}
use Rattle.clap.specs.Words.{found_of}
use Rattle.clap.proofs.WalkLemmas.{first_value-rows}
use Rattle.mh_opts.proofs.clap_result.value_of.Goals as goal

pub returns-in_ok-from_bytes-in-Some : goal.returns-in_ok-from_bytes-in-Some
returns-in_ok-from_bytes-in-Some c =
    ap Some (c.in_ok-from_bytes-in-Some.ensures ∙ c.as_bytes.ensures.value) ∙ c.in-Some.ensures ∙ first_value-rows (found_of c.args.matches.now) c.args.name.now

pub returns-in-None : goal.returns-in-None
returns-in-None c = c.in-None.ensures ∙ first_value-rows (found_of c.args.matches.now) c.args.name.now
