-- The definition of the command line as clap sees it: the options, and the grammar files (clap's documentation of
-- arguments). The code's table of options is read as rows whose names are texts.
use Rattle.std.specs.Prelude.{Some, List, [], ◌∷◌, codes, map, true}
use Rattle.clap.specs.Words.{App, Rule, Text, new_app, new_rule, with_rule}
use Rattle.clap.specs.Simple.{on_top}
use Rattle.clap.specs.declared.builder.action.ArgAction.TheVariants.{Append}
use Rattle.mh_opts.specs.declared.jobs.Opt.{Opt}
use Rattle.mh_opts.specs.declared.jobs.TheConstants.{GRAMMARS}
use Rattle.mh_opts.specs.Options.{options}

-- An option with its name as text.
abbrev pub plain : {N : Type 0} → Opt N → (N → Text) → Opt Text
plain option text = record { name = text option.name; action = option.action; mode = option.mode }

abbrev pub plain_rows : {N : Type 0} → List (Opt N) → (N → Text) → List (Opt Text)
plain_rows rows text = map (λ option. plain option text) rows

abbrev pub option_rule : Opt Text → Rule
option_rule option = record (new_rule option.name) { long = Some option.name; action = Some option.action }

-- The argument of all words that are not options: clap keeps them in order, under one name.
abbrev pub grammars_rule : Rule
grammars_rule = record (new_rule GRAMMARS.now) { action = Some Append }

-- The first word is an argument already, not the name of the program.
abbrev pub bare_app : App
bare_app = on_top (λ s. record s { no_binary_name = true }) (new_app (codes "menhir"))

abbrev pub with_options : List (Opt Text) → App → App
with_options [] app = app
with_options (option ∷ more) app = with_options more (with_rule app (option_rule option))

abbrev pub menhir_app : App
menhir_app = with_options options (with_rule bare_app grammars_rule)
