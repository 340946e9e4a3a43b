-- The options of the command line, and which of them has no meaning without another. They are this project's own.
use Rattle.std.specs.Prelude.{List, [], ◌∷◌, Option, None, Some, codes}
use Rattle.clap.specs.Words.{Text}
use Rattle.clap.specs.declared.builder.action.ArgAction.TheVariants.{Set, SetTrue}
use Rattle.mh_opts.specs.declared.jobs.JobKind.{JobKind}
use Rattle.mh_opts.specs.declared.jobs.JobKind.TheVariants as mode
use Rattle.mh_opts.specs.declared.jobs.Need.{Need}
use Rattle.mh_opts.specs.declared.jobs.Opt.{Opt}

-- An option without a value, by its name without the two hyphens.
abbrev pub flag : Text → Option JobKind → Opt Text
flag name selected = record { name = name; action = SetTrue; mode = selected }

-- An option with a value: the text after `=`, or else the next word.
abbrev pub valued : Text → Option JobKind → Opt Text
valued name selected = record { name = name; action = Set; mode = selected }

-- Each option, with the mode that it selects, if it selects one. The words give `--compare-errors` twice; its second
-- use has a name of its own here.
unfoldable pub options : List (Opt Text)
options =
    flag (codes "interpret") (Some mode.Interpret)
    ∷ flag (codes "interpret-error") (Some mode.InterpretError)
    ∷ flag (codes "session") (Some mode.Session)
    ∷ flag (codes "show-automaton") (Some mode.ShowAutomaton)
    ∷ flag (codes "write-tables") (Some mode.WriteTables)
    ∷ flag (codes "list-errors") (Some mode.ListErrors)
    ∷ valued (codes "compile-errors") (Some mode.CompileErrors)
    ∷ valued (codes "compare-errors") (Some mode.CompareErrors)
    ∷ valued (codes "compare-errors-2") None
    ∷ valued (codes "echo-errors") (Some mode.EchoErrors)
    ∷ valued (codes "update-errors") (Some mode.UpdateErrors)
    ∷ valued (codes "rebase-errors") (Some mode.RebaseErrors)
    ∷ valued (codes "check-errors") (Some mode.CheckErrors)
    ∷ flag (codes "check") (Some mode.Check)
    ∷ valued (codes "sample") (Some mode.Sample)
    ∷ flag (codes "shortest-sentences") (Some mode.ShortestSentences)
    ∷ valued (codes "random-sentence") (Some mode.RandomSentence)
    ∷ valued (codes "length") None
    ∷ flag (codes "explain") (Some mode.Explain)
    ∷ valued (codes "messages") None
    ∷ valued (codes "tables") None
    ∷ flag (codes "interpret-show-cst") None
    ∷ flag (codes "show-expected") None
    ∷ flag (codes "comment-expected") None
    ∷ flag (codes "canonical") None
    ∷ flag (codes "strict") None
    ∷ flag (codes "no-stdlib") None
    ∷ []

-- The first option has no meaning without the second.
abbrev pub need : Text → Text → Need Text
need option other = record { option = option; needs = other }

-- The needs that are tested first, in order.
unfoldable pub needs : List (Need Text)
needs =
    need (codes "interpret-show-cst") (codes "interpret")
    ∷ need (codes "messages") (codes "interpret")
    ∷ need (codes "compare-errors") (codes "compare-errors-2")
    ∷ []

-- The needs that are tested after the options that clash with another word.
unfoldable pub late_needs : List (Need Text)
late_needs =
    need (codes "random-sentence") (codes "length")
    ∷ need (codes "length") (codes "random-sentence")
    ∷ []
