-- An order is a parsed command line: the job of the tool, with its settings. The definition says which order the words
-- of the command line give, or which usage fault they have. The rules are this project's own; clap's definition says
-- which words a command accepts and how they match.
use Rattle.std.specs.Prelude.{◌≡◌, ◌≤◌, ℕ, ◌++◌, is_none, Bool, true, false, not, ◌&&◌, ◌||◌, List, [], ◌∷◌, Option, Some, None, Result, Ok, Err, codes, map, unwrap_or, if◌then◌else◌}
use Rattle.clap.specs.Words.{Row, Text, all_of, first_of, fault_of, matches_of}
use Rattle.clap.specs.Walk.{is_empty}
use Rattle.clap.specs.Takes.{is_given}
use Rattle.mh_opts.specs.declared.jobs.JobKind.{JobKind}
use Rattle.mh_opts.specs.declared.jobs.JobKind.TheVariants as mode
use Rattle.mh_opts.specs.declared.jobs.Need.{Need}
use Rattle.mh_opts.specs.declared.jobs.Opt.{Opt}
use Rattle.mh_opts.specs.declared.jobs.TheConstants.{GRAMMARS}
use Rattle.mh_opts.specs.declared.jobs.Job.{Job}
use Rattle.mh_opts.specs.declared.jobs.Job.TheVariants as job
use Rattle.mh_opts.specs.declared.order.Order.{Order}
use Rattle.mh_opts.specs.declared.order.UsageFault.{UsageFault}
use Rattle.mh_opts.specs.declared.order.UsageFault.TheVariants.{Parse, Number, NoMode, TwoModes, Misplaced, NoGrammar, Memory}
use Rattle.mh_opts.specs.App.{menhir_app}
use Rattle.mh_opts.specs.Options.{late_needs, needs, options}
use Rattle.mh_opts.specs.Numbers.{length_in, max_length, number_in}
use Rattle.mh_opts.specs.RepeatedOption.{is_reserved, renamed}

-- The mode of an option, if the option is among the words.
abbrev pub mode_at : List Row → Opt Text → Option JobKind
mode_at rows option = if is_given option.name rows then option.mode else None

-- The values that are present.
abbrev pub present : {X : Type 0} → List (Option X) → List X
present [] = []
present (None ∷ xs) = present xs
present (Some x ∷ xs) = x ∷ present xs

-- The single mode, or the fault that there is none or more than one.
abbrev pub only : List JobKind → Result JobKind UsageFault
only [] = Err NoMode
only (mode ∷ []) = Ok mode
only (mode ∷ other ∷ modes) = Err TwoModes

-- The single mode among these options.
abbrev pub mode_in : List Row → List (Opt Text) → Result JobKind UsageFault
mode_in rows options = only (present (map (mode_at rows) options))

-- The file after an option, or the empty text.
abbrev pub file_of : List Row → Text → Text
file_of rows option = unwrap_or (first_of option rows) []

-- The number after `--sample`, if there is one.
abbrev pub number_of : List Row → Option ℕ
number_of rows = number_in 4 (file_of rows (codes "sample"))

-- The seed of the random sentence.
abbrev pub seed_of : List Row → Option ℕ
seed_of rows = number_in 19 (file_of rows (codes "random-sentence"))

-- The most tokens of the random sentence.
abbrev pub length_of : List Row → Option ℕ
length_of rows = length_in (file_of rows (codes "length"))

-- An option that takes a number is given, but its value is not a number that this option allows.
abbrev pub lacks_number : List Row → Bool
lacks_number rows =
    (is_given (codes "sample") rows && is_none (number_of rows)) || ((is_given (codes "random-sentence") rows && is_none (seed_of rows)) || (is_given (codes "length") rows && is_none (length_of rows)))

-- The job of a mode, with its files or its number.
abbrev pub job_for : List Row → JobKind → Job
job_for rows mode.Interpret = job.Interpret
job_for rows mode.Session = job.Session
job_for rows mode.ShowAutomaton = job.ShowAutomaton
job_for rows mode.WriteTables = job.WriteTables
job_for rows mode.ListErrors = job.ListErrors
job_for rows mode.InterpretError = job.InterpretError
job_for rows mode.CompileErrors = job.CompileErrors (file_of rows (codes "compile-errors"))
job_for rows mode.Sample = job.Sample (unwrap_or (number_of rows) 0)
job_for rows mode.ShortestSentences = job.ShortestSentences
job_for rows mode.RandomSentence = job.RandomSentence (unwrap_or (seed_of rows) 0) (unwrap_or (length_of rows) 0)
job_for rows mode.Explain = job.Explain
job_for rows mode.UpdateErrors = job.UpdateErrors (file_of rows (codes "update-errors"))
job_for rows mode.RebaseErrors = job.RebaseErrors (file_of rows (codes "rebase-errors"))
job_for rows mode.Check = job.Check
job_for rows mode.CheckErrors = job.CheckErrors (file_of rows (codes "check-errors"))
job_for rows mode.EchoErrors = job.EchoErrors (file_of rows (codes "echo-errors"))
job_for rows mode.CompareErrors = job.CompareErrors (file_of rows (codes "compare-errors")) (file_of rows (codes "compare-errors-2"))

-- The name of an option, with two hyphens before it.
abbrev pub with_hyphens : Text → Text
with_hyphens option = codes "--" ++ option

-- A need with its names as texts.
abbrev pub plain_need : {N : Type 0} → Need N → (N → Text) → Need Text
plain_need need text = record { option = text need.option; needs = text need.needs }

abbrev pub plain_needs : {N : Type 0} → List (Need N) → (N → Text) → List (Need Text)
plain_needs rows text = map (λ need. plain_need need text) rows

-- The option is given without the option that it needs.
abbrev pub lacks : List Row → Need Text → Bool
lacks rows need = is_given need.option rows && not (is_given need.needs rows)

-- The first option that is given without the option that it needs.
abbrev pub misplaced_in : List Row → List (Need Text) → Option Text
misplaced_in rows [] = None
misplaced_in rows (need ∷ more) = if lacks rows need then Some need.option else misplaced_in rows more

-- The grammar files, in the order of their words.
abbrev pub grammars_of : List Row → List Text
grammars_of rows = unwrap_or (all_of GRAMMARS.now rows) []

-- The order with the job of this mode and the values of all other options.
abbrev pub order_for : List Row → JobKind → Order
order_for rows mode = record {
  job = job_for rows mode;
  grammars = grammars_of rows;
  canonical = is_given (codes "canonical") rows;
  strict = is_given (codes "strict") rows;
  stdlib = not (is_given (codes "no-stdlib") rows);
  show_cst = is_given (codes "interpret-show-cst") rows;
  show_expected = is_given (codes "show-expected") rows;
  comment_expected = is_given (codes "comment-expected") rows;
  messages = first_of (codes "messages") rows;
  tables = first_of (codes "tables") rows;
}

abbrev pub is_sample : JobKind → Bool
is_sample mode.Sample = true
is_sample mode = false

-- A table file is given where it has no meaning: with a canonical table, because this table is built, or with a sample.
abbrev pub clashes : List Row → JobKind → Bool
clashes rows mode = is_given (codes "tables") rows && (is_given (codes "canonical") rows || is_sample mode)

-- The option `--show-expected` is given where it has no meaning: without `--interpret`, or with `--messages`.
abbrev pub misplaces_show_expected : List Row → Bool
misplaces_show_expected rows = is_given (codes "show-expected") rows && (not (is_given (codes "interpret") rows) || is_given (codes "messages") rows)

-- The mode writes comment lines of failing sentences.
abbrev pub writes_comments : JobKind → Bool
writes_comments mode.ListErrors = true
writes_comments mode.UpdateErrors = true
writes_comments mode.RebaseErrors = true
writes_comments mode.InterpretError = true
writes_comments mode = false

-- The option `--comment-expected` is given in a mode that writes no comment lines, where it has no meaning.
abbrev pub misplaces_comment_expected : List Row → JobKind → Bool
misplaces_comment_expected rows mode = is_given (codes "comment-expected") rows && not (writes_comments mode)

-- The order of the mode, or the fault of the last checks. The option, if there is one, is the first that is given
-- without the option that it needs (`late_needs`). The other checks: comment lines, and a grammar file for every mode
-- but a sample.
abbrev pub order_late : List Row → JobKind → Option Text → Result Order UsageFault
order_late rows mode (Some option) = Err (Misplaced (with_hyphens option))
order_late rows mode None =
    if misplaces_comment_expected rows mode then Err (Misplaced (with_hyphens (codes "comment-expected"))) else (if not (is_sample mode) && is_empty (grammars_of rows) then Err NoGrammar else Ok (order_for rows mode))

-- The order of the mode, or the first fault. The option, if there is one, is the first that is given without the option
-- that it needs (`needs`); it is misplaced. So is a grammar file with a sample, because a sample has its own grammar.
abbrev pub order_unless_misplaced : List Row → JobKind → Option Text → Result Order UsageFault
order_unless_misplaced rows mode (Some option) = Err (Misplaced (with_hyphens option))
order_unless_misplaced rows mode None =
    if clashes rows mode then Err (Misplaced (with_hyphens (codes "tables"))) else (if is_sample mode && not (is_empty (grammars_of rows)) then Err (Misplaced (with_hyphens (codes "sample"))) else (if misplaces_show_expected rows then Err (Misplaced (with_hyphens (codes "show-expected"))) else order_late rows mode (misplaced_in rows late_needs)))

-- The order of the mode, if exactly one mode is selected and no option is misplaced; otherwise the fault.
abbrev pub order_if_one_mode : List Row → Result JobKind UsageFault → Result Order UsageFault
order_if_one_mode rows (Err fault) = Err fault
order_if_one_mode rows (Ok mode) = order_unless_misplaced rows mode (misplaced_in rows needs)

-- The order that the matches spell, or the first fault: no number, no mode, two modes, a misplaced option, or no
-- grammar.
abbrev pub order_in : List Row → Result Order UsageFault
order_in rows = if lacks_number rows then Err Number else order_if_one_mode rows (mode_in rows options)

-- The order that the words give. If `--compare-errors` occurs twice, its second use already has its other name
-- (`renamed`). If clap does not accept the words, they have the fault `Parse`.
abbrev pub order_renamed : List Text → Result Order UsageFault
order_renamed words = if is_empty (fault_of menhir_app words) then order_in (matches_of menhir_app words) else Err Parse

-- The order that the words spell, or the first usage fault.
abbrev pub order_of : List Text → Result Order UsageFault
order_of words = if is_reserved words then Err Parse else order_renamed (renamed words)

-- The result is the wanted one, unless memory ran out.
abbrev pub EqualsUnlessMemory : {X : Type 0} → Result X UsageFault → Result X UsageFault → Type 0
EqualsUnlessMemory wanted (Err Memory) = Unit {0}
EqualsUnlessMemory wanted (Err Parse) = wanted ≡ Err Parse
EqualsUnlessMemory wanted (Err Number) = wanted ≡ Err Number
EqualsUnlessMemory wanted (Err NoMode) = wanted ≡ Err NoMode
EqualsUnlessMemory wanted (Err TwoModes) = wanted ≡ Err TwoModes
EqualsUnlessMemory wanted (Err (Misplaced option)) = wanted ≡ Err (Misplaced option)
EqualsUnlessMemory wanted (Err NoGrammar) = wanted ≡ Err NoGrammar
EqualsUnlessMemory wanted (Ok x) = wanted ≡ Ok x

-- The job is within its limits: a random sentence has at most `max_length` tokens.
abbrev pub IsWithinLimits : Job → Type 0
IsWithinLimits (job.RandomSentence seed length) = length ≤ max_length
IsWithinLimits _ = Unit {0}
