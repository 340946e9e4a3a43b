-- The definition of what the options among the words ask for, for a reader who knows nothing of clap. The options are
-- this project's own.
use Rattle.std.specs.Prelude.{◌≡◌, Bool, not, List, [], ◌∷◌, Option, None, codes, map, if◌then◌else◌}
use Rattle.clap.specs.Words.{Text}
use Rattle.mh_opts.specs.declared.jobs.Job.{Job}
use Rattle.mh_opts.specs.declared.jobs.Job.TheVariants as job
use Rattle.mh_opts.specs.declared.jobs.JobKind.{JobKind}
use Rattle.mh_opts.specs.declared.jobs.JobKind.TheVariants as mode
use Rattle.mh_opts.specs.declared.jobs.Opt.{Opt}
use Rattle.mh_opts.specs.declared.order.Order.{Order}
use Rattle.mh_opts.specs.Options.{options}
use Rattle.mh_opts.specs.Orders.{present}
use Rattle.mh_opts.specs.PosixReading.{is_used_in}

-- A job without its files and its number.
abbrev pub mode_of : Job → JobKind
mode_of job.Interpret = mode.Interpret
mode_of job.InterpretError = mode.InterpretError
mode_of job.Session = mode.Session
mode_of job.ShowAutomaton = mode.ShowAutomaton
mode_of job.WriteTables = mode.WriteTables
mode_of job.ListErrors = mode.ListErrors
mode_of (job.CompileErrors file) = mode.CompileErrors
mode_of (job.CompareErrors first second) = mode.CompareErrors
mode_of (job.EchoErrors file) = mode.EchoErrors
mode_of (job.UpdateErrors file) = mode.UpdateErrors
mode_of (job.RebaseErrors file) = mode.RebaseErrors
mode_of (job.CheckErrors file) = mode.CheckErrors
mode_of job.Check = mode.Check
mode_of (job.Sample number) = mode.Sample
mode_of job.ShortestSentences = mode.ShortestSentences
mode_of (job.RandomSentence seed length) = mode.RandomSentence
mode_of job.Explain = mode.Explain

-- The mode of an option that is among the words before `--`.
abbrev pub mode_among : List Text → Opt Text → Option JobKind
mode_among words option = if is_used_in option.name words then option.mode else None

-- The modes of all options among the words.
abbrev pub modes_among : List Text → List JobKind
modes_among words = present (map (mode_among words) options)

-- Exactly one option among the words selects a mode, and this mode is the mode of the order. The order has the setting
-- `stdlib` exactly if `--no-stdlib` is not among the words, and each other setting exactly if its option is among them.
pub record FollowsOptions (words : List Text) (order : Order) : Type 0 where
  pub job : modes_among words ≡ mode_of order.job ∷ []
  pub canonical : order.canonical ≡ is_used_in (codes "canonical") words
  pub strict : order.strict ≡ is_used_in (codes "strict") words
  pub stdlib : order.stdlib ≡ not (is_used_in (codes "no-stdlib") words)
  pub show_cst : order.show_cst ≡ is_used_in (codes "interpret-show-cst") words
  pub show_expected : order.show_expected ≡ is_used_in (codes "show-expected") words
  pub comment_expected : order.comment_expected ≡ is_used_in (codes "comment-expected") words
