-- The job that asks for each text that is made from one messages file.
use Rattle.mh_grammar.specs.Text.{Text}
use Rattle.mh_opts.specs.declared.jobs.Job.{Job}
use Rattle.mh_opts.specs.declared.jobs.Job.TheVariants.{CompileErrors, EchoErrors, UpdateErrors}
use Rattle.mh_top_modes.specs.declared.file_texts.FileText.{FileText}
use Rattle.mh_top_modes.specs.declared.file_texts.FileText.TheVariants.{Compiled, Echoed, Updated}

-- The job that asks for this text of the named file.
abbrev pub job_for : FileText → Text → Job
job_for Compiled file = CompileErrors file
job_for Echoed file = EchoErrors file
job_for Updated file = UpdateErrors file
