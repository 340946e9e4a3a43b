-- The files that the mode of a job reads after the warnings, and which of them is read next.
use Rattle.std.specs.Prelude.{[], ◌∷◌, List, Option, None, Some}
use Rattle.mh_opts.specs.declared.jobs.Job.{Job}
use Rattle.mh_opts.specs.declared.jobs.Job.TheVariants.{Interpret, CompareErrors, CompileErrors, EchoErrors, UpdateErrors, RebaseErrors, CheckErrors}
use Rattle.mh_opts.specs.declared.order.Order.{Order}
use Rattle.mh_outside.specs.Shelf.{Files}
use Rattle.mh_grammar.specs.Text.{Text}
use Rattle.mh_top_drive.specs.Shapes.{Prepared}
use Rattle.mh_top_drive.specs.NextFile.{IsNextFile}
use Rattle.mh_top_plans.specs.MessagesFiles.{AreMessages}

-- An optional file name as a list.
abbrev pub optional_file : Option Text → List Text
optional_file None = []
optional_file (Some name) = name ∷ []

-- The files of a job, in the order in which they are read.
abbrev pub files_of_job : Job → Order → List Text
files_of_job Interpret order = optional_file order.messages
files_of_job (CompileErrors file) order = file ∷ []
files_of_job (UpdateErrors file) order = file ∷ []
files_of_job (RebaseErrors file) order = file ∷ []
files_of_job (CheckErrors file) order = file ∷ []
files_of_job (EchoErrors file) order = file ∷ []
files_of_job (CompareErrors first second) order = first ∷ second ∷ []
files_of_job job order = []

-- The files of the job of an order.
abbrev pub files_of_mode : Order → List Text
files_of_mode order = files_of_job order.job order

-- This is the next file of the job to be read: the files before it were read and give messages for states of the table.
abbrev pub IsNextFileOfJob : Job → Option Files → Prepared → Text → Type 0
IsNextFileOfJob job files p name = IsNextFile files (AreMessages p.grammar p.tabled.halting) (files_of_job job p.order) name
