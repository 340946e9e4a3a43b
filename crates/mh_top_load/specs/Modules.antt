-- The modules of an order: those of its grammar files, or the module of its sample, whose text is read like that of a
-- file.
use Rattle.std.specs.Prelude.{ℕ, List, [], ◌∷◌, Option, None, Some, codes}
use Rattle.mh_rules.specs.declared.modules.Module.{Module}
use Rattle.mh_outside.specs.Shelf.{Files}
use Rattle.mh_opts.specs.declared.jobs.Job.{Job}
use Rattle.mh_opts.specs.declared.jobs.Job.TheVariants.{Sample}
use Rattle.mh_opts.specs.declared.order.Order.{Order}
use Rattle.mh_sample.specs.Texts.{grammar_text}
use Rattle.mh_grammar.specs.Text.{Text}
use Rattle.mh_top_drive.specs.StageResults.{StageResult, Gives, Then}
use Rattle.mh_top_drive.specs.FileContents.{AreFileContents}
use Rattle.mh_top_load.specs.GrammarFile.{IsModule}

-- The number of the sample that a job asks for, if it asks for one.
abbrev pub sample_of : Job → Option ℕ
sample_of (Sample number) = Some number
sample_of job = None

-- The name of a sample in refusals.
abbrev pub sample_file : Text
sample_file = codes "sample"

-- The stage that gives the module of a sample, as a list of one.
abbrev pub IsSampleModule : ℕ → StageResult (List Module) → Type 0
IsSampleModule number s = Then (IsModule sample_file (grammar_text number)) (λ m. Gives (m ∷ [])) s

-- The stage that gives the module of the sample if there is one, and the modules of the named files otherwise.
abbrev pub AreModulesBy : Option ℕ → Option Files → List Text → StageResult (List Module) → Type 0
AreModulesBy None files names s = AreFileContents files IsModule names s
AreModulesBy (Some number) files names s = IsSampleModule number s

-- The names of the files that are read: none for a sample.
abbrev pub names_to_read : Option ℕ → List Text → List Text
names_to_read None names = names
names_to_read (Some number) names = []

-- The stage that gives the modules of an order.
abbrev pub AreModules : Option Files → Order → StageResult (List Module) → Type 0
AreModules files order s = AreModulesBy (sample_of order.job) files order.grammars s

-- The names of the grammar files of an order, in the order in which they are read.
abbrev pub grammar_files : Order → List Text
grammar_files order = names_to_read (sample_of order.job) order.grammars
