-- The definition of the names whose branches a command may change. The definition is this project's own.
use Rattle.std.specs.Prelude.{◌≡◌}
use Rattle.mh_grammar.specs.Text.{Text}
use Rattle.mh_session_branches.specs.declared.command.Command.{Command}
use Rattle.mh_session_branches.specs.declared.command.Command.TheVariants as commands

-- The command may change the branch of this name, or give it a branch. A fork may change only the fresh name.
abbrev pub MayChange : Command → Text → Type 0
MayChange (commands.Begin name start) q = q ≡ name
MayChange (commands.Offer name token) q = q ≡ name
MayChange (commands.Feed name tokens) q = q ≡ name
MayChange (commands.Resume name) q = q ≡ name
MayChange (commands.Fork name fresh) q = q ≡ fresh
MayChange (commands.Show name) q = ⊥
MayChange (commands.Stack name) q = ⊥
MayChange (commands.Tree name) q = ⊥
MayChange (commands.Expected name) q = ⊥
MayChange (commands.Forget name) q = q ≡ name
