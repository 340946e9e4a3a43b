-- A `ClosureBuilder` of a grammar: its sets are those of the grammar, and it holds no looks.
use Rattle.std.specs.Prelude.{◌≡◌, ℕ, vec_len}
use Rattle.mh_grammar.specs.Plain.{PlainGrammar}
use Rattle.mh_items.specs.declared.closure_builder.ClosureBuilder.{ClosureBuilder}
use Rattle.mh_items.specs.Firsts.{AreFirsts}
use Rattle.mh_items.specs.code.PendingLooks.{HasNoLooks}
use Rattle.mh_items_kernels.specs.code.EmptyMarks.{AreMarksClosed}

pub record IsClosureBuilder {W : ℕ} (g : PlainGrammar) (c : ClosureBuilder W) : Type 0 where
  pub firsts : AreFirsts g c.firsts
  pub nothing : HasNoLooks g.nonterminals c.asked
  pub marks : vec_len c.empties ≡ g.nonterminals
  pub empties : AreMarksClosed g.productions c.empties.items
