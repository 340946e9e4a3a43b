-- What the code needs to resolve one state.
use Rattle.std.specs.Prelude.{ℕ, List, length}
use Rattle.mh_grammar.specs.declared.edges.Edge.{Edge}
use Rattle.mh_grammar.specs.declared.types.Grammar.{Grammar}
use Rattle.mh_grammar.specs.Edges.{IsRising, IsEdgeBefore}
use Rattle.mh_grammar.specs.Plain.{plain_of}
use Rattle.mh_items.specs.declared.closure_builder.ClosureBuilder.{ClosureBuilder}
use Rattle.mh_items.specs.code.ClosureBuilder.{IsClosureBuilder}
use Rattle.mh_items_kernels.specs.KernelTypes.{Kernel}
use Rattle.mh_items_kernels.specs.Kernels.{IsItemList}
use Rattle.mh_resolve_cells.specs.code.StateResults.{AreEdgesKnown}

-- The closure builder b and the kernel k are those of the grammar; the edges rise, and each token that labels an edge
-- is a token of the grammar.
pub record IsStateInput {W : ℕ} (g : Grammar) (b : ClosureBuilder W) (k : Kernel) (es : List Edge) : Type 0 where
  pub closer : IsClosureBuilder (plain_of g) b
  pub kernel : IsItemList (plain_of g) k
  pub rising : IsRising IsEdgeBefore es
  pub known : AreEdgesKnown (length g.tokens) es
