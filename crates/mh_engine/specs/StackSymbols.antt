-- The definition of the symbols on the stack of a run.
use Rattle.std.specs.Prelude.{List, map}
use Rattle.mh_grammar.specs.declared.types.Symbol.{Symbol}
use Rattle.mh_grammar.specs.declared.types.Symbol.TheVariants.{T, N}
use Rattle.mh_grammar.specs.Plain.{PlainGrammar, lhs_of}
use Rattle.mh_grammar.specs.Trees.{SyntaxTree, Leaf, Node}
use Rattle.mh_engine.specs.Positions.{Position}

-- The symbol of a tree: its token, or the left side of its production.
abbrev pub symbol_of_tree : PlainGrammar → SyntaxTree → Symbol
symbol_of_tree g (Leaf z) = T z
symbol_of_tree g (Node p children) = N (lhs_of g p)

-- The symbols on the stack, the lowest first: those of its trees.
abbrev pub stack_symbols : Position → List Symbol
stack_symbols c = map (symbol_of_tree c.table.grammar) c.pairs.trees
