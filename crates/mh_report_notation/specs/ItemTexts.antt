-- The texts of LR(1) items. The layout is this project's own.
use Rattle.std.specs.Prelude.{ℕ, List, [], ◌∷◌, ◌++◌, take, drop, codes}
use Rattle.mh_grammar.specs.declared.types.Grammar.{Grammar}
use Rattle.mh_grammar.specs.declared.types.Look.{Look}
use Rattle.mh_grammar.specs.Plain.{plain_of, rhs_of}
use Rattle.mh_resolve_cells.specs.Names.{look_name}
use Rattle.mh_items_kernels.specs.KernelTypes.{KernelItem}
use Rattle.mh_grammar.specs.Text.{Text}
use Rattle.mh_grammar_texts.specs.Productions.{spaced_symbols, left_side_text}

-- The names of lookahead symbols, each after one space.
abbrev pub looks_after : Grammar → List Look → Text
looks_after g [] = []
looks_after g (look ∷ looks) = 32 ∷ look_name g look ++ looks_after g looks

-- The text of an item: its production with a dot in the right side, and its lookahead set in brackets.
abbrev pub item_text : Grammar → KernelItem → Text
item_text g item =
    let symbols = rhs_of (plain_of g) item.production in
    left_side_text g item.production ++ codes " ->" ++ spaced_symbols g (take item.dot symbols) ++ codes " ." ++ spaced_symbols g (drop item.dot symbols) ++ codes " [" ++ looks_after g item.looks ++ codes " ]"

-- The line of an item, with the prefix `front`.
abbrev pub item_line : Text → Grammar → KernelItem → Text
item_line front g item = front ++ item_text g item ++ codes "\n"

abbrev pub item_lines : Text → Grammar → List KernelItem → Text
item_lines front g [] = []
item_lines front g (item ∷ items) = item_line front g item ++ item_lines front g items
