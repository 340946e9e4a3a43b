-- Rows of items: one row for each token, then one row for each nonterminal.
use Rattle.std.specs.Prelude.{◌≡◌, ◌<◌, ◌+◌, ◌-◌, ◌↔◌, ◌⊎◌, ◌++◌, ℕ, List, [], ◌∷◌, nat_lt, if◌then◌else◌, length, vec_len, slice_index_or}
use Rattle.std.specs.List.{Contains}
use Rattle.std.specs.List.Sorted.{IsStrictlyIncreasing}
use Rattle.mh_grammar.specs.declared.types.Symbol.{Symbol}
use Rattle.mh_grammar.specs.declared.types.Symbol.TheVariants.{T, N}
use Rattle.mh_grammar.specs.Plain.{PlainGrammar, IsSymbolBelow}
use Rattle.mh_items_kernels.specs.KernelTypes.{KernelItem}
use Rattle.mh_items.specs.declared.rows.SymbolRows.{SymbolRows}
use Rattle.mh_items_kernels.specs.code.KernelMoves.{IsMove}
use Rattle.mh_items.specs.code.AllMoves.{Move}

-- The index of the row of a symbol, and the symbol of the row at an index.
abbrev pub row_index : ℕ → Symbol → ℕ
row_index tokens (T a) = a
row_index tokens (N n) = tokens + n

abbrev pub symbol_of_row : ℕ → ℕ → Symbol
symbol_of_row tokens n = if nat_lt n tokens then T n else N (n - tokens)

abbrev pub row_at : {W : ℕ} → SymbolRows W → ℕ → List KernelItem
row_at r n = slice_index_or r.rows.items n []

-- The list `filled` holds exactly the indices of the rows with items.
pub record AreFilled {W : ℕ} (r : SymbolRows W) : Type 0 where
  pub listed : (n : ℕ) → Contains r.filled.items n ↔ ((n < vec_len r.rows) × (0 < length (row_at r n)))

-- Either the row had items and the list `filled` is unchanged, or the row was empty and its index is appended to
-- `filled`.
abbrev pub IsListedAsFilled : {W : ℕ} → ℕ → SymbolRows W → SymbolRows W → Type 0
IsListedAsFilled n old new = ((0 < length (row_at old n)) × (new.filled.items ≡ old.filled.items)) ⊎ ((row_at old n ≡ []) × (new.filled.items ≡ old.filled.items ++ n ∷ []))

-- There is a row for each symbol, and all rows are empty.
pub record AreRowsEmpty {W : ℕ} (g : PlainGrammar) (r : SymbolRows W) : Type 0 where
  pub size : vec_len r.rows ≡ g.tokens + g.nonterminals
  pub none : (n : ℕ) → row_at r n ≡ []
  pub unlisted : r.filled.items ≡ []

-- The row of each symbol holds the move of the items on this symbol.
pub record AreRowsOfMoves {W : ℕ} (g : PlainGrammar) (items : List KernelItem) (r : SymbolRows W) : Type 0 where
  pub size : vec_len r.rows ≡ g.tokens + g.nonterminals
  pub filled : AreFilled r
  pub rows : (X : Symbol) → IsSymbolBelow g.tokens g.nonterminals X → IsMove g (record { items = items }) X (record { items = row_at r (row_index g.tokens X) })

-- The indices in `filled` are those of the rows with items, strictly increasing.
pub record AreRowsSorted {W : ℕ} (g : PlainGrammar) (r : SymbolRows W) : Type 0 where
  pub size : vec_len r.rows ≡ g.tokens + g.nonterminals
  pub filled : AreFilled r
  pub rising : IsStrictlyIncreasing r.filled.items

-- The move that the row at an index holds.
abbrev pub move_from : {W : ℕ} → ℕ → SymbolRows W → ℕ → Move
move_from tokens r n = record { symbol = symbol_of_row tokens n; kernel = record { items = row_at r n } }
