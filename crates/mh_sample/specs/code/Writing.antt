-- The invariants of a sentence that the code is writing.
use Rattle.std.specs.Prelude.{◌≡◌, ◌≤◌, ◌+◌, ◌-◌, ◌*◌, ◌^◌, ℕ, List, [], ◌∷◌, length, reverse, slice_index_or}
use Rattle.std.specs.List.{All}
use Rattle.mh_grammar.specs.declared.types.Symbol.{Symbol}
use Rattle.mh_grammar.specs.Plain.{plain_of, IsInRange, IsSymbolBelow}
use Rattle.mh_sample.specs.WordLimit.{max_word}
use Rattle.mh_sample.specs.declared.writing.Guide.{Guide}
use Rattle.mh_sample.specs.declared.writing.Writing.{Writing}
use Rattle.mh_sample.specs.DrawLimit.{max_draws}
use Rattle.mh_sample.specs.Random.{generator_after, Writes}
use Rattle.mh_sample.specs.code.Rows.{length_in, lengths_in, AreLeastLengths, IsRow}

-- The invariant of a guide: the shortest words, lengths and rows are those of the grammar, and the limit is at most
-- `max_word`.
pub record IsGuide (guide : Guide) : Type 0 where
  pub range : IsInRange (plain_of guide.grammar.now)
  pub few : guide.limit ≤ max_word
  pub known : AreLeastLengths (plain_of guide.grammar.now) guide.shortest.now guide.lengths.now
  pub all : length guide.rows.now ≡ length guide.grammar.now.nonterminals
  pub rows : (x : ℕ) → IsRow (plain_of guide.grammar.now) guide.lengths.now (length guide.grammar.now.productions) x (slice_index_or guide.rows.now x [])

-- The invariant of the writing: the tokens written and the least length of the pending symbols are within the limit.
pub record IsWriting (guide : Guide) (w : Writing) : Type 0 where
  pub generator : w.generator ≡ generator_after guide.seed w.draws
  pub draws : w.draws ≤ max_draws
  pub below : All (IsSymbolBelow (length guide.grammar.now.tokens) (length guide.grammar.now.nonterminals)) w.pending.items
  pub needed : w.needed ≡ lengths_in guide.lengths.now w.pending.items
  pub within : length w.written.items + w.needed ≤ guide.limit

-- A symbol was popped, and the limit leaves room for the symbol.
pub record IsPopped (guide : Guide) (x : Symbol) (w : Writing) : Type 0 where
  pub rest : IsWriting guide w
  pub symbol : IsSymbolBelow (length guide.grammar.now.tokens) (length guide.grammar.now.nonterminals) x
  pub fits_limit : length w.written.items + length_in guide.lengths.now x + w.needed ≤ guide.limit

-- By the definition, s is a sentence that continues the writing. The code keeps the pending symbols in reverse.
abbrev pub Ends : Guide → Writing → List ℕ → Type 0
Ends guide w s = Writes (plain_of guide.grammar.now) guide.seed guide.limit w.draws w.written.items (reverse w.pending.items) s

-- Each sentence that continues the new writing also continues the old writing with the popped symbol pending.
abbrev pub Treats : Guide → Symbol → Writing → Writing → Type 0
Treats guide x old new = (s : List ℕ) → Ends guide new s → Writes (plain_of guide.grammar.now) guide.seed guide.limit old.draws old.written.items (x ∷ reverse old.pending.items) s

-- An upper bound of the number of symbols still to be handled. Each draw adds fewer than 2 ^ 32 symbols.
abbrev pub rounds_left : Writing → ℕ
rounds_left w = (max_draws - w.draws) * 2 ^ 32 + length w.pending.items
