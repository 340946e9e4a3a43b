-- Lemmas for the contract of the loop that reads the blocks of a file two by two, and on the lengths of sentence lines.
use Rattle.std.proofs.Common.{◌≡◌, ◌<◌, ◌-◌, ◌^◌, ℕ, List, [], ◌∷◌, ◌++◌, length, map, sym, subst, arith}
use Rattle.std.specs.List.{AllByRecursion}
use Rattle.mh_grammar.specs.Text.{Text}
use Rattle.mh_msgfile.specs.Lines.{AreLines, line_at}
use Rattle.mh_msgfile.specs.LooseFiles.{loose_line, loose_entries, unpaired_block}
use Rattle.mh_msgfile.specs.declared.loose.LooseLine.{LooseLine}
use Rattle.mh_msgfile.specs.declared.loose.LooseEntry.{LooseEntry}
use Rattle.mh_msgfile.proofs.AreSentencesOf.{are_short}

module _ (lines : List Text) where
  -- The entries of the blocks before `rest` were appended.
  pub record AppendedBefore (bs rest : List (List ℕ)) (entries : List LooseEntry) : Type 0 where
    pub unpaired : unpaired_block rest ≡ unpaired_block bs
    pub so_far : entries ++ loose_entries lines rest ≡ loose_entries lines bs

  -- ---- No line is longer than the file.

  abbrev IsShort : LooseLine → Type 0
  IsShort x = length x.text < 2 ^ 32

  abbrev AreShort : List LooseEntry → Type 0
  AreShort es = AllByRecursion (λ (e : LooseEntry). AllByRecursion IsShort e.sentences) es

  module _ (bytes : Text) (are : AreLines bytes lines) (short : length bytes < 2 ^ 31) where
    block_short : (block : List ℕ) → AllByRecursion IsShort (map (loose_line lines) block)
    block_short [] = tt
    block_short (number ∷ block) = (omega (arith, are_short bytes lines are (number - 1)), block_short block)

    entries_short : (bs : List (List ℕ)) → AreShort (loose_entries lines bs)
    entries_short [] = tt
    entries_short (block ∷ []) = tt
    entries_short (block ∷ message ∷ rest) = (block_short block, entries_short rest)

    pub short_entries : (bs : List (List ℕ)) (entries : List LooseEntry) → entries ≡ loose_entries lines bs → AreShort entries
    short_entries bs entries is = subst AreShort (sym is) (entries_short bs)
