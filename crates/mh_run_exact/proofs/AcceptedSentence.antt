-- Proves that the tokens read by an accepting run are a sentence.
use Rattle.std.proofs.Common.{ℕ, List, length, ◌<◌}
use Rattle.mh_grammar.specs.Plain.{start_symbol}
use Rattle.mh_tables_core.specs.Table.{TableData}
use Rattle.mh_tables_core.specs.Facts.{Facts}
use Rattle.mh_tables_core.specs.Run.{VerdictOf, Accepted}
use Rattle.mh_tables_core.proofs.IsTreeOfRead.{accepted_tree}
use Rattle.mh_run_exact.specs.Exactness.{IsPrefixSentence}
use Rattle.mh_run_exact.proofs.TreesDerive.{tree_derives}

pub accepted_sentence : (t : TableData) (f : Facts t) (start : ℕ) (w : List ℕ) (read : ℕ) → start < length t.grammar.starts → VerdictOf t start w (Accepted read) → IsPrefixSentence t.grammar start w read
accepted_sentence t f start w read lt v =
    let a = accepted_tree t f start w read lt v in
    record { within = a.1.within; sentence = rw (← a.1.spells) (tree_derives t.grammar a.0 (start_symbol t.grammar start) a.1.is) }
