-- Proves the laws on exact verdicts for a grammar g, where the table has the grammar `plain_of g`.
use Rattle.std.proofs.Common.{◌≡◌, ◌↔◌, ℕ, ◌+◌, ◌<◌, List, length, take, sym, subst}
use Rattle.mh_grammar.specs.declared.types.Grammar.{Grammar}
use Rattle.mh_grammar.specs.Plain.{PlainGrammar, plain_of, IsSentence, BeginsSentence}
use Rattle.mh_items_kernels.specs.KernelTypes.{Automaton}
use Rattle.mh_items_kernels.specs.Automaton.{IsAutomaton}
use Rattle.mh_resolve_cells.specs.declared.kinds.Mode.{Mode}
use Rattle.mh_resolve_cells.specs.States.{IsTableOf}
use Rattle.mh_resolve_cells.specs.NoConflicts.{HasNoConflicts}
use Rattle.mh_tables_core.specs.Table.{TableData}
use Rattle.mh_tables_core.specs.Facts.{Facts}
use Rattle.mh_tables_core.specs.Run.{VerdictOf, Accepted, Overshot, Rejected}
use Rattle.mh_run_exact.specs.Exactness.{IsPrefixSentence, AllProductive}
use Rattle.mh_run_exact.proofs.OvershotBegins.{overshot_begins}
use Rattle.mh_run_exact.proofs.RawActions.{makes_raw_actions}
use Rattle.mh_run_exact.proofs.SentencesAccepted.{sentence_accepted}
use Rattle.mh_run_exact.proofs.ExactVerdicts.{sentence_exactly, prefix_exactly, one_prefix, rejects_no_sentence}
use Rattle.mh_run_exact.proofs.TableEdges.{has_edges_of}

-- If a run overshoots, that is, asks for a token after the last one, then its tokens begin a sentence of the grammar.
abbrev OvershootsWithin : PlainGrammar → TableData → Type 0
OvershootsWithin g t = (start : ℕ) (w : List ℕ) (s : ℕ) → start < length g.starts → VerdictOf t start w (Overshot s) → BeginsSentence g start w

module _ (g : Grammar) (a : Automaton) (mode : Mode) (t : TableData) (f : Facts t) (h : IsAutomaton (plain_of g) a) (is : IsTableOf g a mode t) where
  pub overshoots : AllProductive (plain_of g) → OvershootsWithin (plain_of g) t
  overshoots productive =
      subst (λ (p : PlainGrammar). OvershootsWithin p t) is.grammar
      (λ start w s lt v. overshot_begins t f a (has_edges_of g a mode t h is) (subst AllProductive (sym is.grammar) productive) start w s lt v)

  -- The laws on exact verdicts, for the grammar p.
  record AreExactFor (p : PlainGrammar) : Type 0 where
    accepted : (start : ℕ) (w : List ℕ) → start < length p.starts → VerdictOf t start w (Accepted (length w)) ↔ IsSentence p start w
    prefix : (start : ℕ) (w : List ℕ) (read : ℕ) → start < length p.starts → VerdictOf t start w (Accepted read) ↔ IsPrefixSentence p start w read
    unique : (start : ℕ) (w : List ℕ) (j k : ℕ) → start < length p.starts → IsPrefixSentence p start w j → IsPrefixSentence p start w k → j ≡ k
    refused : (start : ℕ) (w : List ℕ) (at s : ℕ) → start < length p.starts → VerdictOf t start w (Rejected at s) → BeginsSentence p start (take (at + 1) w) → ⊥

  module _ (clear : HasNoConflicts g a) where
    accepted : (start : ℕ) (w : List ℕ) → start < length t.grammar.starts → IsSentence t.grammar start w → VerdictOf t start w (Accepted (length w))
    accepted start w lt s = sentence_accepted t a (has_edges_of g a mode t h is) (makes_raw_actions g a mode t f h is clear) start w lt s

    tells : AreExactFor (plain_of g)
    tells = subst AreExactFor is.grammar (record {
      accepted = λ start w lt. sentence_exactly t f start lt (λ v s. accepted start v lt s) w;
      prefix = λ start w read lt. prefix_exactly t f start lt (λ v s. accepted start v lt s) w read;
      unique = λ start w j k lt. one_prefix t f start lt (λ v s. accepted start v lt s) w j k;
      refused = λ start w at s lt. rejects_no_sentence t f start lt (λ v s. accepted start v lt s) w at s;
    })

    pub tells_whole : (start : ℕ) (w : List ℕ) → start < length g.starts → VerdictOf t start w (Accepted (length w)) ↔ IsSentence (plain_of g) start w
    tells_whole start w lt = tells.accepted start w lt

    pub tells_prefix : (start : ℕ) (w : List ℕ) (read : ℕ) → start < length g.starts → VerdictOf t start w (Accepted read) ↔ IsPrefixSentence (plain_of g) start w read
    tells_prefix start w read lt = tells.prefix start w read lt

    pub tells_one : (start : ℕ) (w : List ℕ) (j k : ℕ) → start < length g.starts → IsPrefixSentence (plain_of g) start w j → IsPrefixSentence (plain_of g) start w k → j ≡ k
    tells_one start w j k lt x y = tells.unique start w j k lt x y

    pub tells_refused : (start : ℕ) (w : List ℕ) (at s : ℕ) → start < length g.starts → VerdictOf t start w (Rejected at s) → BeginsSentence (plain_of g) start (take (at + 1) w) → ⊥
    tells_refused start w at s lt v b = tells.refused start w at s lt v b
