-- Proves that the verdicts of a table are exact, if each sentence is accepted.
use Rattle.std.proofs.Common.{◌≡◌, ◌↔◌, ℕ, zero, suc, ◌+◌, ◌<◌, List, ◌++◌, length, take, drop, refl, ap, sym, ◌∙◌}
use Rattle.std.proofs.lemmas.List.{take-append-drop, length-take-le}
use Rattle.std.proofs.Math.Seq.{take-length}
use Rattle.mh_grammar.specs.Plain.{IsSentence, BeginsSentence}
use Rattle.mh_tables_core.specs.Table.{TableData}
use Rattle.mh_tables_core.specs.Facts.{Facts}
use Rattle.mh_tables_core.specs.Run.{Config, Asks, run_move_of, top_of, initial, step, Step, Goes, Ends, Stuck, after, next_of, VerdictOf, Rejected, Accepted, Overshot}
use Rattle.mh_tables_core.proofs.RefusalIsCut.{verdict_cut}
use Rattle.mh_tables_core.proofs.RunEnds.{step_moves, after_ended, ending_unique}
use Rattle.mh_tables_core.proofs.RefusalStays.{longer, step_longer, same_step, next_longer, verdict_longer}
use Rattle.mh_run_exact.specs.Exactness.{IsPrefixSentence}
use Rattle.mh_run_exact.proofs.AcceptedSentence.{accepted_sentence}

not_overshot : (t : TableData) (n : ℕ) (c : Config) (read : ℕ) → step t (after t n c) ≡ Ends (Accepted read) → run_move_of t (top_of c.stack) c.left ≡ Asks → ⊥
not_overshot t n c read e m =
    let ended : step t c ≡ Ends (Overshot (top_of c.stack)) = step_moves t c Asks m in
    let stays : after t n c ≡ c = after_ended t n c (Overshot (top_of c.stack)) ended in
    let both : Ends (Accepted read) ≡ Ends (Overshot (top_of c.stack)) = sym e ∙ ap (step t) stays ∙ ended in cc

-- A run that accepts also accepts if more tokens follow.
accepted_longer : (t : TableData) (v : List ℕ) (n : ℕ) (c : Config) (read : ℕ) → step t (after t n c) ≡ Ends (Accepted read) → step t (after t n (longer v c)) ≡ Ends (Accepted read)
accepted_longer t v zero c read e = same_step t v c.stack c.read c.left (not_overshot t zero c read e) ∙ ap (step_longer v) e
accepted_longer t v (suc n) c read e =
    let same = same_step t v c.stack c.read c.left (not_overshot t (suc n) c read e) in
    let next : next_of (longer v c) (step t (longer v c)) ≡ longer v (next_of c (step t c)) = ap (next_of (longer v c)) same ∙ next_longer v c (step t c) in
    rw next (accepted_longer t v n (next_of c (step t c)) read e)

pub accepts_longer : (t : TableData) (start : ℕ) (w v : List ℕ) (read : ℕ) → VerdictOf t start w (Accepted read) → VerdictOf t start (w ++ v) (Accepted read)
accepts_longer t start w v read r = (r.0, accepted_longer t v r.0 (initial start w) read r.1)

module _ (t : TableData) (f : Facts t) (start : ℕ) (lt : start < length t.grammar.starts) (all : (w : List ℕ) → IsSentence t.grammar start w → VerdictOf t start w (Accepted (length w))) where
  pub rejects_no_sentence : (w : List ℕ) (at s : ℕ) → VerdictOf t start w (Rejected at s) → BeginsSentence t.grammar start (take (at + 1) w) → ⊥
  rejects_no_sentence w at s r (v, sentence) =
      let refused = verdict_longer t start (take (at + 1) w) v at s (verdict_cut t start w at s r).1 in
      let both = ending_unique t (initial start (take (at + 1) w ++ v)) (Rejected at s) (Accepted (length (take (at + 1) w ++ v))) refused (all (take (at + 1) w ++ v) sentence) in cc

  accepts_prefix : (w : List ℕ) (read : ℕ) → IsPrefixSentence t.grammar start w read → VerdictOf t start w (Accepted read)
  accepts_prefix w read p =
      let a = accepts_longer t start (take read w) (drop read w) (length (take read w)) (all (take read w) p.sentence) in
      rw (take-append-drop read w, length-take-le read w p.within) at a

  pub prefix_exactly : (w : List ℕ) (read : ℕ) → VerdictOf t start w (Accepted read) ↔ IsPrefixSentence t.grammar start w read
  prefix_exactly w read = (accepted_sentence t f start w read lt, accepts_prefix w read)

  pub one_prefix : (w : List ℕ) (j k : ℕ) → IsPrefixSentence t.grammar start w j → IsPrefixSentence t.grammar start w k → j ≡ k
  one_prefix w j k a b = let both = ending_unique t (initial start w) (Accepted j) (Accepted k) (accepts_prefix w j a) (accepts_prefix w k b) in cc

  pub sentence_exactly : (w : List ℕ) → VerdictOf t start w (Accepted (length w)) ↔ IsSentence t.grammar start w
  sentence_exactly w = ((λ v. let p = accepted_sentence t f start w (length w) lt v in let s = p.sentence in rw (take-length w) at s), all w)
