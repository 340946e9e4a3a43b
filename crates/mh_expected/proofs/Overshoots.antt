-- Proves that, if a run refuses a token, the run on the tokens before this token overshoots, that is, asks for one
-- more.
use Rattle.std.proofs.Common.{◌≡◌, ℕ, ◌+◌, ◌<◌, ◌≤◌, List, ◌++◌, length, take, drop, refl, ap, sym, subst, arith, take-append-drop, length-take, ◌∙◌}
use Rattle.std.specs.List.{AllByRecursion}
use Rattle.mh_tables_core.specs.Table.{TableData}
use Rattle.mh_tables_core.specs.Halting.{HaltingFacts}
use Rattle.mh_tables_core.specs.Run.{Config, Asks, initial, run_move_of, top_of, step, Ends, after, Ending, VerdictOf, Accepted, Overshot, Rejected}
use Rattle.mh_tables_core.proofs.RefusalIsCut.{verdict_cut}
use Rattle.mh_tables_core.proofs.RunEnds.{has_verdict, ending_unique, step_moves}
use Rattle.mh_tables_core.proofs.RefusalStays.{longer, same_step, step_longer, verdict_longer}
use Rattle.mh_expected.specs.Expected.{Overshoots}
use Rattle.mh_expected.proofs.ExpectedTokens.{after-longer}

-- An accepted sentence is accepted with any tokens after its own.
accepted_longer : (t : TableData) (start : ℕ) (w v : List ℕ) (read : ℕ) → VerdictOf t start w (Accepted read) → VerdictOf t start (w ++ v) (Accepted read)
accepted_longer t start w v read (n, e) =
    let c : Config = after t n (initial start w) in
    let there = after-longer t v n (initial start w) c refl in
    let on : run_move_of t (top_of c.stack) c.left ≡ Asks → ⊥ = λ m. let both : Ends (Accepted read) ≡ Ends (Overshot (top_of c.stack)) = sym e ∙ step_moves t c Asks m in cc in
    (there.0, ap (step t) there.1 ∙ same_step t v c.stack c.read c.left on ∙ ap (step_longer v) e)

module _ (t : TableData) (start : ℕ) (w : List ℕ) (at s : ℕ) (refused : VerdictOf t start w (Rejected at s)) where
  whole : take at w ++ drop at w ≡ w
  whole = take-append-drop at w

  other : (how : Ending) → VerdictOf t start (take at w ++ drop at w) how → how ≡ Rejected at s
  other how v = ending_unique t (initial start w) how (Rejected at s) (subst (λ (x : List ℕ). VerdictOf t start x how) whole v) refused

  by_ending : (how : Ending) → VerdictOf t start (take at w) how → Overshoots t start (take at w)
  by_ending (Accepted read) v = let e = other (Accepted read) (accepted_longer t start (take at w) (drop at w) read v) in absurd (cc)
  by_ending (Overshot q) v = (q, v)
  by_ending (Rejected at' q) v =
      let e = other (Rejected at' q) (verdict_longer t start (take at w) (drop at w) at' q v) in
      let same : at' ≡ at = cc in
      let short = (verdict_cut t start (take at w) at' q v).0 in
      absurd (omega (arith, length-take at w))

  pub refused_overshoots : HaltingFacts t → start < length t.grammar.starts → AllByRecursion (λ z. z < t.grammar.tokens) (take at w) → Overshoots t start (take at w)
  refused_overshoots h known tokens = let v = has_verdict t h start (take at w) known tokens in by_ending v.0 v.1
