-- Proves that the state in which a run is refused is the top of a stack, and so a state of the table.
use Rattle.std.proofs.Common.{◌≡◌, ℕ, ◌-◌, ◌<◌, List, length, refl, sym, ◌∙◌, arith}
use Rattle.mh_tables_core.specs.Table.{TableData}
use Rattle.mh_tables_core.specs.Facts.{Facts}
use Rattle.mh_tables_core.specs.Run.{Config, RunMove, Accepts, Asks, Refuses, Shifts, Reduces, reduce, run_move_of, top_of, step_by, Ends, after, initial, Rejected, VerdictOf, IsRunStack}
use Rattle.mh_tables_core.proofs.MoveCases.{goes_to_no_end}
use Rattle.mh_tables_core.proofs.RunEnds.{step_moves}
use Rattle.mh_tables_core.proofs.IsPath.{IsRunStack-in_range}
use Rattle.mh_tables_core.proofs.TreesMatchStack.{TreesMatchRun-start}

module _ (t : TableData) where
  -- A stack of a run with state s on its top.
  pub record Reached (s : ℕ) : Type 0 where
    pub stack : List ℕ
    pub run : IsRunStack t stack
    pub top : s ≡ top_of stack

  refused_in : (c : Config) (m : RunMove) (at s : ℕ) → step_by t c m ≡ Ends (Rejected at s) → s ≡ top_of c.stack
  refused_in c Accepts at s is = cc
  refused_in c Asks at s is = cc
  refused_in c Refuses at s is = cc
  refused_in c (Shifts j) at s is = cc
  refused_in c (Reduces p) at s is = absurd (goes_to_no_end c (reduce t p c.stack) (Rejected at s) is)

  -- A state that refuses a token is reached.
  pub reached : Facts t → (start : ℕ) (w : List ℕ) (at s : ℕ) → start < length t.grammar.starts → VerdictOf t start w (Rejected at s) → Reached s
  reached f start w at s lt (n, is) =
      let c = after t n (initial start w) in
      let stands = TreesMatchRun-start t f start n w lt in
      let grown = stands.match_stack in
      record {
        stack = c.stack;
        run = record {
          path = record { not_empty = let l = grown.len in omega arith; edges = λ k within. let l = grown.len in let edge = grown.each k (omega arith) in (edge.0, edge.1) };
          start = grown.start;
        };
        top = refused_in c (run_move_of t (top_of c.stack) c.left) at s (sym (step_moves t c (run_move_of t (top_of c.stack) c.left) refl) ∙ is);
      }

  last_known : Facts t → (s : ℕ) → Reached s → s < length t.states
  last_known f s r =
      let begun = r.run.path.not_empty in
      let top = r.top in
      rw top (IsRunStack-in_range t f r.stack r.run (length r.stack - 1) (omega arith))

  -- A state that refuses a token is a state of the table.
  pub refusing_state_known : Facts t → (start : ℕ) (w : List ℕ) (at s : ℕ) → start < length t.grammar.starts → VerdictOf t start w (Rejected at s) → s < length t.states
  refusing_state_known f start w at s lt is = last_known f s (reached f start w at s lt is)
