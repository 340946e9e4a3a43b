-- Lemmas on the loop over the tokens of a sentence.
use Rattle.std.proofs.Common.{◌≡◌, ℕ, suc, ◌+◌, ◌-◌, ◌<◌, ◌≤◌, List, [], ◌∷◌, ◌++◌, length, drop, get_or, Some, None, Option, refl, ap, sym, arith, ◌∙◌}
use Rattle.std.proofs.lemmas.List.{drop_more, drop_all, get_or_default}
use Rattle.mh_tables_core.specs.Table.{TableData}
use Rattle.mh_tables_core.specs.Facts.{Facts}
use Rattle.mh_tables_core.specs.Run.{Config, RunMove, Shifts, run_move_of, top_of, IsRunStack, Ends, step, step_by, next_of, after, Ending, initial}
use Rattle.mh_tables_core.proofs.Reductions.{move_at_next, after-add}
use Rattle.mh_tables_core.proofs.RunEnds.{step_moves, IsRunStack-shift, IsRunStack-start}
use Rattle.mh_run.specs.code.Observers.{Observer, observed, observed_after, RunsObserved}
use Rattle.mh_run.specs.code.Reductions.{left_with, config_with, SettlesTo}
use Rattle.mh_run.proofs.ObserverSteps.{after_one_more, observed_after-suc, observed_after-add}

-- The remaining tokens are the next token and the rest.
pub next_is : (w : List ℕ) (read z : ℕ) → read < length w → z ≡ get_or w read 0 → drop read w ≡ z ∷ drop (read + 1) w
next_is w read z lt e = drop_more w read 0 lt ∙ ap (λ (y : ℕ). y ∷ drop (read + 1) w) (sym e)

-- The last element of the stack, which the code reads, is its top state.
pub top_read : (stack : List ℕ) (len x : ℕ) → len ≡ length stack → 0 < length stack → x ≡ get_or stack (len - 1) x → x ≡ top_of stack
top_read stack len x e pos r = let i : len - 1 ≡ length stack - 1 = omega arith in r ∙ rw i (get_or_default stack (length stack - 1) x 0 (omega arith))

-- The configuration with this stack, `read` tokens shifted and these tokens left.
abbrev pub at : List ℕ → ℕ → List ℕ → Config
at stack read left = record { stack = stack; read = read; left = left }

-- The invariant: the steps so far lead to this stack and this value.
pub record RunProgress {S : Type 0} (f : Observer S) (t : TableData) (start : ℕ) (w : List ℕ) (first : S) (stack : List ℕ) (read : ℕ) (s : S) : Type 0 where
  pub run : IsRunStack t stack
  pub steps : ℕ
  pub reaches : after t steps (initial start w) ≡ at stack read (drop read w)
  pub value : observed_after f t steps (initial start w) first ≡ s

module _ {S : Type 0} (f : Observer S) (t : TableData) (start : ℕ) (w : List ℕ) (first : S) where
  pub so_far_none : (stack : List ℕ) → start < length t.grammar.starts → stack ≡ start ∷ [] → RunProgress f t start w first stack 0 first
  so_far_none stack lt e =
      rw e (record {
        run = IsRunStack-start t start lt;
        steps = 0;
        reaches = refl;
        value = refl;
      })

  module _ (stack : List ℕ) (read : ℕ) (s : S) (h : RunProgress f t start w first stack read s) where
    -- The value after k more steps is what observing k steps from the configuration c and the value s gives.
    behind : (c : Config) (k : ℕ) → at stack read (drop read w) ≡ c → observed_after f t (h.steps + k) (initial start w) first ≡ observed_after f t k c s
    behind c k e =
        observed_after-add f t h.steps k (initial start w) first
        ∙ ap (λ (x : Config). observed_after f t k x (observed_after f t h.steps (initial start w) first)) (h.reaches ∙ e)
        ∙ ap (observed_after f t k c) h.value

    -- The invariant still holds after the next reductions.
    pub so_far_settled : (look : Option ℕ) (rest new : List ℕ) (now : S) (m : RunMove) → drop read w ≡ left_with look rest → SettlesTo f t look stack new s now m → RunProgress f t start w first new read now
    so_far_settled look rest new now m e r =
        let here : at stack read (drop read w) ≡ config_with stack read look rest = ap (at stack read) e in
        record {
          run = r.run;
          steps = h.steps + r.count;
          reaches = after-add t h.steps r.count (initial start w) ∙ ap (after t r.count) (h.reaches ∙ here) ∙ r.leads.reaches read rest ∙ ap (at new read) (sym e);
          value = behind (config_with stack read look rest) r.count here ∙ r.leads.value read rest;
        }

    module _ (z j : ℕ) (rest : List ℕ) (e : drop read w ≡ z ∷ rest) (m : run_move_of t (top_of stack) (z ∷ []) ≡ Shifts j) where
      shifts : run_move_of t (top_of stack) (z ∷ rest) ≡ Shifts j
      shifts = move_at_next t (top_of stack) z rest ∙ m

      value_shifted : observed_after f t (suc h.steps) (initial start w) first ≡ f.shifted s z
      value_shifted =
          observed_after-suc f t h.steps (initial start w) first
          ∙ ap (λ (c : Config). observed f t (run_move_of t (top_of c.stack) c.left) c.left (observed_after f t h.steps (initial start w) first)) (h.reaches ∙ ap (at stack read) e)
          ∙ ap (observed f t (run_move_of t (top_of stack) (z ∷ rest)) (z ∷ rest)) h.value
          ∙ ap (λ (x : RunMove). observed f t x (z ∷ rest) s) shifts

      pub so_far_shifted : Facts t → rest ≡ drop (read + 1) w → RunProgress f t start w first (stack ++ j ∷ []) (read + 1) (f.shifted s z)
      so_far_shifted facts r = record {
        run = IsRunStack-shift t facts stack z j rest h.run shifts;
        steps = suc h.steps;
        reaches =
            after_one_more t h.steps (initial start w)
            ∙ ap (λ (c : Config). next_of c (step t c)) (h.reaches ∙ ap (at stack read) e)
            ∙ ap (next_of (at stack read (z ∷ rest))) (step_moves t (at stack read (z ∷ rest)) (Shifts j) shifts)
            ∙ ap (at (stack ++ j ∷ []) (read + 1)) r;
        value = value_shifted;
      }

    -- The run ends with the next move.
    pub so_far_ends : (m : RunMove) (how : Ending) → run_move_of t (top_of stack) (drop read w) ≡ m → step_by t (at stack read (drop read w)) m ≡ Ends how → RunsObserved f t start w first how s
    so_far_ends m how e ended =
        let ends : step t (at stack read (drop read w)) ≡ Ends how = step_moves t (at stack read (drop read w)) m e ∙ ended in
        record { steps = h.steps; ends = ap (step t) h.reaches ∙ ends; value = h.value }

-- The run ends at a token.
pub token_ends_run : {S : Type 0} (f : Observer S) (t : TableData) (start : ℕ) (w : List ℕ) (first : S) (old new : List ℕ) (read z : ℕ) (before now : S) (m : RunMove) (how : Ending) → RunProgress f t start w first old read before
    → read < length w → z ≡ get_or w read 0 → SettlesTo f t (Some z) old new before now m → step_by t (at new read (drop read w)) m ≡ Ends how → RunsObserved f t start w first how now
token_ends_run f t start w first old new read z before now m how h lt e s ended =
    let left = next_is w read z lt e in
    so_far_ends f t start w first new read now (so_far_settled f t start w first old read before h (Some z) (drop (read + 1) w) new now m left s) m how
    (ap (run_move_of t (top_of new)) left ∙ move_at_next t (top_of new) z (drop (read + 1) w) ∙ s.next) ended

-- The invariant still holds after a token is shifted.
pub token_is_shifted : {S : Type 0} (f : Observer S) (t : TableData) (facts : Facts t) (start : ℕ) (w : List ℕ) (first : S) (old new : List ℕ) (read z j : ℕ) (before now : S) → RunProgress f t start w first old read before
    → read < length w → z ≡ get_or w read 0 → SettlesTo f t (Some z) old new before now (Shifts j) → RunProgress f t start w first (new ++ j ∷ []) (read + 1) (f.shifted now z)
token_is_shifted f t facts start w first old new read z j before now h lt e s =
    let left = next_is w read z lt e in
    so_far_shifted f t start w first new read now (so_far_settled f t start w first old read before h (Some z) (drop (read + 1) w) new now (Shifts j) left s) z j (drop (read + 1) w) left s.next facts refl

-- The run ends after all tokens have been shifted.
pub end_of_word_ends_run : {S : Type 0} (f : Observer S) (t : TableData) (start : ℕ) (w : List ℕ) (first : S) (old new : List ℕ) (read : ℕ) (before now : S) (m : RunMove) (how : Ending) → RunProgress f t start w first old read before → length w ≤ read
    → SettlesTo f t None old new before now m → step_by t (at new read []) m ≡ Ends how → RunsObserved f t start w first how now
end_of_word_ends_run f t start w first old new read before now m how h le s ended =
    let left = drop_all read w le in
    so_far_ends f t start w first new read now (so_far_settled f t start w first old read before h None [] new now m left s) m how (ap (run_move_of t (top_of new)) left ∙ s.next)
    (rw left ended)
