-- Proves that a run with more tokens makes the same steps as long as it does not ask for a token.
use Rattle.std.proofs.Common.{◌≡◌, ℕ, zero, suc, ◌⊎◌, inl, inr, List, [], ◌∷◌, ◌++◌, Some, None, Option, refl, ap, sym, subst, ◌∙◌}
use Rattle.mh_tables_core.specs.declared.parts.Fallback.{Fallback}
use Rattle.mh_tables_core.specs.declared.parts.Fallback.TheVariants as fallbacks
use Rattle.mh_tables_core.specs.Table.{TableData, fallback_of}
use Rattle.mh_tables_core.specs.Run.{Config, RunMove, Accepts, Asks, Refuses, Shifts, Reduces, run_move_of, move_by_default, move_of_next, top_of, reduce, initial, step, step_by, goes_to, Step, Goes, Ends, Stuck, after, next_of, VerdictOf, Rejected, Overshot}
use Rattle.mh_tables_core.proofs.Reductions.{no_shift_at_end}
use Rattle.mh_tables_core.proofs.RunEnds.{step_moves, after_ended}

abbrev pub longer : List ℕ → Config → Config
longer v c = record { stack = c.stack; read = c.read; left = c.left ++ v }

default_longer : (f : Option Fallback) (m : RunMove) → (move_by_default f Asks ≡ Asks → ⊥) → move_by_default f m ≡ move_by_default f Asks
default_longer None m h = absurd (h refl)
default_longer (Some fallbacks.Accept) m h = refl
default_longer (Some (fallbacks.Reduce p)) m h = refl

pub move_longer : (t : TableData) (s : ℕ) (left v : List ℕ) → (run_move_of t s left ≡ Asks → ⊥) → run_move_of t s (left ++ v) ≡ run_move_of t s left
unfolding run_move_of
move_longer t s [] v h = default_longer (fallback_of t s) (move_of_next t s v) h
move_longer t s (z ∷ left) v h = refl

-- The step of a configuration with more tokens left.
abbrev pub step_longer : List ℕ → Step → Step
step_longer v (Goes c) = Goes (longer v c)
step_longer v (Ends how) = Ends how
step_longer v Stuck = Stuck

goes_to-longer : (v : List ℕ) (c : Config) (o : Option (List ℕ)) → goes_to (longer v c) o ≡ step_longer v (goes_to c o)
goes_to-longer v c None = refl
goes_to-longer v c (Some stack) = refl

by_longer : (t : TableData) (v stack : List ℕ) (read : ℕ) (left : List ℕ) (m : RunMove) → ((j : ℕ) → left ≡ [] → m ≡ Shifts j → ⊥)
    → step_by t (longer v (record { stack = stack; read = read; left = left })) m ≡ step_longer v (step_by t (record { stack = stack; read = read; left = left }) m)
by_longer t v stack read left Accepts h = refl
by_longer t v stack read left Asks h = refl
by_longer t v stack read left Refuses h = refl
by_longer t v stack read left (Reduces p) h = goes_to-longer v (record { stack = stack; read = read; left = left }) (reduce t p stack)
by_longer t v stack read [] (Shifts j) h = absurd (h j refl refl)
by_longer t v stack read (z ∷ left) (Shifts j) h = refl

-- The step is the same if the run does not ask for a token.
pub same_step : (t : TableData) (v stack : List ℕ) (read : ℕ) (left : List ℕ) → (run_move_of t (top_of stack) left ≡ Asks → ⊥)
    → step t (longer v (record { stack = stack; read = read; left = left })) ≡ step_longer v (step t (record { stack = stack; read = read; left = left }))
same_step t v stack read left h =
    let m : RunMove = run_move_of t (top_of stack) left in
    step_moves t (longer v (record { stack = stack; read = read; left = left })) m (move_longer t (top_of stack) left v h)
    ∙ by_longer t v stack read left m (λ j e s. no_shift_at_end t (top_of stack) j (subst (λ (l : List ℕ). run_move_of t (top_of stack) l ≡ Shifts j) e s))
    ∙ ap (step_longer v) (sym (step_moves t (record { stack = stack; read = read; left = left }) m refl))

pub next_longer : (v : List ℕ) (c : Config) (s : Step) → next_of (longer v c) (step_longer v s) ≡ longer v (next_of c s)
next_longer v c (Goes n) = refl
next_longer v c (Ends how) = refl
next_longer v c Stuck = refl

asks_or : (m : RunMove) → (m ≡ Asks) ⊎ (m ≡ Asks → ⊥)
asks_or Accepts = inr (λ e. cc)
asks_or Asks = inl refl
asks_or Refuses = inr (λ e. cc)
asks_or (Shifts j) = inr (λ e. cc)
asks_or (Reduces p) = inr (λ e. cc)

-- A run that asks for a token is not refused.
not_asking : (t : TableData) (n : ℕ) (c : Config) (at s : ℕ) → step t (after t n c) ≡ Ends (Rejected at s) → run_move_of t (top_of c.stack) c.left ≡ Asks → ⊥
not_asking t n c at s e m =
    let ended : step t c ≡ Ends (Overshot (top_of c.stack)) = step_moves t c Asks m in
    let stays : after t n c ≡ c = after_ended t n c (Overshot (top_of c.stack)) ended in
    let both : Ends (Rejected at s) ≡ Ends (Overshot (top_of c.stack)) = sym e ∙ ap (step t) stays ∙ ended in cc

-- A run that is refused is refused in the same way with more tokens left.
pub rejected_longer : (t : TableData) (v : List ℕ) (n : ℕ) (c : Config) (at s : ℕ) → step t (after t n c) ≡ Ends (Rejected at s) → step t (after t n (longer v c)) ≡ Ends (Rejected at s)
rejected_longer t v zero c at s e = same_step t v c.stack c.read c.left (not_asking t zero c at s e) ∙ ap (step_longer v) e
rejected_longer t v (suc n) c at s e =
    let same = same_step t v c.stack c.read c.left (not_asking t (suc n) c at s e) in
    let next : next_of (longer v c) (step t (longer v c)) ≡ longer v (next_of c (step t c)) = ap (next_of (longer v c)) same ∙ next_longer v c (step t c) in
    rw next (rejected_longer t v n (next_of c (step t c)) at s e)

-- A sentence that is refused is refused in the same way whatever tokens are appended.
pub verdict_longer : (t : TableData) (start : ℕ) (w v : List ℕ) (at s : ℕ) → VerdictOf t start w (Rejected at s) → VerdictOf t start (w ++ v) (Rejected at s)
verdict_longer t start w v at s r = (r.0, rejected_longer t v r.0 (initial start w) at s r.1)
