-- Proves that each run on a table that passed the halting test ends, and that its end is unique.
use Rattle.std.proofs.Common.{◌≡◌, ℕ, zero, suc, ◌+◌, ◌<◌, List, [], ◌∷◌, ◌++◌, length, drop, Some, None, refl, ap, sym, arith, ◌∙◌}
use Rattle.std.specs.List.{AllByRecursion}
use Rattle.mh_grammar.specs.declared.types.Symbol.TheVariants.{T}
use Rattle.mh_tables_core.specs.Table.{TableData}
use Rattle.mh_tables_core.specs.Facts.{Facts}
use Rattle.mh_tables_core.specs.Run.{Config, RunMove, Accepts, Asks, Refuses, Shifts, Reduces, run_move_of, top_of, IsRunStack, Goes, Ends, step, step_by, after, Ending, EndsAs, VerdictOf, Accepted, Overshot, Rejected}
use Rattle.mh_tables_core.specs.Halting.{AlwaysHalts, HaltingFacts}
use Rattle.mh_tables_core.proofs.IsPath.{IsRunStack-push}
use Rattle.mh_tables_core.proofs.Reductions.{shifts_from_move, no_shift_at_end, move_at_next, reductions_at_next, after_reductions, after-add}
use Rattle.mh_tables_core.proofs.ReductionsEnd.{Settles, settles}

-- A run ends as it does after its first n steps.
pub ends_before : (t : TableData) (n : ℕ) (c c' : Config) (how : Ending) → after t n c ≡ c' → EndsAs t c' how → EndsAs t c how
ends_before t n c c' how e (m, ended) = (n + m, rw (after-add t n m c, e) ended)

-- A run ends as it does after its first step.
pub ends_step : (t : TableData) (c c' : Config) (how : Ending) → step t c ≡ Goes c' → EndsAs t c' how → EndsAs t c how
ends_step t c c' how e (m, ended) = (suc m, rw e ended)

pub step_moves : (t : TableData) (c : Config) (m : RunMove) → run_move_of t (top_of c.stack) c.left ≡ m → step t c ≡ step_by t c m
unfolding step
step_moves t c m e = rw e refl

-- The stack after a shift is again a stack of a run.
pub IsRunStack-shift : (t : TableData) (f : Facts t) (stack : List ℕ) (z j : ℕ) (rest : List ℕ) → IsRunStack t stack → run_move_of t (top_of stack) (z ∷ rest) ≡ Shifts j → IsRunStack t (stack ++ j ∷ [])
IsRunStack-shift t f stack z j rest run m = IsRunStack-push t stack (T z) j run (f.shifts (top_of stack) z j (shifts_from_move t (top_of stack) z rest j m))

-- The reductions end for every list of tokens that are left.
settles_left : (t : TableData) (f : Facts t) (h : AlwaysHalts t) (left stack : List ℕ) → AllByRecursion (λ z. z < t.grammar.tokens) left → IsRunStack t stack → Settles t left stack
settles_left t f h [] stack fits run = settles t f h None tt stack run
settles_left t f h (z ∷ rest) stack fits run =
    let s = settles t f h (Some z) fits.0 stack run in
    record {
      count = s.count;
      new = s.new;
      made = reductions_at_next t z rest stack s.new s.count s.made;
      run = s.run;
      settled = λ p e. s.settled p (sym (move_at_next t (top_of s.new) z rest) ∙ e);
    }

-- Each shift of the next token of `left` leads from this stack to a stack of a run.
abbrev pub ShiftsToRunStack : TableData → List ℕ → List ℕ → Type 0
ShiftsToRunStack t left stack = (j : ℕ) → run_move_of t (top_of stack) left ≡ Shifts j → IsRunStack t (stack ++ j ∷ [])

-- The run ends from this stack.
abbrev pub EndsFrom : TableData → List ℕ → ℕ → List ℕ → Type 0
EndsFrom t stack read left = (how : Ending) × EndsAs t (record { stack = stack; read = read; left = left }) how

ends_settled : (t : TableData) (f : Facts t) (left stack : List ℕ) (read : ℕ) (run : IsRunStack t stack) (m : RunMove) → run_move_of t (top_of stack) left ≡ m → ((p : ℕ) → m ≡ Reduces p → ⊥)
    → ((j : ℕ) → m ≡ Shifts j → IsRunStack t (stack ++ j ∷ []) → EndsFrom t (stack ++ j ∷ []) (read + 1) (drop 1 left)) → ShiftsToRunStack t left stack → EndsFrom t stack read left
ends_settled t f left stack read run Accepts e settled more shift = (Accepted read, (0, step_moves t _ Accepts e))
ends_settled t f left stack read run Asks e settled more shift = (Overshot (top_of stack), (0, step_moves t _ Asks e))
ends_settled t f left stack read run Refuses e settled more shift = (Rejected read (top_of stack), (0, step_moves t _ Refuses e))
ends_settled t f left stack read run (Reduces p) e settled more shift = absurd (settled p refl)
ends_settled t f left stack read run (Shifts j) e settled more shift =
    let rest = more j refl (shift j e) in
    (rest.0, ends_step t _ _ rest.0 (step_moves t (record { stack = stack; read = read; left = left }) (Shifts j) e) rest.1)

ends_with : (t : TableData) (f : Facts t) (left stack : List ℕ) (read : ℕ) (s : Settles t left stack) → EndsFrom t s.new read left → EndsFrom t stack read left
ends_with t f left stack read s (how, ended) = (how, ends_before t s.count _ _ how (after_reductions t read left stack s.new s.count s.made) ended)

-- Each run on a table that passed the halting test ends.
pub run_ends : (t : TableData) (f : Facts t) (h : AlwaysHalts t) (left stack : List ℕ) (read : ℕ) → AllByRecursion (λ z. z < t.grammar.tokens) left → IsRunStack t stack → EndsFrom t stack read left
run_ends t f h [] stack read fits run =
    let s = settles_left t f h [] stack fits run in
    ends_with t f [] stack read s (ends_settled t f [] s.new read s.run _ refl s.settled (λ j e r. absurd (no_shift_at_end t (top_of s.new) j e)) (λ j e. absurd (no_shift_at_end t (top_of s.new) j e)))
run_ends t f h (z ∷ rest) stack read fits run =
    let s = settles_left t f h (z ∷ rest) stack fits run in
    ends_with t f (z ∷ rest) stack read s
    (ends_settled t f (z ∷ rest) s.new read s.run _ refl s.settled (λ j e r. run_ends t f h rest (s.new ++ j ∷ []) (read + 1) fits.1 r) (λ j e. IsRunStack-shift t f s.new z j rest s.run e))

-- After the end of the run the configuration stays the same.
pub after_ended : (t : TableData) (n : ℕ) (c : Config) (how : Ending) → step t c ≡ Ends how → after t n c ≡ c
after_ended t zero c how e = refl
after_ended t (suc n) c how e = rw e (after_ended t n c how e)

-- The end of a run is unique.
pub ending_unique : (t : TableData) (c : Config) (a b : Ending) → EndsAs t c a → EndsAs t c b → a ≡ b
ending_unique t c a b (n, x) (m, y) =
    let there : after t (n + m) c ≡ after t n c = after-add t n m c ∙ after_ended t m (after t n c) a x in
    let other : after t (m + n) c ≡ after t m c = after-add t m n c ∙ after_ended t n (after t m c) b y in
    let e : n + m ≡ m + n = omega arith in
    let same : after t n c ≡ after t m c = sym there ∙ ap (λ (k : ℕ). after t k c) e ∙ other in
    let both : Ends a ≡ Ends b = sym x ∙ ap (step t) same ∙ y in cc

pub IsRunStack-start : (t : TableData) (start : ℕ) → start < length t.grammar.starts → IsRunStack t (start ∷ [])
IsRunStack-start t start lt = record { path = record { not_empty = omega arith; edges = λ k l. absurd (omega arith) }; start = lt }

-- Each sentence has a verdict.
pub has_verdict : (t : TableData) (h : HaltingFacts t) (start : ℕ) (w : List ℕ) → start < length t.grammar.starts → AllByRecursion (λ z. z < t.grammar.tokens) w → (how : Ending) × VerdictOf t start w how
has_verdict t h start w lt fits = run_ends t h.facts h.halts w (start ∷ []) 0 fits (IsRunStack-start t start lt)
