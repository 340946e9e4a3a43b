-- Proves that the rules of the search are sound: each derivation is a run from any stack with its first state on top.
use Rattle.std.proofs.Common.{◌≡◌, ℕ, suc, ◌+◌, ◌-◌, ◌<◌, ◌≤◌, inl, inr, List, [], ◌∷◌, ◌++◌, length, take, get_or, Some, refl, ap, arith, length-append, append_assoc, append-nil, ◌∙◌}
use Rattle.std.specs.List.{slice_get, AllByRecursion}
use Rattle.std.proofs.lemmas.Bool.{cases_lt}
use Rattle.std.proofs.lemmas.List.{take_at, get_or_past}
use Rattle.std.proofs.Math.ListN.{get_or-append}
use Rattle.std.proofs.Math.Seq.{get_or-append_seam}
use Rattle.mh_grammar.specs.declared.types.Symbol.{Symbol}
use Rattle.mh_grammar.specs.declared.types.Symbol.TheVariants.{T, N}
use Rattle.mh_tables_core.specs.declared.parts.Action.TheVariants as actions
use Rattle.mh_tables_core.specs.Table.{TableData, edge_of, cell_of, state_at}
use Rattle.mh_grammar.specs.Plain.{rhs_of, lhs_of}
use Rattle.mh_grammar.proofs.Lists.{recursion-append, recursion-push}
use Rattle.mh_tables_core.specs.Facts.{Facts}
use Rattle.mh_tables_core.specs.Run.{Config, Refuses, Shifts, Reduces, run_move_of, top_of, reduce, step, Goes, goes_to, after}
use Rattle.mh_tables_core.specs.Failing.{Fails}
use Rattle.mh_tables_core.proofs.IsPath.{FindsStatesAndEdge, reduce_is}
use Rattle.mh_tables_core.proofs.Reductions.{shifts_from_move, move_at_next, after-add}
use Rattle.mh_tables_core.proofs.RunEnds.{step_moves}
use Rattle.mh_facts.specs.Search.{leading_token, DerivesFact, ReachesState, IsRefusedSentence}
use Rattle.mh_facts.specs.Search as rules
use Rattle.mh_facts.proofs.StackBuilt.{leading_token-derives, length_more}

abbrev pub at : List ℕ → ℕ → List ℕ → Config
at stack read left = record { stack = stack; read = read; left = left }

-- A run continues by one step.
one_more : (t : TableData) (n : ℕ) (c mid new : Config) → after t n c ≡ mid → step t mid ≡ Goes new → after t (n + 1) c ≡ new
one_more t n c mid new a b = after-add t n 1 c ∙ rw a (rw b refl)

push_top : (stack : List ℕ) (j : ℕ) → top_of (stack ++ j ∷ []) ≡ j
push_top stack j = let e : length (stack ++ j ∷ []) - 1 ≡ length stack = let l = length-append stack (j ∷ []) in omega arith in rw e (get_or-append_seam stack j [] 0)

-- A run continues by a shift.
shift_on : (t : TableData) (n : ℕ) (c : Config) (stack : List ℕ) (read x j : ℕ) (left : List ℕ) → after t n c ≡ at stack read (x ∷ left) → run_move_of t (top_of stack) (x ∷ []) ≡ Shifts j → after t (n + 1) c ≡ at (stack ++ j ∷ []) (read + 1) left
shift_on t n c stack read x j left a m = one_more t n c (at stack read (x ∷ left)) _ a (step_moves t (at stack read (x ∷ left)) (Shifts j) (move_at_next t (top_of stack) x left ∙ m))

reduce_above : (t : TableData) (q g : ℕ) (stack above : List ℕ) → 0 < length stack → length above ≡ length (rhs_of t.grammar q) → edge_of t (top_of stack) (N (lhs_of t.grammar q)) ≡ Some g → reduce t q (stack ++ above) ≡ Some (stack ++ g ∷ [])
reduce_above t q g stack above lt high edge =
    let len = length-append stack above in
    let kept : take (length (stack ++ above) - length (rhs_of t.grammar q)) (stack ++ above) ≡ stack = take_at stack above (length (stack ++ above) - length (rhs_of t.grammar q)) (omega arith) in
    let found : FindsStatesAndEdge t q (stack ++ above) = record { states = omega arith; goto = (g, rw kept edge) } in
    reduce_is t q (stack ++ above) found ∙ ap (λ (l : List ℕ). Some (l ++ g ∷ [])) kept

-- A run continues by a reduction that takes off all states above `stack`.
reduce_on : (t : TableData) (n : ℕ) (c : Config) (stack above : List ℕ) (read z q e g : ℕ) (left : List ℕ) → after t n c ≡ at (stack ++ above) read (z ∷ left) → top_of (stack ++ above) ≡ e → run_move_of t e (z ∷ []) ≡ Reduces q
    → 0 < length stack → length above ≡ length (rhs_of t.grammar q) → edge_of t (top_of stack) (N (lhs_of t.grammar q)) ≡ Some g → after t (n + 1) c ≡ at (stack ++ g ∷ []) read (z ∷ left)
reduce_on t n c stack above read z q e g left a top m lt high edge =
    let move : run_move_of t (top_of (stack ++ above)) (z ∷ left) ≡ Reduces q = move_at_next t _ z left ∙ rw top m in
    one_more t n c (at (stack ++ above) read (z ∷ left)) _ a
    (step_moves t (at (stack ++ above) read (z ∷ left)) (Reduces q) move ∙ ap (goes_to (at (stack ++ above) read (z ∷ left))) (reduce_above t q g stack above lt high edge))

-- The run of a derivation: from a stack with r on top the run shifts v and pushes d states, with s on top and z next.
pub record RunsAlong (t : TableData) (r p d : ℕ) (stack : List ℕ) (read : ℕ) (v : List ℕ) (z : ℕ) (rest : List ℕ) (s : ℕ) : Type 0 where
  pub steps : ℕ
  pub above : List ℕ
  pub reaches : after t steps (at stack read (v ++ z ∷ rest)) ≡ at (stack ++ above) (read + length v) (z ∷ rest)
  pub height : length above ≡ d
  pub top : top_of (stack ++ above) ≡ s
  pub last : get_or (r ∷ above) d 0 ≡ s
  pub edges : (k : ℕ) (x : Symbol) → k < d → slice_get (rhs_of t.grammar p) k ≡ Some x → edge_of t (get_or (r ∷ above) k 0) x ≡ Some (get_or (r ∷ above) (k + 1) 0)

-- The list `v ++ z ∷ rest` without its first token, which is the first of v, or z if v is empty.
abbrev pub rest_after_first : List ℕ → ℕ → List ℕ → List ℕ
rest_after_first [] z rest = rest
rest_after_first (x ∷ v) z rest = v ++ z ∷ rest

leading_token_split : (v : List ℕ) (z : ℕ) (rest : List ℕ) → v ++ z ∷ rest ≡ leading_token v z ∷ rest_after_first v z rest
leading_token_split [] z rest = refl
leading_token_split (x ∷ v) z rest = refl

along_more : (t : TableData) (r p d : ℕ) (above : List ℕ) (s j : ℕ) (y : Symbol) → length above ≡ d → get_or (r ∷ above) d 0 ≡ s → slice_get (rhs_of t.grammar p) d ≡ Some y → edge_of t s y ≡ Some j
    → ((k : ℕ) (x : Symbol) → k < d → slice_get (rhs_of t.grammar p) k ≡ Some x → edge_of t (get_or (r ∷ above) k 0) x ≡ Some (get_or (r ∷ above) (k + 1) 0))
    → (k : ℕ) (x : Symbol) → k < suc d → slice_get (rhs_of t.grammar p) k ≡ Some x → edge_of t (get_or (r ∷ (above ++ j ∷ [])) k 0) x ≡ Some (get_or (r ∷ (above ++ j ∷ [])) (k + 1) 0)
along_more t r p d above s j y len last sym' edge along k x lt e =
    elim (cases_lt k d) [
      | inl inside ↦ rw (get_or-append (r ∷ above) (j ∷ []) 0 k (omega arith), get_or-append (r ∷ above) (j ∷ []) 0 (k + 1) (omega arith)) (along k x inside e)
      | inr past ↦ (
          let at : k ≡ d = omega arith in
          let same : y ≡ x = let e' : slice_get (rhs_of t.grammar p) d ≡ Some x = rw (← at) e in cc in
          let next : get_or ((r ∷ above) ++ j ∷ []) (d + 1) 0 ≡ j = let l : d + 1 ≡ length (r ∷ above) = omega arith in rw l (get_or-append_seam (r ∷ above) j [] 0) in
          let here : get_or ((r ∷ above) ++ j ∷ []) d 0 ≡ s = get_or-append (r ∷ above) (j ∷ []) 0 d (omega arith) ∙ last in
          rw at (rw (here, next) (rw same at edge)))
    ]

last_more : (r : ℕ) (above : List ℕ) (d j : ℕ) → length above ≡ d → get_or (r ∷ (above ++ j ∷ [])) (suc d) 0 ≡ j
last_more r above d j len = let l : suc d ≡ length (r ∷ above) = omega arith in rw l (get_or-append_seam (r ∷ above) j [] 0)

module _ (t : TableData) (f : Facts t) where
  ran_shift : (r p d x z : ℕ) (v w : List ℕ) (s j : ℕ) (stack : List ℕ) (read : ℕ) (rest : List ℕ) → RunsAlong t r p d stack read v x (z ∷ rest) s → slice_get (rhs_of t.grammar p) d ≡ Some (T x) → run_move_of t s (x ∷ []) ≡ Shifts j → w ≡ v ++ x ∷ []
      → RunsAlong t r p (suc d) stack read w z rest j
  ran_shift r p d x z v w s j stack read rest h symbol move word =
      let edge : edge_of t s (T x) ≡ Some j = f.shifts s x j (shifts_from_move t s x [] j move) in
      let left : w ++ z ∷ rest ≡ v ++ x ∷ (z ∷ rest) = rw word (append_assoc v (x ∷ []) (z ∷ rest)) in
      let read' : read + length v + 1 ≡ read + length w = let l = length_more w v x word in omega arith in
      record {
        steps = h.steps + 1;
        above = h.above ++ j ∷ [];
        reaches = rw left (shift_on t h.steps (at stack read (v ++ x ∷ (z ∷ rest))) (stack ++ h.above) (read + length v) x j (z ∷ rest) h.reaches (rw h.top move)
            ∙ rw read' (ap (λ (l : List ℕ). at l (read + length w) (z ∷ rest)) (append_assoc stack h.above (j ∷ []))));
        height = let e = h.height in length_more (h.above ++ j ∷ []) h.above j refl ∙ omega arith;
        top = rw (← append_assoc stack h.above (j ∷ [])) (push_top (stack ++ h.above) j);
        last = last_more r h.above d j h.height;
        edges = along_more t r p d h.above s j (T x) h.height h.last symbol edge h.edges;
      }

  ran_reduce : (r p d y z q : ℕ) (u v w : List ℕ) (s e g : ℕ) (stack : List ℕ) (read : ℕ) (rest rest' : List ℕ) → v ++ z ∷ rest ≡ y ∷ rest' → (h : RunsAlong t r p d stack read u y rest' s) → slice_get (rhs_of t.grammar p) d ≡ Some (N (lhs_of t.grammar q)) → 0 < length stack
      → RunsAlong t s q (length (rhs_of t.grammar q)) (stack ++ h.above) (read + length u) v z rest e → run_move_of t e (z ∷ []) ≡ Reduces q → edge_of t s (N (lhs_of t.grammar q)) ≡ Some g → w ≡ u ++ v
      → RunsAlong t r p (suc d) stack read w z rest g
  ran_reduce r p d y z q u v w s e g stack read rest rest' front h symbol lt inner move edge word =
      let left : w ++ z ∷ rest ≡ u ++ (v ++ z ∷ rest) = rw word (append_assoc u v (z ∷ rest)) in
      let first : after t h.steps (at stack read (u ++ (v ++ z ∷ rest))) ≡ at (stack ++ h.above) (read + length u) (v ++ z ∷ rest) = rw front h.reaches in
      let both : after t (h.steps + inner.steps) (at stack read (u ++ (v ++ z ∷ rest))) ≡ at ((stack ++ h.above) ++ inner.above) (read + length u + length v) (z ∷ rest) =
      after-add t h.steps inner.steps (at stack read (u ++ (v ++ z ∷ rest))) ∙ rw first inner.reaches in
      let read' : read + length u + length v ≡ read + length w = let l = ap length word ∙ length-append u v in omega arith in
      record {
        steps = h.steps + inner.steps + 1;
        above = h.above ++ g ∷ [];
        reaches = rw left (reduce_on t (h.steps + inner.steps) (at stack read (u ++ (v ++ z ∷ rest))) (stack ++ h.above) inner.above (read + length u + length v) z q e g rest both inner.top move
            (let l = length-append stack h.above in omega arith) inner.height (rw h.top edge)
            ∙ rw read' (ap (λ (l : List ℕ). at l (read + length w) (z ∷ rest)) (append_assoc stack h.above (g ∷ []))));
        height = let e = h.height in length_more (h.above ++ g ∷ []) h.above g refl ∙ omega arith;
        top = rw (← append_assoc stack h.above (g ∷ [])) (push_top (stack ++ h.above) g);
        last = last_more r h.above d g h.height;
        edges = along_more t r p d h.above s g (N (lhs_of t.grammar q)) h.height h.last symbol edge h.edges;
      }

  pub derives_ran : (r p d a z : ℕ) (v : List ℕ) (s : ℕ) → DerivesFact t r p d a z v s → (stack : List ℕ) (read : ℕ) (rest : List ℕ) → 0 < length stack → top_of stack ≡ r → RunsAlong t r p d stack read v z rest s
  derives_ran r p d a z v s (rules.DerivesFact.Empty o g) stack read rest lt top = record {
    steps = 0;
    above = [];
    reaches = let e : read + 0 ≡ read = omega arith in rw (e, append-nil stack) refl;
    height = refl;
    top = rw (append-nil stack) top;
    last = refl;
    edges = λ k x l e. absurd (omega arith);
  }
  derives_ran r p d a z w j (rules.DerivesFact.Shifted {d = d0} {x = x} {s = s} {v = v} h symbol move word) stack read rest lt top =
      ran_shift r p d0 x z v w s j stack read rest (derives_ran r p d0 a x v s h stack read (z ∷ rest) lt top) symbol move word
  derives_ran r p d a z w g (rules.DerivesFact.Reduced {d = d0} {y = y} {s = s} {e = e} {u = u} {v = v} q h symbol inner move edge word) stack read rest lt top =
      let front : v ++ z ∷ rest ≡ y ∷ rest_after_first v z rest = leading_token_split v z rest ∙ ap (λ (k : ℕ). k ∷ rest_after_first v z rest) (leading_token-derives t s q (length (rhs_of t.grammar q)) y z v e inner) in
      let one = derives_ran r p d0 a y u s h stack read (rest_after_first v z rest) lt top in
      ran_reduce r p d0 y z q u v w s e g stack read rest (rest_after_first v z rest) front one symbol lt
      (derives_ran s q (length (rhs_of t.grammar q)) y z v e inner (stack ++ one.above) (read + length u) rest (let l = length-append stack one.above in omega arith) one.top) move edge word

-- The run from the start i on v, z and `rest` comes to a stack with s on top and z next.
pub record RunsToState (t : TableData) (i s z : ℕ) (v rest : List ℕ) : Type 0 where
  pub steps : ℕ
  pub stack : List ℕ
  pub reaches : after t steps (at (i ∷ []) 0 (v ++ z ∷ rest)) ≡ at stack (length v) (z ∷ rest)
  pub top : top_of stack ≡ s
  pub not_empty : 0 < length stack

pub RunsToState-reaches : (t : TableData) (f : Facts t) (i s z : ℕ) (v : List ℕ) → ReachesState t i s z v → (rest : List ℕ) → RunsToState t i s z v rest
RunsToState-reaches t f i s z v rules.ReachesState.Begins rest = record { steps = 0; stack = i ∷ []; reaches = refl; top = refl; not_empty = omega arith }
RunsToState-reaches t f i j z w (rules.ReachesState.Steps {s = s} {y = y} {v = v} h move word) rest =
    let one = RunsToState-reaches t f i s y v h (z ∷ rest) in
    let left : w ++ z ∷ rest ≡ v ++ y ∷ (z ∷ rest) = rw word (append_assoc v (y ∷ []) (z ∷ rest)) in
    let count : length v + 1 ≡ length w = let l = length_more w v y word in omega arith in
    record {
      steps = one.steps + 1;
      stack = one.stack ++ j ∷ [];
      reaches = rw (left, ← count) (shift_on t one.steps _ one.stack (length v) y j (z ∷ rest) one.reaches (rw one.top move));
      top = push_top one.stack j;
      not_empty = let l = length-append one.stack (j ∷ []) in omega arith;
    }
RunsToState-reaches t f i g z w (rules.ReachesState.Goes {s = s} {y = y} {e = e} {u = u} {v = v} q h inner move edge word) rest =
    let front : v ++ z ∷ rest ≡ y ∷ rest_after_first v z rest = leading_token_split v z rest ∙ ap (λ (k : ℕ). k ∷ rest_after_first v z rest) (leading_token-derives t s q (length (rhs_of t.grammar q)) y z v e inner) in
    let one = RunsToState-reaches t f i s y u h (rest_after_first v z rest) in
    let two = derives_ran t f s q (length (rhs_of t.grammar q)) y z v e inner one.stack (length u) rest one.not_empty one.top in
    let left : w ++ z ∷ rest ≡ u ++ (v ++ z ∷ rest) = rw word (append_assoc u v (z ∷ rest)) in
    let first : after t one.steps (at (i ∷ []) 0 (u ++ (v ++ z ∷ rest))) ≡ at one.stack (length u) (v ++ z ∷ rest) = rw front one.reaches in
    let both : after t (one.steps + two.steps) (at (i ∷ []) 0 (u ++ (v ++ z ∷ rest))) ≡ at (one.stack ++ two.above) (length u + length v) (z ∷ rest) =
    after-add t one.steps two.steps (at (i ∷ []) 0 (u ++ (v ++ z ∷ rest))) ∙ rw first two.reaches in
    let count : length u + length v ≡ length w = let l = ap length word ∙ length-append u v in omega arith in
    record {
      steps = one.steps + two.steps + 1;
      stack = one.stack ++ g ∷ [];
      reaches = rw (left, ← count) (reduce_on t (one.steps + two.steps) _ one.stack two.above (length u + length v) z q e g rest both two.top move one.not_empty two.height (rw one.top edge));
      top = push_top one.stack g;
      not_empty = let l = length-append one.stack (g ∷ []) in omega arith;
    }

-- Only tokens of the table are shifted.
shift_cell : (t : TableData) (s x j : ℕ) → length (state_at t s).cells ≤ x → cell_of t s x ≡ actions.Shift j → ⊥
unfolding cell_of
shift_cell t s x j le e = let past = get_or_past (state_at t s).cells x actions.Refuse le in let none : actions.Refuse ≡ actions.Shift j = rw past at e in cc

pub shift_known : (t : TableData) (f : Facts t) (s x j : ℕ) → s < length t.states → run_move_of t s (x ∷ []) ≡ Shifts j → x < t.grammar.tokens
shift_known t f s x j lt move =
    elim (cases_lt x t.grammar.tokens) [
      | inl l ↦ l
      | inr le ↦ absurd (shift_cell t s x j (let row = f.ranges.each_row s lt in omega arith) (shifts_from_move t s x [] j move))
    ]

-- The state s and the tokens of v belong to the table.
pub record InRangeAt (t : TableData) (v : List ℕ) (s : ℕ) : Type 0 where
  pub state : s < length t.states
  pub tokens : AllByRecursion (λ z. z < t.grammar.tokens) v

known_shift : (t : TableData) (f : Facts t) (v w : List ℕ) (s x j : ℕ) → InRangeAt t v s → run_move_of t s (x ∷ []) ≡ Shifts j → w ≡ v ++ x ∷ [] → InRangeAt t w j
known_shift t f v w s x j k move word = record {
  state = f.each_target s (T x) j (f.shifts s x j (shifts_from_move t s x [] j move));
  tokens = rw word (recursion-push (λ (z : ℕ). z < t.grammar.tokens) v x k.tokens (shift_known t f s x j k.state move));
}

pub derives_known : (t : TableData) (f : Facts t) (r p d a z : ℕ) (v : List ℕ) (s : ℕ) → r < length t.states → DerivesFact t r p d a z v s → InRangeAt t v s
derives_known t f r p d a z v s lt (rules.DerivesFact.Empty o g) = record { state = lt; tokens = tt }
derives_known t f r p d a z w j lt (rules.DerivesFact.Shifted {d = d0} {x = x} {s = s} {v = v} h symbol move word) = known_shift t f v w s x j (derives_known t f r p d0 a x v s lt h) move word
derives_known t f r p d a z w g lt (rules.DerivesFact.Reduced {d = d0} {y = y} {s = s} {e = e} {u = u} {v = v} q h symbol inner move edge word) =
    let one = derives_known t f r p d0 a y u s lt h in
    let two = derives_known t f s q (length (rhs_of t.grammar q)) y z v e one.state inner in
    record { state = f.each_target s (N (lhs_of t.grammar q)) g edge; tokens = rw word (recursion-append (λ (z : ℕ). z < t.grammar.tokens) u v one.tokens two.tokens) }

pub reaches_known : (t : TableData) (f : Facts t) (i s z : ℕ) (v : List ℕ) → i < length t.grammar.starts → ReachesState t i s z v → InRangeAt t v s
reaches_known t f i s z v lt rules.ReachesState.Begins = record { state = let l = f.enough_states in omega arith; tokens = tt }
reaches_known t f i j z w lt (rules.ReachesState.Steps {s = s} {y = y} {v = v} h move word) = known_shift t f v w s y j (reaches_known t f i s y v lt h) move word
reaches_known t f i g z w lt (rules.ReachesState.Goes {s = s} {y = y} {e = e} {u = u} {v = v} q h inner move edge word) =
    let one = reaches_known t f i s y u lt h in
    let two = derives_known t f s q (length (rhs_of t.grammar q)) y z v e one.state inner in
    record { state = f.each_target s (N (lhs_of t.grammar q)) g edge; tokens = rw word (recursion-append (λ (z : ℕ). z < t.grammar.tokens) u v one.tokens two.tokens) }

-- If the rules of the search derive that a sentence is refused in a state, the run on the sentence fails in this state.
pub refused_is_failing : (t : TableData) (f : Facts t) (i : ℕ) (w : List ℕ) (s : ℕ) → IsRefusedSentence t i w s → Fails t i w s
refused_is_failing t f i w s h =
    let k = reaches_known t f i s h.last h.before h.start h.reaches in
    let ran = RunsToState-reaches t f i s h.last h.before h.reaches [] in
    let len : length w ≡ length h.before + 1 = length_more w h.before h.last h.word in
    let one : length w - 1 ≡ length h.before = omega arith in
    record {
      sentence = record { known = h.start; tokens = rw h.word (recursion-push (λ (z : ℕ). z < t.grammar.tokens) h.before h.last k.tokens h.known) };
      some_token = omega arith;
      verdict = (ran.steps, rw (one, h.word) (rw ran.reaches (step_moves t (at ran.stack (length h.before) (h.last ∷ [])) Refuses (rw ran.top h.refuses) ∙ rw ran.top refl)));
    }
