-- Proves that the rules of the search are complete: for each failing sentence they derive that it is refused.
use Rattle.std.proofs.Common.{◌≡◌, ℕ, zero, suc, ◌+◌, ◌-◌, ◌<◌, ◌≤◌, inl, inr, List, [], ◌∷◌, ◌++◌, length, take, drop, Some, None, Option, refl, ap, sym, arith, length-append, length-drop, append_assoc, ◌∙◌}
use Rattle.std.proofs.lemmas.List.{take_at, nil_from_length}
use Rattle.mh_grammar.specs.declared.types.Symbol.TheVariants.{N}
use Rattle.mh_tables_core.specs.Table.{TableData, edge_of}
use Rattle.mh_grammar.specs.Plain.{rhs_of, lhs_of}
use Rattle.mh_tables_core.specs.Facts.{Facts, HasGoto}
use Rattle.mh_tables_core.specs.Run.{Config, RunMove, Accepts, Asks, Refuses, Shifts, Reduces, run_move_of, top_of, reduce, step, step_by, Ends, goes_to, next_of, after}
use Rattle.mh_tables_core.proofs.Reductions.{reduced, reduces_from_move, move_at_next}
use Rattle.mh_tables_core.proofs.MoveCases.{goes_to_no_end, no_refusal_at_end}
use Rattle.mh_tables_core.proofs.RunEnds.{step_moves}
use Rattle.std.specs.List.{AllByRecursion}
use Rattle.mh_tables_core.specs.Run.{Rejected, initial}
use Rattle.mh_tables_core.specs.Failing.{Fails}
use Rattle.mh_facts.specs.Search.{ReachesState, IsRefusedSentence}
use Rattle.mh_facts.specs.Search as rules
use Rattle.mh_facts.proofs.StackBuilt.{StackBuilt, split, Ready, begun_before, built_top, built_long, length_more}
use Rattle.mh_facts.proofs.StackBuilt as forward

-- The configuration c of a run from r on w: its stack is built by facts, and at least one token is left.
pub record StackIsBuilt (t : TableData) (r : ℕ) (w : List ℕ) (c : Config) : Type 0 where
  pub top : ℕ
  pub before : List ℕ
  pub next : ℕ
  pub rest : List ℕ
  pub left : c.left ≡ next ∷ rest
  pub built : StackBuilt t r c.stack top before next
  pub count : c.read ≡ length before
  pub word : w ≡ before ++ (next ∷ rest)

pub top_is : (t : TableData) (r : ℕ) (stack : List ℕ) (s : ℕ) (v : List ℕ) (z : ℕ) → StackBuilt t r stack s v z → top_of stack ≡ s
top_is t r stack s v z b = let l = built_long t r stack s v z b in built_top t r stack s v z (length stack - 1) b (omega arith)

ready_none : (t : TableData) (s q m : ℕ) → m ≡ 0 → HasGoto t s q → Ready t s q m
ready_none t s q zero e h = h
ready_none t s q (suc m) e h = absurd (omega arith)

-- If a state reduces a production, its core has the production with the dot at the end, or the right side is empty and
-- the production begins in the state.
ready_full : (t : TableData) (f : Facts t) (s z q : ℕ) → length t.grammar.starts ≤ q → run_move_of t s (z ∷ []) ≡ Reduces q → Ready t s q (length (rhs_of t.grammar q))
ready_full t f s z q ordinary move =
    elim (f.complete s q (reduces_from_move t s (z ∷ []) q move)) [
      | inl there ↦ begun_before t f s q (length (rhs_of t.grammar q)) ordinary there
      | inr none ↦ ready_none t s q (length (rhs_of t.grammar q)) none.0 none.1
    ]

take_front : (a b : List ℕ) (n : ℕ) → n ≡ length a → take n (a ++ b) ≡ a
take_front a b n e = take_at a b n (sym e)

-- The stack after a reduction is built by facts.
pub record NewStackIsBuilt (t : TableData) (r : ℕ) (v : List ℕ) (z : ℕ) (new : List ℕ) : Type 0 where
  pub top : ℕ
  pub built : StackBuilt t r new top v z

pub built_reduced : (t : TableData) (f : Facts t) (r : ℕ) (stack : List ℕ) (s : ℕ) (v : List ℕ) (z q : ℕ) (new : List ℕ) → StackBuilt t r stack s v z → run_move_of t s (z ∷ []) ≡ Reduces q → reduce t q stack ≡ Some new → NewStackIsBuilt t r v z new
built_reduced t f r stack s v z q new b move e =
    let ordinary = (f.ordinary s q (reduces_from_move t s (z ∷ []) q move)).0 in
    let h = reduced t q stack new e in
    let parts = split t f r stack s v z q (length (rhs_of t.grammar q)) ordinary b (ready_full t f s z q ordinary move) h.found.states in
    let len : length stack ≡ length parts.below + length parts.above = ap length parts.is ∙ length-append parts.below parts.above in
    let kept : take (length stack - length (rhs_of t.grammar q)) stack ≡ parts.below =
    ap (take (length stack - length (rhs_of t.grammar q))) parts.is ∙ take_front parts.below parts.above (length stack - length (rhs_of t.grammar q)) (let high = parts.high in omega arith) in
    let edge : edge_of t parts.mid (N (lhs_of t.grammar q)) ≡ Some h.found.goto.0 =
    rw (← top_is t r parts.below parts.mid parts.before parts.next parts.built, ← kept) h.found.goto.1 in
    record {
      top = h.found.goto.0;
      built = forward.StackBuilt.Went q parts.built parts.derives move edge (h.is ∙ ap (λ (l : List ℕ). l ++ h.found.goto.0 ∷ []) kept) parts.word;
    }

module _ (t : TableData) (f : Facts t) (r : ℕ) (w : List ℕ) where
  StackIsBuilt-shift : (c : Config) (j : ℕ) (h : StackIsBuilt t r w c) → run_move_of t (top_of c.stack) c.left ≡ Shifts j → (rest : List ℕ) → h.rest ≡ rest → 0 < length rest
      → StackIsBuilt t r w (record { stack = c.stack ++ j ∷ []; read = c.read + 1; left = drop 1 c.left })
  StackIsBuilt-shift c j h move [] e lt = absurd (omega arith)
  StackIsBuilt-shift c j h move (y ∷ rest) e lt =
      let at : top_of c.stack ≡ h.top = top_is t r c.stack h.top h.before h.next h.built in
      let move' : run_move_of t h.top (h.next ∷ []) ≡ Shifts j = sym (move_at_next t h.top h.next h.rest) ∙ rw (at, h.left) at move in
      record {
        top = j;
        before = h.before ++ h.next ∷ [];
        next = y;
        rest = rest;
        left = ap (drop 1) h.left ∙ e;
        built = forward.StackBuilt.Pushed h.built move' refl refl;
        count = let l = length_more (h.before ++ h.next ∷ []) h.before h.next refl in let c = h.count in omega arith;
        word = h.word ∙ rw e (sym (append_assoc h.before (h.next ∷ []) (y ∷ rest)));
      }

  StackIsBuilt-reduce : (c : Config) (q : ℕ) (h : StackIsBuilt t r w c) → run_move_of t (top_of c.stack) c.left ≡ Reduces q → (o : Option (List ℕ)) → reduce t q c.stack ≡ o → StackIsBuilt t r w (next_of c (goes_to c o))
  StackIsBuilt-reduce c q h move None e = h
  StackIsBuilt-reduce c q h move (Some new) e =
      let at : top_of c.stack ≡ h.top = top_is t r c.stack h.top h.before h.next h.built in
      let move' : run_move_of t h.top (h.next ∷ []) ≡ Reduces q = sym (move_at_next t h.top h.next h.rest) ∙ rw (at, h.left) at move in
      let b = built_reduced t f r c.stack h.top h.before h.next q new h.built move' e in
      record { top = b.top; before = h.before; next = h.next; rest = h.rest; left = h.left; built = b.built; count = h.count; word = h.word }

  StackIsBuilt-move : (c : Config) (m : RunMove) (h : StackIsBuilt t r w c) → run_move_of t (top_of c.stack) c.left ≡ m → 0 < length (next_of c (step_by t c m)).left → StackIsBuilt t r w (next_of c (step_by t c m))
  StackIsBuilt-move c Accepts h e lt = h
  StackIsBuilt-move c Asks h e lt = h
  StackIsBuilt-move c Refuses h e lt = h
  StackIsBuilt-move c (Shifts j) h e lt = StackIsBuilt-shift c j h e h.rest refl (let d : drop 1 c.left ≡ h.rest = ap (drop 1) h.left in rw d at lt)
  StackIsBuilt-move c (Reduces q) h e lt = StackIsBuilt-reduce c q h e (reduce t q c.stack) refl

  StackIsBuilt-step : (c : Config) → StackIsBuilt t r w c → 0 < length (next_of c (step t c)).left → StackIsBuilt t r w (next_of c (step t c))
  StackIsBuilt-step c h lt =
      let e = step_moves t c (run_move_of t (top_of c.stack) c.left) refl in
      rw e (StackIsBuilt-move c (run_move_of t (top_of c.stack) c.left) h refl (rw e at lt))

-- A step never increases the number of tokens that are left.
left_no_longer : (c : Config) (o : Option (List ℕ)) → length (next_of c (goes_to c o)).left ≤ length c.left
left_no_longer c None = omega arith
left_no_longer c (Some new) = omega arith

left_by : (t : TableData) (c : Config) (m : RunMove) → length (next_of c (step_by t c m)).left ≤ length c.left
left_by t c Accepts = omega arith
left_by t c Asks = omega arith
left_by t c Refuses = omega arith
left_by t c (Shifts j) = let l = length-drop 1 c.left in omega arith
left_by t c (Reduces q) = left_no_longer c (reduce t q c.stack)

left_step : (t : TableData) (c : Config) → length (next_of c (step t c)).left ≤ length c.left
left_step t c = rw (step_moves t c (run_move_of t (top_of c.stack) c.left) refl) (left_by t c (run_move_of t (top_of c.stack) c.left))

pub left_after : (t : TableData) (n : ℕ) (c : Config) → length (after t n c).left ≤ length c.left
left_after t zero c = omega arith
left_after t (suc n) c = let a = left_after t n (next_of c (step t c)) in let b = left_step t c in omega arith

-- As long as a token is left, the stack of a run is built by facts.
pub StackIsBuilt-after : (t : TableData) (f : Facts t) (r : ℕ) (w : List ℕ) (n : ℕ) (c : Config) → StackIsBuilt t r w c → 0 < length (after t n c).left → StackIsBuilt t r w (after t n c)
StackIsBuilt-after t f r w zero c h lt = h
StackIsBuilt-after t f r w (suc n) c h lt =
    let l = left_after t n (next_of c (step t c)) in
    StackIsBuilt-after t f r w n (next_of c (step t c)) (StackIsBuilt-step t f r w c h (omega arith)) lt

pub StackIsBuilt-start : (t : TableData) (r : ℕ) (v : List ℕ) (z : ℕ) (rest : List ℕ) → StackIsBuilt t r (v ++ z ∷ rest) (record { stack = r ∷ []; read = 0; left = v ++ z ∷ rest })
StackIsBuilt-start t r [] z rest = record { top = r; before = []; next = z; rest = rest; left = refl; built = forward.StackBuilt.Alone; count = refl; word = refl }
StackIsBuilt-start t r (x ∷ v) z rest = record { top = r; before = []; next = x; rest = v ++ z ∷ rest; left = refl; built = forward.StackBuilt.Alone; count = refl; word = refl }

built_reaches : (t : TableData) (i : ℕ) (stack : List ℕ) (s : ℕ) (v : List ℕ) (z : ℕ) → StackBuilt t i stack s v z → ReachesState t i s z v
built_reaches t i stack s v z forward.StackBuilt.Alone = rules.ReachesState.Begins
built_reaches t i new s w z (forward.StackBuilt.Pushed {stack = stack} {v = v} {s = s0} {y = y} b move is word) = rules.ReachesState.Steps (built_reaches t i stack s0 v y b) move word
built_reaches t i new s w z (forward.StackBuilt.Went {stack = stack} {u = u} {s = s0} {y = y} q b inner move edge is word) = rules.ReachesState.Goes q (built_reaches t i stack s0 u y b) inner move edge word

-- The configuration c refuses its next token at position `at` with s on top.
pub record Refusal (t : TableData) (c : Config) (at s : ℕ) : Type 0 where
  pub move : run_move_of t (top_of c.stack) c.left ≡ Refuses
  pub read : c.read ≡ at
  pub top : top_of c.stack ≡ s

refusal_by : (t : TableData) (c : Config) (m : RunMove) (at s : ℕ) → run_move_of t (top_of c.stack) c.left ≡ m → step_by t c m ≡ Ends (Rejected at s) → Refusal t c at s
refusal_by t c Accepts at s m e = cc
refusal_by t c Asks at s m e = cc
refusal_by t c Refuses at s m e = record { move = m; read = cc; top = cc }
refusal_by t c (Shifts j) at s m e = cc
refusal_by t c (Reduces q) at s m e = absurd (goes_to_no_end c (reduce t q c.stack) (Rejected at s) e)

pub refusal : (t : TableData) (c : Config) (at s : ℕ) → step t c ≡ Ends (Rejected at s) → Refusal t c at s
refusal t c at s e = let m = step_moves t c (run_move_of t (top_of c.stack) c.left) refl in refusal_by t c (run_move_of t (top_of c.stack) c.left) at s refl (sym m ∙ e)

-- A state refuses only if a token is left.
pub refusal_left : (t : TableData) (s : ℕ) (left : List ℕ) → run_move_of t s left ≡ Refuses → 0 < length left
refusal_left t s [] e = absurd (no_refusal_at_end t s e)
refusal_left t s (z ∷ left) e = omega arith

last_known : (n : ℕ) (v : List ℕ) (z : ℕ) → AllByRecursion (λ y. y < n) (v ++ z ∷ []) → z < n
last_known n [] z h = h.0
last_known n (x ∷ v) z h = last_known n v z h.1

refused_at : (t : TableData) (i : ℕ) (w : List ℕ) (s : ℕ) (c : Config) → i < length t.grammar.starts → AllByRecursion (λ z. z < t.grammar.tokens) w → StackIsBuilt t i w c → Refusal t c (length w - 1) s → IsRefusedSentence t i w s
refused_at t i w s c start all h refusal =
    let count : length w ≡ length h.before + (length h.rest + 1) = ap length h.word ∙ length-append h.before (h.next ∷ h.rest) ∙ omega arith in
    let none : h.rest ≡ [] = nil_from_length h.rest (let a = h.count in let b = refusal.read in omega arith) in
    let word : w ≡ h.before ++ h.next ∷ [] = rw none at h.word in
    let top : h.top ≡ s = sym (top_is t i c.stack h.top h.before h.next h.built) ∙ refusal.top in
    record {
      start = start;
      last = h.next;
      known = last_known t.grammar.tokens h.before h.next (rw word at all);
      before = h.before;
      word = word;
      reaches = rw top at (built_reaches t i c.stack h.top h.before h.next h.built);
      refuses = sym (move_at_next t s h.next h.rest) ∙ rw (refusal.top, h.left) at refusal.move;
    }

refused_from : (t : TableData) (f : Facts t) (i : ℕ) (w : List ℕ) (s n : ℕ) → i < length t.grammar.starts → AllByRecursion (λ z. z < t.grammar.tokens) w → 0 < length w → Refusal t (after t n (initial i w)) (length w - 1) s → IsRefusedSentence t i w s
refused_from t f i [] s n start all lt h = absurd (omega arith)
refused_from t f i (x ∷ w) s n start all lt h =
    refused_at t i (x ∷ w) s (after t n (initial i (x ∷ w))) start all (StackIsBuilt-after t f i (x ∷ w) n (initial i (x ∷ w)) (StackIsBuilt-start t i [] x w) (refusal_left t _ _ h.move)) h

-- For each failing sentence the rules of the search derive that it is refused.
pub failing_is_refused : (t : TableData) (f : Facts t) (i : ℕ) (w : List ℕ) (s : ℕ) → Fails t i w s → IsRefusedSentence t i w s
failing_is_refused t f i w s h =
    refused_from t f i w s h.verdict.0 h.sentence.known h.sentence.tokens h.some_token (refusal t _ _ _ h.verdict.1)
