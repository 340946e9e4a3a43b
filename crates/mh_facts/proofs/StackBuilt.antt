-- Lemmas on runs, seen as stacks that are built by derivations of facts.
use Rattle.std.proofs.Common.{◌≡◌, ℕ, zero, suc, ◌+◌, ◌-◌, ◌<◌, ◌≤◌, inl, inr, List, [], ◌∷◌, ◌++◌, length, get_or, Some, refl, ap, sym, arith, length-append, append_assoc, append-nil, ◌∙◌}
use Rattle.std.specs.List.{slice_get}
use Rattle.mh_grammar.specs.declared.types.Symbol.{Symbol}
use Rattle.mh_grammar.specs.declared.types.Symbol.TheVariants.{T, N}
use Rattle.mh_tables_core.specs.Table.{TableData, edge_of}
use Rattle.mh_grammar.specs.Plain.{rhs_of, lhs_of}
use Rattle.mh_tables_core.specs.Facts.{Facts, InCore, HasGoto}
use Rattle.mh_tables_core.specs.Run.{Shifts, Reduces, run_move_of}
use Rattle.std.proofs.Math.Seq.{get_or-append_seam}
use Rattle.mh_tables_core.proofs.IsPath.{no_dot_at_beginning}
use Rattle.mh_tables_core.proofs.Reductions.{shifts_from_move}
use Rattle.mh_facts.specs.Search.{leading_token, DerivesFact}
use Rattle.mh_facts.specs.Search as rules

-- A run from r alone with v and then z to come has shifted v; its stack has s on top, and each of its states was pushed
-- by a shift or by a reduction that facts derive.
pub data StackBuilt (t : TableData) (r : ℕ) : (stack : List ℕ) (s : ℕ) (v : List ℕ) (z : ℕ) → Type 0 where
  Alone : {z : ℕ} → StackBuilt t r (r ∷ []) r [] z
  Pushed : {stack new v w : List ℕ} {s z y j : ℕ} → StackBuilt t r stack s v y → run_move_of t s (y ∷ []) ≡ Shifts j → new ≡ stack ++ j ∷ [] → w ≡ v ++ y ∷ [] → StackBuilt t r new j w z
  Went : {stack new u v w : List ℕ} {s z y g e : ℕ} (q : ℕ) → StackBuilt t r stack s u y → DerivesFact t s q (length (rhs_of t.grammar q)) y z v e → run_move_of t e (z ∷ []) ≡ Reduces q
      → edge_of t s (N (lhs_of t.grammar q)) ≡ Some g → new ≡ stack ++ g ∷ [] → w ≡ u ++ v → StackBuilt t r new g w z

-- The production q with the dot at d is in the core of the state, or d is 0 and q begins in the state.
abbrev pub Ready : TableData → ℕ → ℕ → ℕ → Type 0
Ready t s q zero = HasGoto t s q
Ready t s q (suc d) = InCore t s q (suc d)

-- The symbol of q at the dot d is x, and q with the dot at d is ready in r.
pub record EdgeBefore (t : TableData) (r : ℕ) (x : Symbol) (q d : ℕ) : Type 0 where
  pub symbol : slice_get (rhs_of t.grammar q) d ≡ Some x
  pub ready : Ready t r q d

pub begun_before : (t : TableData) (f : Facts t) (r q d : ℕ) → length t.grammar.starts ≤ q → InCore t r q d → Ready t r q d
begun_before t f r q zero ordinary there = absurd (no_dot_at_beginning t f r q ordinary there)
begun_before t f r q (suc d) ordinary there = there

first_before : (t : TableData) (r q d : ℕ) → suc d ≡ 1 → HasGoto t r q → Ready t r q d
first_before t r q zero e h = h
first_before t r q (suc d) e h = absurd (omega arith)

pub ready_before : (t : TableData) (f : Facts t) (r : ℕ) (x : Symbol) (u q d : ℕ) → length t.grammar.starts ≤ q → edge_of t r x ≡ Some u → InCore t u q (suc d) → EdgeBefore t r x q d
ready_before t f r x u q d ordinary edge there =
    let back = f.moved_from r x u q (suc d) edge there in
    let e : suc d - 1 ≡ d = omega arith in
    record {
      symbol = rw e at back.symbol;
      ready = elim back.source [
        | inl before ↦ begun_before t f r q d ordinary (rw e at before)
        | inr first ↦ first_before t r q d first.0 first.2
      ];
    }

-- A stack is cut d states below its top: a derivation along the first d symbols of q built the upper part.
pub record Split (t : TableData) (r : ℕ) (stack : List ℕ) (s : ℕ) (v : List ℕ) (z q d : ℕ) : Type 0 where
  pub below : List ℕ
  pub above : List ℕ
  pub is : stack ≡ below ++ above
  pub high : length above ≡ d
  pub mid : ℕ
  pub next : ℕ
  pub before : List ℕ
  pub after : List ℕ
  pub built : StackBuilt t r below mid before next
  pub derives : DerivesFact t mid q d next z after s
  pub word : v ≡ before ++ after

append_nil : (l : List ℕ) → l ≡ l ++ []
append_nil l = sym (append-nil l)

append_last : (a b c : List ℕ) (x : ℕ) → a ≡ b ++ c → a ++ x ∷ [] ≡ b ++ (c ++ x ∷ [])
append_last a b c x e = rw e (append_assoc b c (x ∷ []))

append_more : (a b c d : List ℕ) → a ≡ b ++ c → a ++ d ≡ b ++ (c ++ d)
append_more a b c d e = rw e (append_assoc b c d)

pub length_more : (a b : List ℕ) (x : ℕ) → a ≡ b ++ x ∷ [] → length a ≡ length b + 1
length_more a b x e = rw e (length-append b (x ∷ []))

split_none : (t : TableData) (r : ℕ) (stack : List ℕ) (s : ℕ) (v : List ℕ) (z q : ℕ) → length t.grammar.starts ≤ q → HasGoto t s q → StackBuilt t r stack s v z → Split t r stack s v z q 0
split_none t r stack s v z q ordinary goto b = record {
  below = stack;
  above = [];
  is = append_nil stack;
  high = refl;
  mid = s;
  next = z;
  before = v;
  after = [];
  built = b;
  derives = rules.DerivesFact.Empty ordinary goto;
  word = append_nil v;
}

pub split : (t : TableData) (f : Facts t) (r : ℕ) (stack : List ℕ) (s : ℕ) (v : List ℕ) (z q d : ℕ) → length t.grammar.starts ≤ q → StackBuilt t r stack s v z → Ready t s q d → d < length stack → Split t r stack s v z q d
split t f r stack s v z q zero ordinary b ready lt = split_none t r stack s v z q ordinary ready b
split t f r stack s v z q (suc d) ordinary Alone ready lt = absurd (omega arith)
split t f r stack s v z q (suc d) ordinary (Pushed {stack = old} {v = v0} {s = s0} {y = y} b move is word) ready lt =
    let edge : edge_of t s0 (T y) ≡ Some s = f.shifts s0 y s (shifts_from_move t s0 y [] s move) in
    let back = ready_before t f s0 (T y) s q d ordinary edge ready in
    let len : length stack ≡ length old + 1 = length_more stack old s is in
    let h = split t f r old s0 v0 y q d ordinary b back.ready (omega arith) in
    record {
      below = h.below;
      above = h.above ++ s ∷ [];
      is = is ∙ append_last old h.below h.above s h.is;
      high = let e = h.high in let l = length-append h.above (s ∷ []) in omega arith;
      mid = h.mid;
      next = h.next;
      before = h.before;
      after = h.after ++ y ∷ [];
      built = h.built;
      derives = rules.DerivesFact.Shifted h.derives back.symbol move refl;
      word = word ∙ append_last v0 h.before h.after y h.word;
    }
split t f r stack s v z q (suc d) ordinary (Went {stack = old} {u = u0} {v = v0} {s = s0} {y = y} p b inner move edge is word) ready lt =
    let back = ready_before t f s0 (N (lhs_of t.grammar p)) s q d ordinary edge ready in
    let len : length stack ≡ length old + 1 = length_more stack old s is in
    let h = split t f r old s0 u0 y q d ordinary b back.ready (omega arith) in
    record {
      below = h.below;
      above = h.above ++ s ∷ [];
      is = is ∙ append_last old h.below h.above s h.is;
      high = let e = h.high in let l = length-append h.above (s ∷ []) in omega arith;
      mid = h.mid;
      next = h.next;
      before = h.before;
      after = h.after ++ v0;
      built = h.built;
      derives = rules.DerivesFact.Reduced p h.derives back.symbol inner move edge refl;
      word = word ∙ append_more u0 h.before h.after v0 h.word;
    }

-- The first token of two words in sequence is that of the first word, or that of the second if the first word is empty.
pub leading_token-append : (u v : List ℕ) (z : ℕ) → leading_token (u ++ v) z ≡ leading_token u (leading_token v z)
leading_token-append [] v z = refl
leading_token-append (x ∷ u) v z = refl

-- The parameter a of a derivation is its first token to come.
pub leading_token-derives : (t : TableData) (r p d a z : ℕ) (v : List ℕ) (s : ℕ) → DerivesFact t r p d a z v s → leading_token v z ≡ a
leading_token-derives t r p d a z v s (rules.DerivesFact.Empty o g) = refl
leading_token-derives t r p d a z w j (rules.DerivesFact.Shifted {x = x} {s = s} {v = v} h e m is) = rw is (leading_token-append v (x ∷ []) z ∙ leading_token-derives t r p _ a x v s h)
leading_token-derives t r p d a z w g (rules.DerivesFact.Reduced {y = y} {s = s} {e = e} {u = u} {v = v} q h sym' inner m edge is) =
    rw is (leading_token-append u v z ∙ ap (leading_token u) (leading_token-derives t s q _ y z v e inner) ∙ leading_token-derives t r p _ a y u s h)

pub built_long : (t : TableData) (r : ℕ) (stack : List ℕ) (s : ℕ) (v : List ℕ) (z : ℕ) → StackBuilt t r stack s v z → 0 < length stack
built_long t r stack s v z Alone = omega arith
built_long t r new s v z (Pushed {stack = stack} b m is w) = let l = length_more new stack s is in omega arith
built_long t r new s v z (Went {stack = stack} q b inner m edge is w) = let l = length_more new stack s is in omega arith

pub built_top : (t : TableData) (r : ℕ) (stack : List ℕ) (s : ℕ) (v : List ℕ) (z n : ℕ) → StackBuilt t r stack s v z → length stack ≡ suc n → get_or stack n 0 ≡ s
built_top t r stack s v z zero Alone e = refl
built_top t r stack s v z (suc n) Alone e = absurd (omega arith)
built_top t r new s v z n (Pushed {stack = stack} b m is w) e =
    let len : length new ≡ length stack + 1 = length_more new stack s is in
    let at : n ≡ length stack = omega arith in
    rw (is, at) (get_or-append_seam stack s [] 0)
built_top t r new s v z n (Went {stack = stack} q b inner m edge is w) e =
    let len : length new ≡ length stack + 1 = length_more new stack s is in
    let at : n ≡ length stack = omega arith in
    rw (is, at) (get_or-append_seam stack s [] 0)
