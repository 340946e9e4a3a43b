-- Proves that the tokens that are shifted after reductions on the stack of a run are the expected tokens.
use Rattle.std.proofs.Common.{◌≡◌, ◌↔◌, ℕ, zero, suc, ◌+◌, ◌<◌, ◌⊎◌, inl, inr, List, [], ◌∷◌, ◌++◌, drop, Option, Some, None, Bool, true, false, refl, ap, sym, subst, arith, ◌∙◌}
use Rattle.mh_grammar.proofs.Lists.{rising_same}
use Rattle.mh_tables_core.specs.Table.{TableData}
use Rattle.mh_tables_core.specs.Run.{Config, RunMove, Accepts, Asks, Refuses, Shifts, Reduces, initial, run_move_of, top_of, reduce, step, step_by, goes_to, next_of, Step, Ends, after, Ending, Accepted, Overshot, Rejected}
use Rattle.mh_tables_core.proofs.RunEnds.{step_moves, after_ended}
use Rattle.mh_tables_core.proofs.RefusalStays.{longer, same_step, next_longer}
use Rattle.mh_tables_core.proofs.Reductions.{after-add}
use Rattle.mh_run.proofs.RunProgress.{at}
use Rattle.mh_expected.specs.Expected.{IsExpected, ExpectedTokens}
use Rattle.mh_expected.specs.code.Trials.{Settles, is_shift, IsTried, AreTried, AsksOn}

asks_or : (m : RunMove) → (m ≡ Asks) ⊎ (m ≡ Asks → ⊥)
asks_or Accepts = inr (λ e. cc)
asks_or Asks = inl refl
asks_or Refuses = inr (λ e. cc)
asks_or (Shifts j) = inr (λ e. cc)
asks_or (Reduces p) = inr (λ e. cc)

-- A configuration that a run reaches is also reached, with more tokens left, by the run on more tokens.
pub after-longer : (t : TableData) (v : List ℕ) (n : ℕ) (c c' : Config) → after t n c ≡ c' → (m : ℕ) × (after t m (longer v c) ≡ longer v c')
after-longer t v zero c c' e = (0, ap (longer v) e)
after-longer t v (suc n) c c' e =
    elim (asks_or (run_move_of t (top_of c.stack) c.left)) [
      | inl here ↦ (0, ap (longer v) (sym (after_ended t (suc n) c (Overshot (top_of c.stack)) (step_moves t c Asks here)) ∙ e))
      | inr on ↦ (
          let next : next_of (longer v c) (step t (longer v c)) ≡ longer v (next_of c (step t c)) = ap (next_of (longer v c)) (same_step t v c.stack c.read c.left on) ∙ next_longer v c (step t c) in
          let rest = after-longer t v n (next_of c (step t c)) c' e in
          (suc rest.0, ap (after t rest.0) next ∙ rest.1))
    ]

-- A step leaves no token where no token was left.
goes_none : (c : Config) (o : Option (List ℕ)) → c.left ≡ [] → (next_of c (goes_to c o)).left ≡ []
goes_none c None e = e
goes_none c (Some stack) e = e

next_none : (t : TableData) (c : Config) (m : RunMove) → c.left ≡ [] → (next_of c (step_by t c m)).left ≡ []
next_none t c Accepts e = e
next_none t c Asks e = e
next_none t c Refuses e = e
next_none t c (Shifts j) e = ap (drop 1) e
next_none t c (Reduces p) e = goes_none c (reduce t p c.stack) e

stays_none : (t : TableData) (n : ℕ) (c : Config) → c.left ≡ [] → (after t n c).left ≡ []
stays_none t zero c e = e
stays_none t (suc n) c e =
    let m : RunMove = run_move_of t (top_of c.stack) c.left in
    stays_none t n (next_of c (step t c)) (ap (λ (s : Step). (next_of c s).left) (step_moves t c m refl) ∙ next_none t c m e)

module _ (t : TableData) (start : ℕ) (u stack : List ℕ) (a : AsksOn t start u stack) (z : ℕ) where
  abbrev first : Config
  first = initial start (u ++ z ∷ [])

  -- The run on the tokens and one more token reaches the same stack, with this token left.
  asked : (n : ℕ) × (after t n first ≡ at stack a.read (z ∷ []))
  asked = after-longer t (z ∷ []) a.steps (initial start u) (at stack a.read []) a.reaches

  settled : (new : List ℕ) (m : RunMove) → Settles t (Some z) stack new m → (n : ℕ) × (after t n first ≡ at new a.read (z ∷ []))
  settled new m s = (asked.0 + s.count, after-add t asked.0 s.count first ∙ ap (after t s.count) asked.1 ∙ s.leads.reaches a.read [])

  is_expected : (new : List ℕ) (j : ℕ) → Settles t (Some z) stack new (Shifts j) → z < t.grammar.tokens → IsExpected t start u z
  is_expected new j s lt =
      let l = settled new (Shifts j) s in
      let here : Config = at new a.read (z ∷ []) in
      record {
        known = lt;
        steps = l.0 + 1;
        shifted = ap (λ (c : Config). c.left) (after-add t l.0 1 first ∙ ap (after t 1) l.1 ∙ ap (next_of here) (step_moves t here (Shifts j) s.next));
      }

  -- If the run ends before it shifts the token, the token is not expected.
  not_expected : (new : List ℕ) (m : RunMove) (how : Ending) → Settles t (Some z) stack new m → step_by t (at new a.read (z ∷ [])) m ≡ Ends how → IsExpected t start u z → ⊥
  not_expected new m how s e x =
      let l = settled new m s in
      let here : Config = at new a.read (z ∷ []) in
      let ended : step t here ≡ Ends how = step_moves t here m s.next ∙ e in
      let stays : after t (l.0 + x.steps) first ≡ here = after-add t l.0 x.steps first ∙ ap (after t x.steps) l.1 ∙ after_ended t x.steps here how ended in
      let none : (after t (x.steps + l.0) first).left ≡ [] = ap (λ (c : Config). c.left) (after-add t x.steps l.0 first) ∙ stays_none t l.0 (after t x.steps first) x.shifted in
      let n : l.0 + x.steps ≡ x.steps + l.0 = omega arith in
      let both : z ∷ [] ≡ [] = sym (ap (λ (c : Config). c.left) stays) ∙ ap (λ (k : ℕ). (after t k first).left) n ∙ none in cc

  by_move : (new : List ℕ) (m : RunMove) → Settles t (Some z) stack new m → z < t.grammar.tokens → (is_shift m ≡ true) ↔ IsExpected t start u z
  by_move new Accepts s lt = (λ e. cc, λ x. absurd (not_expected new Accepts (Accepted a.read) s refl x))
  by_move new Asks s lt = (λ e. cc, λ x. absurd (not_expected new Asks (Overshot (top_of new)) s refl x))
  by_move new Refuses s lt = (λ e. cc, λ x. absurd (not_expected new Refuses (Rejected a.read (top_of new)) s refl x))
  by_move new (Shifts j) s lt = (λ e. is_expected new j s lt, λ x. refl)
  by_move new (Reduces p) s lt = absurd (s.settled p refl)

  tried : (shifted : Bool) → IsTried t stack z shifted → z < t.grammar.tokens → (shifted ≡ true) ↔ IsExpected t start u z
  tried shifted h lt = let b = by_move h.new h.move h.settles lt in (λ e. b.0 (sym h.is ∙ e), λ x. h.is ∙ b.1 x)

-- If the run asks for a token on a stack, the tokens that are shifted on this stack are exactly the expected tokens.
pub all_expected : (t : TableData) (start : ℕ) (u stack list : List ℕ) → AsksOn t start u stack → AreTried t stack list t.grammar.tokens → ExpectedTokens t start u list
all_expected t start u stack list a h = record {
  rising = h.rising;
  exact = λ z. (
    (λ c. let lt : z < t.grammar.tokens = h.below z c in
        let e = h.each z lt in (tried t start u stack a z e.0 e.1 lt).0 (e.2.0 c)),
    (λ x. let e = h.each z x.known in e.2.1 ((tried t start u stack a z e.0 e.1 x.known).1 x)),
  );
}

-- Two lists of expected tokens after the same tokens are equal.
pub one_list : (t : TableData) (start : ℕ) (u a b : List ℕ) → ExpectedTokens t start u a → ExpectedTokens t start u b → a ≡ b
one_list t start u a b h k = rising_same (λ y z. y < z) (λ y z l m. omega arith) a b h.rising k.rising (λ z. ((λ c. (k.exact z).1 ((h.exact z).0 c)), (λ c. (h.exact z).1 ((k.exact z).0 c))))
