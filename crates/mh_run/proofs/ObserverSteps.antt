-- Lemmas on the values of observers after steps of a run.
use Rattle.std.proofs.Common.{◌≡◌, ℕ, zero, suc, ◌+◌, List, length, Option, Some, None, refl, ap, arith, ◌∙◌}
use Rattle.mh_grammar.specs.Plain.{rhs_of}
use Rattle.mh_tables_core.specs.Table.{TableData}
use Rattle.mh_tables_core.specs.Run.{Config, RunMove, Reduces, run_move_of, top_of, reduce, step, goes_to, next_of, after}
use Rattle.mh_tables_core.specs.Halting.{look_list}
use Rattle.mh_tables_core.proofs.Reductions.{move_at_next}
use Rattle.mh_tables_core.proofs.RunEnds.{step_moves}
use Rattle.mh_run.specs.code.Observers.{Observer, observed, observed_after}
use Rattle.mh_run.specs.code.Reductions.{left_with, config_with, StepsLead}

-- The configuration after n + 1 steps is one step after the configuration after n steps.
pub after_one_more : (t : TableData) (n : ℕ) (c : Config) → after t (suc n) c ≡ next_of (after t n c) (step t (after t n c))
after_one_more t zero c = refl
after_one_more t (suc n) c = after_one_more t n (next_of c (step t c))

-- The next move depends only on the next token.
pub run_move_of-look : (t : TableData) (s : ℕ) (look : Option ℕ) (rest : List ℕ) → run_move_of t s (left_with look rest) ≡ run_move_of t s (look_list look)
run_move_of-look t s None rest = refl
run_move_of-look t s (Some z) rest = move_at_next t s z rest

module _ {S : Type 0} (f : Observer S) (t : TableData) where
  -- The observed value after n + 1 steps is the value after n steps, changed by the move of the next step.
  pub observed_after-suc : (n : ℕ) (c : Config) (s : S) → observed_after f t (suc n) c s ≡ observed f t (run_move_of t (top_of (after t n c).stack) (after t n c).left) (after t n c).left (observed_after f t n c s)
  observed_after-suc zero c s = refl
  observed_after-suc (suc n) c s = observed_after-suc n (next_of c (step t c)) (observed f t (run_move_of t (top_of c.stack) c.left) c.left s)

  -- Observing n + m steps is observing n steps, and then m steps from the configuration and the value after these.
  pub observed_after-add : (n m : ℕ) (c : Config) (s : S) → observed_after f t (n + m) c s ≡ observed_after f t m (after t n c) (observed_after f t n c s)
  observed_after-add zero m c s = let e : zero + m ≡ m = omega arith in rw e refl
  observed_after-add (suc n) m c s = let e : suc n + m ≡ suc (n + m) = omega arith in rw e (observed_after-add n m (next_of c (step t c)) (observed f t (run_move_of t (top_of c.stack) c.left) c.left s))

  -- Zero steps lead from a configuration to itself.
  pub leads_none : (look : Option ℕ) (old : List ℕ) (before : S) → StepsLead f t look 0 old old before before
  leads_none look old before = record { reaches = λ read rest. refl; value = λ read rest. refl }

  module _ (look : Option ℕ) (n : ℕ) (old stack : List ℕ) (before s : S) (h : StepsLead f t look n old stack before s) (p : ℕ) (m : run_move_of t (top_of stack) (look_list look) ≡ Reduces p) where
    -- After one more reduction the value is the observer's value for this reduction.
    value_more : (read : ℕ) (rest : List ℕ) → observed_after f t (suc n) (config_with old read look rest) before ≡ f.reduced s (length (rhs_of t.grammar p)) p
    value_more read rest =
        let first : Config = config_with old read look rest in
        observed_after-suc n first before
        ∙ ap (λ (c : Config). observed f t (run_move_of t (top_of c.stack) c.left) c.left (observed_after f t n first before)) (h.reaches read rest)
        ∙ ap (observed f t (run_move_of t (top_of stack) (left_with look rest)) (left_with look rest)) (h.value read rest)
        ∙ ap (λ (x : RunMove). observed f t x (left_with look rest) s) (run_move_of-look t (top_of stack) look rest ∙ m)

    pub leads_more : (new : List ℕ) → reduce t p stack ≡ Some new → StepsLead f t look (suc n) old new before (f.reduced s (length (rhs_of t.grammar p)) p)
    leads_more new is = record {
      reaches = λ read rest.
          let here : Config = config_with stack read look rest in
          after_one_more t n (config_with old read look rest)
          ∙ ap (λ (c : Config). next_of c (step t c)) (h.reaches read rest)
          ∙ ap (next_of here) (step_moves t here (Reduces p) (run_move_of-look t (top_of stack) look rest ∙ m) ∙ ap (goes_to here) is);
      value = value_more;
    }
