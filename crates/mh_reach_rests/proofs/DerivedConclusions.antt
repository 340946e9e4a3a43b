-- Proves that each rule gives a sound conclusion. The word of the conclusion has the words of its premises as a prefix
-- or a suffix.
use Rattle.std.proofs.Common.{◌≡◌, ℕ, suc, ◌+◌, ◌-◌, ◌<◌, ◌≤◌, ◌⊎◌, inl, inr, List, [], ◌∷◌, ◌++◌, length, Some, refl, ap, sym, subst, arith}
use Rattle.std.specs.Prelude.{min, slice_get}
use Rattle.std.proofs.lemmas.Grind.{common_steps}
use Rattle.mh_grammar.specs.declared.types.Symbol.TheVariants.{T, N}
use Rattle.mh_grammar.specs.Plain.{rhs_of}
use Rattle.mh_tables_core.specs.Failing.{cost_by}
use Rattle.mh_tables_core.specs.Table.{TableData, cost_of_token}
use Rattle.mh_tables_core.specs.Facts.{Facts}
use Rattle.mh_tables_core.specs.Run.{Shifts, Reduces, run_move_of}
use Rattle.mh_facts.specs.Costs.{cap}
use Rattle.mh_facts.specs.declared.classes.TokenClasses.{TokenClasses}
use Rattle.mh_facts.specs.code.TokenClasses.{AreTokenClasses, rep_of}
use Rattle.mh_facts.specs.code.WordCosts.{before_dot, cost_up_to_cap, weigh}
use Rattle.mh_facts.proofs.Edges.{known_token, shift_target}
use Rattle.mh_facts.proofs.WordCosts.{both_costs_zero, capped_both, cost_not_zero, no_lower, no_lower_back, token_cost_positive, weigh_known}
use Rattle.mh_reach_rests.specs.declared.conclusions.Conclusion.{Conclusion}
use Rattle.mh_reach_rests.specs.declared.sought.Sought.TheVariants as soughts
use Rattle.mh_reach_rests.specs.declared.waiting.Origin.TheVariants as origins
use Rattle.mh_reach_rests.specs.declared.waiting.SettledRest.{SettledRest}
use Rattle.mh_reach_rests.specs.declared.waiting.SettledGoto.{SettledGoto}
use Rattle.mh_reach_rests.specs.code.ClosedRests.{IsSoundGoto, IsSoundRest}
use Rattle.mh_reach_rests.specs.code.RestRules.{FitsRest, IsGotoInRange, IsRestToJoin, after_goto, after_token}
use Rattle.mh_reach_rests.specs.code.RestSearch.{Settled}
use Rattle.mh_reach_rests.proofs.ConcludedItems.{IsDerived}
use Rattle.mh_reach_rests.proofs.RestRanges.{end_range, goto_range, token_range}
use Rattle.mh_reach_rests.proofs.SoundRests.{sound_end, sound_join, sound_shift}

-- A settled rest is in range, and its word is sound.
pub record IsSettledRest (t : TableData) (c : TokenClasses) (words : Settled) (r : SettledRest) (word : List ℕ) : Type 0 where
  pub range : IsRestToJoin t r
  pub stored : words (soughts.Rest r.key) ≡ Some word
  pub cost_is : r.cost ≡ cost_up_to_cap t word
  pub short : r.cost ≡ 0 → word ≡ []
  pub sound : IsSoundRest t (rep_of c) r.key.from r.key.production r.key.dot r.key.first r.key.next word

-- A settled goto fact is in range, and its word is sound.
pub record IsSettledGoto (t : TableData) (c : TokenClasses) (words : Settled) (g : SettledGoto) (word : List ℕ) : Type 0 where
  pub range : IsGotoInRange t g
  pub stored : words (soughts.Goto g.fact) ≡ Some word
  pub cost_is : g.cost ≡ cost_up_to_cap t word
  pub short : g.cost ≡ 0 → word ≡ []
  pub sound : IsSoundGoto t (rep_of c) g.fact.from g.fact.nonterminal g.fact.first g.fact.next word

-- The word w is a prefix or a suffix of u.
abbrev pub IsPart : List ℕ → List ℕ → Type 0
IsPart w u = ((r : List ℕ) × (u ≡ w ++ r)) ⊎ ((r : List ℕ) × (u ≡ r ++ w))

-- The conclusion is derived with the word u, which has w as a prefix or a suffix; it costs at least the level.
pub record IsDerivedFrom (t : TableData) (c : TokenClasses) (words : Settled) (w : List ℕ) (level : ℕ) (k : Conclusion) (u : List ℕ) : Type 0 where
  pub derived : IsDerived t c words k u
  pub part : IsPart w u
  pub at_least_level : level ≤ k.cost

front_sum : (n a b v : ℕ) → a ≡ b → n ≡ min v cap → min (n + b) cap ≡ min (a + v) cap
front_sum n a b v e g = grind (arith, common_steps, e, g)

-- The cost, up to the highest cost, of a word after a token.
capped_front : (t : TableData) (f : Facts t) (x : ℕ) (v : List ℕ) (n : ℕ) → x < t.grammar.tokens → n ≡ cost_up_to_cap t v → min (n + cost_of_token t x) cap ≡ cost_up_to_cap t (x ∷ v)
capped_front t f x v n lt e = front_sum n (weigh t x) (cost_of_token t x) (cost_by (weigh t) v) (weigh_known t f x lt) e

empty_word_of : (u v : List ℕ) → u ≡ [] → v ≡ [] → u ++ v ≡ []
empty_word_of u v e g = rw (e, g) refl

module _ (t : TableData) (f : Facts t) (c : TokenClasses) (cls : AreTokenClasses t c) (words : Settled) where
  pub end_derived : (s p z : ℕ) → s < length t.states → z < t.grammar.tokens → run_move_of t s (z ∷ []) ≡ Reduces p
      → IsDerived t c words (record { key = record { from = s; production = p; dot = length (rhs_of t.grammar p); first = rep_of c s z; next = rep_of c s z }; end = s; cost = 0; origin = origins.Ended }) []
  end_derived s p z known lt move = record {
    range = end_range t f c cls s p z known lt move;
    word_by = refl;
    cost_is = refl;
    short = λ free. refl;
    sound = sound_end t f (rep_of c) s p z;
  }

  token_derived : (r : SettledRest) (v : List ℕ) (h : IsSettledRest t c words r v) (s x : ℕ) → s < length t.states → slice_get (rhs_of t.grammar r.key.production) (r.key.dot - 1) ≡ Some (T x) → run_move_of t s (x ∷ []) ≡ Shifts r.key.from → IsDerived t c words (after_token t c r s x) (x ∷ v)
  token_derived r v h s x known symbol move =
      let edge = shift_target t f s x r.key.from move in
      let x_known = known_token t f s x r.key.from edge in
      let begun : 0 < r.key.dot = h.range.begun in
      let dot : r.key.dot ≡ suc (r.key.dot - 1) = omega (arith, begun) in
      let sound : IsSoundRest t (rep_of c) r.key.from r.key.production (suc (r.key.dot - 1)) r.key.first r.key.next v = subst (λ (d : ℕ). IsSoundRest t (rep_of c) r.key.from r.key.production d r.key.first r.key.next v) dot h.sound in
      let last : before_dot t r.key ≡ x ∷ [] = rw symbol refl in
      record {
        range = token_range t f c cls r s x h.range known symbol move;
        word_by = (v, h.stored, ap (λ (l : List ℕ). l ++ v) (sym last));
        cost_is = capped_front t f x v r.cost x_known h.cost_is;
        short = λ free. absurd (cost_not_zero r.cost (cost_of_token t x) (token_cost_positive t f x x_known) free);
        sound = sound_shift t f (rep_of c) s r.key.production (r.key.dot - 1) x r.key.first r.key.next r.key.from v symbol move sound;
      }

  goto_derived : (g : SettledGoto) (r : SettledRest) (u v : List ℕ) (i : IsSettledGoto t c words g u) (h : IsSettledRest t c words r v) → FitsRest t g r → IsDerived t c words (after_goto g r) (u ++ v)
  goto_derived g r u v i h fits =
      let begun : 0 < r.key.dot = h.range.begun in
      let dot : r.key.dot ≡ suc (r.key.dot - 1) = omega (arith, begun) in
      let sound : IsSoundRest t (rep_of c) r.key.from r.key.production (suc (r.key.dot - 1)) r.key.first r.key.next v = subst (λ (d : ℕ). IsSoundRest t (rep_of c) r.key.from r.key.production d r.key.first r.key.next v) dot h.sound in
      let there : IsSoundRest t (rep_of c) g.target r.key.production (suc (r.key.dot - 1)) r.key.first r.key.next v = subst (λ (s : ℕ). IsSoundRest t (rep_of c) s r.key.production (suc (r.key.dot - 1)) r.key.first r.key.next v) (sym fits.target) sound in
      let after : IsSoundRest t (rep_of c) g.target r.key.production (suc (r.key.dot - 1)) g.fact.next r.key.next v = subst (λ (y : ℕ). IsSoundRest t (rep_of c) g.target r.key.production (suc (r.key.dot - 1)) y r.key.next v) (sym fits.next) there in
      let target = f.each_target g.fact.from (N g.fact.nonterminal) g.target i.range.edge in
      record {
        range = goto_range t f c cls g r i.range h.range fits;
        word_by = (u, v, i.stored, h.stored, refl);
        cost_is = capped_both t u v g.cost r.cost i.cost_is h.cost_is;
        short = λ free. (let both = both_costs_zero g.cost r.cost free in empty_word_of u v (i.short both.0) (h.short both.1));
        sound = sound_join t f (rep_of c) g.fact.from r.key.production (r.key.dot - 1) g.fact.nonterminal g.fact.first g.fact.next r.key.next g.target u v target fits.symbol i.range.edge i.sound after;
      }

  -- The conclusions from a rest that is settled at a level.
  pub token_from : (r : SettledRest) (v : List ℕ) (h : IsSettledRest t c words r v) (s x : ℕ) → s < length t.states → slice_get (rhs_of t.grammar r.key.production) (r.key.dot - 1) ≡ Some (T x) → run_move_of t s (x ∷ []) ≡ Shifts r.key.from → IsDerivedFrom t c words v r.cost (after_token t c r s x) (x ∷ v)
  token_from r v h s x known symbol move = record {
    derived = token_derived r v h s x known symbol move;
    part = inr (x ∷ [], refl);
    at_least_level = no_lower r.cost (cost_of_token t x) h.range.range.most;
  }

  pub rest_from : (g : SettledGoto) (r : SettledRest) (u v : List ℕ) (i : IsSettledGoto t c words g u) (h : IsSettledRest t c words r v) → FitsRest t g r → IsDerivedFrom t c words v r.cost (after_goto g r) (u ++ v)
  rest_from g r u v i h fits = record { derived = goto_derived g r u v i h fits; part = inr (u, refl); at_least_level = no_lower_back g.cost r.cost h.range.range.most }

  -- The conclusion from a goto fact that is settled at a level.
  pub goto_from : (g : SettledGoto) (r : SettledRest) (u v : List ℕ) (i : IsSettledGoto t c words g u) (h : IsSettledRest t c words r v) → FitsRest t g r → IsDerivedFrom t c words u g.cost (after_goto g r) (u ++ v)
  goto_from g r u v i h fits = record { derived = goto_derived g r u v i h fits; part = inl (v, refl); at_least_level = no_lower g.cost r.cost i.range.most }
