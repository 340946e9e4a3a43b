-- Lemmas on the words that a conclusion puts into the queue.
use Rattle.std.proofs.Common.{◌≡◌, ℕ, zero, suc, inr, List, [], ◌∷◌, length, Some, refl, ap, sym, subst, arith, ◌∙◌}
use Rattle.std.specs.List.{Contains}
use Rattle.std.specs.Global.{Vec}
use Rattle.mh_grammar.specs.declared.types.Symbol.TheVariants.{N}
use Rattle.mh_grammar.specs.Plain.{rhs_of, lhs_of}
use Rattle.mh_tables_core.specs.Table.{TableData, edge_of}
use Rattle.mh_tables_core.specs.Facts.{Facts}
use Rattle.mh_tables_core.specs.Run.{Reduces, run_move_of}
use Rattle.mh_facts.specs.declared.classes.TokenClasses.{TokenClasses}
use Rattle.mh_facts.specs.code.BestFirst.{IsPathEnd, key}
use Rattle.mh_facts.specs.code.Queues.{IsSameQueueEntry, QueueGains}
use Rattle.mh_facts.specs.code.TokenClasses.{AreTokenClasses, rep_of, representatives_at}
use Rattle.mh_facts.specs.code.WordCosts.{WordNoLater, cost_up_to_cap}
use Rattle.mh_facts.proofs.IsPathEnd.{Congruent-representatives, path_end_unique}
use Rattle.mh_facts.proofs.WordCosts.{order_laws}
use Rattle.mh_reach_rests.specs.declared.conclusions.Conclusion.{Conclusion}
use Rattle.mh_reach_rests.specs.declared.sought.Sought.TheVariants as soughts
use Rattle.mh_reach_rests.specs.declared.waiting.WaitingWord.{WaitingWord}
use Rattle.mh_reach_rests.specs.code.ClosedRests.{IsSoundGoto, IsSoundRest}
use Rattle.mh_reach_rests.specs.code.RestLevels.{IsSoundItem, WaitsFor}
use Rattle.mh_reach_rests.specs.code.RestRules.{EndsIn, IsConcludedAt, IsGotoOf, IsRestInRange}
use Rattle.mh_reach_rests.specs.code.RestSearch.{Concludes, IsPendingBefore, Settled, goto}
use Rattle.mh_reach_rests.specs.code.SettledWords.{IsOriginWord}
use Rattle.mh_reach_rests.proofs.SoundRests.{sound_goto_of_rest}

-- The conclusion is in range, and the word is sound for it.
pub record IsDerived (t : TableData) (c : TokenClasses) (words : Settled) (k : Conclusion) (word : List ℕ) : Type 0 where
  pub range : IsRestInRange t k.key k.end k.cost
  pub word_by : IsOriginWord t words k.origin word
  pub cost_is : k.cost ≡ cost_up_to_cap t word
  pub short : k.cost ≡ 0 → word ≡ []
  pub sound : IsSoundRest t (rep_of c) k.key.from k.key.production k.key.dot k.key.first k.key.next word

-- The only word of a conclusion that has symbols before it.
pub rest_concluded : (t : TableData) (c : TokenClasses) (k : Conclusion) (dot : ℕ) → (dot ≡ 0 → ⊥) → (old new : List (Vec WaitingWord)) → QueueGains (IsSameQueueEntry k.cost (record { sought = soughts.Rest k.key; end = k.end; origin = k.origin })) old new → QueueGains (IsConcludedAt t c k dot) old new
rest_concluded t c k zero some old new g = absurd (some refl)
rest_concluded t c k (suc d) some old new g = g

-- The words of a conclusion have its cost and its origin.
pub concluded_cost : (t : TableData) (c : TokenClasses) (k : Conclusion) (dot cost : ℕ) (o : WaitingWord) → IsConcludedAt t c k dot cost o → cost ≡ k.cost
concluded_cost t c k zero cost o h = let one : (x : ℕ) × Contains (representatives_at c h.0) x × IsGotoOf t c k h.0 x cost o = h.2 in (one.2).cost_is
concluded_cost t c k (suc d) cost o h = h.0

pub concluded_origin : (t : TableData) (c : TokenClasses) (k : Conclusion) (dot cost : ℕ) (o : WaitingWord) → IsConcludedAt t c k dot cost o → o.origin ≡ k.origin
concluded_origin t c k zero cost o h = let one : (x : ℕ) × Contains (representatives_at c h.0) x × IsGotoOf t c k h.0 x cost o = h.2 in ap (λ (i : WaitingWord). i.origin) (one.2).is
concluded_origin t c k (suc d) cost o h = ap (λ (i : WaitingWord). i.origin) h.1

module _ (t : TableData) (f : Facts t) (c : TokenClasses) (cls : AreTokenClasses t c) (words : Settled) (k : Conclusion) (word : List ℕ) (d : IsDerived t c words k word) where
  -- A whole path ends in the state at the end.
  whole_end : k.key.dot ≡ 0 → IsPathEnd t k.key.from k.key.production (length (rhs_of t.grammar k.key.production)) k.end
  whole_end none = let at_end : EndsIn t k.key.from k.key.production 0 k.end = subst (λ (m : ℕ). EndsIn t k.key.from k.key.production m k.end) none d.range.at_end in at_end k.key.from refl

  -- The words of a conclusion are sound.
  pub concluded_sound : (dot : ℕ) → k.key.dot ≡ dot → (cost : ℕ) (o : WaitingWord) → IsConcludedAt t c k dot cost o → IsSoundItem t (rep_of c) words cost o
  concluded_sound zero none cost o h =
      let target : ℕ = h.0 in
      let edge : edge_of t k.key.from (N (lhs_of t.grammar k.key.production)) ≡ Some target = h.1 in
      let one : (x : ℕ) × Contains (representatives_at c target) x × IsGotoOf t c k target x cost o = h.2 in
      let x : ℕ = one.0 in
      let is : IsGotoOf t c k target x cost o = one.2 in
      let listed = cls.list_only target x one.1 in
      let rest : IsSoundRest t (rep_of c) k.key.from k.key.production 0 k.key.first k.key.next word = subst (λ (m : ℕ). IsSoundRest t (rep_of c) k.key.from k.key.production m k.key.first k.key.next word) none d.sound in
      let sound : IsSoundGoto t (rep_of c) k.key.from (lhs_of t.grammar k.key.production) k.key.first (rep_of c target x) word =
      sound_goto_of_rest t f (rep_of c) (Congruent-representatives t (rep_of c) cls.agree) k.key.from k.key.production k.key.first k.key.next k.end target x word rest (whole_end none) is.move edge listed.0 is.representative_is in
      rw (is.cost_is, is.is) (record {
        range = record { from = d.range.from; first = d.range.first; next = listed.0; edge = edge; most = d.range.most };
        word = word;
        word_by = d.word_by;
        cost_is = d.cost_is;
        short = d.short;
        sound = rw listed.1 at sound;
      })
  concluded_sound (suc n) some cost o h = rw (h.0, h.1) (record {
    range = record { range = d.range; begun = omega (arith, some) };
    word = word;
    word_by = d.word_by;
    cost_is = d.cost_is;
    short = d.short;
    sound = d.sound;
  })

  -- If the words of a conclusion wait, the conclusion is pending.
  pub concluded_pending : (waits : ℕ → WaitingWord → Type 0) (dot : ℕ) → k.key.dot ≡ dot → ((cost : ℕ) (o : WaitingWord) → IsConcludedAt t c k dot cost o → waits cost o)
      → Concludes t (rep_of c) (IsPendingBefore (WordNoLater t) words (WaitsFor t words waits)) k.key.from k.key.production dot k.key.first k.key.next word
  concluded_pending waits zero none all = λ e g y end move edge lt same.
      let x = rep_of c g y in
      let item : WaitingWord = record { sought = soughts.Goto (goto k.key.from (lhs_of t.grammar k.key.production) k.key.first x); end = g; origin = k.origin } in
      let ends : e ≡ k.end = path_end_unique t k.key.from k.key.production (length (rhs_of t.grammar k.key.production)) e k.end end (whole_end none) in
      let there = cls.agree.to_representative k.key.from k.key.production e g y end edge lt move in
      let reduced : run_move_of t k.end (x ∷ []) ≡ Reduces k.key.production = rw ends at there.0 in
      let represented : rep_of c k.end x ≡ k.key.next = rw ends at (sym there.1 ∙ same) in
      let listed = cls.list_all g y (f.each_target k.key.from (N (lhs_of t.grammar k.key.production)) g edge) lt in
      let goes : IsGotoOf t c k g x k.cost item = record { move = reduced; representative_is = represented; cost_is = refl; is = refl } in
      inr (word, (k.cost, item, all k.cost item (g, edge, (x, listed, goes)), refl, d.word_by), (order_laws t).reflexive word)
  concluded_pending waits (suc n) some all =
      let item : WaitingWord = record { sought = soughts.Rest k.key; end = k.end; origin = k.origin } in
      let is : item.sought ≡ soughts.Rest (key k.key.from k.key.production (suc n) k.key.first k.key.next) = ap (λ (m : ℕ). soughts.Rest (key k.key.from k.key.production m k.key.first k.key.next)) some in
      inr (word, (k.cost, item, all k.cost item (refl, refl), is, d.word_by), (order_laws t).reflexive word)
