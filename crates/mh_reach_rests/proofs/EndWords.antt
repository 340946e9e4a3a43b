-- Lemmas on the words with which the search begins.
use Rattle.std.proofs.Common.{◌≡◌, ℕ, ◌<◌, [], ◌∷◌, length, Some, None, Option, true, false, subst, sym, ◌∙◌}
use Rattle.std.specs.Global.{Vec}
use Rattle.std.specs.Prelude.{is_some, List}
use Rattle.mh_grammar.specs.Plain.{rhs_of}
use Rattle.mh_tables_core.specs.declared.parts.Fallback.{Fallback}
use Rattle.mh_tables_core.specs.declared.parts.Fallback.TheVariants as fallbacks
use Rattle.mh_tables_core.specs.Table.{TableData, fallback_of}
use Rattle.mh_tables_core.specs.Run.{RunMove, Reduces, move_by_default, move_of_next, run_move_of}
use Rattle.mh_facts.specs.declared.classes.TokenClasses.{TokenClasses}
use Rattle.mh_facts.specs.code.Queues.{Among, QueueGains}
use Rattle.mh_facts.specs.code.TokenClasses.{AreTokenClasses, rep_of, representatives_at}
use Rattle.mh_facts.proofs.QueueGains.{gains_by}
use Rattle.mh_reach_rests.specs.declared.waiting.Origin.TheVariants as origins
use Rattle.mh_reach_rests.specs.declared.waiting.WaitingWord.{WaitingWord}
use Rattle.mh_reach_rests.specs.code.RestRules.{IsConcluded, IsEndWord, IsEndWordOn}
use Rattle.mh_reach_rests.proofs.WholeSearch.{empty_rest}

one_reduction : (p q : ℕ) → Reduces p ≡ Reduces q → p ≡ q
one_reduction p q e = cc

default_same : (o : Option Fallback) → is_some o ≡ true → (m n : RunMove) (p : ℕ) → move_by_default o m ≡ Reduces p → move_by_default o n ≡ Reduces p
default_same None some m n p e = absurd (let y : false ≡ true = some in cc)
default_same (Some fallbacks.Accept) some m n p e = e
default_same (Some (fallbacks.Reduce q)) some m n p e = e

-- A default reduces on each token alike.
default_reduces : (t : TableData) (s z x p : ℕ) → is_some (fallback_of t s) ≡ true → run_move_of t s (z ∷ []) ≡ Reduces p → run_move_of t s (x ∷ []) ≡ Reduces p
unfolding run_move_of
default_reduces t s z x p some move = default_same (fallback_of t s) some (move_of_next t s (z ∷ [])) (move_of_next t s (x ∷ [])) p move

-- The words on one token are those of the production that is reduced.
pub end_gains : (t : TableData) (c : TokenClasses) (s z p : ℕ) → run_move_of t s (z ∷ []) ≡ Reduces p → (old new : List (Vec WaitingWord)) → QueueGains (IsConcluded t c (empty_rest t c s p z)) old new → QueueGains (IsEndWordOn t c s z) old new
end_gains t c s z p move old new g =
    gains_by (IsConcluded t c (empty_rest t c s p z)) (IsEndWordOn t c s z) old new
    (λ cost o h. record { production = p; move = move; is = h })
    (λ cost o h. (let same : h.production ≡ p = one_reduction h.production p (sym h.move ∙ move) in subst (λ (q : ℕ). IsConcluded t c (empty_rest t c s q z) cost o) same h.is))
    g

-- The words on the representatives are all, if the state reduces by default.
pub default_gains : (t : TableData) (c : TokenClasses) (cls : AreTokenClasses t c) (s : ℕ) → s < length t.states → is_some (fallback_of t s) ≡ true → (old new : List (Vec WaitingWord)) → QueueGains (Among (IsEndWordOn t c s) (representatives_at c s)) old new → QueueGains (IsEndWord t c s) old new
default_gains t c cls s known some old new g =
    gains_by (Among (IsEndWordOn t c s) (representatives_at c s)) (IsEndWord t c s) old new
    (λ cost o h. (h.0, (cls.list_only s h.0 h.1).0, h.2))
    (λ cost o h. (rep_of c s h.0, cls.list_all s h.0 known h.1, on_rep h.0 h.1 cost o h.2))
    g
  where
    on_rep : (z : ℕ) → z < t.grammar.tokens → (cost : ℕ) (o : WaitingWord) → IsEndWordOn t c s z cost o → IsEndWordOn t c s (rep_of c s z) cost o
    on_rep z lt cost o h =
        let same : rep_of c s (rep_of c s z) ≡ rep_of c s z = (cls.list_only s (rep_of c s z) (cls.list_all s z known lt)).1 in
        record {
          production = h.production;
          move = default_reduces t s z (rep_of c s z) h.production some h.move;
          is = subst (λ (x : ℕ). IsConcluded t c (record { key = record { from = s; production = h.production; dot = length (rhs_of t.grammar h.production); first = x; next = x }; end = s; cost = 0; origin = origins.Ended }) cost o) (sym same) h.is;
        }
