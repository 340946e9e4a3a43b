-- Proves that the sentences that come to a state are exactly those with which the rules of the search reach the state.
use Rattle.std.proofs.Common.{◌≡◌, ℕ, ◌<◌, List, [], ◌∷◌, ◌++◌, length, take, refl, sym, ap, arith, length-append, ◌∙◌}
use Rattle.std.proofs.lemmas.List.{take_at}
use Rattle.mh_grammar.proofs.Lists.{recursion-push}
use Rattle.mh_tables_core.specs.Table.{TableData}
use Rattle.mh_tables_core.specs.Facts.{Facts}
use Rattle.mh_tables_core.specs.Run.{Config, after, initial, top_of}
use Rattle.mh_facts.specs.Search.{ReachesState}
use Rattle.mh_facts.specs.Search as rules
use Rattle.mh_facts.proofs.Complete.{StackIsBuilt, StackIsBuilt-after, StackIsBuilt-start, top_is}
use Rattle.mh_facts.proofs.Sound.{RunsToState-reaches, reaches_known}
use Rattle.mh_facts.proofs.StackBuilt.{StackBuilt}
use Rattle.mh_facts.proofs.StackBuilt as forward
use Rattle.mh_reach.specs.Coming.{Comes}

-- Two words are equal if they are equal after one token is appended to each of them.
front_is : (v w : List ℕ) (y z : ℕ) → v ++ y ∷ [] ≡ w ++ z ∷ [] → v ≡ w
front_is v w y z e =
    let len : length v ≡ length w = (let a = ap length e in let b = length-append v (y ∷ []) in let c = length-append w (z ∷ []) in omega arith) in
    sym (take_at v (y ∷ []) (length w) len) ∙ ap (take (length w)) e ∙ take_at w (z ∷ []) (length w) refl

-- If each state of a stack was pushed by a shift or by a reduction that the rules of the search derive, the word of the
-- stack reaches the state on top by these rules.
built_reaches : (t : TableData) (i : ℕ) (stack : List ℕ) (s : ℕ) (v : List ℕ) (z : ℕ) → StackBuilt t i stack s v z → ReachesState t i s z v
built_reaches t i stack s v z forward.StackBuilt.Alone = rules.ReachesState.Begins
built_reaches t i new s w z (forward.StackBuilt.Pushed {stack = stack} {v = v} {s = s0} {y = y} b move is word) = rules.ReachesState.Steps (built_reaches t i stack s0 v y b) move word
built_reaches t i new s w z (forward.StackBuilt.Went {stack = stack} {u = u} {s = s0} {y = y} q b inner move edge is word) = rules.ReachesState.Goes q (built_reaches t i stack s0 u y b) inner move edge word

-- If a configuration has such a stack with the state s on top, and exactly z left, the rules of the search reach s.
reached_at : (t : TableData) (i : ℕ) (w : List ℕ) (s z : ℕ) (c : Config) → StackIsBuilt t i (w ++ z ∷ []) c → top_of c.stack ≡ s → c.left ≡ z ∷ [] → ReachesState t i s z w
reached_at t i w s z c h top left =
    let both : h.next ∷ h.rest ≡ z ∷ [] = sym h.left ∙ left in
    let next : h.next ≡ z = cc in
    let none : h.rest ≡ [] = cc in
    let word : w ++ z ∷ [] ≡ h.before ++ h.next ∷ [] = rw none at h.word in
    let before : h.before ≡ w = front_is h.before w h.next z (sym word) in
    let at : h.top ≡ s = sym (top_is t i c.stack h.top h.before h.next h.built) ∙ top in
    rw (at, next, before) at (built_reaches t i c.stack h.top h.before h.next h.built)

-- Each sentence that comes to a state reaches the state by the rules.
pub reaches_if_comes : (t : TableData) (f : Facts t) (i : ℕ) (w : List ℕ) (s z : ℕ) → Comes t i w s z → ReachesState t i s z w
reaches_if_comes t f i w s z h =
    let c = after t h.steps (initial i (w ++ z ∷ [])) in
    let some : 0 < length c.left = rw h.left (omega arith) in
    reached_at t i w s z c (StackIsBuilt-after t f i (w ++ z ∷ []) h.steps (initial i (w ++ z ∷ [])) (StackIsBuilt-start t i w z []) some) h.top h.left

-- Each sentence with which the rules reach a state comes to the state.
pub comes_if_reached : (t : TableData) (f : Facts t) (i : ℕ) (w : List ℕ) (s z : ℕ) → i < length t.grammar.starts → z < t.grammar.tokens → ReachesState t i s z w → Comes t i w s z
comes_if_reached t f i w s z start known h =
    let k = reaches_known t f i s z w start h in
    let ran = RunsToState-reaches t f i s z w h [] in
    record {
      sentence = record { known = start; tokens = recursion-push (λ (y : ℕ). y < t.grammar.tokens) w z k.tokens known };
      steps = ran.steps;
      top = rw ran.reaches ran.top;
      left = rw ran.reaches refl;
    }
