-- Lemmas on labels and candidates: the rules of the second search keep labels sound, the sentence of a candidate fails,
-- and each failing sentence has a candidate that comes no later.
use Rattle.std.proofs.Common.{◌≡◌, ℕ, ◌<◌, List, [], ◌∷◌, ◌++◌, length, Some, Option, refl, sym, subst}
use Rattle.mh_grammar.specs.declared.types.Symbol.TheVariants.{N}
use Rattle.mh_tables_core.specs.Table.{TableData, edge_of}
use Rattle.mh_grammar.specs.Plain.{rhs_of, lhs_of}
use Rattle.mh_tables_core.specs.Facts.{Facts}
use Rattle.mh_tables_core.specs.Run.{Shifts, run_move_of}
use Rattle.mh_tables_core.specs.Failing.{Fails}
use Rattle.mh_facts.specs.Search.{leading_token, ReachesState, IsRefusedSentence}
use Rattle.mh_facts.specs.Search as rules
use Rattle.mh_facts.specs.code.BestFirst.{WordOrderLaws, SoundGoto, Label, extended_label, LabelOrderLaws, HasNoLaterLabel, SoundLabel, Candidate}
use Rattle.mh_facts.proofs.Sound.{derives_known, shift_known, refused_is_failing}
use Rattle.mh_facts.proofs.Complete.{failing_is_refused}
use Rattle.mh_facts.proofs.IsPathEnd.{leading_token_in_range}

-- Each rule of the second search derives sound labels from sound labels.
module _ (t : TableData) (f : Facts t) (rep : ℕ → ℕ → ℕ) where
  pub reach_begins : (i n : ℕ) → i < length t.grammar.starts → SoundLabel t rep i n (record { start = i; word = [] })
  reach_begins i n start z lt e = (start, rules.ReachesState.Begins)

  pub reach_shifts : (s x n j : ℕ) (l : Label) → s < length t.states → SoundLabel t rep s (rep s x) l → run_move_of t s (x ∷ []) ≡ Shifts j → SoundLabel t rep j n (extended_label l (x ∷ []))
  reach_shifts s x n j l known h move z lt e =
      let before = h x (shift_known t f s x j known move) refl in
      (before.0, rules.ReachesState.Steps before.1 move refl)

  pub reached_by_goto : (s n y x g : ℕ) (l : Label) (v : List ℕ) → s < length t.states → SoundLabel t rep s y l → SoundGoto t rep s n y x g v → edge_of t s (N n) ≡ Some g → SoundLabel t rep g x (extended_label l v)
  reached_by_goto s n y x g l v known h way edge z lt same =
      let w = way z lt same in
      let is : lhs_of t.grammar w.0 ≡ n = w.2 in
      let tokens = (derives_known t f s w.0 (length (rhs_of t.grammar w.0)) (leading_token v z) z v w.1 known w.3).tokens in
      let before = h (leading_token v z) (leading_token_in_range t.grammar.tokens v z tokens lt) w.5 in
      (before.0, rules.ReachesState.Goes w.0 before.1 w.3 w.4 (rw is edge) refl)

-- The sentence of each candidate fails in its state.
pub candidate_fails : (t : TableData) (f : Facts t) (rep : ℕ → ℕ → ℕ) (reached : ℕ → ℕ → Option Label) → ((s y : ℕ) (l : Label) → reached s y ≡ Some l → SoundLabel t rep s y l)
    → (s z : ℕ) (l : Label) → Candidate t rep reached s z l → Fails t l.start (l.word ++ z ∷ []) s
candidate_fails t f rep reached sound s z l h =
    let there = sound s (rep s z) l h.reached_at z h.known refl in
    refused_is_failing t f l.start (l.word ++ z ∷ []) s (record { start = there.0; last = z; known = h.known; before = l.word; word = refl; reaches = there.1; refuses = h.refuses })

module _ (t : TableData) (f : Facts t) (rep : ℕ → ℕ → ℕ) (Le : List ℕ → List ℕ → Type 0) (LeAt : Label → Label → Type 0) (laws : WordOrderLaws Le) (at_laws : LabelOrderLaws Le LeAt) (reached : ℕ → ℕ → Option Label)
    (all : (i s z : ℕ) (v : List ℕ) → i < length t.grammar.starts → z < t.grammar.tokens → ReachesState t i s z v → HasNoLaterLabel LeAt reached s (rep s z) (record { start = i; word = v })) where
  refused_candidate : (i s : ℕ) (w : List ℕ) → IsRefusedSentence t i w s → (z : ℕ) × (l : Label) × Candidate t rep reached s z l × LeAt (extended_label l (z ∷ [])) (record { start = i; word = w })
  refused_candidate i s w r =
      let b = all i s r.last r.before r.start r.known r.reaches in
      let le : LeAt (extended_label b.0 (r.last ∷ [])) (record { start = i; word = r.before ++ r.last ∷ [] }) = at_laws.monotone b.0 (record { start = i; word = r.before }) (r.last ∷ []) (r.last ∷ []) b.2 (laws.reflexive (r.last ∷ [])) in
      (r.last, b.0, record { known = r.known; refuses = r.refuses; reached_at = b.1 }, subst (λ (x : List ℕ). LeAt (extended_label b.0 (r.last ∷ [])) (record { start = i; word = x })) (sym r.word) le)

  -- For each failing sentence there is a candidate that is no later.
  pub fails_candidate : (i s : ℕ) (w : List ℕ) → Fails t i w s → (z : ℕ) × (l : Label) × Candidate t rep reached s z l × LeAt (extended_label l (z ∷ [])) (record { start = i; word = w })
  fails_candidate i s w h = refused_candidate i s w (failing_is_refused t f i w s h)
