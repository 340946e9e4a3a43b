-- Proves that labels that are closed under shifts and the least goto facts have, for each sentence that reaches a spot,
-- a label that comes no later.
use Rattle.std.proofs.Common.{ℕ, ◌<◌, List, [], ◌∷◌, length, Option}
use Rattle.mh_grammar.specs.Plain.{rhs_of, lhs_of}
use Rattle.mh_tables_core.specs.Table.{TableData}
use Rattle.mh_tables_core.specs.Facts.{Facts}
use Rattle.mh_facts.specs.Search.{ReachesState}
use Rattle.mh_facts.specs.Search as rules
use Rattle.mh_facts.specs.code.BestFirst.{Label, HasNoLaterLabel, LabelOrderLaws, LabelsClosedByGotos, WordOrderLaws, extended_label}
use Rattle.mh_facts.specs.code.WordCosts.{WordNoLater}
use Rattle.mh_facts.proofs.IsPathEnd.{leading_token_in_range}
use Rattle.mh_facts.proofs.Sound.{derives_known, reaches_known, shift_known}
use Rattle.mh_facts.proofs.StackBuilt.{leading_token-derives}
use Rattle.mh_facts.proofs.WordCosts.{order_laws}
use Rattle.mh_reach_words.specs.code.Arrivals.{LabelNoLater}
use Rattle.mh_reach_words.proofs.LabelOrder.{label_laws}
use Rattle.mh_reach_rests.specs.code.ClosedRests.{GotoWords}
use Rattle.mh_reach_spots.specs.code.GotoRows.{AreLeastGotos, HasGotoWord}

module _ (t : TableData) (f : Facts t) (rep : ℕ → ℕ → ℕ) (gotos : GotoWords) (least : AreLeastGotos t rep gotos) (reached : ℕ → ℕ → Option Label) (closed : LabelsClosedByGotos t rep (HasGotoWord gotos) reached (HasNoLaterLabel (LabelNoLater t) reached)) where
  abbrev laws : LabelOrderLaws (WordNoLater t) (LabelNoLater t)
  laws = label_laws t

  abbrev words : WordOrderLaws (WordNoLater t)
  words = order_laws t

  abbrev lab : ℕ → List ℕ → Label
  lab i v = record { start = i; word = v }

  later_at : (s y : ℕ) (k l : Label) → LabelNoLater t k l → HasNoLaterLabel (LabelNoLater t) reached s y k → HasNoLaterLabel (LabelNoLater t) reached s y l
  later_at s y k l le h = (h.0, h.1, laws.transitive h.0 k l h.2 le)

  pub least_label : (i s z : ℕ) (v : List ℕ) → i < length t.grammar.starts → z < t.grammar.tokens → ReachesState t i s z v → HasNoLaterLabel (LabelNoLater t) reached s (rep s z) (lab i v)
  least_label i s z v start lt rules.ReachesState.Begins = closed.begins i z start lt
  least_label i j z w start lt (rules.ReachesState.Steps {s = s} {y = y} {v = v} h move word) =
      let k = reaches_known t f i s y v start h in
      let b = least_label i s y v start (shift_known t f s y j k.state move) h in
      later_at j (rep j z) (extended_label b.0 (y ∷ [])) (lab i w) (rw word (laws.monotone b.0 (lab i v) (y ∷ []) (y ∷ []) b.2 (words.reflexive (y ∷ [])))) (closed.shifts s y z j b.0 b.1 move lt)
  least_label i g z w start lt (rules.ReachesState.Goes {s = s} {y = y} {e = e} {u = u} {v = v} q h inner move edge word) =
      let k = reaches_known t f i s y u start h in
      let n = derives_known t f s q (length (rhs_of t.grammar q)) y z v e k.state inner in
      let front : y < t.grammar.tokens = rw (← leading_token-derives t s q (length (rhs_of t.grammar q)) y z v e inner) (leading_token_in_range t.grammar.tokens v z n.tokens lt) in
      let b = least_label i s y u start front h in
      let d = least s q y z e g v k.state lt inner move edge in
      later_at g (rep g z) (extended_label b.0 d.0) (lab i w) (rw word (laws.monotone b.0 (lab i u) d.0 v b.2 d.2)) (closed.gotos s (lhs_of t.grammar q) (rep s y) (rep g z) g b.0 d.0 b.1 d.1 edge)
