-- Proves that the rows of classes are a partition of the tokens.
use Rattle.std.proofs.Common.{◌≡◌, ℕ, ◌<◌, ◌≤◌, inl, inr, List, [], length, Some, None, refl, ap, arith, ◌∙◌}
use Rattle.std.specs.Prelude.{slice_get, Result, Ok, Err, IfOk}
use Rattle.std.specs.Global.{Vec}
use Rattle.std.proofs.lemmas.Bool.{cases_lt}
use Rattle.mh_grammar.proofs.Lists.{get_within, contains_none}
use Rattle.mh_tables_core.specs.Table.{TableData}
use Rattle.mh_facts.specs.code.BestFirst.{RepresentativesAgree}
use Rattle.mh_facts.specs.declared.classes.TokenClass.{TokenClass}
use Rattle.mh_facts.specs.declared.classes.TokenClasses.{TokenClasses}
use Rattle.mh_facts.specs.code.Queues.{row_of}
use Rattle.mh_facts.specs.code.TokenClasses.{class_in, rep_of, place_of, representatives_at, AreTokenClasses}
use Rattle.mh_reach_classes.specs.code.ClassRows.{IsClassRow, IsPartition, RepresentThemselves}
use Rattle.mh_facts.proofs.QueueRows.{row_past}

-- The rows of the states below n have their classes.
pub record AreRowsBelow (t : TableData) (none : Type 0) (rows : List (Vec TokenClass)) (lists : List (Vec ℕ)) (n places : ℕ) : Type 0 where
  pub rows_long : length rows ≡ n
  pub lists_long : length lists ≡ n
  pub each : (s : ℕ) → s < n → (g : List ℕ) × (none → g ≡ []) × IsClassRow t.grammar.tokens g (row_of rows s) (row_of lists s) places

module _ (t : TableData) (none : Type 0) (c : TokenClasses) (h : AreRowsBelow t none c.rows.items c.lists.items (length t.states) c.places) where
  rep_is : (s z : ℕ) (k : TokenClass) → class_in c s z ≡ Some k → rep_of c s z ≡ k.representative
  unfolding rep_of
  rep_is s z k e = rw e refl

  place_is : (s z : ℕ) (k : TokenClass) → class_in c s z ≡ Some k → place_of c s z ≡ k.place
  unfolding place_of
  place_is s z k e = rw e refl

  rep_past : (s z : ℕ) → class_in c s z ≡ None → rep_of c s z ≡ z
  unfolding rep_of
  rep_past s z e = rw e refl

  class_there : (s z : ℕ) → s < length t.states → z < t.grammar.tokens → (k : TokenClass) × (class_in c s z ≡ Some k)
  class_there s z s_lt z_lt = let r = h.each s s_lt in let l = r.2.len in get_within (row_of c.rows.items s) z (omega arith)

  class_past : (s z : ℕ) → length t.states ≤ s → class_in c s z ≡ None
  class_past s z le =
      let empty : row_of c.rows.items s ≡ [] = row_past c.rows.items s (let l = h.rows_long in omega arith) in
      ap (λ (l : List TokenClass). slice_get l z) empty

  rep_range : (s z : ℕ) → z < t.grammar.tokens → rep_of c s z < t.grammar.tokens
  rep_range s z lt = elim (cases_lt s (length t.states)) [
    | inl known ↦ (let k = class_there s z known lt in let r = h.each s known in let a = r.2.each z k.0 k.1 in rw (rep_is s z k.0 k.1) a.0)
    | inr past ↦ rw (rep_past s z (class_past s z past)) lt
  ]

  list_past : (s : ℕ) → length t.states ≤ s → representatives_at c s ≡ []
  list_past s le = row_past c.lists.items s (let l = h.lists_long in omega arith)

  pub partition : IsPartition t c
  partition = record {
    sized = record {
      rows = h.rows_long;
      each_row = λ s lt. (h.each s lt).2.len;
      lists = h.lists_long;
      placed = λ s z known lt. (let k = class_there s z known lt in let r = h.each s known in let a = r.2.each z k.0 k.1 in rw (place_is s z k.0 k.1) a.1);
    };
    in_range = rep_range;
    list_all = λ s z known lt. (let k = class_there s z known lt in let r = h.each s known in rw (rep_is s z k.0 k.1) (r.2.list_all z k.0 k.1));
    list_only = λ s x there. elim (cases_lt s (length t.states)) [
      | inl known ↦ (
          let r = h.each s known in
          let a = r.2.list_only x there in
          let n = r.2.each x a.0 a.1 in
          let own : rep_of c s x ≡ x = rep_is s x a.0 a.1 ∙ a.2 in
          ((let l = n.0 in let e = a.2 in omega arith), own))
      | inr past ↦ absurd (contains_none x (rw (list_past s past) at there))
    ];
  }

  pub tokens : none → RepresentThemselves t c
  tokens given s z lt = elim (cases_lt s (length t.states)) [
    | inl known ↦ (let k = class_there s z known lt in let r = h.each s known in rep_is s z k.0 k.1 ∙ r.2.nothing (r.1 given) z k.0 k.1)
    | inr past ↦ rep_past s z (class_past s z past)
  ]

pub classes_from : (t : TableData) (c : TokenClasses) → IsPartition t c → RepresentativesAgree t (rep_of c) → AreTokenClasses t c
classes_from t c p like = record { sized = p.sized; in_range = p.in_range; list_all = p.list_all; list_only = p.list_only; agree = like }

pub tokens_alike : (t : TableData) (c : TokenClasses) → RepresentThemselves t c → RepresentativesAgree t (rep_of c)
tokens_alike t c same = record {
  to_representative = λ s q e g z end edge lt move. (let x = same g z lt in (rw x move, rw x refl));
  from_representative = λ s q e g z end edge lt move. (let x = same g z lt in rw x at move);
}

pub token_classes_of_result : {E : Type 0} (t : TableData) (r : Result TokenClasses E) → IfOk r (IsPartition t) → IfOk r (λ c. RepresentThemselves t c) → IfOk r (AreTokenClasses t)
token_classes_of_result t (Ok c) p same = classes_from t c p (tokens_alike t c same)
token_classes_of_result t (Err x) p same = tt
