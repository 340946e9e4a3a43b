-- Lemmas on rows that are created empty and then filled.
use Rattle.std.proofs.Common.{◌≡◌, ℕ, zero, suc, ◌<◌, ◌≤◌, ◌+◌, inl, inr, get_or, Option, Some, None, List, [], ◌∷◌, ◌++◌, length, refl, ap, arith, ◌∙◌, length-append, true, false}
use Rattle.std.proofs.lemmas.Bool.{cases_eq, cases_lt}
use Rattle.std.proofs.lemmas.List.{length_push, nil_from_length}
use Rattle.std.proofs.lemmas.List.Elements.{Contains-append_left}
use Rattle.std.specs.Prelude.{slice_set, option_to_list, IsSome}
use Rattle.std.specs.Global.{Vec}
use Rattle.mh_grammar.proofs.Lists.{contains_last, contains_none, contains_push}
use Rattle.mh_facts.specs.code.Queues.{row_of, AddsToRow, QueueGains, IsSameQueueEntry, TakesItem, TakesNothing, TakesFromQueue}

module _ {X : Type 0} where
  -- An empty row that is appended changes no row.
  pub row_more : (rs : List (Vec X)) (v : Vec X) → v.items ≡ [] → (n : ℕ) → row_of (rs ++ v ∷ []) n ≡ row_of rs n
  row_more [] v e zero = e
  row_more [] v e (suc n) = refl
  row_more (r ∷ rs) v e zero = refl
  row_more (r ∷ rs) v e (suc n) = row_more rs v e n

  pub row_past : (rs : List (Vec X)) (n : ℕ) → length rs ≤ n → row_of rs n ≡ []
  row_past [] n le = refl
  row_past (r ∷ rs) zero le = absurd (omega arith)
  row_past (r ∷ rs) (suc n) le = row_past rs n (omega arith)

  -- The loop that appends empty rows makes a queue in which each row is empty.
  pub empty_begin : (rs : List (Vec X)) → rs ≡ [] → (length rs ≡ 0) × ((n : ℕ) → row_of rs n ≡ [])
  empty_begin rs e = (ap length e, λ n. ap (λ (l : List (Vec X)). row_of l n) e)

  pub empty_more : (rs new : List (Vec X)) (v : Vec X) (k : ℕ) → new ≡ rs ++ v ∷ [] → v.items ≡ [] → (length rs ≡ k) × ((n : ℕ) → row_of rs n ≡ []) → (length new ≡ k + 1) × ((n : ℕ) → row_of new n ≡ [])
  empty_more rs new v k e none h = (
    ap length e ∙ length-append rs (v ∷ []) ∙ ap (λ (n : ℕ). n + 1) h.0,
    λ n. ap (λ (l : List (Vec X)). row_of l n) e ∙ row_more rs v none n ∙ h.1 n,
  )

  row_set_here : (rs : List (Vec X)) (k : ℕ) (v : Vec X) → k < length rs → row_of (slice_set rs k v) k ≡ v.items
  row_set_here [] k v lt = absurd (omega arith)
  row_set_here (r ∷ rs) zero v lt = refl
  row_set_here (r ∷ rs) (suc k) v lt = row_set_here rs k v (omega arith)

  row_set_other : (rs : List (Vec X)) (k n : ℕ) (v : Vec X) → (n ≡ k → ⊥) → row_of (slice_set rs k v) n ≡ row_of rs n
  row_set_other [] k n v ne = refl
  row_set_other (r ∷ rs) zero zero v ne = absurd (ne refl)
  row_set_other (r ∷ rs) zero (suc n) v ne = refl
  row_set_other (r ∷ rs) (suc k) zero v ne = refl
  row_set_other (r ∷ rs) (suc k) (suc n) v ne = row_set_other rs k n v (λ e. ne (ap suc e))

  pub row_is : (rs : List (Vec X)) (n : ℕ) (d : Vec X) → n < length rs → row_of rs n ≡ (get_or rs n d).items
  row_is [] n d lt = absurd (omega arith)
  row_is (r ∷ rs) zero d lt = refl
  row_is (r ∷ rs) (suc n) d lt = row_is rs n d (omega arith)

  set_length : (rs : List (Vec X)) (n : ℕ) (v : Vec X) → length (slice_set rs n v) ≡ length rs
  set_length [] n v = refl
  set_length (r ∷ rs) zero v = refl
  set_length (r ∷ rs) (suc n) v = ap suc (set_length rs n v)

  -- The row k is replaced by v.
  module _ (rs new : List (Vec X)) (k : ℕ) (d v : Vec X) (lt : k < length rs) (is : new ≡ slice_set rs k v) where
    row_at_set : row_of new k ≡ v.items
    row_at_set = ap (λ (l : List (Vec X)). row_of l k) is ∙ row_set_here rs k v lt

    row_other : (n : ℕ) → (n ≡ k → ⊥) → row_of new n ≡ row_of rs n
    row_other n ne = ap (λ (l : List (Vec X)). row_of l n) is ∙ row_set_other rs k n v ne

    -- If row k gets one more item, the item was added to this row, and nothing else changed.
    pub adds_to_row : (p : X) → v.items ≡ (get_or rs k d).items ++ p ∷ [] → AddsToRow rs new k p
    adds_to_row p items =
        let here : row_of new k ≡ row_of rs k ++ p ∷ [] = rw (row_is rs k d lt) (row_at_set ∙ items) in
        record {
          rows = ap length is ∙ set_length rs k v;
          added = rw here (contains_last (row_of rs k) p);
          kept = λ n q h. elim (cases_eq n k) [
            | inl e ↦ (let r : row_of new n ≡ row_of rs n ++ p ∷ [] = rw e here in rw r (Contains-append_left (row_of rs n) (p ∷ []) q h))
            | inr ne ↦ rw (row_other n ne) h
          ];
          only = λ n q h. elim (cases_eq n k) [
            | inl e ↦ (let r : row_of new n ≡ row_of rs n ++ p ∷ [] = rw e here in elim (contains_push (row_of rs n) p q (rw r at h)) [ inl was ↦ inl was | inr is' ↦ inr (e, is') ])
            | inr ne ↦ inl (rw (row_other n ne) at h)
          ];
        }

    -- If row k loses its last item, this item was taken, and nothing else changed.
    pub takes_item : (p : X) → (get_or rs k d).items ≡ v.items ++ p ∷ [] → TakesItem rs new k p
    takes_item p items =
        let was : row_of rs k ≡ v.items ++ p ∷ [] = row_is rs k d lt ∙ items in
        record {
          waited = rw was (contains_last v.items p);
          kept = λ n q h. elim (cases_eq n k) [
            | inl e ↦ (
                let r : row_of rs n ≡ v.items ++ p ∷ [] = rw e was in
                let r' : row_of new n ≡ v.items = rw e row_at_set in
                elim (contains_push v.items p q (rw r at h)) [ inl still ↦ inl (rw r' still) | inr is' ↦ inr (e, is') ])
            | inr ne ↦ inl (rw (row_other n ne) h)
          ];
          only = λ n q h. elim (cases_eq n k) [
            | inl e ↦ (
                let r : row_of rs n ≡ v.items ++ p ∷ [] = rw e was in
                let r' : row_of new n ≡ v.items = rw e row_at_set in
                rw r (Contains-append_left v.items (p ∷ []) q (rw r' at h)))
            | inr ne ↦ rw (← row_other n ne) h
          ];
          fewer = (let l : length (row_of rs k) ≡ length v.items + 1 = ap length was ∙ length_push v.items p in let m : length (row_of new k) ≡ length v.items = ap length row_at_set in omega arith);
        }

  -- An item that is added to one row of a queue is the only item that the queue gains.
  pub QueueGains-added : (old mid new : List (Vec X)) (k : ℕ) (p : X) → ((n : ℕ) → row_of mid n ≡ row_of old n) → AddsToRow mid new k p → QueueGains (IsSameQueueEntry k p) old new
  QueueGains-added old mid new k p same f = record {
    kept = λ n q h. f.kept n q (rw (same n) h);
    all = λ n q is. rw (is.0, is.1) f.added;
    only = λ n q h. elim (f.only n q h) [ inl was ↦ inl (rw (same n) at was) | inr is ↦ inr is ];
  }

  -- Nothing is taken from a queue if the row from which the loop takes is empty.
  pub takes_nothing : (rs : List (Vec X)) (k : ℕ) (d v : Vec X) → k < length rs → (get_or rs k d).items ≡ v.items ++ [] → length v.items ≡ 0 → TakesNothing rs (slice_set rs k v) k
  takes_nothing rs k d v lt items long =
      let none : v.items ≡ [] = nil_from_length v.items long in
      let was : row_of rs k ≡ [] = row_is rs k d lt ∙ items ∙ rw none refl in
      let now : row_of (slice_set rs k v) k ≡ [] = row_set_here rs k v lt ∙ none in
      record {
        none = λ o h. contains_none o (rw was at h);
        kept = λ n o h. elim (cases_eq n k) [ inl e ↦ absurd (contains_none o (rw (e, was) at h)) | inr ne ↦ rw (row_set_other rs k n v ne) h ];
        only = λ n o h. elim (cases_eq n k) [ inl e ↦ absurd (contains_none o (rw (e, now) at h)) | inr ne ↦ rw (row_set_other rs k n v ne) at h ];
      }

  -- The last item of a row, if there is one, is the item that is taken out of the queue.
  pub takes_last_item : (rs : List (Vec X)) (k : ℕ) (d v : Vec X) (o : Option X) → k < length rs → (get_or rs k d).items ≡ v.items ++ option_to_list o → (0 < length (get_or rs k d).items → IsSome o) → TakesFromQueue rs (slice_set rs k v) k o
  takes_last_item rs k d v (Some p) lt items some = takes_item rs (slice_set rs k v) k d v lt refl p items
  takes_last_item rs k d v None lt items some =
      let long : length v.items ≡ 0 = elim (cases_lt 0 (length (get_or rs k d).items)) [
        | inl has ↦ absurd (let y : false ≡ true = some has in cc)
        | inr le ↦ (let b = ap length items in let l = length-append v.items [] in omega (arith, le, b, l))
      ] in
      takes_nothing rs k d v lt items long
