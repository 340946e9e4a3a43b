-- Lemmas on `AddsLooks`: how the recorded looks grow.
use Rattle.std.proofs.Common.{◌≡◌, ℕ, zero, suc, ◌+◌, ◌-◌, ◌*◌, ◌<◌, ◌≤◌, ◌⊎◌, ◌↔◌, Bool, true, false, List, [], ◌∷◌, ◌++◌, Some, length, get_or, set, vec_len, refl, sym, ap, subst, ◌∙◌, arith, inl, inr}
use Rattle.std.specs.Prelude.{sum_by}
use Rattle.std.specs.List.{slice_get, All, Contains}
use Rattle.std.proofs.lemmas.Bool.{cases_eq}
use Rattle.std.proofs.lemmas.List.{get_or-set_other, set-get_or, length_push}
use Rattle.std.proofs.lemmas.Option.{slice_get-get_or, slice_get_within}
use Rattle.std.proofs.lemmas.Grind.{get_or-set_at}
use Rattle.std.proofs.lemmas.List.Sums.{sum_by-set}
use Rattle.std.proofs.lemmas.List.Elements.{All-set, Contains-push, Contains-push_cases, Contains-append_left}
use Rattle.mh_grammar.specs.declared.types.Look.{Look}
use Rattle.mh_sets.specs.Sets.{IsSet}
use Rattle.mh_items.specs.declared.pending_looks.PendingLooks.{PendingLooks}
use Rattle.mh_items.specs.declared.links.FirstLink.{FirstLink}
use Rattle.mh_items.specs.code.PendingLooks.{looks_at, HasLook, IsWaiting, AreQueued, ArePendingLooks, AddsLooks, IsLookFor, IsPassedOn, IsPassedOnByOne}
use Rattle.mh_grammar.proofs.Lists.{get_left, get_last, some_item}

-- The number of looks that a set of the width can still get.
abbrev left : ℕ → List Look → ℕ
left W looks = 64 * W + 1 - length looks

module _ {W : ℕ} where
  -- The looks of one nonterminal are written.
  module _ (old new : PendingLooks W) (n : ℕ) (v added : List Look) (table : ArePendingLooks old) (row : n < length old.looks.items) (looks : new.looks.items ≡ set old.looks.items n v)
      (is : IsSet W v) (members : (b : Look) → Contains v b ↔ (Contains (looks_at old n) b ⊎ Contains added b)) where
    here : looks_at new n ≡ v
    here = ap (λ xs. get_or xs n []) looks ∙ get_or-set_at old.looks.items n n v [] refl row

    other : (m : ℕ) → (m ≡ n → ⊥) → looks_at new m ≡ looks_at old m
    other m o = ap (λ xs. get_or xs m []) looks ∙ get_or-set_other old.looks.items n m v [] o

    sets : All (IsSet W) new.looks.items
    sets = subst (All (IsSet W)) (sym looks) (All-set (IsSet W) old.looks.items n v is table.sets)

    kept : (m : ℕ) (b : Look) → HasLook old m b → HasLook new m b
    kept m b k = elim (cases_eq m n) [
      | inl e ↦ (let P : List Look → Type 0 = λ xs. Contains xs b in let k' : HasLook old n b = subst (λ (x : ℕ). HasLook old x b) e k in
          let q : HasLook new n b = subst P (sym here) ((members b).1 (inl k')) in subst (λ (x : ℕ). HasLook new x b) (sym e) q)
      | inr o ↦ (let P : List Look → Type 0 = λ xs. Contains xs b in subst P (sym (other m o)) k)
    ]

    origin : (m : ℕ) (b : Look) → HasLook new m b → HasLook old m b ⊎ IsLookFor n added m b
    origin m b k = elim (cases_eq m n) [
      | inl e ↦ (let P : List Look → Type 0 = λ xs. Contains xs b in let k' : HasLook new n b = subst (λ (x : ℕ). HasLook new x b) e k in
          elim ((members b).0 (subst P here k')) [
            | inl a ↦ inl (subst (λ (x : ℕ). HasLook old x b) (sym e) a)
            | inr a ↦ inr (record { same = e; among = a })
          ])
      | inr o ↦ inl (let P : List Look → Type 0 = λ xs. Contains xs b in subst P (other m o) k)
    ]

    has : (m : ℕ) (b : Look) → IsLookFor n added m b → HasLook new m b
    has m b h = let P : List Look → Type 0 = λ xs. Contains xs b in let q : HasLook new n b = subst P (sym here) ((members b).1 (inr h.among)) in subst (λ (x : ℕ). HasLook new x b) (sym h.same) q

    shrinks : length (looks_at old n) < length v → sum_by (left W) new.looks.items + 1 ≤ sum_by (left W) old.looks.items
    shrinks l =
        let e = sum_by-set (left W) old.looks.items n v [] row in
        let f = ap (sum_by (left W)) looks in
        let few = is.few in
        omega arith

    back : (m : ℕ) → (IsWaiting new m → ⊥) → IsWaiting new n → looks_at new m ≡ looks_at old m
    back m o w = other m (λ e. o (subst (λ (x : ℕ). IsWaiting new x) (sym e) w))

    some_new : (m : ℕ) → ((b : Look) × HasLook old m b) → (b : Look) × HasLook new m b
    some_new m f = (f.0, kept m f.0 f.1)

    module _ (size : vec_len new.looks ≡ vec_len old.looks) (rows : vec_len new.waiting ≡ vec_len new.looks) where
      -- The flags and the queue are unchanged.
      module _ (waiting : new.waiting.items ≡ old.waiting.items) (queue : new.queue.items ≡ old.queue.items) where
        wait_to : (m : ℕ) → IsWaiting old m → IsWaiting new m
        wait_to m h = let P : List Bool → Type 0 = λ w. get_or w m false ≡ true in subst P (sym waiting) h

        wait_back : (m : ℕ) → IsWaiting new m → IsWaiting old m
        wait_back m h = let P : List Bool → Type 0 = λ w. get_or w m false ≡ true in subst P waiting h

        queue_to : (m : ℕ) → Contains old.queue.items m → Contains new.queue.items m
        queue_to m c = let P : List ℕ → Type 0 = λ q. Contains q m in subst P (sym queue) c

        queue_back : (m : ℕ) → Contains new.queue.items m → Contains old.queue.items m
        queue_back m c = let P : List ℕ → Type 0 = λ q. Contains q m in subst P queue c

        quiet_table : ((b : Look) → HasLook new n b → Contains old.queue.items n) → ArePendingLooks new
        quiet_table at = record {
          rows = rows;
          sets = sets;
          queued_has_look = λ m c. some_new m (table.queued_has_look m (queue_back m c));
          looks_queued = λ m b k. elim (cases_eq m n) [
            | inl e ↦ queue_to m (subst (Contains old.queue.items) (sym e) (at b (subst (λ (x : ℕ). HasLook new x b) e k)))
            | inr o ↦ queue_to m (table.looks_queued m b (let P : List Look → Type 0 = λ xs. Contains xs b in subst P (other m o) k))
          ];
          waiting_queued = λ m h. queue_to m (table.waiting_queued m (wait_back m h));
        }

        quiet_queued : (done : ℕ) → done ≤ length old.queue.items → AreQueued done old → AreQueued done new
        quiet_queued done l q m h = let at = q m (wait_back m h) in (at.0, at.1, (let P : List ℕ → Type 0 = λ xs. slice_get xs at.0 ≡ Some m in subst P (sym queue) at.2))

        quiet : ((b : Look) → HasLook new n b → Contains old.queue.items n) → ((m : ℕ) → IsWaiting new m ⊎ (looks_at new m ≡ looks_at old m)) → sum_by (left W) new.looks.items ≤ sum_by (left W) old.looks.items → AddsLooks (IsLookFor n added) old new
        quiet at changes less = record {
          table = quiet_table at;
          size = size;
          kept = kept;
          origin = origin;
          added = has;
          still_waiting = wait_to;
          changes = changes;
          queue_extends = λ i m e. (let P : List ℕ → Type 0 = λ xs. slice_get xs i ≡ Some m in subst P (sym queue) e);
          queued = quiet_queued;
          less = (let e = ap (λ (q : List ℕ). length q) queue in omega arith);
        }

        -- The set gets no new look.
        pub adds_none : v ≡ looks_at old n → AddsLooks (IsLookFor n added) old new
        adds_none same =
            let all : new.looks.items ≡ old.looks.items = looks ∙ ap (λ x. set old.looks.items n x) same ∙ set-get_or old.looks.items n [] in
            let e = ap (sum_by (left W)) all in
            quiet (λ b k. table.looks_queued n b (let P : List Look → Type 0 = λ xs. Contains xs b in subst P (here ∙ same) k)) (λ m. inr (ap (λ xs. get_or xs m []) all)) (omega arith)

        -- The set gets new looks, and the nonterminal is already waiting.
        pub adds_more : IsWaiting old n → length (looks_at old n) < length v → AddsLooks (IsLookFor n added) old new
        adds_more w l =
            let s = shrinks l in
            quiet (λ b k. table.waiting_queued n w) (λ m. elim (cases_eq m n) [ inl e ↦ inl (subst (λ (x : ℕ). IsWaiting new x) (sym e) (wait_to n w)) | inr o ↦ inr (other m o) ]) (omega arith)

      -- The set gets new looks, and the nonterminal is appended to the queue.
      module _ (waiting : new.waiting.items ≡ set old.waiting.items n true) (queue : new.queue.items ≡ old.queue.items ++ n ∷ []) (flag : n < length old.waiting.items) (l : length (looks_at old n) < length v) where
        awake : IsWaiting new n
        awake = ap (λ w. get_or w n false) waiting ∙ get_or-set_at old.waiting.items n n true false refl flag

        woken_to : (m : ℕ) → IsWaiting old m → IsWaiting new m
        woken_to m h = elim (cases_eq m n) [
          | inl e ↦ subst (λ (x : ℕ). IsWaiting new x) (sym e) awake
          | inr o ↦ ap (λ w. get_or w m false) waiting ∙ get_or-set_other old.waiting.items n m true false o ∙ h
        ]

        woken_back : (m : ℕ) → (m ≡ n → ⊥) → IsWaiting new m → IsWaiting old m
        woken_back m o h = sym (get_or-set_other old.waiting.items n m true false o) ∙ sym (ap (λ w. get_or w m false) waiting) ∙ h

        stands_to : (m : ℕ) → Contains old.queue.items m → Contains new.queue.items m
        stands_to m c = let P : List ℕ → Type 0 = λ q. Contains q m in subst P (sym queue) (Contains-append_left old.queue.items (n ∷ []) m c)

        last : Contains new.queue.items n
        last = let P : List ℕ → Type 0 = λ q. Contains q n in subst P (sym queue) (Contains-push old.queue.items n)

        -- A set that has become longer has an element.
        busy_to : (m : ℕ) → Contains new.queue.items m → (b : Look) × HasLook new m b
        busy_to m c = elim (Contains-push_cases old.queue.items n m (let P : List ℕ → Type 0 = λ q. Contains q m in subst P queue c)) [
          | inl d ↦ some_new m (table.queued_has_look m d)
          | inr e ↦ (let f = some_item v (omega arith) in let P : List Look → Type 0 = λ xs. Contains xs f.0 in
              let q : HasLook new n f.0 = subst P (sym here) f.1 in (f.0, subst (λ (x : ℕ). HasLook new x f.0) e q))
        ]

        woken_table : ArePendingLooks new
        woken_table = record {
          rows = rows;
          sets = sets;
          queued_has_look = busy_to;
          looks_queued = λ m b k. elim (cases_eq m n) [
            | inl e ↦ subst (Contains new.queue.items) (sym e) last
            | inr o ↦ stands_to m (table.looks_queued m b (let P : List Look → Type 0 = λ xs. Contains xs b in subst P (other m o) k))
          ];
          waiting_queued = λ m h. elim (cases_eq m n) [ inl e ↦ subst (Contains new.queue.items) (sym e) last | inr o ↦ stands_to m (table.waiting_queued m (woken_back m o h)) ];
        }

        woken_front : (i m : ℕ) → slice_get old.queue.items i ≡ Some m → slice_get new.queue.items i ≡ Some m
        woken_front i m e = let P : List ℕ → Type 0 = λ xs. slice_get xs i ≡ Some m in subst P (sym queue) (get_left old.queue.items (n ∷ []) i m e)

        woken_queued : (done : ℕ) → done ≤ length old.queue.items → AreQueued done old → AreQueued done new
        woken_queued done k q m h = elim (cases_eq m n) [
          | inl e ↦ (
            length old.queue.items,
            k,
            (let P : List ℕ → Type 0 = λ xs. slice_get xs (length old.queue.items) ≡ Some m in
                subst P (sym queue) (get_last old.queue.items n (length old.queue.items) refl ∙ ap Some (sym e))),
          )
          | inr o ↦ (let at = q m (woken_back m o h) in (at.0, at.1, woken_front at.0 m at.2))
        ]

        pub adds_and_queues : AddsLooks (IsLookFor n added) old new
        adds_and_queues = record {
          table = woken_table;
          size = size;
          kept = kept;
          origin = origin;
          added = has;
          still_waiting = woken_to;
          changes = λ m. elim (cases_eq m n) [ inl e ↦ inl (subst (λ (x : ℕ). IsWaiting new x) (sym e) awake) | inr o ↦ inr (other m o) ];
          queue_extends = woken_front;
          queued = woken_queued;
          less = (let s = shrinks l in let e = ap (λ (q : List ℕ). length q) queue in let f = length_push old.queue.items n in omega arith);
        }

  pub adds_same_row : (old new : PendingLooks W) (row n : ℕ) (added : List Look) → row ≡ n → AddsLooks (IsLookFor row added) old new → AddsLooks (IsLookFor n added) old new
  adds_same_row old new row n added e h = subst (λ (k : ℕ). AddsLooks (IsLookFor k added) old new) e h

  -- Lemmas on one addition after another.

  -- A list that has another list as a prefix is at least as long.
  pub prefix_kept : (a b : PendingLooks W) (done : ℕ) → done ≤ length a.queue.items → ((i n : ℕ) → slice_get a.queue.items i ≡ Some n → slice_get b.queue.items i ≡ Some n) → done ≤ length b.queue.items
  prefix_kept a b zero l front = omega arith
  prefix_kept a b (suc i) l front =
      let x = get_or a.queue.items i 0 in
      let at = slice_get-get_or a.queue.items i 0 l in
      let m = slice_get_within b.queue.items i x (front i x at) in
      omega arith

  pub AddsLooks-then : (P Q R : ℕ → Look → Type 0) (a b c : PendingLooks W) → AddsLooks P a b → AddsLooks Q b c → ((n : ℕ) (x : Look) → R n x → P n x ⊎ Q n x) → ((n : ℕ) (x : Look) → P n x → R n x) → ((n : ℕ) (x : Look) → Q n x → R n x) → AddsLooks R a c
  AddsLooks-then P Q R a b c h k s l r = record {
    table = k.table;
    size = k.size ∙ h.size;
    kept = λ n x m. k.kept n x (h.kept n x m);
    origin = λ n x m. elim (k.origin n x m) [
      | inl y ↦ elim (h.origin n x y) [ inl z ↦ inl z | inr z ↦ inr (l n x z) ]
      | inr y ↦ inr (r n x y)
    ];
    added = λ n x m. elim (s n x m) [ inl y ↦ k.kept n x (h.added n x y) | inr y ↦ k.added n x y ];
    still_waiting = λ n w. k.still_waiting n (h.still_waiting n w);
    changes = λ n. elim (k.changes n) [
      | inl w ↦ inl w
      | inr e ↦ elim (h.changes n) [ inl w ↦ inl (k.still_waiting n w) | inr f ↦ inr (e ∙ f) ]
    ];
    queue_extends = λ i n e. k.queue_extends i n (h.queue_extends i n e);
    queued = λ done m q. k.queued done (prefix_kept a b done m h.queue_extends) (h.queued done m q);
    less = (let x = h.less in let y = k.less in omega arith);
  }

  pub AddsLooks-as : (P R : ℕ → Look → Type 0) (a b : PendingLooks W) → AddsLooks P a b → ((n : ℕ) (x : Look) → R n x → P n x) → ((n : ℕ) (x : Look) → P n x → R n x) → AddsLooks R a b
  AddsLooks-as P R a b h l r = record {
    table = h.table;
    size = h.size;
    kept = h.kept;
    origin = λ n x k. elim (h.origin n x k) [ inl c ↦ inl c | inr p ↦ inr (r n x p) ];
    added = λ n x p. h.added n x (l n x p);
    still_waiting = h.still_waiting;
    changes = h.changes;
    queue_extends = h.queue_extends;
    queued = h.queued;
    less = h.less;
  }

  pub AddsLooks-none : (P : ℕ → Look → Type 0) (s : PendingLooks W) → ArePendingLooks s → ((n : ℕ) (b : Look) → P n b → ⊥) → AddsLooks P s s
  AddsLooks-none P s t none = record {
    table = t;
    size = refl;
    kept = λ n b k. k;
    origin = λ n b k. inl k;
    added = λ n b p. absurd (none n b p);
    still_waiting = λ n w. w;
    changes = λ n. inr refl;
    queue_extends = λ i n e. e;
    queued = λ done l q. q;
    less = omega arith;
  }

  -- Lemmas on lists of links.

  pub links_none : (looks : List Look) (n : ℕ) (b : Look) → IsPassedOnByOne {W = W} [] looks n b → ⊥
  links_none looks n b s = let l = s.among.1 in omega arith

  pub links_step : (looks passed : List Look) (front : List (FirstLink W)) (link : FirstLink W) (a b c : PendingLooks W) → ((x : Look) → Contains passed x ↔ (Contains link.tokens x ⊎ ((link.passes ≡ true) × Contains looks x)))
      → AddsLooks (IsPassedOnByOne front looks) a b → AddsLooks (IsLookFor link.to passed) b c → AddsLooks (IsPassedOnByOne (front ++ link ∷ []) looks) a c
  links_step looks passed front link a b c exact h k = AddsLooks-then (IsPassedOnByOne front looks) (IsLookFor link.to passed) (IsPassedOnByOne (front ++ link ∷ []) looks) a b c h k
      (λ n x s. elim (Contains-push_cases front link s.link s.among) [
        | inl d ↦ inl (record { link = s.link; among = d; is = s.is })
        | inr e ↦ (let P : FirstLink W → Type 0 = λ z. IsPassedOn looks z n x in let is = subst P (sym e) s.is in inr (record { same = is.target_is; among = (exact x).1 is.passed }))
      ])
      (λ n x s. record { link = s.link; among = Contains-append_left front (link ∷ []) s.link s.among; is = s.is })
      (λ n x s. record { link = link; among = Contains-push front link; is = record { target_is = s.same; passed = (exact x).0 s.among } })
