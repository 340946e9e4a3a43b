-- Proves that the looks that are reached from the kernel's items are the looks of the closure.
use Rattle.std.proofs.Common.{◌≡◌, ℕ, ◌+◌, ◌-◌, ◌*◌, ◌<◌, ◌≤◌, Bool, true, false, List, [], ◌∷◌, Some, length, get_or, set, drop, vec_len, refl, sym, ap, subst, ◌∙◌, arith, inl, inr}
use Rattle.std.specs.List.{slice_get, Contains}
use Rattle.std.specs.Prelude.{sum_by}
use Rattle.mh_items.proofs.AddsLooks.{prefix_kept}
use Rattle.std.proofs.lemmas.Bool.{cases_lt, cases_eq, false≢true}
use Rattle.std.proofs.lemmas.List.{get_or-set_other, get_or_past}
use Rattle.std.proofs.lemmas.Grind.{get_or-set_at}
use Rattle.std.proofs.lemmas.Option.{slice_get-get_or, slice_get_within}
use Rattle.mh_grammar.specs.declared.types.Symbol.{Symbol}
use Rattle.mh_grammar.specs.declared.types.Symbol.TheVariants.{N}
use Rattle.mh_grammar.specs.declared.types.Look.{Look}
use Rattle.mh_grammar.specs.declared.types.Look.TheVariants.{Token, End}
use Rattle.mh_grammar.specs.Plain.{PlainGrammar, IsProductionFor, rhs_of}
use Rattle.mh_grammar.specs.ItemSets as sets
use Rattle.mh_grammar.specs.ItemSets.{ItemSet, Close, MayBegin}
use Rattle.mh_items_kernels.specs.KernelTypes.{Kernel}
use Rattle.mh_items.specs.declared.links.FirstLink.{FirstLink}
use Rattle.mh_items.specs.declared.first_sets.Firsts.{Firsts}
use Rattle.mh_items.specs.declared.pending_looks.PendingLooks.{PendingLooks}
use Rattle.mh_items.specs.Firsts.{AreFirsts, AreLinksOf, IsLinkOfNonterminal, IsStringFirst}
use Rattle.mh_items_kernels.specs.Kernels.{Holds}
use Rattle.mh_items.specs.code.PendingLooks.{looks_at, HasLook, IsWaiting, work_left, AreQueued, ArePendingLooks, AreAllWaiting, AddsLooks, IsPassedOnByOne}
use Rattle.mh_items.specs.code.ClosureLooks as wanted
use Rattle.mh_items.specs.code.ClosureLooks.{IsClosureLook, IsKernelLook, AreKernelLooks, AreClosureLooks}
use Rattle.mh_grammar.proofs.Lists.{get_unique, contains_at}

module _ (g : PlainGrammar) (I : ItemSet) where
  -- If the closure has a look of a nonterminal, it also has the looks that the nonterminal's productions pass on.
  closed_item : (n : ℕ) (b : Look) (q : ℕ) → IsClosureLook g I n b → IsProductionFor g n q → Close g I q 0 b
  closed_item n b q (wanted.IsClosureLook.wants c e m) f = sets.Close.added c e f m

  token_begins : (y : List Symbol) (tokens : List Look) (passes : Bool) (a b : Look) → IsStringFirst g y tokens passes → Contains tokens b → MayBegin g y a b
  token_begins y tokens passes a (Token z) r c = sets.MayBegin.begins ((r.begins (Token z)).0 c)
  token_begins y tokens passes a End r c = absurd ((r.begins End).0 c)

  pub kernel_look_is_closure_look : (n : ℕ) (b : Look) → IsKernelLook g I n b → IsClosureLook g I n b
  kernel_look_is_closure_look n b (wanted.IsKernelLook.seed c e m) = wanted.IsClosureLook.wants (sets.Close.given c) e m

  module _ {W : ℕ} where
    begun_wants : (n : ℕ) (a b : Look) (link : FirstLink W) → IsClosureLook g I n a → IsLinkOfNonterminal g n link → Contains link.tokens b → IsClosureLook g I link.to b
    begun_wants n a b link w l c = wanted.IsClosureLook.wants (closed_item n a l.production w l.produced) l.is.side (token_begins l.is.suffix link.tokens link.passes a b l.is.rest c)

    passed_wants : (n : ℕ) (b : Look) (link : FirstLink W) → IsClosureLook g I n b → IsLinkOfNonterminal g n link → link.passes ≡ true → IsClosureLook g I link.to b
    passed_wants n b link w l t = wanted.IsClosureLook.wants (closed_item n b l.production w l.produced) l.is.side (sets.MayBegin.passes (l.is.rest.empty.0 t))

    pub passed_look_is_closure_look : (n : ℕ) (links : List (FirstLink W)) (looks : List Look) → AreLinksOf g n links → ((a : Look) → Contains looks a → IsClosureLook g I n a) → ((a : Look) × IsClosureLook g I n a) → (m : ℕ) (b : Look) → IsPassedOnByOne links looks m b → IsClosureLook g I m b
    passed_look_is_closure_look n links looks l h some m b s =
        let w : IsClosureLook g I s.link.to b = elim s.is.passed [
          | inl c ↦ begun_wants n some.0 b s.link some.1 (l.sound s.link s.among) c
          | inr c ↦ passed_wants n b s.link (h b c.1) (l.sound s.link s.among) c.0
        ] in
        subst (λ (x : ℕ). IsClosureLook g I x b) (sym s.is.target_is) w

-- The loop invariant: the first `done` nonterminals of the queue were visited.
pub record SpreadSoFar {W : ℕ} (g : PlainGrammar) (f : Firsts W) (old s : PendingLooks W) (done : ℕ) : Type 0 where
  pub table : ArePendingLooks s
  pub size : vec_len s.looks ≡ g.nonterminals
  pub within : done ≤ length s.queue.items
  pub queued : AreQueued done s
  pub kept : (n : ℕ) (b : Look) → HasLook old n b → HasLook s n b
  pub sound : (I : Kernel) → AreKernelLooks g I old → (n : ℕ) (b : Look) → HasLook s n b → IsClosureLook g (Holds I) n b
  pub closed : (n : ℕ) (row : List (FirstLink W)) → slice_get f.links n ≡ Some row → ((x : Look) × HasLook s n x) → (IsWaiting s n → ⊥) → (m : ℕ) (b : Look) → IsPassedOnByOne row (looks_at s n) m b → HasLook s m b

pub SpreadSoFar-start : {W : ℕ} (g : PlainGrammar) (f : Firsts W) (s : PendingLooks W) → ArePendingLooks s → vec_len s.looks ≡ g.nonterminals → AreQueued 0 s → AreAllWaiting s → SpreadSoFar g f s s 0
SpreadSoFar-start g f s t size q awake = record {
  table = t;
  size = size;
  within = omega arith;
  queued = q;
  kept = λ n b k. k;
  sound = λ I seeds n b k. kernel_look_is_closure_look g (Holds I) n b ((seeds n b).0 k);
  closed = λ n row at some asleep m b step. absurd (asleep (awake n some.0 some.1));
}

-- A nonterminal with a look is in the grammar's range.
pub look_row_known : {W : ℕ} (g : PlainGrammar) (s : PendingLooks W) → vec_len s.looks ≡ g.nonterminals → length s.looks.items ≡ vec_len s.looks → (n : ℕ) (b : Look) → HasLook s n b → n < g.nonterminals
look_row_known g s size len n b k = elim (cases_lt n g.nonterminals) [
  | inl l ↦ l
  | inr past ↦ absurd (let e = get_or_past s.looks.items n [] (omega arith) in let P : List Look → Type 0 = λ xs. Contains xs b in let c = (subst P e k).1 in omega arith)
]

-- The nonterminal that is visited next is in range.
pub next_known : {W : ℕ} (g : PlainGrammar) (f : Firsts W) (old s : PendingLooks W) (done n : ℕ) → SpreadSoFar g f old s done → length s.looks.items ≡ vec_len s.looks → slice_get s.queue.items done ≡ Some n → n < g.nonterminals
next_known g f old s done n h len at = let some = h.table.queued_has_look n (contains_at s.queue.items done n at) in look_row_known g s h.size len n some.0 some.1

-- One visit: the flag is cleared, and then the looks that the links pass on are added.
module _ {W : ℕ} (g : PlainGrammar) (f : Firsts W) (old s mid new : PendingLooks W) (done n : ℕ) (row : List (FirstLink W)) (firsts : AreFirsts g f) (h : SpreadSoFar g f old s done) (at : slice_get s.queue.items done ≡ Some n) (there : slice_get f.links n ≡ Some row)
    (flags : mid.waiting.items ≡ set s.waiting.items n false) (flag : n < length s.waiting.items) (rows : vec_len mid.waiting ≡ vec_len s.waiting) (looks : mid.looks ≡ s.looks) (queue : mid.queue ≡ s.queue) where
  at_mid : (m : ℕ) → looks_at mid m ≡ looks_at s m
  at_mid m = ap (λ v. get_or v.items m []) looks

  to_mid : (m : ℕ) (b : Look) → HasLook s m b → HasLook mid m b
  to_mid m b k = let P : List Look → Type 0 = λ xs. Contains xs b in subst P (sym (at_mid m)) k

  from_mid : (m : ℕ) (b : Look) → HasLook mid m b → HasLook s m b
  from_mid m b k = let P : List Look → Type 0 = λ xs. Contains xs b in subst P (at_mid m) k

  asleep_mid : IsWaiting mid n → ⊥
  asleep_mid w = false≢true (sym (ap (λ v. get_or v n false) flags ∙ get_or-set_at s.waiting.items n n false false refl flag) ∙ w)

  not_n : (m : ℕ) → IsWaiting mid m → m ≡ n → ⊥
  not_n m w e = asleep_mid (subst (λ (x : ℕ). IsWaiting mid x) e w)

  wait_back : (m : ℕ) → IsWaiting mid m → IsWaiting s m
  wait_back m w = sym (get_or-set_other s.waiting.items n m false false (not_n m w)) ∙ sym (ap (λ v. get_or v m false) flags) ∙ w

  wait_to : (m : ℕ) → (m ≡ n → ⊥) → IsWaiting s m → IsWaiting mid m
  wait_to m o w = ap (λ v. get_or v m false) flags ∙ get_or-set_other s.waiting.items n m false false o ∙ w

  queue_is : mid.queue.items ≡ s.queue.items
  queue_is = ap (λ v. v.items) queue

  pub table_mid : ArePendingLooks mid
  table_mid = record {
    rows = (let e = h.table.rows in let k : vec_len mid.looks ≡ vec_len s.looks = ap (λ v. vec_len v) looks in omega arith);
    sets = rw looks h.table.sets;
    queued_has_look = λ m c. (let P : List ℕ → Type 0 = λ q. Contains q m in let f = h.table.queued_has_look m (subst P queue_is c) in (f.0, to_mid m f.0 f.1));
    looks_queued = λ m b k. (let P : List ℕ → Type 0 = λ q. Contains q m in subst P (sym queue_is) (h.table.looks_queued m b (from_mid m b k)));
    waiting_queued = λ m w. (let P : List ℕ → Type 0 = λ q. Contains q m in subst P (sym queue_is) (h.table.waiting_queued m (wait_back m w)));
  }

  queued_mid : AreQueued (done + 1) mid
  queued_mid m w =
      let q = h.queued m (wait_back m w) in
      let P : List ℕ → Type 0 = λ xs. slice_get xs q.0 ≡ Some m in
      let low = q.1 in
      elim (cases_eq q.0 done) [
        | inl e ↦ absurd (let here : slice_get s.queue.items done ≡ Some m = rw e at q.2 in not_n m w (sym (get_unique s.queue.items done n m at here)))
        | inr o ↦ (q.0, omega arith, subst P (sym queue_is) q.2)
      ]

  some_n : (x : Look) × HasLook s n x
  some_n = h.table.queued_has_look n (contains_at s.queue.items done n at)

  module _ (a : AddsLooks (IsPassedOnByOne row (looks_at s n)) mid new) where
    sound_new : (I : Kernel) → AreKernelLooks g I old → (m : ℕ) (b : Look) → HasLook new m b → IsClosureLook g (Holds I) m b
    sound_new I seeds m b k = elim (a.origin m b k) [
      | inl c ↦ h.sound I seeds m b (from_mid m b c)
      | inr step ↦ passed_look_is_closure_look g (Holds I) n row (looks_at s n) (firsts.links n row there) (λ x c. h.sound I seeds n x c) (some_n.0, h.sound I seeds n some_n.0 some_n.1) m b step
    ]

    -- The looks of a nonterminal that does not wait are unchanged.
    looks_new : (m : ℕ) → (IsWaiting new m → ⊥) → looks_at new m ≡ looks_at s m
    looks_new m asleep = elim (a.changes m) [ inl w ↦ absurd (asleep w) | inr e ↦ e ∙ at_mid m ]

    step_back : (m : ℕ) (other : List (FirstLink W)) → (IsWaiting new m → ⊥) → (k : ℕ) (b : Look) → IsPassedOnByOne other (looks_at new m) k b → IsPassedOnByOne other (looks_at s m) k b
    step_back m other asleep k b step = let P : List Look → Type 0 = λ xs. IsPassedOnByOne other xs k b in subst P (looks_new m asleep) step

    closed_new : (m : ℕ) (other : List (FirstLink W)) → slice_get f.links m ≡ Some other → ((x : Look) × HasLook new m x) → (IsWaiting new m → ⊥) → (k : ℕ) (b : Look) → IsPassedOnByOne other (looks_at new m) k b → HasLook new k b
    closed_new m other list some asleep k b step = elim (cases_eq m n) [
      | inl e ↦ (let same : other ≡ row = get_unique f.links n other row (rw e at list) there in
          let P : ℕ → Type 0 = λ x. IsPassedOnByOne other (looks_at s x) k b in
          let Q : List (FirstLink W) → Type 0 = λ x. IsPassedOnByOne x (looks_at s n) k b in
          a.added k b (subst Q same (subst P e (step_back m other asleep k b step))))
      | inr o ↦ (let P : List Look → Type 0 = λ xs. Contains xs some.0 in
          a.kept k b (to_mid k b (h.closed m other list (some.0, subst P (looks_new m asleep) some.1) (λ w. asleep (a.still_waiting m (wait_to m o w))) k b (step_back m other asleep k b step))))
    ]

    longer_mid : done + 1 ≤ length mid.queue.items
    longer_mid = let l = slice_get_within s.queue.items done n at in let e = ap (λ (q : List ℕ). length q) queue_is in omega arith

    pub SpreadSoFar-step : SpreadSoFar g f old new (done + 1)
    SpreadSoFar-step = record {
      table = a.table;
      size = a.size ∙ (let k : vec_len mid.looks ≡ vec_len s.looks = ap (λ v. vec_len v) looks in k) ∙ h.size;
      within = prefix_kept mid new (done + 1) longer_mid a.queue_extends;
      queued = a.queued (done + 1) longer_mid queued_mid;
      kept = λ m b k. a.kept m b (to_mid m b (h.kept m b k));
      sound = sound_new;
      closed = closed_new;
    }

    -- The number of visits that are left decreases.
    pub work_decreases : work_left new - (done + 1) < work_left s - done
    work_decreases =
        let l = slice_get_within s.queue.items done n at in
        let e = ap (λ (q : List ℕ). length q) queue_is in
        let k = ap (λ v. sum_by (λ (xs : List Look). 64 * W + 1 - length xs) v.items) looks in
        let less = a.less in
        omega arith

-- At the end of the loop no nonterminal waits.
pub none_waiting : {W : ℕ} (g : PlainGrammar) (f : Firsts W) (old s : PendingLooks W) (done : ℕ) → SpreadSoFar g f old s done → length s.queue.items ≤ done → (n : ℕ) → IsWaiting s n → ⊥
none_waiting g f old s done h all n w = let q = h.queued n w in let l = slice_get_within s.queue.items q.0 n q.2 in let m = q.1 in omega arith

module _ {W : ℕ} (g : PlainGrammar) (f : Firsts W) (kernel : Kernel) (old s : PendingLooks W) (done : ℕ) (firsts : AreFirsts g f) (h : SpreadSoFar g f old s done) (all : length s.queue.items ≤ done) (len : length s.looks.items ≡ vec_len s.looks) (seeds : AreKernelLooks g kernel old) where
  asleep : (n : ℕ) → IsWaiting s n → ⊥
  asleep n w = let q = h.queued n w in let l = slice_get_within s.queue.items q.0 n q.2 in let m = q.1 in omega arith

  known : (n : ℕ) (b : Look) → HasLook s n b → n < g.nonterminals
  known = look_row_known g s h.size len

  row_of : (n : ℕ) → n < g.nonterminals → (row : List (FirstLink W)) × (slice_get f.links n ≡ Some row)
  row_of n l = (get_or f.links n [], slice_get-get_or f.links n [] (omega (arith, firsts.len)))

  link_for : (n q m : ℕ) (y : List Symbol) (row : List (FirstLink W)) → slice_get f.links n ≡ Some row → IsProductionFor g n q → rhs_of g q ≡ N m ∷ y → (link : FirstLink W) × Contains row link × (link.to ≡ m) × IsStringFirst g y link.tokens link.passes
  link_for n q m y row at p e =
      let found = (firsts.links n row at).complete q m y p e in
      let is = found.2 in
      let both : N found.0.to ∷ is.suffix ≡ N m ∷ y = sym is.side ∙ e in
      let one : N found.0.to ≡ N m = cc in
      let target : found.0.to ≡ m = cc in
      let behind : is.suffix ≡ y = cc in
      (found.0, found.1, target, rw behind at is.rest)

  next : (n m : ℕ) (y : List Symbol) (a b : Look) (q : ℕ) → HasLook s n a → IsProductionFor g n q → rhs_of g q ≡ N m ∷ y → MayBegin g y a b → HasLook s m b
  next n m y a b q c p e (sets.MayBegin.begins {z = z} k) =
      let row = row_of n (known n a c) in
      let link = link_for n q m y row.0 row.1 p e in
      h.closed n row.0 row.1 (a, c) (asleep n) m (Token z) (record { link = link.0; among = link.1; is = record { target_is = sym link.2; passed = inl ((link.3.begins (Token z)).1 k) } })
  next n m y a b q c p e (sets.MayBegin.passes k) =
      let row = row_of n (known n a c) in
      let link = link_for n q m y row.0 row.1 p e in
      h.closed n row.0 row.1 (a, c) (asleep n) m a (record { link = link.0; among = link.1; is = record { target_is = sym link.2; passed = inr (link.3.empty.1 k, c) } })

  asked : (p d : ℕ) (a : Look) → Close g (Holds kernel) p d a → (n : ℕ) (y : List Symbol) (b : Look) → drop d (rhs_of g p) ≡ N n ∷ y → MayBegin g y a b → HasLook s n b
  asked p d a (sets.Close.given k) n y b e m = h.kept n b ((seeds n b).1 (wanted.IsKernelLook.seed k e m))
  asked p d a (sets.Close.added {n = n'} {y = y'} c e' f' m') n y b e m = next n' n y a b p (asked _ _ _ c n' y' a e' m') f' e m

  wants_asked : (n : ℕ) (b : Look) → IsClosureLook g (Holds kernel) n b → HasLook s n b
  wants_asked n b (wanted.IsClosureLook.wants {p = p} {d = d} {y = y} {a = a} c e m) = asked p d a c n y b e m

  pub are_closure_looks : AreClosureLooks g kernel s
  are_closure_looks = record { exact = λ n b. (h.sound kernel seeds n b, wants_asked n b) }

-- The looks alone decide whether they are those of the closure.
pub same_closure_looks : {W : ℕ} (g : PlainGrammar) (kernel : Kernel) (old new : PendingLooks W) → new.looks ≡ old.looks → AreClosureLooks g kernel old → AreClosureLooks g kernel new
same_closure_looks g kernel old new same w = record { exact = λ n b. rw same (w.exact n b) }
