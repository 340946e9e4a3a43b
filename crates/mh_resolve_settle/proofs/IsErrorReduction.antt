-- Lemmas on the search for the only candidate with the lowest rank.
use Rattle.std.proofs.Common.{◌≡◌, ℕ, ◌<◌, ◌+◌, ◌⊎◌, ◌||◌, not, eqb, lt-ltb, le-ltb, List, [], Option, Some, None, length, take, get_or, Bool, true, false, refl, ap, sym, ◌∙◌, arith, inl, inr}
use Rattle.std.specs.Prelude.{MatchBool, if◌then◌else◌}
use Rattle.std.specs.List.{All}
use Rattle.std.proofs.lemmas.Bool.{cases_lt}
use Rattle.std.proofs.lemmas.Bool.Decides.{Decides-eqb}
use Rattle.std.proofs.lemmas.List.Elements.{All-contains}
use Rattle.mh_grammar.specs.declared.types.Grammar.{Grammar}
use Rattle.mh_items_kernels.specs.KernelTypes.{KernelItem}
use Rattle.mh_grammar.specs.Plain.{plain_of, rhs_of}
use Rattle.mh_resolve_cells.specs.declared.cells.BestCandidate.{BestCandidate}
use Rattle.mh_resolve_cells.specs.Precedence.{error_rank}
use Rattle.mh_resolve_cells.specs.States.{IsErrorCandidate, IsErrorReduction}
use Rattle.mh_resolve_cells.specs.code.CellRows.{state_of_items, rank_in, best_with, IsRanked, IsBest, HasSomeLook}
use Rattle.mh_grammar.proofs.Lists.{some_item, take_step_keeps, take_step_cases, take_step_last}

abbrev IsTied : (ℕ → ℕ → Type 0) → ℕ → ℕ → Bool → Type 0
IsTied Ranked p r b = MatchBool b ((q : ℕ) × Ranked q r × (q ≡ p → ⊥)) ((q : ℕ) → Ranked q r → q ≡ p)

-- The candidates are those before and one more.
record IsMore (Ranked Ranked' : ℕ → ℕ → Type 0) (p r : ℕ) : Type 0 where
  new : (q s : ℕ) → Ranked' q s → Ranked q s ⊎ ((q ≡ p) × (s ≡ r))
  old : (q s : ℕ) → Ranked q s → Ranked' q s
  added : Ranked' p r

tied_lower : (Ranked Ranked' : ℕ → ℕ → Type 0) (p r q s : ℕ) → IsMore Ranked Ranked' p r → s < r → (b : Bool) → IsTied Ranked q s b → IsTied Ranked' q s b
tied_lower Ranked Ranked' p r q s m lt true t = (t.0, m.old t.0 s t.1, t.2)
tied_lower Ranked Ranked' p r q s m lt false t = λ x h. elim (m.new x s h) [ inl k ↦ t x k | inr e ↦ absurd (omega (arith, e.1)) ]

tied_same : (Ranked Ranked' : ℕ → ℕ → Type 0) (p r q s : ℕ) → IsMore Ranked Ranked' p r → s ≡ r → (b e : Bool) → eqb p q ≡ e → IsTied Ranked q s b → IsTied Ranked' q s (b || not e)
tied_same Ranked Ranked' p r q s m same true e f t = (t.0, m.old t.0 s t.1, t.2)
tied_same Ranked Ranked' p r q s m same false true f t = λ x h. elim (m.new x s h) [ inl k ↦ t x k | inr e ↦ e.0 ∙ (Decides-eqb p q).0 f ]
tied_same Ranked Ranked' p r q s m same false false f t = (p, rw same m.added, λ e. let no : true ≡ false = sym ((Decides-eqb p q).1 e) ∙ f in cc)

best_more : (Ranked Ranked' : ℕ → ℕ → Type 0) (p r : ℕ) → IsMore Ranked Ranked' p r → (best : Option BestCandidate) → IsBest Ranked best → IsBest Ranked' (Some (best_with best p r))
best_more Ranked Ranked' p r m None b = (
  m.added,
  λ q s h. elim (m.new q s h) [ inl k ↦ absurd (b q s k) | inr e ↦ omega (arith, e.1) ],
  λ q h. elim (m.new q r h) [ inl k ↦ absurd (b q r k) | inr e ↦ e.0 ],
)
best_more Ranked Ranked' p r m (Some o) b =
    elim (cases_lt r o.rank) [
      | inl lt ↦ rw (lt-ltb r o.rank lt) (
        m.added,
        λ q s h. elim (m.new q s h) [ inl k ↦ (let le = b.1 q s k in omega arith) | inr e ↦ omega (arith, e.1) ],
        λ q h. elim (m.new q r h) [ inl k ↦ absurd (let le = b.1 q r k in omega arith) | inr e ↦ e.0 ],
      )
      | inr ge ↦ rw (le-ltb r o.rank ge) (
          elim (cases_lt o.rank r) [
            | inl lt ↦ rw (lt-ltb o.rank r lt) (
              m.old o.production o.rank b.0,
              λ q s h. elim (m.new q s h) [ inl k ↦ b.1 q s k | inr e ↦ omega (arith, e.1) ],
              tied_lower Ranked Ranked' p r o.production o.rank m lt o.tied b.2,
            )
            | inr le ↦ rw (le-ltb o.rank r le) (
              m.old o.production o.rank b.0,
              λ q s h. elim (m.new q s h) [ inl k ↦ b.1 q s k | inr e ↦ omega (arith, e.1) ],
              tied_same Ranked Ranked' p r o.production o.rank m (omega arith) o.tied (eqb p o.production) refl b.2,
            )
          ])
    ]

best_same : (Ranked Ranked' : ℕ → ℕ → Type 0) → ((q s : ℕ) → Ranked' q s → Ranked q s) → ((q s : ℕ) → Ranked q s → Ranked' q s) → (best : Option BestCandidate) → IsBest Ranked best → IsBest Ranked' best
best_same Ranked Ranked' new old None b = λ q s h. b q s (new q s h)
best_same Ranked Ranked' new old (Some o) b = (old o.production o.rank b.0, λ q s h. b.1 q s (new q s h), go o.tied b.2)
  where
    go : (t : Bool) → IsTied Ranked o.production o.rank t → IsTied Ranked' o.production o.rank t
    go true t = (t.0, old t.0 o.rank t.1, t.2)
    go false t = λ q h. t q (new q o.rank h)

pub ranked_more : (g : Grammar) (xs : List KernelItem) (i : ℕ) (item : KernelItem) (r : ℕ) (best : Option BestCandidate) (new : BestCandidate) → i < length xs → item ≡ get_or xs i item → rank_in g item ≡ Some r → new ≡ best_with best item.production r
    → IsBest (IsRanked g (take i xs)) best → IsBest (IsRanked g (take (i + 1) xs)) (Some new)
ranked_more g xs i item r best new h is e f b =
    rw f (best_more (IsRanked g (take i xs)) (IsRanked g (take (i + 1) xs)) item.production r
    (record {
      new = λ q s k. elim (take_step_cases xs i item h is k.item k.item_listed) [
        | inl c ↦ inl (record { item = k.item; item_listed = c; production = k.production; rank = k.rank })
        | inr x ↦ inr (sym k.production ∙ ap (λ (y : KernelItem). y.production) (sym x), let y : Some s ≡ Some r = sym k.rank ∙ ap (rank_in g) (sym x) ∙ e in cc)
      ];
      old = λ q s k. record { item = k.item; item_listed = take_step_keeps xs i k.item h k.item_listed; production = k.production; rank = k.rank };
      added = record { item = item; item_listed = take_step_last xs i item h is; production = refl; rank = e };
    }) best b)

pub ranked_same : (g : Grammar) (xs : List KernelItem) (i : ℕ) (item : KernelItem) (best : Option BestCandidate) → i < length xs → item ≡ get_or xs i item → rank_in g item ≡ None → IsBest (IsRanked g (take i xs)) best → IsBest (IsRanked g (take (i + 1) xs)) best
ranked_same g xs i item best h is e b =
    best_same (IsRanked g (take i xs)) (IsRanked g (take (i + 1) xs))
    (λ q s k. elim (take_step_cases xs i item h is k.item k.item_listed) [
      | inl c ↦ record { item = k.item; item_listed = c; production = k.production; rank = k.rank }
      | inr x ↦ absurd (let y : Some s ≡ None = sym k.rank ∙ ap (rank_in g) (sym x) ∙ e in cc)
    ])
    (λ q s k. record { item = k.item; item_listed = take_step_keeps xs i k.item h k.item_listed; production = k.production; rank = k.rank })
    best b

complete_ranked : (g : Grammar) (item : KernelItem) (r : ℕ) (b : Bool) → eqb item.dot (length (rhs_of (plain_of g) item.production)) ≡ b → (if b then error_rank g item.production else None) ≡ Some r → (item.dot ≡ length (rhs_of (plain_of g) item.production)) × (error_rank g item.production ≡ Some r)
complete_ranked g item r true e f = ((Decides-eqb item.dot (length (rhs_of (plain_of g) item.production))).0 e, f)
complete_ranked g item r false e f = cc

ranked_candidate : (g : Grammar) (xs : List KernelItem) → All HasSomeLook xs → (p r : ℕ) → IsRanked g xs p r → IsErrorCandidate (state_of_items g xs []) p r
ranked_candidate g xs all p r k =
    let item = k.item in
    let is = complete_ranked g item r (eqb item.dot (length (rhs_of (plain_of g) item.production))) refl k.rank in
    let look = some_item item.looks (All-contains HasSomeLook xs item all k.item_listed) in
    let same : item.production ≡ p = k.production in
    record {
      look = look.0;
      complete = (item, k.item_listed, same, is.0 ∙ ap (λ n. length (rhs_of (plain_of g) n)) same, look.1);
      rank_is = ap (error_rank g) (sym same) ∙ is.1;
    }

candidate_ranked : (g : Grammar) (xs : List KernelItem) (p r : ℕ) → IsErrorCandidate (state_of_items g xs []) p r → IsRanked g xs p r
candidate_ranked g xs p r c =
    let item = c.complete.0 in
    let same : item.production ≡ p = c.complete.2 in
    let dot : item.dot ≡ length (rhs_of (plain_of g) item.production) = c.complete.3 ∙ ap (λ n. length (rhs_of (plain_of g) n)) (sym same) in
    record {
      item = item;
      item_listed = c.complete.1;
      production = same;
      rank = rw ((Decides-eqb item.dot (length (rhs_of (plain_of g) item.production))).1 dot) (ap (error_rank g) same ∙ c.rank_is);
    }

-- If the best candidate is not tied, its production is the error reduction of the state.
pub IsErrorReduction-untied : (g : Grammar) (xs : List KernelItem) → All HasSomeLook xs → (best : BestCandidate) → best.tied ≡ false → IsBest (IsRanked g xs) (Some best) → IsErrorReduction (state_of_items g xs []) best.production
IsErrorReduction-untied g xs all best e b =
    record {
      rank = best.rank;
      candidate = ranked_candidate g xs all best.production best.rank b.0;
      lowest = λ q r c. lowest q r (candidate_ranked g xs q r c);
    }
  where
    only : IsTied (IsRanked g xs) best.production best.rank false
    only = rw e at b.2

    lowest : (q r : ℕ) → IsRanked g xs q r → (q ≡ best.production) ⊎ (best.rank < r)
    lowest q r k =
        elim (cases_lt best.rank r) [
          | inl lt ↦ inr lt
          | inr ge ↦ (let le = b.1 q r k in let same : r ≡ best.rank = omega arith in inl (only q (rw same at k)))
        ]

pub no_errors : (g : Grammar) (xs : List KernelItem) → All HasSomeLook xs → (best : BestCandidate) → best.tied ≡ true → IsBest (IsRanked g xs) (Some best) → (p : ℕ) → IsErrorReduction (state_of_items g xs []) p → ⊥
no_errors g xs all best e b p f =
    elim (f.lowest other.0 best.rank (ranked_candidate g xs all other.0 best.rank other.1)) [
      | inl x ↦ elim (f.lowest best.production best.rank (ranked_candidate g xs all best.production best.rank b.0)) [
        | inl y ↦ other.2 (x ∙ sym y)
        | inr lt ↦ above lt
      ]
      | inr lt ↦ above lt
    ]
  where
    other : IsTied (IsRanked g xs) best.production best.rank true
    other = rw e at b.2

    above : f.rank < best.rank → ⊥
    above lt = let le = b.1 p f.rank (candidate_ranked g xs p f.rank f.candidate) in omega arith

pub none_ranked : (g : Grammar) (xs : List KernelItem) → IsBest (IsRanked g xs) None → (p : ℕ) → IsErrorReduction (state_of_items g xs []) p → ⊥
none_ranked g xs b p f = b p f.rank (candidate_ranked g xs p f.rank f.candidate)
