-- Loop invariants for the sets and lists from which closures are computed.
use Rattle.std.proofs.Common.{◌≡◌, ℕ, ◌+◌, ◌*◌, ◌<◌, ◌≤◌, ◌⊎◌, ◌↔◌, List, [], ◌∷◌, ◌++◌, Some, length, get_or, set, refl, sym, ap, subst, ◌∙◌, arith, inl, inr, get_or-set_same}
use Rattle.std.specs.List.{slice_get, Contains, All}
use Rattle.std.proofs.lemmas.Bool.{cases_eq}
use Rattle.std.proofs.lemmas.List.{get_or-set_other, length-set, get_or_push, get_or_append_left, length_push}
use Rattle.std.proofs.lemmas.List.Elements.{Contains-push, Contains-push_cases, Contains-append_left, All-cons, All-nil, Contains-get_or}
use Rattle.std.proofs.lemmas.Option.{slice_get-get_or, get_or_from_slice_get, slice_get_read, slice_get_within}
use Rattle.mh_grammar.specs.declared.types.Symbol.TheVariants.{N}
use Rattle.mh_grammar.specs.declared.types.Production.{Production}
use Rattle.mh_grammar.specs.Plain.{PlainGrammar, IsInRange, IsProductionFor, IsProductionBelow, IsSymbolBelow}
use Rattle.mh_grammar.specs.First.{First}
use Rattle.mh_grammar.proofs.ProductionNumbers.{IsProductionFor-ordinary, listed_from_for}
use Rattle.mh_items.specs.declared.links.FirstLink.{FirstLink}
use Rattle.mh_items.specs.code.Links.{IsTokenOf}
use Rattle.mh_items.specs.Firsts.{IsFirstLook, IsFirstLink}
use Rattle.mh_grammar.specs.declared.types.Look.{Look}
use Rattle.mh_grammar.specs.declared.types.Look.TheVariants.{Token, End}
use Rattle.mh_grammar.specs.First as first
use Rattle.mh_grammar.proofs.FirstFlags.{first_of-below}
use Rattle.mh_items.proofs.IsStringFirst.{LinksSoFar, LinksSoFar-push, LinksSoFar-skip}
use Rattle.mh_grammar.proofs.Lists.{get_unique, all_at}

-- Lemmas on FIRST as token sets.

first_below : (g : PlainGrammar) → IsInRange g → (n a : ℕ) → n < g.nonterminals → First g (N n) a → a < g.tokens
first_below g r n a l f = first_of-below g g.tokens g.nonterminals r.productions a (N n ∷ []) (first.FirstOf.here f) (All-cons (IsSymbolBelow g.tokens g.nonterminals) (N n) [] l (All-nil (IsSymbolBelow g.tokens g.nonterminals)))

begins_token : (g : PlainGrammar) (n : ℕ) (row : List ℕ) → ((a : ℕ) → Contains row a ↔ First g (N n) a) → (b : Look) → IsTokenOf row b ↔ IsFirstLook g (N n) b
begins_token g n row h (Token a) = h a
begins_token g n row h End = ((λ x. x), (λ x. x))

-- The next row of FIRST: its tokens fit the width, and they are FIRST of nonterminal i.
pub record NextFirst (g : PlainGrammar) (W i : ℕ) (row : List ℕ) : Type 0 where
  pub below : All (λ a. a < 64 * W) row
  pub exact : (b : Look) → IsTokenOf row b ↔ IsFirstLook g (N i) b

pub next_first : (g : PlainGrammar) (W : ℕ) (rows : List (List ℕ)) (i : ℕ) (row : List ℕ) → IsInRange g → g.tokens ≤ 64 * W → length rows ≡ g.nonterminals → ((n : ℕ) (r : List ℕ) → slice_get rows n ≡ Some r → (a : ℕ) → Contains r a ↔ First g (N n) a) → slice_get rows i ≡ Some row → NextFirst g W i row
next_first g W rows i row r w len exact at =
    let l = slice_get_within rows i row at in
    let e = exact i row at in
    record {
      below = λ k d kl. (let f = first_below g r i (get_or row k d) (omega arith) ((e (get_or row k d)).0 (Contains-get_or row k d kl)) in omega arith);
      exact = begins_token g i row e;
    }

pub record FirstsSoFar (g : PlainGrammar) (made : List (List Look)) (i : ℕ) : Type 0 where
  pub len : length made ≡ i
  pub exact : (n : ℕ) (b : Look) → n < i → Contains (get_or made n []) b ↔ IsFirstLook g (N n) b

pub FirstsSoFar-push : (g : PlainGrammar) (made : List (List Look)) (i : ℕ) (set' : List Look) → FirstsSoFar g made i → ((b : Look) → Contains set' b ↔ IsFirstLook g (N i) b) → FirstsSoFar g (made ++ set' ∷ []) (i + 1)
FirstsSoFar-push g made i set' h e = record {
  len = length_push made set' ∙ ap (λ n. n + 1) h.len;
  exact = λ n b l. elim (cases_eq n i) [
    | inl same ↦ (let at = get_or_push made set' [] n (h.len ∙ sym same) in rw (at, same) (e b))
    | inr o ↦ (let at = get_or_append_left made (set' ∷ []) [] n (omega (arith, h.len)) in rw at (h.exact n b (omega arith)))
  ];
}

-- If one row changes, a property of all rows follows from that of the new row and of the other rows.
pub rows_set : {X : Type 0} (P Q : ℕ → List X → Type 0) (rows : List (List X)) (n : ℕ) (new : List X) → n < length rows → ((k : ℕ) (row : List X) → slice_get rows k ≡ Some row → P k row) → Q n new
    → ((k : ℕ) (row : List X) → (k ≡ n → ⊥) → P k row → Q k row) → (k : ℕ) (row : List X) → slice_get (set rows n new) k ≡ Some row → Q k row
rows_set P Q rows n new l h here other k row at = elim (cases_eq k n) [
  | inl same ↦ (let one : new ≡ row = sym (get_or-set_same rows n new row l) ∙ get_or_from_slice_get (set rows n new) n row row (rw same at at) in rw (same, ← one) here)
  | inr differs ↦ (let short : k < length rows = omega (arith, slice_get_within (set rows n new) k row at, length-set rows n new) in
      let one = sym (get_or-set_other rows n k new row differs) ∙ get_or_from_slice_get (set rows n new) k row row at in
      other k row differs (h k row (slice_get-get_or rows k row short ∙ ap Some one)))
]

-- The loop invariant: the list holds the numbers of the productions of n below an upper bound.
pub record NumbersSoFar (g : PlainGrammar) (n : ℕ) (row : List ℕ) (upto : ℕ) : Type 0 where
  pub sound : (p : ℕ) → Contains row p → IsProductionFor g n p
  pub complete : (k : ℕ) (p : Production) → k < upto → slice_get g.productions k ≡ Some p → p.lhs ≡ n → Contains row (length g.starts + k)

pub NumbersSoFar-start : (g : PlainGrammar) (n : ℕ) → NumbersSoFar g n [] 0
NumbersSoFar-start g n = record { sound = λ p c. absurd (omega (arith, c.1)); complete = λ k p l. absurd (omega arith) }

module _ (g : PlainGrammar) (n : ℕ) (row : List ℕ) (i : ℕ) (p : Production) (h : NumbersSoFar g n row i) (at : slice_get g.productions i ≡ Some p) where
  pub NumbersSoFar-push : p.lhs ≡ n → NumbersSoFar g n (row ++ (length g.starts + i) ∷ []) (i + 1)
  NumbersSoFar-push lhs = record {
    sound = λ q c. elim (Contains-push_cases row (length g.starts + i) q c) [
      | inl k ↦ h.sound q k
      | inr e ↦ rw (← e, ← lhs) (IsProductionFor-ordinary g i p at)
    ];
    complete = λ k q l read same. elim (cases_eq k i) [
      | inl e ↦ rw e (Contains-push row (length g.starts + i))
      | inr o ↦ Contains-append_left row ((length g.starts + i) ∷ []) (length g.starts + k) (h.complete k q (omega arith) read same)
    ];
  }

  pub NumbersSoFar-skip : (p.lhs ≡ n → ⊥) → NumbersSoFar g n row (i + 1)
  NumbersSoFar-skip differs = record {
    sound = h.sound;
    complete = λ k q l read same. elim (cases_eq k i) [
      | inl e ↦ absurd (let one : q ≡ p = get_unique g.productions i q p (rw e at read) at in differs (sym (ap (λ (z : Production). z.lhs) one) ∙ same))
      | inr o ↦ h.complete k q (omega arith) read same
    ];
  }

pub NumbersSoFar-all : (g : PlainGrammar) (n : ℕ) (row : List ℕ) (upto : ℕ) → length g.productions ≤ upto → NumbersSoFar g n row upto → (p : ℕ) → Contains row p ↔ IsProductionFor g n p
NumbersSoFar-all g n row upto all h p = (
  h.sound p,
  λ for. (let at = listed_from_for g n p for in rw at.number (h.complete at.place at.production (omega (arith, slice_get_within g.productions at.place at.production at.at)) at.at at.lhs)),
)

-- Production i of the loop, whose left side has a row.
pub record HasRow (g : PlainGrammar) (rows i : ℕ) (p : Production) : Type 0 where
  pub at : slice_get g.productions i ≡ Some p
  pub within : p.lhs < rows

pub has_row : (g : PlainGrammar) → IsInRange g → (ps : List Production) → ps ≡ g.productions → (rows i : ℕ) (p : Production) → rows ≡ g.nonterminals → i < length ps → p ≡ get_or ps i p → HasRow g rows i p
has_row g range ps same rows i p len l is =
    let short : i < length g.productions = rw same at l in
    let item = rw same at is in
    let below = (all_at (IsProductionBelow g.tokens g.nonterminals) g.productions i p range.productions short item).lhs in
    record { at = slice_get_read g.productions (length g.productions) i p refl short item; within = omega arith }

-- The row of the left side gets one number more, and the loop invariant advances by one production.
pub numbers_set : (g : PlainGrammar) (rows : List (List ℕ)) (i : ℕ) (p : Production) (row : List ℕ) → slice_get g.productions i ≡ Some p → p.lhs < length rows → row ≡ get_or rows p.lhs row
    → ((n : ℕ) (r : List ℕ) → slice_get rows n ≡ Some r → NumbersSoFar g n r i)
    → (n : ℕ) (r : List ℕ) → slice_get (set rows p.lhs (row ++ (length g.starts + i) ∷ [])) n ≡ Some r → NumbersSoFar g n r (i + 1)
numbers_set g rows i p row at l is h =
    let here = h p.lhs row (slice_get_read rows (length rows) p.lhs row refl l is) in
    rows_set (λ n r. NumbersSoFar g n r i) (λ n r. NumbersSoFar g n r (i + 1)) rows p.lhs (row ++ (length g.starts + i) ∷ []) l h
    (NumbersSoFar-push g p.lhs row i p here at refl)
    (λ n r differs k. NumbersSoFar-skip g n r i p k at (λ e. differs (sym e)))

pub links_set : {W : ℕ} (g : PlainGrammar) → IsInRange g → (rows : List (List (FirstLink W))) (i : ℕ) (p : Production) (row : List (FirstLink W)) (link : FirstLink W) → slice_get g.productions i ≡ Some p → IsFirstLink g p.rhs link → p.lhs < length rows → row ≡ get_or rows p.lhs row
    → ((n : ℕ) (r : List (FirstLink W)) → slice_get rows n ≡ Some r → LinksSoFar g n r i)
    → (n : ℕ) (r : List (FirstLink W)) → slice_get (set rows p.lhs (row ++ link ∷ [])) n ≡ Some r → LinksSoFar g n r (i + 1)
links_set g range rows i p row link at link_is l is h =
    let here = h p.lhs row (slice_get_read rows (length rows) p.lhs row refl l is) in
    rows_set (λ n r. LinksSoFar g n r i) (λ n r. LinksSoFar g n r (i + 1)) rows p.lhs (row ++ link ∷ []) l h
    (LinksSoFar-push g range p.lhs row i p here at link refl link_is)
    (λ n r differs k. LinksSoFar-skip g range n r i p k at (λ e. absurd (differs (sym e))))

-- One more token is added to the set.
pub token_step : (front : List ℕ) (t : ℕ) (old new : List Look) → ((b : Look) → Contains old b ↔ IsTokenOf front b) → ((b : Look) → Contains new b ↔ (Contains old b ⊎ (b ≡ Token t))) → (b : Look) → Contains new b ↔ IsTokenOf (front ++ t ∷ []) b
token_step front t old new h m (Token a) = (
  (λ c. elim ((m (Token a)).0 c) [
    | inl k ↦ Contains-append_left front (t ∷ []) a ((h (Token a)).0 k)
    | inr e ↦ (let same : a ≡ t = cc in let P : ℕ → Type 0 = Contains (front ++ t ∷ []) in subst P (sym same) (Contains-push front t))
  ]),
  (λ c. elim (Contains-push_cases front t a c) [ inl k ↦ (m (Token a)).1 (inl ((h (Token a)).1 k)) | inr e ↦ (m (Token a)).1 (inr (ap Token (sym e))) ]),
)
token_step front t old new h m End = (
  (λ c. elim ((m End).0 c) [ inl k ↦ (h End).0 k | inr e ↦ cc ]),
  (λ c. absurd c),
)
