-- Lemmas on FIRST of strings of symbols, symbol by symbol.
use Rattle.std.proofs.Common.{◌≡◌, ℕ, ◌+◌, ◌<◌, ◌⊎◌, ◌↔◌, true, false, List, [], ◌∷◌, ◌++◌, Some, None, length, get_or, refl, sym, ap, subst, ◌∙◌, arith, inl, inr}
use Rattle.std.specs.List.{slice_get, All, Contains}
use Rattle.std.proofs.lemmas.Bool.{cases_eq, false≢true}
use Rattle.std.proofs.lemmas.List.Elements.{All-head, All-push, Contains-push, Contains-push_cases, Contains-append_left}
use Rattle.std.proofs.lemmas.Option.{slice_get_within, get_or_from_slice_get, slice_get_read}
use Rattle.mh_grammar.specs.declared.types.Symbol.{Symbol}
use Rattle.mh_grammar.specs.declared.types.Symbol.TheVariants.{T, N}
use Rattle.mh_grammar.specs.declared.types.Look.{Look}
use Rattle.mh_grammar.specs.declared.types.Look.TheVariants.{Token, End}
use Rattle.mh_grammar.specs.declared.types.Production.{Production}
use Rattle.mh_grammar.specs.Derivations as trees
use Rattle.mh_grammar.specs.Marked.{Marked}
use Rattle.mh_grammar.specs.Marked as marked
use Rattle.mh_grammar.specs.Plain.{PlainGrammar, Derives, DerivesAll, IsInRange, IsSymbolBelow, rhs_of}
use Rattle.mh_grammar.specs.First as first
use Rattle.mh_grammar.specs.First.{First, FirstOf}
use Rattle.mh_grammar.proofs.LeastMarks.{marked-from_nil}
use Rattle.mh_grammar.proofs.ProductionNumbers.{IsProductionFor-ordinary, rhs_of-ordinary, listed_from_for}
use Rattle.mh_items.specs.declared.links.FirstLink.{FirstLink}
use Rattle.mh_items.specs.declared.first_sets.NullableAndFirst.{NullableAndFirst}
use Rattle.mh_items.specs.Firsts.{AreNullableAndFirst, IsFirstLook, IsFirstLookOfString, IsStringFirst, IsFirstLink, IsLinkOfNonterminal, AreLinksOf}
use Rattle.mh_grammar.proofs.Lists.{get_unique, nil_parts}

-- A nonterminal is not a token, and the first symbol of a nonempty string exists.
pub no_token : (n a : ℕ) → Some (N n) ≡ Some (T a) → ⊥
no_token n a e = cc

pub not_none : (n : ℕ) → Some (N n) ≡ None → ⊥
not_none n e = cc

unmarked : (ps : List Production) (a : ℕ) → Marked false ps (T a) → ⊥
unmarked ps a (marked.Marked.token e) = false≢true e

-- A token does not derive the empty word.
pub token_not_empty : (g : PlainGrammar) (a : ℕ) → Derives g (T a) [] → ⊥
token_not_empty g a t = unmarked g.productions a (marked-from_nil g (T a) [] t refl)

token_first : (g : PlainGrammar) (t a : ℕ) → First g (T t) a → t ≡ a
token_first g t a first.First.token = refl

token_begins : (g : PlainGrammar) (t : ℕ) (b : Look) → IsFirstLook g (T t) b → b ≡ Token t
token_begins g t (Token a) f = ap Token (sym (token_first g t a f))
token_begins g t End f = absurd f

begins_token : (g : PlainGrammar) (t : ℕ) (b : Look) → b ≡ Token t → IsFirstLook g (T t) b
begins_token g t b e = let P : Look → Type 0 = IsFirstLook g (T t) in subst P (sym e) first.First.token

pub add_token : (g : PlainGrammar) (old new : List Look) (t : ℕ) → ((b : Look) → Contains new b ↔ (Contains old b ⊎ (b ≡ Token t))) → (b : Look) → Contains new b ↔ (Contains old b ⊎ IsFirstLook g (T t) b)
add_token g old new t h b = (
  (λ c. elim ((h b).0 c) [ inl k ↦ inl k | inr e ↦ inr (begins_token g t b e) ]),
  (λ s. elim s [ inl k ↦ (h b).1 (inl k) | inr f ↦ (h b).1 (inr (token_begins g t b f)) ]),
)

pub add_row : (g : PlainGrammar) (old row new : List Look) (n : ℕ) → ((b : Look) → Contains new b ↔ (Contains old b ⊎ Contains row b)) → ((b : Look) → Contains row b ↔ IsFirstLook g (N n) b) → (b : Look) → Contains new b ↔ (Contains old b ⊎ IsFirstLook g (N n) b)
add_row g old row new n h e b = (
  (λ c. elim ((h b).0 c) [ inl k ↦ inl k | inr k ↦ inr ((e b).0 k) ]),
  (λ s. elim s [ inl k ↦ (h b).1 (inl k) | inr f ↦ (h b).1 (inr ((e b).1 f)) ]),
)

pub row_is_first : {W : ℕ} (g : PlainGrammar) (sets : NullableAndFirst W) (n : ℕ) (row : List Look) → AreNullableAndFirst g sets → length sets.first ≡ length sets.nullable → n < length sets.nullable → row ≡ get_or sets.first n row → (b : Look) → Contains row b ↔ IsFirstLook g (N n) b
row_is_first g sets n row s e l at b =
    let within : n < length sets.first = omega arith in
    let here = get_or_from_slice_get sets.first n row [] (slice_get_read sets.first (length sets.first) n row refl within at) in
    let f = s.first n b (omega (arith, s.nullable_len)) in
    rw here at f

first_of_cases : (g : PlainGrammar) (X : Symbol) (Xs : List Symbol) (a : ℕ) → FirstOf g (X ∷ Xs) a → First g X a ⊎ (Derives g X [] × FirstOf g Xs a)
first_of_cases g X Xs a (first.FirstOf.here f) = inl f
first_of_cases g X Xs a (first.FirstOf.past t f) = inr (t, f)

begins_cases : (g : PlainGrammar) (X : Symbol) (Xs : List Symbol) (b : Look) → IsFirstLookOfString g (X ∷ Xs) b → IsFirstLook g X b ⊎ (Derives g X [] × IsFirstLookOfString g Xs b)
begins_cases g X Xs (Token a) f = first_of_cases g X Xs a f
begins_cases g X Xs End f = absurd f

begins_here : (g : PlainGrammar) (X : Symbol) (Xs : List Symbol) (b : Look) → IsFirstLook g X b → IsFirstLookOfString g (X ∷ Xs) b
begins_here g X Xs (Token a) f = first.FirstOf.here f
begins_here g X Xs End f = absurd f

begins_past : (g : PlainGrammar) (X : Symbol) (Xs : List Symbol) (b : Look) → Derives g X [] → IsFirstLookOfString g Xs b → IsFirstLookOfString g (X ∷ Xs) b
begins_past g X Xs (Token a) t f = first.FirstOf.past t f
begins_past g X Xs End t f = absurd f

begins_nil : (g : PlainGrammar) (b : Look) → IsFirstLookOfString g [] b → ⊥
begins_nil g (Token a) f = elim f [ ]
begins_nil g End f = f

all_parts : (g : PlainGrammar) (X : Symbol) (Xs : List Symbol) (w : List ℕ) → DerivesAll g (X ∷ Xs) w → w ≡ [] → Derives g X [] × DerivesAll g Xs []
all_parts g X Xs w (trees.Derivations.more {u = u} {v = v} j t f) e = let n = nil_parts u v (sym j ∙ e) in (rw n.0 at t, rw n.1 at f)

-- The loop invariant: FIRST was collected from all symbols before `rest`, which are nullable.
pub record RestSoFar {W : ℕ} (sets : NullableAndFirst W) (symbols : List Symbol) (tokens : List Look) (rest : List Symbol) : Type 0 where
  pub begins : (g : PlainGrammar) → AreNullableAndFirst g sets → (a : Look) → IsFirstLookOfString g symbols a ↔ (Contains tokens a ⊎ IsFirstLookOfString g rest a)
  pub empty : (g : PlainGrammar) → AreNullableAndFirst g sets → DerivesAll g symbols [] ↔ DerivesAll g rest []

pub RestSoFar-start : {W : ℕ} (sets : NullableAndFirst W) (symbols : List Symbol) → RestSoFar sets symbols [] symbols
RestSoFar-start sets symbols = record {
  begins = λ g h a. (inr, λ k. elim k [ inl c ↦ absurd (omega (arith, c.1)) | inr f ↦ f ]);
  empty = λ g h. (λ d. d, λ d. d);
}

module _ {W : ℕ} (sets : NullableAndFirst W) (symbols : List Symbol) (old new : List Look) (X : Symbol) (rest : List Symbol) (h : RestSoFar sets symbols old (X ∷ rest))
    (grown : (g : PlainGrammar) → AreNullableAndFirst g sets → (a : Look) → Contains new a ↔ (Contains old a ⊎ IsFirstLook g X a)) where
  pub RestSoFar-step : ((g : PlainGrammar) → AreNullableAndFirst g sets → Derives g X []) → RestSoFar sets symbols new rest
  RestSoFar-step nil = record {
    begins = λ g s a. (
      (λ f. elim ((h.begins g s a).0 f) [
        | inl c ↦ inl ((grown g s a).1 (inl c))
        | inr k ↦ elim (begins_cases g X rest a k) [ inl x ↦ inl ((grown g s a).1 (inr x)) | inr p ↦ inr p.1 ]
      ]),
      (λ k. elim k [
        | inl c ↦ elim ((grown g s a).0 c) [ inl d ↦ (h.begins g s a).1 (inl d) | inr x ↦ (h.begins g s a).1 (inr (begins_here g X rest a x)) ]
        | inr f ↦ (h.begins g s a).1 (inr (begins_past g X rest a (nil g s) f))
      ]),
    );
    empty = λ g s. (
      (λ d. (all_parts g X rest [] ((h.empty g s).0 d) refl).1),
      (λ d. (h.empty g s).1 (trees.Derivations.more refl (nil g s) d)),
    );
  }

  pub RestSoFar-stop : ((g : PlainGrammar) → AreNullableAndFirst g sets → Derives g X [] → ⊥) → (g : PlainGrammar) → AreNullableAndFirst g sets → IsStringFirst g symbols new false
  RestSoFar-stop full g s = record {
    begins = λ a. (
      (λ c. elim ((grown g s a).0 c) [ inl d ↦ (h.begins g s a).1 (inl d) | inr x ↦ (h.begins g s a).1 (inr (begins_here g X rest a x)) ]),
      (λ f. elim ((h.begins g s a).0 f) [
        | inl c ↦ (grown g s a).1 (inl c)
        | inr k ↦ elim (begins_cases g X rest a k) [ inl x ↦ (grown g s a).1 (inr x) | inr p ↦ absurd (full g s p.0) ]
      ]),
    );
    empty = (λ e. absurd (false≢true e), λ d. absurd (full g s (all_parts g X rest [] ((h.empty g s).0 d) refl).0));
  }

pub RestSoFar-all : {W : ℕ} (sets : NullableAndFirst W) (symbols : List Symbol) (tokens : List Look) → RestSoFar sets symbols tokens [] → (g : PlainGrammar) → AreNullableAndFirst g sets → IsStringFirst g symbols tokens true
RestSoFar-all sets symbols tokens h g s = record {
  begins = λ a. (λ c. (h.begins g s a).1 (inl c), λ f. elim ((h.begins g s a).0 f) [ inl c ↦ c | inr k ↦ absurd (begins_nil g a k) ]);
  empty = (λ e. (h.empty g s).1 trees.Derivations.none, λ d. refl);
}

-- The nonterminal of a link is in range.
pub link_below : {W : ℕ} (g : PlainGrammar) (symbols : List Symbol) (link : FirstLink W) → All (IsSymbolBelow g.tokens g.nonterminals) symbols → IsFirstLink g symbols link → link.to < g.nonterminals
link_below g symbols link all h =
    let B = IsSymbolBelow g.tokens g.nonterminals in
    let here : All B (N link.to ∷ h.suffix) = rw h.side at all in
    All-head B (N link.to) h.suffix here

-- The loop invariant: the list holds the links of the productions of n below an upper bound.
pub record LinksSoFar {W : ℕ} (g : PlainGrammar) (n : ℕ) (links : List (FirstLink W)) (upto : ℕ) : Type 0 where
  pub below : All (λ (link : FirstLink W). link.to < g.nonterminals) links
  pub sound : (link : FirstLink W) → Contains links link → IsLinkOfNonterminal g n link
  pub complete : (k : ℕ) (p : Production) (m : ℕ) (y : List Symbol) → k < upto → slice_get g.productions k ≡ Some p → p.lhs ≡ n → p.rhs ≡ N m ∷ y → (link : FirstLink W) × Contains links link × IsFirstLink g p.rhs link

pub LinksSoFar-start : {W : ℕ} (g : PlainGrammar) (n : ℕ) → LinksSoFar {W = W} g n [] 0
LinksSoFar-start {W} g n = record { below = λ k d l. absurd (omega arith); sound = λ link c. absurd (omega (arith, c.1)); complete = λ k p m y l. absurd (omega arith) }

module _ {W : ℕ} (g : PlainGrammar) (r : IsInRange g) (n : ℕ) (links : List (FirstLink W)) (i : ℕ) (p : Production) (h : LinksSoFar g n links i) (at : slice_get g.productions i ≡ Some p) where
  pub LinksSoFar-push : (link : FirstLink W) → p.lhs ≡ n → IsFirstLink g p.rhs link → LinksSoFar g n (links ++ link ∷ []) (i + 1)
  LinksSoFar-push link lhs is =
      let rhs = rhs_of-ordinary g i p at in
      let side : IsFirstLink g (rhs_of g (length g.starts + i)) link = rw rhs is in
      let here = get_or_from_slice_get g.productions i p p at in
      let below = rw here at (r.productions i p (slice_get_within g.productions i p at)) in
      record {
        below = All-push (λ (z : FirstLink W). z.to < g.nonterminals) links link h.below (link_below g p.rhs link below.rhs is);
        sound = λ other c. elim (Contains-push_cases links link other c) [
          | inl k ↦ h.sound other k
          | inr e ↦ (let made : IsLinkOfNonterminal g n link = record { production = length g.starts + i; produced = rw lhs at (IsProductionFor-ordinary g i p at); is = side } in rw e at made)
        ];
        complete = λ k q m y l read same begins. elim (cases_eq k i) [
          | inl e ↦ (let one : q ≡ p = get_unique g.productions i q p (rw e at read) at in (link, Contains-push links link, rw one is))
          | inr o ↦ (let f = h.complete k q m y (omega arith) read same begins in (f.0, Contains-append_left links (link ∷ []) f.0 f.1, f.2))
        ];
      }

  pub LinksSoFar-skip : (p.lhs ≡ n → (m : ℕ) (y : List Symbol) → p.rhs ≡ N m ∷ y → ⊥) → LinksSoFar g n links (i + 1)
  LinksSoFar-skip no_link = record {
    below = h.below;
    sound = h.sound;
    complete = λ k q m y l read same begins. elim (cases_eq k i) [
      | inl e ↦ (let one : q ≡ p = get_unique g.productions i q p (rw e at read) at in absurd (no_link (sym (ap (λ (z : Production). z.lhs) one) ∙ same) m y (sym (ap (λ (z : Production). z.rhs) one) ∙ begins)))
      | inr o ↦ h.complete k q m y (omega arith) read same begins
    ];
  }

pub LinksSoFar-all : {W : ℕ} (g : PlainGrammar) (n : ℕ) (links : List (FirstLink W)) (upto : ℕ) → upto ≡ length g.productions → LinksSoFar g n links upto → AreLinksOf g n links
LinksSoFar-all g n links upto e h = record {
  below = h.below;
  sound = h.sound;
  complete = λ q m y for begins.
      let at = listed_from_for g n q for in
      let f = h.complete at.place at.production m y (omega (arith, slice_get_within g.productions at.place at.production at.at)) at.at at.lhs (sym at.rhs ∙ begins) in
      let P : List Symbol → Type 0 = λ s. IsFirstLink g s f.0 in
      (f.0, f.1, subst P (sym at.rhs) f.2);
}
