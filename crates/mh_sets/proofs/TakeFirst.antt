-- Proves that a set without its first lookahead has exactly the other lookaheads.
use Rattle.std.proofs.Common.{◌≡◌, ℕ, ◌<◌, ◌⊎◌, ◌==◌, Bool, true, false, if◌then◌else◌, List, ◌∷◌, refl, sym, ap, subst, ◌∙◌, arith, inl, inr}
use Rattle.std.specs.List.{Contains}
use Rattle.std.proofs.lemmas.Bool.{cases_lt, cases_eq, cases_Bool, both_ways}
use Rattle.std.proofs.lemmas.Bool.Decides.{Decides-eqb}
use Rattle.mh_grammar.specs.declared.types.Look.{Look}
use Rattle.mh_grammar.specs.declared.types.Look.TheVariants.{Token, End}
use Rattle.mh_grammar.specs.Edges.{IsLookBefore}
use Rattle.mh_sets.specs.BitWords.{has_token, looks_of}
use Rattle.mh_grammar.proofs.Lists.{contains_here, contains_there, contains_cases, recursion-from}
use Rattle.mh_sets.proofs.LooksFrom.{Has, one_set}
use Rattle.mh_sets.proofs.LooksOf.{member_sound, member_complete, looks_of_rising}
use Rattle.mh_sets.proofs.TokenSetCalls.{has_of_contains, contains_of_has, looks_rising}

gone : (a c : ℕ) (t u : Bool) → u ≡ (if a == c then false else t) → u ≡ true → (t ≡ true) × (a ≡ c → ⊥)
gone a c t u e h = elim (cases_eq a c) [
  | inl same ↦ absurd (let one = (Decides-eqb a c).1 same in let f : u ≡ false = e ∙ ap (λ (b : Bool). if b then false else t) one in both_ways u f h)
  | inr o ↦ (let no : (a == c) ≡ false = (elim (cases_Bool (a == c)) [ inl y ↦ absurd (o ((Decides-eqb a c).0 y)) | inr n ↦ n ]) in let f : u ≡ t = e ∙ ap (λ (b : Bool). if b then false else t) no in (sym f ∙ h, o))
]

stays : (a c : ℕ) (t u : Bool) → u ≡ (if a == c then false else t) → (a ≡ c → ⊥) → t ≡ true → u ≡ true
stays a c t u e o h =
    let no : (a == c) ≡ false = (elim (cases_Bool (a == c)) [ inl y ↦ absurd (o ((Decides-eqb a c).0 y)) | inr n ↦ n ]) in
    e ∙ ap (λ (b : Bool). if b then false else t) no ∙ h

module _ (words : List ℕ) (end : Bool) (looks : List Look) (is : looks_of words end ≡ looks) where
  module _ (new : List ℕ) (a : ℕ) (has : has_token words a ≡ true) (least : (b : ℕ) → b < a → has_token words b ≡ false) (bits : (b : ℕ) → has_token new b ≡ (if a == b then false else has_token words b)) where
    after : (b : Look) → Has (has_token new) end b → IsLookBefore (Token a) b
    after (Token c) h =
        let g = gone a c (has_token words c) (has_token new c) (bits c) h in
        elim (cases_lt c a) [
          | inl l ↦ absurd (both_ways (has_token words c) (least c l) g.0)
          | inr l ↦ (let ne = g.1 in elim (cases_eq a c) [ inl e ↦ absurd (ne e) | inr o ↦ omega arith ])
        ]
    after End h = tt

    back : (b : Look) → Has (has_token new) end b → Has (has_token words) end b
    back (Token c) h = (gone a c (has_token words c) (has_token new c) (bits c) h).0
    back End h = h

    there : (b : Look) → Has (has_token words) end b → (b ≡ Token a → ⊥) → Has (has_token new) end b
    there (Token c) h o = stays a c (has_token words c) (has_token new c) (bits c) (λ e. o (ap Token (sym e))) h
    there End h o = h

    split : (b : Look) → Has (has_token words) end b → (b ≡ Token a) ⊎ Has (has_token new) end b
    split (Token c) h = elim (cases_eq a c) [ inl e ↦ inl (ap Token (sym e)) | inr o ↦ inr (stays a c (has_token words c) (has_token new c) (bits c) o h) ]
    split End h = inr h

    pub take_token : looks ≡ Token a ∷ looks_of new end
    take_token = one_set looks (Token a ∷ looks_of new end) (looks_rising words end looks is)
        (recursion-from (IsLookBefore (Token a)) (looks_of new end) (λ b c. after b (member_sound new end b c)), looks_of_rising new end)
        (λ b. (
          (λ c. elim (split b (has_of_contains words end looks is b c)) [
            | inl e ↦ (let P : Look → Type 0 = Contains (Token a ∷ looks_of new end) in subst P (sym e) (contains_here (Token a) (looks_of new end)))
            | inr h ↦ contains_there (Token a) (looks_of new end) b (member_complete new end b h)
          ]),
          (λ c. elim (contains_cases (Token a) (looks_of new end) b c) [
            | inl e ↦ (let P : Look → Type 0 = Contains looks in subst P e (contains_of_has words end looks is (Token a) has))
            | inr d ↦ contains_of_has words end looks is b (back b (member_sound new end b d))
          ]),
        ))

  module _ (empty : (b : ℕ) → has_token words b ≡ false) (ends : end ≡ true) where
    only_end : (b : Look) → Has (has_token words) end b → b ≡ End
    only_end (Token c) h = absurd (both_ways (has_token words c) (empty c) h)
    only_end End h = refl

    nothing : (b : Look) → Has (has_token words) false b → ⊥
    nothing (Token c) h = both_ways (has_token words c) (empty c) h
    nothing End h = cc

    pub take_end : looks ≡ End ∷ looks_of words false
    take_end = one_set looks (End ∷ looks_of words false) (looks_rising words end looks is)
        (recursion-from (IsLookBefore End) (looks_of words false) (λ b c. absurd (nothing b (member_sound words false b c))), looks_of_rising words false)
        (λ b. (
          (λ c. let e = only_end b (has_of_contains words end looks is b c) in let P : Look → Type 0 = Contains (End ∷ looks_of words false) in subst P (sym e) (contains_here End (looks_of words false))),
          (λ c. elim (contains_cases End (looks_of words false) b c) [
            | inl e ↦ (let P : Look → Type 0 = Contains looks in subst P e (contains_of_has words end looks is End ends))
            | inr d ↦ absurd (nothing b (member_sound words false b d))
          ]),
        ))
