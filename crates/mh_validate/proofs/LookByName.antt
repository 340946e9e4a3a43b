-- Lemmas on the look that a name denotes.
use Rattle.std.proofs.Common.{◌≡◌, ◌<◌, ◌+◌, ℕ, suc, Bool, true, false, List, [], ◌∷◌, length, Some, None, codes, refl, sym, ap, ◌∙◌, subst, arith}
use Rattle.std.specs.List.{slice_get, position_from}
use Rattle.std.specs.Str.{bytes_eq}
use Rattle.std.proofs.lemmas.List.{length-map}
use Rattle.mh_grammar.specs.declared.types.Grammar.{Grammar}
use Rattle.mh_grammar.specs.declared.types.TokenInfo.{TokenInfo}
use Rattle.mh_grammar.specs.declared.types.Look.{Look}
use Rattle.mh_grammar.specs.declared.types.Look.TheVariants.{Token, End}
use Rattle.mh_grammar.specs.Names.{token_name}
use Rattle.mh_msgfile.specs.Sentences.{number_of, token_names}
use Rattle.mh_msgfile.proofs.CanonicalLine.{number_is, token_at}
use Rattle.std.proofs.lemmas.Option.{none-some, slice_get_within}
use Rattle.std.proofs.lemmas.Slice.Eq.{bytes_eq-Decides}
use Rattle.mh_validate_valid.specs.Valid.{AreTokenNamesDistinct}
use Rattle.mh_validate.specs.code.LooksAndItems.{IsLookOf}

-- A search for a name finds its position.
found_on : (name first : List ℕ) (names : List (List ℕ)) (i k : ℕ) (c : Bool) → bytes_eq name first ≡ c → (position_from (bytes_eq name) (i + 1) names ≡ Some k → (z : ℕ) × (k ≡ i + 1 + z) × (slice_get names z ≡ Some name))
    → position_from (bytes_eq name) i (first ∷ names) ≡ Some k → (z : ℕ) × (k ≡ i + z) × (slice_get (first ∷ names) z ≡ Some name)
found_on name first names i k true here next is =
    let at : Some i ≡ Some k = rw here at is in
    let number : i ≡ k = cc in
    (0, omega arith, ap Some (sym ((bytes_eq-Decides name first).0 here)))
found_on name first names i k false here next is =
    let later : position_from (bytes_eq name) (i + 1) names ≡ Some k = rw here at is in
    let (z, e, at) = next later in
    (suc z, omega arith, at)

found_at : (name : List ℕ) (names : List (List ℕ)) (i k : ℕ) → position_from (bytes_eq name) i names ≡ Some k → (z : ℕ) × (k ≡ i + z) × (slice_get names z ≡ Some name)
found_at name [] i k is = cc
found_at name (first ∷ names) i k is = found_on name first names i k (bytes_eq name first) refl (found_at name names (i + 1) k) is

count : (g : Grammar) → length (token_names g) ≡ length g.tokens
count g = length-map g.tokens (λ (t : TokenInfo). t.name)

pub token_named : (g : Grammar) (name : List ℕ) (z : ℕ) → number_of (token_names g) name ≡ Some z → IsLookOf g name (Token z)
token_named g name z h =
    let (y, e, at) = found_at name (token_names g) 0 z h in
    let same : y ≡ z = omega arith in
    let here : slice_get (token_names g) z ≡ Some name = subst (λ k. slice_get (token_names g) k ≡ Some name) same at in
    record { below = (let lt = slice_get_within (token_names g) z name here in let n = count g in omega arith); named = token_at g z name here }

pub none_named : (g : Grammar) → AreTokenNamesDistinct g → (name : List ℕ) → (name ≡ codes "#" → ⊥) → number_of (token_names g) name ≡ None → (look : Look) → IsLookOf g name look → ⊥
none_named g n name other none (Token z) is =
    let c = count g in
    let lt : z < length (token_names g) = (let b = is.below in omega arith) in
    let found : number_of (token_names g) (token_name g z) ≡ Some z = number_is (token_names g) (token_name g) (token_at g) (λ y x a b. n.distinct y x (omega arith) (omega arith)) z lt in
    let gone : number_of (token_names g) (token_name g z) ≡ None = ap (number_of (token_names g)) (sym is.named) ∙ none in
    none-some z (sym gone ∙ found)
none_named g n name other none End is = other is.named
