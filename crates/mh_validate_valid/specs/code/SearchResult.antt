-- The result of a search.
use Rattle.std.specs.Prelude.{Option, MatchOption}

-- The element that is found has the property. If none is found, no element has the property.
abbrev pub FindsOne : {X : Type 0} → (X → Type 0) → Option X → Type 0
FindsOne P o = MatchOption o ((x : _) → P x → ⊥) P
