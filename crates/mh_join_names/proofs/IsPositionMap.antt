-- Lemmas on lists of different names with their positions.
use Rattle.std.proofs.Common.{◌≡◌, ℕ, ◌<◌, Bool, false, cond, List, [], ◌∷◌, ◌++◌, Option, Some, None, length, sym, ap, ◌∙◌}
use Rattle.std.specs.Prelude.{is_some, if◌then◌else◌, IfSome}
use Rattle.std.specs.List.{position, list_any}
use Rattle.std.specs.Option.{option_or}
use Rattle.std.specs.HashMap.{HashMap, get}
use Rattle.std.proofs.lemmas.List.Quantifiers.{position-Some}
use Rattle.mh_grammar.specs.Text.{Text}
use Rattle.mh_join_names.specs.Names.{same, insert_key}
use Rattle.mh_join_names.specs.code.KeyLists.{KeyList, IsPositionMap}
use Rattle.mh_join_names.proofs.Lists.{put_case, position-push, is_some-position}

module _ {S : Type 0} (keys : List Text) where
  -- A name that the list has has a position.
  pub placed_has : (places : HashMap Text ℕ S) (l : KeyList) (name : Text) (b : Bool) → record { keys = keys } ≡ l → IsPositionMap keys places → b ≡ is_some (get same places name) → list_any (same name) l.keys ≡ b
  placed_has places l name b view placed e =
      sym (e ∙ ap is_some (placed name) ∙ is_some-position (same name) keys ∙ ap (λ (k : KeyList). list_any (same name) k.keys) view)

  -- Appending a new name keeps the map right.
  pub placed_more : (old new : HashMap Text ℕ S) (name : Text) → is_some (get same old name) ≡ false → IsPositionMap keys old → ((q : Text) → get same new q ≡ cond (same name q) (Some (length keys)) (get same old q)) → IsPositionMap (keys ++ name ∷ []) new
  placed_more old new name lacks placed at x =
      put_case (λ q. get same old q) (λ q. get same new q) name (length keys) lacks at x ∙ ap (λ o. option_or o (cond (same x name) (Some (length keys)) None)) (placed x)
      ∙ sym (position-push (same x) keys name)

-- Inserting a name appends it if and only if the list does not have it.
pub puts_name : (keys : List Text) (name : Text) (b : Bool) → list_any (same name) keys ≡ b → insert_key same keys name ≡ (if b then keys else keys ++ name ∷ [])
puts_name keys name b e = ap (λ d. if d then keys else keys ++ name ∷ []) e

pub place_within : (keys : List Text) (name : Text) (o : Option ℕ) → o ≡ position (same name) keys → IfSome o (λ i. i < length keys)
place_within keys name None e = tt
place_within keys name (Some i) e = (position-Some (same name) keys i [] (sym e)).0
