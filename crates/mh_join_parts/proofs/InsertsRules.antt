-- Lemmas on the numbering of rules.
use Rattle.std.proofs.Common.{◌≡◌, ℕ, ◌+◌, ◌<◌, Bool, true, false, List, [], ◌∷◌, ◌++◌, Option, Some, None, length, get_or, take, map, refl, sym, ap, subst, ◌∙◌}
use Rattle.std.specs.Prelude.{◌&&◌, if◌then◌else◌, is_some, option_and_then, slice_get}
use Rattle.std.specs.List.{All, position, flat_map, enumerate_from}
use Rattle.std.specs.Map.{lookup}
use Rattle.std.specs.Option.{option_or}
use Rattle.std.specs.HashMap.{HashMap, get, IsEmpty}
use Rattle.std.proofs.lemmas.Option.{slice_get_within, get_or_from_slice_get}
use Rattle.std.proofs.lemmas.List.{map-append, append-nil}
use Rattle.std.proofs.lemmas.List.Concat.{flat_map-append}
use Rattle.mh_grammar.proofs.Lists.{take_step}
use Rattle.mh_join_names.specs.declared.outlines.Outline.{Outline}
use Rattle.mh_join_names.specs.declared.numbering.Numbering.{Numbering}
use Rattle.mh_grammar.specs.Text.{Text}
use Rattle.mh_join_names.specs.Names.{same, same_owner, is_rule, same_rule, insert_all, insert_key}
use Rattle.mh_join_names.specs.code.Numbering.{number_in, IsNumbered, IsOwner, AddsNumber, InsertsRules}
use Rattle.mh_join_names.proofs.Lists.{position-push, is_some-position, enumerate-push, length-take_in}

module _ {A : Type 0} where
  pub insert_all-append : (eq : A → A → Bool) (ks xs ys : List A) → insert_all eq ks (xs ++ ys) ≡ insert_all eq (insert_all eq ks xs) ys
  insert_all-append eq ks [] ys = refl
  insert_all-append eq ks (x ∷ xs) ys = insert_all-append eq (insert_key eq ks x) xs ys

pub none_from : {A : Type 0} (o : Option A) → is_some o ≡ false → o ≡ None
none_from None e = refl
none_from (Some x) e = let bad : true ≡ false = e in cc

module _ {S : Type 0} where
  none_of : (xs : List (HashMap Text ℕ S)) (k : ℕ) (x : Text) → All IsEmpty xs → option_and_then (λ m. get same m x) (slice_get xs k) ≡ None
  none_of xs k x all = go (slice_get xs k) refl
    where
      go : (o : Option (HashMap Text ℕ S)) → slice_get xs k ≡ o → option_and_then (λ m. get same m x) o ≡ None
      go None e = refl
      go (Some m) e = ap (lookup (same x)) (subst IsEmpty (get_or_from_slice_get xs k m m e) (all k m (slice_get_within xs k m e)))

-- Empty maps number an empty list of rules.
pub IsNumbered-empty : (n : Numbering) → n.public.entries ≡ [] → All IsEmpty n.own.items → n.rules.items ≡ [] → IsNumbered n
IsNumbered-empty n public own rules = record { placed = λ owner x. at owner x ∙ ap (position (is_rule owner x)) (sym rules) }
  where
    at : (owner : Option ℕ) (x : Text) → number_in n owner x ≡ None
    at None x = ap (lookup (same x)) public
    at (Some k) x = none_of n.own.items k x own

-- Appending the outline of a new rule and recording its number inserts the outline.
pub InsertsRules-new : (old mid new : Numbering) (o : Outline) → IsNumbered old → number_in old o.owner o.name ≡ None → AddsNumber old o.owner o.name (length old.rules.items) mid → new.rules.items ≡ mid.rules.items ++ o ∷ [] → new.public ≡ mid.public → new.own ≡ mid.own → InsertsRules old new (o ∷ [])
InsertsRules-new old mid new o numbered lacks adds rules public own = record {
  rules = all ∙ sym (ap (λ b. if b then old.rules.items else old.rules.items ++ o ∷ []) (sym (is_some-position (same_rule o) old.rules.items) ∙ ap is_some (sym (numbered.placed o.owner o.name) ∙ lacks)));
  numbered = record {
    placed = λ owner x. kept owner x ∙ adds.numbers owner x ∙ ap (λ k. option_or k (if same_owner owner o.owner && same x o.name then Some (length old.rules.items) else None)) (numbered.placed owner x)
        ∙ sym (position-push (is_rule owner x) old.rules.items o) ∙ ap (position (is_rule owner x)) (sym all);
  };
  owners = ap (λ v. length v.items) own ∙ adds.owners;
}
  where
    all : new.rules.items ≡ old.rules.items ++ o ∷ []
    all = rules ∙ ap (λ k. k ++ o ∷ []) adds.rules

    kept : (owner : Option ℕ) (x : Text) → number_in new owner x ≡ number_in mid owner x
    kept None x = ap (λ m. get same m x) public
    kept (Some k) x = ap (λ v. option_and_then (λ m. get same m x) (slice_get v.items k)) own

-- A rule that has a number already leaves the numbering as it is.
pub InsertsRules-known : (old : Numbering) (o : Outline) → IsNumbered old → is_some (number_in old o.owner o.name) ≡ true → InsertsRules old old (o ∷ [])
InsertsRules-known old o numbered has = record {
  rules = sym (ap (λ b. if b then old.rules.items else old.rules.items ++ o ∷ []) (sym (is_some-position (same_rule o) old.rules.items) ∙ ap is_some (sym (numbered.placed o.owner o.name)) ∙ has));
  numbered = numbered;
  owners = refl;
}

pub InsertsRules-none : (n : Numbering) → IsNumbered n → InsertsRules n n []
InsertsRules-none n numbered = record { rules = refl; numbered = numbered; owners = refl }

pub InsertsRules-append : (a b c : Numbering) (os ps : List Outline) → InsertsRules a b os → InsertsRules b c ps → InsertsRules a c (os ++ ps)
InsertsRules-append a b c os ps p q = record {
  rules = q.rules ∙ ap (λ k. insert_all same_rule k ps) p.rules ∙ sym (insert_all-append same_rule a.rules.items os ps);
  numbered = q.numbered;
  owners = q.owners ∙ p.owners;
}

pub InsertsRules-more : {A : Type 0} (f : A → Outline) (a b c : Numbering) (xs : List A) (i : ℕ) (x : A) → i < length xs → x ≡ get_or xs i x → InsertsRules a b (map f (take i xs)) → InsertsRules b c (f x ∷ []) → InsertsRules a c (map f (take (i + 1) xs))
InsertsRules-more f a b c xs i x h e p q = rw (take_step xs i x h e, map-append f (take i xs) (x ∷ [])) (InsertsRules-append a b c (map f (take i xs)) (f x ∷ []) p q)

pub InsertsRules-enum_more : {A : Type 0} (f : ℕ × A → List Outline) (a b c : Numbering) (n : ℕ) (xs : List A) (i j : ℕ) (x : A) → i < length xs → x ≡ get_or xs i x → n + i ≡ j → InsertsRules a b (flat_map f (enumerate_from n (take i xs))) → InsertsRules b c (f (j, x)) → InsertsRules a c (flat_map f (enumerate_from n (take (i + 1) xs)))
InsertsRules-enum_more f a b c n xs i j x h e at p q =
    rw (take_step xs i x h e, enumerate-push n (take i xs) x, length-take_in xs i h, at, flat_map-append f (enumerate_from n (take i xs)) ((j, x) ∷ []), append-nil (f (j, x)))
    (InsertsRules-append a b c (flat_map f (enumerate_from n (take i xs))) (f (j, x)) p q)

-- If `n.own`, which has one map of private rules for each file, has a map for this file, then the owner of a rule of
-- the file is valid: None for a public rule, the file for a private one.
pub IsOwner-in : (n : Numbering) (b : Bool) (file : ℕ) → file < length n.own.items → IsOwner n (if b then None else Some file)
IsOwner-in n true file h = tt
IsOwner-in n false file h = h
