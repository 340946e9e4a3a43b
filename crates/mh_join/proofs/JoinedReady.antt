-- Proves that the result of joining files meets the conditions of the next stage (`IsJoinedReady`), and that any two
-- results of joining the same files are equal.
use Rattle.std.proofs.Common.{◌≡◌, ℕ, zero, suc, ◌+◌, ◌<◌, ◌≤◌, Bool, true, false, cond, List, [], ◌∷◌, ◌++◌, Option, Some, None, length, get_or, map, refl, sym, ap, subst, ◌∙◌, ◌⊎◌, inl, inr, arith, length-append}
use Rattle.std.specs.Prelude.{◌==◌, ◌&&◌, ◌||◌, ◌≢◌, not, nat_lt, if◌then◌else◌, Ok, Err, AllPairs, option_map, option_and_then, slice_get, IfOk, Result}
use Rattle.std.specs.List.{All, AllByRecursion, position, list_any, list_all, flat_map, enumerate_from}
use Rattle.std.specs.Option.{option_or}
use Rattle.std.proofs.Math.Bool.{or-true}
use Rattle.std.proofs.lemmas.Bool.{ltb-true}
use Rattle.std.proofs.lemmas.Bool.Decides.{Decides-eqb}
use Rattle.std.proofs.lemmas.List.{length-map}
use Rattle.std.proofs.lemmas.List.Elements.{All-from_recursion, recursion_from_All}
use Rattle.std.proofs.lemmas.List.Folds.{list_any-append}
use Rattle.std.proofs.lemmas.List.Quantifiers.{position-Some}
use Rattle.std.proofs.lemmas.Option.{slice_get_within, slice_get-get_or, slice_get-map, same_Some}
use Rattle.mh_rules.specs.Limits.{max_tokens}
use Rattle.mh_rules.specs.Limits.{max_actual_depth}
use Rattle.mh_rules.specs.declared.modules.Ref.{Ref}
use Rattle.mh_rules.specs.declared.modules.Ref.TheVariants.{Plain, Alias}
use Rattle.mh_rules.specs.declared.modules.Actual.{Actual}
use Rattle.mh_rules.specs.declared.modules.Actual.TheOpen.{Actual-F}
use Rattle.mh_rules.specs.declared.modules.Actual.TheFolds.{fold-roll-Actual, ind-Actual}
use Rattle.mh_rules.specs.declared.modules.Alternative.{Alternative}
use Rattle.mh_rules.specs.declared.modules.Rule.{Rule}
use Rattle.mh_rules.specs.declared.modules.Module.{Module}
use Rattle.mh_rules.specs.declared.joined.Head.{Head}
use Rattle.mh_rules.specs.declared.joined.Head.TheVariants as heads
use Rattle.mh_rules.specs.declared.joined.Applied.{Applied}
use Rattle.mh_rules.specs.declared.joined.Applied.TheFolds.{every-Applied, every_made-Applied, fold-roll-Applied}
use Rattle.mh_rules.specs.declared.joined.JoinedAlternative.{JoinedAlternative}
use Rattle.mh_rules.specs.declared.joined.JoinedRule.{JoinedRule}
use Rattle.mh_rules.specs.declared.joined.Joined.{Joined}
use Rattle.mh_join_names.specs.declared.outlines.Outline.{Outline}
use Rattle.mh_join_names.specs.declared.fault.JoinFault.{JoinFault}
use Rattle.mh_join_names.specs.declared.fault.JoinFault.TheVariants as faults
use Rattle.mh_join_names.specs.Prelude.{prelude_rules}
use Rattle.mh_grammar.specs.Text.{Text}
use Rattle.mh_join_names.specs.Names.{same, files, firsts, token_names, start_names, is_elsewhere, is_public, owner_in, Definition, definitions, definitions_from, definitions_in, prelude_definitions, outline_of, same_owner, is_rule, same_rule, rules, rule_number, formal_number, visible_head, user_head, rule_head, token_head, insert_all, insert_key}
use Rattle.mh_join_names.specs.Faults.{Meanings, meanings, meant_by, unless, agrees, same_flag, same_shape, repeats, own_name, own_names, own_in_file, formals_in_file, shapes_in_file, other_shape, name_duplicates, rule_duplicates, duplicates, levels_in_file, has_some, errors_in_file, unlevelled_in_file, many_tokens, other_faults, undefined_in_file, join_faults, first}
use Rattle.mh_join_names.specs.Joining.{all_of, applied_to, apply_step, resolved, all_resolved, prec_by, alternative_with, alternative_by, alternatives_by, has_number, alternatives_for, rule_of_outline, without_alternatives, token_info, on_error_in, IsJoined, Joins}
use Rattle.mh_rules.specs.Depth.{greatest, actual_depth, actual_depth_step, applied_depth, applied_depth_step, IsActualShallow, IsAppliedShallow, AreProducersShallow}
use Rattle.mh_rules.specs.Ready.{IsModuleReady, AreModulesReady, IsHeadBelow, IsAppliedBelow, IsRuleReady, IsJoinedReady}
use Rattle.mh_grammar.proofs.Lists.{get_cases, at_contains, recursion-from, nil_parts}
use Rattle.mh_grammar.proofs.TextEquality.{equal_from_same, same_refl}
use Rattle.mh_join_names.proofs.Lists.{position-push, is_some-position}
use Rattle.mh_join_parts.proofs.InsertsRules.{none_from}
use Rattle.mh_join_parts.proofs.HasMeanings.{find_position}
use Rattle.mh_join.proofs.CostsInRange.{tokens_costed}
use Rattle.mh_join_names.proofs.Resolved.{known_unless}
use Rattle.mh_join.proofs.PreludeResolved.{and_left, and_right, owner_is}
use Rattle.mh_join.proofs.CanJoin.{few_tokens}
use Rattle.mh_join.proofs.PreludeDepth.{prelude_shallow}

eqb_is : (m n : ℕ) → (m == n) ≡ true → m ≡ n
eqb_is m n = (Decides-eqb m n).0

-- MEMBERS OF LISTS

-- The element x is a member of the list.
abbrev In : {X : Type 0} → List X → X → Type 0
In [] x = ⊥
In (y ∷ ys) x = (y ≡ x) ⊎ In ys x

in_at : {X : Type 0} (xs : List X) (i : ℕ) (x : X) → slice_get xs i ≡ Some x → In xs x
in_at [] i x e = let bad : None ≡ Some x = e in cc
in_at (y ∷ ys) zero x e = inl (same_Some _ _ e)
in_at (y ∷ ys) (suc i) x e = inr (in_at ys i x e)

in_append : {X : Type 0} (xs ys : List X) (x : X) → In (xs ++ ys) x → In xs x ⊎ In ys x
in_append [] ys x h = inr h
in_append (y ∷ xs) ys x (inl e) = inl (inl e)
in_append (y ∷ xs) ys x (inr h) = elim (in_append xs ys x h) [ inl a ↦ inl (inr a) | inr b ↦ inr b ]

in_map : {X Y : Type 0} (f : X → Y) (xs : List X) (y : Y) → In (map f xs) y → (x : X) × In xs x × (f x ≡ y)
in_map f [] y h = elim h [ ]
in_map f (x ∷ xs) y (inl e) = (x, inl refl, e)
in_map f (x ∷ xs) y (inr h) = let r = in_map f xs y h in (r.0, inr r.1, r.2)

map_in : {X Y : Type 0} (f : X → Y) (xs : List X) (x : X) → In xs x → In (map f xs) (f x)
map_in f [] x h = elim h [ ]
map_in f (y ∷ xs) x (inl e) = inl (ap f e)
map_in f (y ∷ xs) x (inr h) = inr (map_in f xs x h)

in_flat : {X Y : Type 0} (f : X → List Y) (xs : List X) (y : Y) → In (flat_map f xs) y → (x : X) × In xs x × In (f x) y
in_flat f [] y h = elim h [ ]
in_flat {X = X} f (x ∷ xs) y h = go (in_flat f xs y) (in_append (f x) (flat_map f xs) y h)
  where
    go : (In (flat_map f xs) y → (z : X) × In xs z × In (f z) y) → In (f x) y ⊎ In (flat_map f xs) y → (z : X) × In (x ∷ xs) z × In (f z) y
    go more (inl a) = (x, inl refl, a)
    go more (inr b) = let r = more b in (r.0, inr r.1, r.2)

-- If the lists `f x` for the elements of a list together have no element, each of them is empty.
nil_in : {X Y : Type 0} (f : X → List Y) (xs : List X) (x : X) → flat_map f xs ≡ [] → In xs x → f x ≡ []
nil_in f [] x e h = elim h [ ]
nil_in f (y ∷ xs) x e (inl is) = ap f (sym is) ∙ (nil_parts (f y) (flat_map f xs) e).0
nil_in f (y ∷ xs) x e (inr h) = nil_in f xs x (nil_parts (f y) (flat_map f xs) e).1 h

length_in : {X Y : Type 0} (f : X → List Y) (xs : List X) (x : X) → In xs x → length (f x) ≤ length (flat_map f xs)
length_in f [] x h = elim h [ ]
length_in f (y ∷ xs) x (inl e) = let more = length-append (f y) (flat_map f xs) in let is = ap (λ k. length (f k)) e in omega arith
length_in f (y ∷ xs) x (inr h) = let more = length-append (f y) (flat_map f xs) in let rest = length_in f xs x h in omega arith

all_at : {X : Type 0} (P : X → Type 0) (xs : List X) → ((i : ℕ) (x : X) → slice_get xs i ≡ Some x → P x) → AllByRecursion P xs
all_at P xs h = recursion-from P xs (λ x c. let at = at_contains xs x c in h at.0 x at.1)

all_in : {X : Type 0} (P : X → Type 0) (xs : List X) → ((x : X) → In xs x → P x) → All P xs
all_in P xs h = All-from_recursion P xs (all_at P xs (λ i x e. h x (in_at xs i x e)))

at_in : {X : Type 0} (P : X → Type 0) (xs : List X) (x : X) → AllByRecursion P xs → In xs x → P x
at_in P [] x all h = elim h [ ]
at_in P (y ∷ xs) x all (inl e) = subst P e all.0
at_in P (y ∷ xs) x all (inr h) = at_in P xs x all.1 h

tested_in : {X : Type 0} (p : X → Bool) (xs : List X) (x : X) → list_all p xs ≡ true → In xs x → p x ≡ true
tested_in p [] x all h = elim h [ ]
tested_in p (y ∷ xs) x all (inl e) = ap p (sym e) ∙ and_left (p y) (list_all p xs) all
tested_in p (y ∷ xs) x all (inr h) = tested_in p xs x (and_right (p y) (list_all p xs) all) h

-- POSITIONS

-- The element at the first position that passes a test passes the test.
at_position : {X : Type 0} (p : X → Bool) (xs : List X) (i : ℕ) → position p xs ≡ Some i → (x : X) × (slice_get xs i ≡ Some x) × (p x ≡ true)
at_position p [] i e = let bad : None ≡ Some i = e in cc
at_position p (y ∷ ys) i e =
    let found = position-Some p (y ∷ ys) i y e in
    (get_or (y ∷ ys) i y, slice_get-get_or (y ∷ ys) i y found.0, found.1)

position_below : {X : Type 0} (p : X → Bool) (xs : List X) (i : ℕ) → position p xs ≡ Some i → i < length xs
position_below p xs i e = let found = at_position p xs i e in slice_get_within xs i found.0 found.1

module _ {X : Type 0} (eq : X → X → Bool) (self : (x : X) → eq x x ≡ true) where
  -- The first element that `eq` accepts as equal to the element at i is the element at i itself.
  abbrev AreFirst : List X → Type 0
  AreFirst xs = (i : ℕ) (x : X) → slice_get xs i ≡ Some x → position (eq x) xs ≡ Some i

  push_first : (xs : List X) (y : X) → list_any (eq y) xs ≡ false → AreFirst xs → AreFirst (xs ++ y ∷ [])
  push_first xs y lacks are i x e = go (get_cases xs y i x e)
    where
      go : (slice_get xs i ≡ Some x) ⊎ ((i ≡ length xs) × (x ≡ y)) → position (eq x) (xs ++ y ∷ []) ≡ Some i
      go (inl a) = position-push (eq x) xs y ∙ ap (λ o. option_or o (cond (eq x y) (Some (length xs)) None)) (are i x a)
      go (inr b) =
          subst (λ z. position (eq z) (xs ++ y ∷ []) ≡ Some i) (sym b.1)
          (position-push (eq y) xs y ∙ ap (λ o. option_or o (cond (eq y y) (Some (length xs)) None)) (none_from (position (eq y) xs) (is_some-position (eq y) xs ∙ lacks))
          ∙ ap (λ b. cond b (Some (length xs)) None) (self y) ∙ ap Some (sym b.0))

  put_first : (xs : List X) (y : X) → AreFirst xs → AreFirst (insert_key eq xs y)
  put_first xs y are = go (list_any (eq y) xs) refl
    where
      go : (b : Bool) → list_any (eq y) xs ≡ b → AreFirst (if b then xs else xs ++ y ∷ [])
      go true h = are
      go false h = push_first xs y h are

  put_all : (xs ys : List X) → AreFirst xs → AreFirst (insert_all eq xs ys)
  put_all xs [] are = are
  put_all xs (y ∷ ys) are = put_all (insert_key eq xs y) ys (put_first xs y are)

  firsts_first : (ys : List X) → AreFirst (firsts eq ys)
  firsts_first ys = put_all [] ys (λ i x e. let bad : None ≡ Some x = e in cc)

  in_put : (xs : List X) (y x : X) → In (insert_key eq xs y) x → In xs x ⊎ (y ≡ x)
  in_put xs y x = go (list_any (eq y) xs)
    where
      go : (b : Bool) → In (if b then xs else xs ++ y ∷ []) x → In xs x ⊎ (y ≡ x)
      go true h = inl h
      go false h = elim (in_append xs (y ∷ []) x h) [ inl a ↦ inl a | inr b ↦ elim b [ inl e ↦ inr e | inr n ↦ absurd n ] ]

  in_all : (xs ys : List X) (x : X) → In (insert_all eq xs ys) x → In xs x ⊎ In ys x
  in_all xs [] x h = inl h
  in_all xs (y ∷ ys) x h = go (in_all (insert_key eq xs y) ys x h)
    where
      go : In (insert_key eq xs y) x ⊎ In ys x → In xs x ⊎ In (y ∷ ys) x
      go (inl a) = elim (in_put xs y x a) [ inl b ↦ inl b | inr e ↦ inr (inl e) ]
      go (inr b) = inr (inr b)

  in_firsts : (ys : List X) (x : X) → In (firsts eq ys) x → In ys x
  in_firsts ys x h = elim (in_all [] ys x h) [ inl n ↦ absurd n | inr b ↦ b ]

owner_self : (o : Option ℕ) → same_owner o o ≡ true
owner_self None = refl
owner_self (Some k) = (Decides-eqb k k).1 refl

rule_self : (o : Outline) → same_rule o o ≡ true
rule_self o = ap (λ b. b && same o.name o.name) (owner_self o.owner) ∙ same_refl o.name

-- ACTUALS

all_of_parts : {A : Type 0} (os : List (Option A)) (xs : List A) → all_of os ≡ Some xs → os ≡ map Some xs
all_of_parts [] xs e = ap (map Some) (same_Some _ _ e)
all_of_parts {A = A} (o ∷ os) xs e = go (all_of_parts os) o (all_of os) refl e
  where
    go : ((ys : List A) → all_of os ≡ Some ys → os ≡ map Some ys) → (p : Option A) (rest : Option (List A)) → all_of os ≡ rest → option_and_then (λ x. option_map (λ ys. x ∷ ys) rest) p ≡ Some xs → p ∷ os ≡ map Some xs
    go parts None rest is f = let bad : None ≡ Some xs = f in cc
    go parts (Some x) None is f = let bad : None ≡ Some xs = f in cc
    go parts (Some x) (Some ys) is f = ap (λ k. Some x ∷ k) (parts ys is) ∙ ap (map Some) (same_Some _ _ f)

applied_parts : (o : Option Head) (args : Option (List Applied)) (k : Applied) → option_and_then (λ h. option_map (applied_to h) args) o ≡ Some k → (h : Head) × (ks : List Applied) × (o ≡ Some h) × (args ≡ Some ks) × (applied_to h ks ≡ k)
applied_parts None args k e = let bad : None ≡ Some k = e in cc
applied_parts (Some h) None k e = let bad : None ≡ Some k = e in cc
applied_parts (Some h) (Some ks) k e = (h, ks, refl, refl, same_Some _ _ e)

-- This list has the elements of the given list, each with a proof of its property.
with_facts : {X : Type 0} (Q : X → Type 0) (xs : List X) → AllByRecursion Q xs → List ((x : X) × Q x)
with_facts Q [] all = []
with_facts Q (x ∷ xs) all = (x, all.0) ∷ with_facts Q xs all.1

with_facts-elements : {X : Type 0} (Q : X → Type 0) (xs : List X) (all : AllByRecursion Q xs) → map (λ e. e.0) (with_facts Q xs all) ≡ xs
unfolding with_facts
with_facts-elements Q [] all = refl
with_facts-elements Q (x ∷ xs) all = ap (λ k. x ∷ k) (with_facts-elements Q xs all.1)

module _ (P : Head → Type 0) (meant : Ref → Option Head) (good : (r : Ref) (h : Head) → meant r ≡ Some h → P h) where
  abbrev IsGood : Actual → Type 0
  IsGood a = (k : Applied) → resolved meant a ≡ Some k → every-Applied (λ b. P b.head) k

  args_good : (ys : List ((a : Actual) × IsGood a)) (ks : List Applied) → map (resolved meant) (map (λ e. e.0) ys) ≡ map Some ks → AllByRecursion (every-Applied (λ b. P b.head)) ks
  args_good [] [] e = tt
  args_good [] (k ∷ ks) e = let bad : [] ≡ Some k ∷ map Some ks = e in cc
  args_good (y ∷ ys) [] e = let bad : resolved meant y.0 ∷ map (resolved meant) (map (λ v. v.0) ys) ≡ [] = e in cc
  args_good (y ∷ ys) (k ∷ ks) e =
      let here : resolved meant y.0 ≡ Some k = cc in
      let rest : map (resolved meant) (map (λ v. v.0) ys) ≡ map Some ks = cc in
      (y.1 k here, args_good ys ks rest)

  resolved_good : (a : Actual) → IsGood a
  resolved_good = ind-Actual IsGood (λ x y is k e.
      let parts = applied_parts (meant x.head) (all_of (map (resolved meant) x.args)) k (sym (fold-roll-Actual (Option Applied) (apply_step meant) x) ∙ e) in
      let args = args_good y.args parts.1 (ap (map (resolved meant)) (ap (λ (v : Actual-F Actual). v.args) is) ∙ all_of_parts (map (resolved meant) x.args) parts.1 parts.3) in
      subst (every-Applied (λ b. P b.head)) parts.4
      (every_made-Applied (λ b. P b.head) (record { head = parts.0; args = parts.1 }) (record { head = parts.0; args = with_facts (every-Applied (λ b. P b.head)) parts.1 args })
      (ap (λ v. record { head = parts.0; args = v }) (with_facts-elements (every-Applied (λ b. P b.head)) parts.1 args)) (good x.head parts.0 parts.2)))

  -- If each head that a name can mean has the property P, and all actuals of a list resolve, then each head in the
  -- resolved actuals has P.
  all_good : (actuals : List Actual) (ks : List Applied) → all_resolved meant actuals ≡ Some ks → AllByRecursion (every-Applied (λ b. P b.head)) ks
  all_good actuals ks e = go actuals ks (all_of_parts (map (resolved meant) actuals) ks e)
    where
      go : (bs : List Actual) (ls : List Applied) → map (resolved meant) bs ≡ map Some ls → AllByRecursion (every-Applied (λ b. P b.head)) ls
      go [] [] f = tt
      go [] (l ∷ ls) f = let bad : [] ≡ Some l ∷ map Some ls = f in cc
      go (b ∷ bs) [] f = let bad : resolved meant b ∷ map (resolved meant) bs ≡ [] = f in cc
      go (b ∷ bs) (l ∷ ls) f =
          let here : resolved meant b ≡ Some l = cc in
          let rest : map (resolved meant) bs ≡ map Some ls = cc in
          (resolved_good b l here, go bs ls rest)

-- An actual is as deep as its resolved value.
module _ (meant : Ref → Option Head) where
  abbrev KeepsDepth : Actual → Type 0
  KeepsDepth a = (k : Applied) → resolved meant a ≡ Some k → applied_depth k ≡ actual_depth a

  args_keep : (ys : List ((a : Actual) × KeepsDepth a)) (ks : List Applied) → map (resolved meant) (map (λ e. e.0) ys) ≡ map Some ks → map applied_depth ks ≡ map actual_depth (map (λ e. e.0) ys)
  args_keep [] [] e = refl
  args_keep [] (k ∷ ks) e = let bad : [] ≡ Some k ∷ map Some ks = e in cc
  args_keep (y ∷ ys) [] e = let bad : resolved meant y.0 ∷ map (resolved meant) (map (λ v. v.0) ys) ≡ [] = e in cc
  args_keep (y ∷ ys) (k ∷ ks) e =
      let here : resolved meant y.0 ≡ Some k = cc in
      let rest : map (resolved meant) (map (λ v. v.0) ys) ≡ map Some ks = cc in
      ap (λ n. n ∷ map applied_depth ks) (y.1 k here) ∙ ap (λ ns. actual_depth y.0 ∷ ns) (args_keep ys ks rest)

  depth_kept : (a : Actual) → KeepsDepth a
  depth_kept = ind-Actual KeepsDepth (λ x y is k e.
      let parts = applied_parts (meant x.head) (all_of (map (resolved meant) x.args)) k (sym (fold-roll-Actual (Option Applied) (apply_step meant) x) ∙ e) in
      let same = ap (λ (v : Actual-F Actual). v.args) is in
      let args = args_keep y.args parts.1 (ap (map (resolved meant)) same ∙ all_of_parts (map (resolved meant) x.args) parts.1 parts.3) in
      ap applied_depth (sym parts.4) ∙ fold-roll-Applied ℕ applied_depth_step (record { head = parts.0; args = parts.1 })
      ∙ ap (λ ns. suc (greatest ns)) (args ∙ ap (map actual_depth) same) ∙ sym (fold-roll-Actual ℕ actual_depth_step x))

  all_kept : (actuals : List Actual) (ks : List Applied) → all_resolved meant actuals ≡ Some ks → All IsActualShallow actuals → All IsAppliedShallow ks
  all_kept actuals ks e shallow = All-from_recursion IsAppliedShallow ks (go actuals ks (all_of_parts (map (resolved meant) actuals) ks e) (recursion_from_All IsActualShallow actuals shallow))
    where
      go : (bs : List Actual) (ls : List Applied) → map (resolved meant) bs ≡ map Some ls → AllByRecursion IsActualShallow bs → AllByRecursion IsAppliedShallow ls
      go [] [] f h = tt
      go [] (l ∷ ls) f h = let bad : [] ≡ Some l ∷ map Some ls = f in cc
      go (b ∷ bs) [] f h = let bad : resolved meant b ∷ map (resolved meant) bs ≡ [] = f in cc
      go (b ∷ bs) (l ∷ ls) f h =
          let here : resolved meant b ≡ Some l = cc in
          let rest : map (resolved meant) bs ≡ map Some ls = cc in
          (subst (λ n. n ≤ max_actual_depth) (sym (depth_kept b l here)) h.0, go bs ls rest h.1)

-- HEADS

-- The head has the property, if there is a head.
abbrev Gives : (Head → Type 0) → Option Head → Type 0
Gives P o = (h : Head) → o ≡ Some h → P h

gives_none : (P : Head → Type 0) → Gives P None
gives_none P h e = let bad : None ≡ Some h = e in cc

gives_or : (P : Head → Type 0) (a b : Option Head) → Gives P a → Gives P b → Gives P (option_or a b)
gives_or P None b p q = q
gives_or P (Some x) b p q = p

gives_number : (P : Head → Type 0) (f : ℕ → Head) (o : Option ℕ) → ((n : ℕ) → o ≡ Some n → P (f n)) → Gives P (option_map f o)
gives_number P f None p h e = gives_none P h e
gives_number P f (Some n) p h e = subst P (same_Some _ _ e) (p n refl)

gives_found : (P : Head → Type 0) (f : Text → Option Head) (o : Option Text) → ((x : Text) → Gives P (f x)) → Gives P (option_and_then f o)
gives_found P f None p = gives_none P
gives_found P f (Some x) p = p x

module _ (p : Bool) (ms : List Module) (fs : List Text) (k : ℕ) where
  abbrev IsBelow : Head → Type 0
  IsBelow = IsHeadBelow (length fs) (length (token_names ms)) (length (rules p ms))

  rule_below : (owner : Option ℕ) (x : Text) → Gives IsBelow (rule_head (meanings p ms).numbers owner x)
  rule_below owner x = gives_number IsBelow heads.Rule (rule_number p ms owner x) (λ n e. position_below (is_rule owner x) (rules p ms) n e)

  token_below : (x : Text) → Gives IsBelow (token_head (meanings p ms).numbers x)
  token_below x = gives_number IsBelow heads.Token ((meanings p ms).numbers.token x) (λ n e. position_below (same x) (token_names ms) n e)

  visible_below : (x : Text) → Gives IsBelow (visible_head (meanings p ms).numbers k x)
  visible_below x = go (k == 0)
    where
      go : (b : Bool) → Gives IsBelow (if b then None else user_head (meanings p ms).numbers k x)
      go true = gives_none IsBelow
      go false =
          gives_or IsBelow (token_head (meanings p ms).numbers x) _ (token_below x)
          (gives_or IsBelow (rule_head (meanings p ms).numbers (Some k) x) _ (rule_below (Some k) x)
          (gives_or IsBelow (rule_head (meanings p ms).numbers None x) None (rule_below None x) (gives_none IsBelow)))

  head_below : (r : Ref) → Gives IsBelow (meant_by (meanings p ms) k (formal_number fs) r)
  head_below (Plain x) =
      gives_or IsBelow (option_map heads.Formal (formal_number fs x)) _ (gives_number IsBelow heads.Formal (formal_number fs x) (λ n e. position_below (same x) fs n e))
      (gives_or IsBelow (visible_head (meanings p ms).numbers k x) _ (visible_below x)
      (gives_or IsBelow (rule_head (meanings p ms).numbers (Some 0) x) None (rule_below (Some 0) x) (gives_none IsBelow)))
  head_below (Alias a) = gives_found IsBelow (token_head (meanings p ms).numbers) ((meanings p ms).aliased a) token_below

-- DEFINITIONS

-- The definition d is one of these rules of file k.
record IsDefinitionIn (owner : Text → Option ℕ) (k : ℕ) (rs : List Rule) (d : Definition) : Type 0 where
  rule_in : In rs d.rule
  owner_is : d.owner ≡ owner d.rule.name

stands_in : (owner : Text → Option ℕ) (k n : ℕ) (rs : List Rule) (d : Definition) → In (definitions_from owner k n rs) d → IsDefinitionIn owner k rs d
stands_in owner k n [] d h = elim h [ ]
stands_in owner k n (r ∷ rs) d (inl e) = subst (IsDefinitionIn owner k (r ∷ rs)) e (record { rule_in = inl refl; owner_is = refl })
stands_in owner k n (r ∷ rs) d (inr h) = let rest = stands_in owner k (n + length r.alternatives) rs d h in record { rule_in = inr rest.rule_in; owner_is = rest.owner_is }

-- Each numbered element has a number of at least n and is a member of the list.
number_from : {X : Type 0} (n : ℕ) (xs : List X) (f : ℕ × X) → In (enumerate_from n xs) f → (n ≤ f.0) × In xs f.1
number_from n [] f h = elim h [ ]
number_from n (x ∷ xs) f (inl e) = let is : n ≡ f.0 = ap (λ g. g.0) e in (omega arith, inl (ap (λ g. g.1) e))
number_from n (x ∷ xs) f (inr h) = let rest = number_from (n + 1) xs f h in let above = rest.0 in (omega arith, inr rest.1)

one_number : {X : Type 0} (n : ℕ) (xs : List X) (f g : ℕ × X) → In (enumerate_from n xs) f → In (enumerate_from n xs) g → f.0 ≡ g.0 → f.1 ≡ g.1
one_number n [] f g h i e = elim h [ ]
one_number n (x ∷ xs) f g (inl a) (inl b) e = ap (λ v. v.1) (sym a ∙ b)
one_number n (x ∷ xs) f g (inl a) (inr i) e = let is : n ≡ f.0 = ap (λ v. v.0) a in let above = (number_from (n + 1) xs g i).0 in absurd (omega arith)
one_number n (x ∷ xs) f g (inr h) (inl b) e = let is : n ≡ g.0 = ap (λ v. v.0) b in let above = (number_from (n + 1) xs f h).0 in absurd (omega arith)
one_number n (x ∷ xs) f g (inr h) (inr i) e = one_number (n + 1) xs f g h i e

-- The definition d comes from a file, or from the prelude.
data IsFromFileOrPrelude (p : Bool) (ms : List Module) (d : Definition) : Type 0 where
  in_file : (f : ℕ × Module) → In (files ms) f → IsDefinitionIn (owner_in (start_names ms) f.0 f.1.rules) f.0 f.1.rules d → IsFromFileOrPrelude p ms d
  in_prelude : IsDefinitionIn (λ x. Some 0) 0 (prelude_rules p) d → IsFromFileOrPrelude p ms d

placed : (p : Bool) (ms : List Module) (d : Definition) → In (definitions p ms) d → IsFromFileOrPrelude p ms d
placed p ms d h = go (in_append (flat_map (definitions_in (start_names ms)) (files ms)) (prelude_definitions (prelude_rules p)) d h)
  where
    go : In (flat_map (definitions_in (start_names ms)) (files ms)) d ⊎ In (prelude_definitions (prelude_rules p)) d → IsFromFileOrPrelude p ms d
    go (inl a) = let f = in_flat (definitions_in (start_names ms)) (files ms) d a in in_file f.0 f.1 (stands_in (owner_in (start_names ms) f.0.0 f.0.1.rules) f.0.0 0 f.0.1.rules d f.2)
    go (inr b) = in_prelude (stands_in (λ x. Some 0) 0 0 (prelude_rules p) d b)

-- RULES OF ONE NAME

not_true : (b : Bool) (e : JoinFault) → unless (not b) e ≡ [] → b ≡ false
not_true true e h = let bad : e ∷ [] ≡ [] = h in cc
not_true false e h = refl

-- A name that is not repeated does not occur in the earlier names.
not_before : (before xs : List Text) (x : Text) → repeats before xs ≡ [] → In xs x → list_any (same x) before ≡ false
not_before before [] x e h = elim h [ ]
not_before before (y ∷ ys) x e (inl is) =
    ap (λ z. list_any (same z) before) (sym is) ∙ not_true (list_any (same y) before) (faults.Duplicate y) (nil_parts (unless (not (list_any (same y) before)) (faults.Duplicate y)) (repeats (before ++ y ∷ []) ys) e).0
not_before before (y ∷ ys) x e (inr h) =
    left_false (list_any (same x) before) (list_any (same x) (y ∷ []))
    (sym (list_any-append (same x) before (y ∷ [])) ∙ not_before (before ++ y ∷ []) ys x (nil_parts (unless (not (list_any (same y) before)) (faults.Duplicate y)) (repeats (before ++ y ∷ []) ys) e).1 h)
  where
    left_false : (a b : Bool) → (a || b) ≡ false → a ≡ false
    left_false true b f = f
    left_false false b f = refl

module _ (own : Text → Bool) where
  own_in : (rs : List Rule) (s : Rule) → In rs s → own s.name ≡ false → In (own_names own rs) s.name
  own_in [] s h e = elim h [ ]
  own_in (r ∷ rs) s (inl is) e = subst (λ (v : Rule). In (own_name own r ++ own_names own rs) v.name) is (subst (λ b. In ((if b then [] else r.name ∷ []) ++ own_names own rs) r.name) (sym (ap (λ (v : Rule). own v.name) is ∙ e)) (inl refl))
  own_in (r ∷ rs) s (inr h) e = go (own_in rs s h e) (own r.name)
    where
      go : In (own_names own rs) s.name → (b : Bool) → In ((if b then [] else r.name ∷ []) ++ own_names own rs) s.name
      go later true = later
      go later false = inr later

  -- A private rule has no later rule of its name in the file.
  none_behind : (before : List Text) (r : Rule) (rs : List Rule) (s : Rule) → repeats before (own_name own r ++ own_names own rs) ≡ [] → own r.name ≡ false → In rs s → r.name ≡ s.name → ⊥
  none_behind before r rs s e private h is =
      let whole : repeats before (r.name ∷ own_names own rs) ≡ [] = subst (λ b. repeats before ((if b then [] else r.name ∷ []) ++ own_names own rs) ≡ []) private e in
      let free : list_any (same s.name) (before ++ r.name ∷ []) ≡ false =
      not_before (before ++ r.name ∷ []) (own_names own rs) s.name (nil_parts (unless (not (list_any (same r.name) before)) (faults.Duplicate r.name)) (repeats (before ++ r.name ∷ []) (own_names own rs)) whole).1
      (own_in rs s h (ap own (sym is) ∙ private)) in
      let there : list_any (same s.name) (before ++ r.name ∷ []) ≡ true =
      list_any-append (same s.name) before (r.name ∷ []) ∙ ap (λ b. list_any (same s.name) before || (b || false)) (ap (same s.name) is ∙ same_refl s.name) ∙ or-true (list_any (same s.name) before) in
      let bad : true ≡ false = sym there ∙ free in cc

  -- A file has at most one private rule of each name.
  one_own : (before : List Text) (rs : List Rule) (r s : Rule) → repeats before (own_names own rs) ≡ [] → In rs r → In rs s → own r.name ≡ false → r.name ≡ s.name → r ≡ s
  one_own before [] r s e h i private is = elim h [ ]
  one_own before (q ∷ rs) r s e (inl a) (inl b) private is = sym a ∙ b
  one_own before (q ∷ rs) r s e (inl a) (inr i) private is = absurd (none_behind before q rs s e (ap (λ (v : Rule). own v.name) a ∙ private) i (ap (λ (v : Rule). v.name) a ∙ is))
  one_own before (q ∷ rs) r s e (inr h) (inl b) private is = absurd (none_behind before q rs r e (ap (λ (v : Rule). own v.name) b ∙ ap own (sym is) ∙ private) h (ap (λ (v : Rule). v.name) b ∙ sym is))
  one_own before (q ∷ rs) r s e (inr h) (inr i) private is = go (λ names f. one_own names rs r s f h i private is) (own q.name) e
    where
      go : ((names : List Text) → repeats names (own_names own rs) ≡ [] → r ≡ s) → (b : Bool) → repeats before ((if b then [] else q.name ∷ []) ++ own_names own rs) ≡ [] → r ≡ s
      go later true f = later before f
      go later false f = later (before ++ q.name ∷ []) (nil_parts (unless (not (list_any (same q.name) before)) (faults.Duplicate q.name)) (repeats (before ++ q.name ∷ []) (own_names own rs)) f).1

-- The names of the prelude's rules differ, and each of its rules has an alternative.
prelude_once : (p : Bool) → repeats [] (own_names (λ x. false) (prelude_rules p)) ≡ []
unfolding prelude_rules
prelude_once true = refl
prelude_once false = refl

prelude_filled : (p : Bool) → list_all (λ (r : Rule). nat_lt 0 (length r.alternatives)) (prelude_rules p) ≡ true
unfolding prelude_rules
prelude_filled true = refl
prelude_filled false = refl

-- FILES WITHOUT A FAULT

module _ (p : Bool) (ms : List Module) (none : join_faults p ms ≡ []) where
  abbrev w : Meanings
  w = meanings p ms

  past_undefined : duplicates w ms ++ other_faults w ms ≡ []
  past_undefined = (nil_parts (flat_map (undefined_in_file w) (files ms)) (duplicates w ms ++ other_faults w ms) none).1

  rules_once : rule_duplicates w ms ≡ []
  rules_once =
      (nil_parts (rule_duplicates w ms) (flat_map (levels_in_file w) (files ms))
      (nil_parts (name_duplicates w ms) (rule_duplicates w ms ++ flat_map (levels_in_file w) (files ms)) (nil_parts (duplicates w ms) (other_faults w ms) past_undefined).0).1).0

  own_once : flat_map (own_in_file w) ms ≡ []
  own_once = (nil_parts (flat_map (own_in_file w) ms) (flat_map formals_in_file ms ++ flat_map (shapes_in_file w) ms) rules_once).0

  shapes_once : flat_map (shapes_in_file w) ms ≡ []
  shapes_once = (nil_parts (flat_map formals_in_file ms) (flat_map (shapes_in_file w) ms) (nil_parts (flat_map (own_in_file w) ms) (flat_map formals_in_file ms ++ flat_map (shapes_in_file w) ms) rules_once).1).1

  tokens_few : length (token_names ms) ≤ max_tokens
  tokens_few =
      few_tokens (length (token_names ms))
      (nil_parts (flat_map (unlevelled_in_file w) ms) (many_tokens (length (token_names ms)))
      (nil_parts (flat_map errors_in_file ms) (flat_map (unlevelled_in_file w) ms ++ many_tokens (length (token_names ms)))
      (nil_parts (unless (has_some w.starts) faults.NoStart) (flat_map errors_in_file ms ++ (flat_map (unlevelled_in_file w) ms ++ many_tokens (length (token_names ms))))
      (nil_parts (duplicates w ms) (other_faults w ms) past_undefined).1).1).1).1

  -- A public definition has the same formals as the first definition of its name.
  public_shape : (m : Module) (r : Rule) (o : Outline) → In ms m → In m.rules r → is_public (start_names ms) m.rules r.name ≡ true → w.joined r.name ≡ Some o → o.formals ≡ length r.formals
  public_shape m r o at_m at_r public joined =
      let fault : other_shape w (is_public (start_names ms) m.rules) r ≡ [] = nil_in (other_shape w (is_public (start_names ms) m.rules)) m.rules r (nil_in (shapes_in_file w) ms m shapes_once at_m) at_r in
      let shape : unless (agrees same_shape (w.joined r.name) r) (faults.Duplicate r.name) ≡ [] = subst (λ b. (if b then unless (agrees same_shape (w.joined r.name) r) (faults.Duplicate r.name) else []) ≡ []) public fault in
      eqb_is o.formals (length r.formals)
      (and_right (same_flag o.inlined r.inlined) (o.formals == length r.formals)
      (sym (ap (λ k. agrees same_shape k r) joined) ∙ known_unless (agrees same_shape (w.joined r.name) r) (faults.Duplicate r.name) shape))

  private_once : (m : Module) (r s : Rule) → In ms m → In m.rules r → In m.rules s → is_public (start_names ms) m.rules r.name ≡ false → r.name ≡ s.name → r ≡ s
  private_once m r s at_m at_r at_s private is = one_own (is_public (start_names ms) m.rules) [] m.rules r s (nil_in (own_in_file w) ms m own_once at_m) at_r at_s private is

  -- Two definitions of the same name and the same owner, a file or the prelude, have the same rule.
  private_same : (d e : Definition) (n : ℕ) → IsFromFileOrPrelude p ms d → IsFromFileOrPrelude p ms e → d.owner ≡ Some n → e.owner ≡ Some n → d.rule.name ≡ e.rule.name → d.rule ≡ e.rule
  private_same d e n (in_file f at_f a) (in_file g at_g b) d_is e_is is =
      go (is_public (start_names ms) f.1.rules d.rule.name) refl (is_public (start_names ms) g.1.rules e.rule.name) (sym a.owner_is ∙ d_is) (sym b.owner_is ∙ e_is)
    where
      go : (c : Bool) → is_public (start_names ms) f.1.rules d.rule.name ≡ c → (x : Bool) → (if c then None else Some f.0) ≡ Some n → (if x then None else Some g.0) ≡ Some n → d.rule ≡ e.rule
      go true private x h i = let bad : None ≡ Some n = h in cc
      go false private true h i = let bad : None ≡ Some n = i in cc
      go false private false h i =
          let one : g.1 ≡ f.1 = one_number 1 ms g f at_g at_f (same_Some _ _ i ∙ sym (same_Some _ _ h)) in
          private_once f.1 d.rule e.rule (number_from 1 ms f at_f).1 a.rule_in (subst (λ (m : Module). In m.rules e.rule) one b.rule_in) private is
  private_same d e n (in_file f at_f a) (in_prelude b) d_is e_is is =
      absurd (no_file f at_f (is_public (start_names ms) f.1.rules d.rule.name) (sym a.owner_is ∙ d_is ∙ sym e_is ∙ b.owner_is))
    where
      no_file : (f : ℕ × Module) → In (files ms) f → (c : Bool) → (if c then None else Some f.0) ≡ Some 0 → ⊥
      no_file f at_f true h = let bad : ◌≡◌ {A = Option ℕ} None (Some 0) = h in cc
      no_file f at_f false h = let zero_is : f.0 ≡ 0 = same_Some _ _ h in let above = (number_from 1 ms f at_f).0 in omega arith
  private_same d e n (in_prelude a) (in_file f at_f b) d_is e_is is =
      absurd (no_file f at_f (is_public (start_names ms) f.1.rules e.rule.name) (sym b.owner_is ∙ e_is ∙ sym d_is ∙ a.owner_is))
    where
      no_file : (f : ℕ × Module) → In (files ms) f → (c : Bool) → (if c then None else Some f.0) ≡ Some 0 → ⊥
      no_file f at_f true h = let bad : ◌≡◌ {A = Option ℕ} None (Some 0) = h in cc
      no_file f at_f false h = let zero_is : f.0 ≡ 0 = same_Some _ _ h in let above = (number_from 1 ms f at_f).0 in omega arith
  private_same d e n (in_prelude a) (in_prelude b) d_is e_is is = one_own (λ x. false) [] (prelude_rules p) d.rule e.rule (prelude_once p) a.rule_in b.rule_in refl is

  -- A rule has as many formals as each of its definitions.
  formals_are : (d : Definition) (i : ℕ) (o : Outline) → In (definitions p ms) d → rule_number p ms d.owner d.rule.name ≡ Some i → slice_get (rules p ms) i ≡ Some o → o.formals ≡ length d.rule.formals
  formals_are d i o at_d number at_o = go d.owner refl (placed p ms d at_d)
    where
      found : (q : Outline) × (slice_get (rules p ms) i ≡ Some q) × (is_rule d.owner d.rule.name q ≡ true)
      found = at_position (is_rule d.owner d.rule.name) (rules p ms) i number

      one : is_rule d.owner d.rule.name o ≡ true
      one = ap (is_rule d.owner d.rule.name) (same_Some _ _ (sym at_o ∙ found.1)) ∙ found.2

      from : (e : Definition) × In (definitions p ms) e × (outline_of e ≡ o)
      from = in_map outline_of (definitions p ms) o (in_firsts same_rule rule_self (map outline_of (definitions p ms)) o (in_at (rules p ms) i o at_o))

      owner_one : d.owner ≡ from.0.owner
      owner_one = owner_is d.owner o.owner (and_left (same_owner d.owner o.owner) (same d.rule.name o.name) one) ∙ ap (λ (v : Outline). v.owner) (sym from.2)

      name_one : d.rule.name ≡ from.0.rule.name
      name_one = equal_from_same d.rule.name o.name (and_right (same_owner d.owner o.owner) (same d.rule.name o.name) one) ∙ ap (λ (v : Outline). v.name) (sym from.2)

      from_private : (n : ℕ) → d.owner ≡ Some n → o.formals ≡ length d.rule.formals
      from_private n is =
          ap (λ (v : Outline). v.formals) (sym from.2)
          ∙ ap (λ (r : Rule). length r.formals) (sym (private_same d from.0 n (placed p ms d at_d) (placed p ms from.0 from.1) is (sym owner_one ∙ is) name_one))

      go : (owner : Option ℕ) → d.owner ≡ owner → IsFromFileOrPrelude p ms d → o.formals ≡ length d.rule.formals
      go (Some n) is h = from_private n is
      go None is (in_prelude a) = let bad : ◌≡◌ {A = Option ℕ} None (Some 0) = sym is ∙ a.owner_is in cc
      go None is (in_file f at_f a) = public (is_public (start_names ms) f.1.rules d.rule.name) refl (sym is ∙ a.owner_is)
        where
          joined : w.joined d.rule.name ≡ Some o
          joined =
              sym (find_position (is_rule None d.rule.name) (rules p ms)) ∙ ap (option_and_then (λ n. slice_get (rules p ms) n)) (ap (λ x. rule_number p ms x d.rule.name) (sym is) ∙ number) ∙ at_o

          public : (b : Bool) → is_public (start_names ms) f.1.rules d.rule.name ≡ b → None ≡ (if b then None else Some f.0) → o.formals ≡ length d.rule.formals
          public false e bad = cc
          public true e fine = public_shape f.1 d.rule o (number_from 1 ms f at_f).1 a.rule_in e joined

-- RULES WITH ALTERNATIVES

module _ (p : Bool) (ms : List Module) (filled : AreModulesReady ms) where
  definition_filled : (d : Definition) → In (definitions p ms) d → 0 < length d.rule.alternatives
  definition_filled d h = go (placed p ms d h)
    where
      go : IsFromFileOrPrelude p ms d → 0 < length d.rule.alternatives
      go (in_file f at_f a) =
          at_in (λ (r : Rule). 0 < length r.alternatives) f.1.rules d.rule
          (recursion_from_All (λ (r : Rule). 0 < length r.alternatives) f.1.rules
          (at_in IsModuleReady ms f.1 (recursion_from_All IsModuleReady ms filled) (number_from 1 ms f at_f).1).alternatives)
          a.rule_in
      go (in_prelude a) = ltb-true 0 (length d.rule.alternatives) (tested_in (λ (r : Rule). nat_lt 0 (length r.alternatives)) (prelude_rules p) d.rule (prelude_filled p) a.rule_in)

  definition_shallow : (d : Definition) → In (definitions p ms) d → AreProducersShallow d.rule
  definition_shallow d h = go (placed p ms d h)
    where
      go : IsFromFileOrPrelude p ms d → AreProducersShallow d.rule
      go (in_file f at_f a) =
          at_in AreProducersShallow f.1.rules d.rule
          (recursion_from_All AreProducersShallow f.1.rules (at_in IsModuleReady ms f.1 (recursion_from_All IsModuleReady ms filled) (number_from 1 ms f at_f).1).shallow)
          a.rule_in
      go (in_prelude a) = at_in AreProducersShallow (prelude_rules p) d.rule (recursion_from_All AreProducersShallow (prelude_rules p) (prelude_shallow p)) a.rule_in

-- RULES

module _ (p : Bool) (ms : List Module) (j : Joined) (none : join_faults p ms ≡ []) (joined : IsJoined p ms j) where
  abbrev count_tokens : ℕ
  count_tokens = length (token_names ms)

  abbrev count_rules : ℕ
  count_rules = length (rules p ms)

  tokens_length : length j.tokens ≡ count_tokens
  tokens_length = ap length joined.tokens_are ∙ length-map (token_names ms) (token_info (meanings p ms))

  rules_length : length j.rules ≡ count_rules
  rules_length = sym (length-map j.rules without_alternatives) ∙ ap length joined.rules_are.outlines_are ∙ length-map (rules p ms) (rule_of_outline (is_elsewhere ms))

  -- A joined rule has the number of formals of its outline, which is the rule without its alternatives.
  outline_at : (i : ℕ) (r : JoinedRule) → slice_get j.rules i ≡ Some r → (o : Outline) × (slice_get (rules p ms) i ≡ Some o) × (o.formals ≡ r.formals)
  outline_at i r at = go (slice_get (rules p ms) i) refl
      (sym (slice_get-map (rule_of_outline (is_elsewhere ms)) (rules p ms) i) ∙ ap (λ k. slice_get k i) (sym joined.rules_are.outlines_are) ∙ slice_get-map without_alternatives j.rules i ∙ ap (option_map without_alternatives) at)
    where
      go : (q : Option Outline) → slice_get (rules p ms) i ≡ q → option_map (rule_of_outline (is_elsewhere ms)) q ≡ Some (without_alternatives r) → (o : Outline) × (slice_get (rules p ms) i ≡ Some o) × (o.formals ≡ r.formals)
      go None e f = let bad : None ≡ Some (without_alternatives r) = f in cc
      go (Some o) e f = (o, e, ap (λ (v : JoinedRule). v.formals) (same_Some _ _ f))

  below : (k : ℕ) (fs : List Text) (actuals : List Actual) (ks : List Applied) → all_resolved (meant_by (meanings p ms) k (formal_number fs)) actuals ≡ Some ks → All (IsAppliedBelow (length fs) (length j.tokens) (length j.rules)) ks
  below k fs actuals ks e =
      rw (tokens_length, rules_length)
      (All-from_recursion (IsAppliedBelow (length fs) count_tokens count_rules) ks
      (all_good (IsHeadBelow (length fs) count_tokens count_rules) (meant_by (meanings p ms) k (formal_number fs)) (head_below p ms fs k) actuals ks e))

  -- If a definition contributes an alternative to rule i, then i is the number of the rule that it defines.
  from_definition : (i : ℕ) (d : Definition) (b : Bool) (a : JoinedAlternative) → has_number i (rule_number p ms d.owner d.rule.name) ≡ b → In (if b then alternatives_by (meanings p ms) d else []) (Some a)
      → (rule_number p ms d.owner d.rule.name ≡ Some i) × In (alternatives_by (meanings p ms) d) (Some a)
  from_definition i d false a e h = elim h [ ]
  from_definition i d true a e h = (go (rule_number p ms d.owner d.rule.name) e, h)
    where
      go : (o : Option ℕ) → has_number i o ≡ true → o ≡ Some i
      go None f = let bad : false ≡ true = f in cc
      go (Some n) f = ap Some (sym (eqb_is i n f))

  producers_below : (d : Definition) (e : ℕ × Alternative) (a : JoinedAlternative) → alternative_by (meanings p ms) d.file (meant_by (meanings p ms) d.file (formal_number d.rule.formals)) e ≡ Some a
      → All (IsAppliedBelow (length d.rule.formals) (length j.tokens) (length j.rules)) a.producers
  producers_below d e a is = go (all_resolved (meant_by (meanings p ms) d.file (formal_number d.rule.formals)) e.1.producers) refl is
    where
      go : (o : Option (List Applied)) → all_resolved (meant_by (meanings p ms) d.file (formal_number d.rule.formals)) e.1.producers ≡ o
          → option_map (alternative_with d.file e.0 (prec_by (meanings p ms).aliased (meanings p ms).level e.1.prec)) o ≡ Some a → All (IsAppliedBelow (length d.rule.formals) (length j.tokens) (length j.rules)) a.producers
      go None f g = let bad : None ≡ Some a = g in cc
      go (Some ks) f g = subst (λ (v : JoinedAlternative). All (IsAppliedBelow (length d.rule.formals) (length j.tokens) (length j.rules)) v.producers) (same_Some _ _ g) (below d.file d.rule.formals e.1.producers ks f)

  alternative_below : (i : ℕ) (r : JoinedRule) → slice_get j.rules i ≡ Some r → (a : JoinedAlternative) → In r.alternatives a → All (IsAppliedBelow r.formals (length j.tokens) (length j.rules)) a.producers
  alternative_below i r at a h =
      let outline = outline_at i r at in
      let from = in_flat (alternatives_for (meanings p ms) i) (definitions p ms) (Some a) (subst (λ k. In k (Some a)) (joined.rules_are.alternatives_are i r at) (map_in Some r.alternatives a h)) in
      let d = from.0 in
      let there = from_definition i d (has_number i (rule_number p ms d.owner d.rule.name)) a refl from.2 in
      let one = in_map (alternative_by (meanings p ms) d.file (meant_by (meanings p ms) d.file (formal_number d.rule.formals))) (enumerate_from d.place d.rule.alternatives) (Some a) there.1 in
      subst (λ n. All (IsAppliedBelow n (length j.tokens) (length j.rules)) a.producers) (sym (formals_are p ms none d i outline.0 from.1 there.0 outline.1) ∙ outline.2) (producers_below d one.0 a one.2)

  -- The producers of each alternative are not too deep, because those in the files and in the prelude are not.
  producers_shallow : (d : Definition) (e : ℕ × Alternative) (a : JoinedAlternative) → alternative_by (meanings p ms) d.file (meant_by (meanings p ms) d.file (formal_number d.rule.formals)) e ≡ Some a
      → All IsActualShallow e.1.producers → All IsAppliedShallow a.producers
  producers_shallow d e a is shallow = go (all_resolved (meant_by (meanings p ms) d.file (formal_number d.rule.formals)) e.1.producers) refl is
    where
      go : (o : Option (List Applied)) → all_resolved (meant_by (meanings p ms) d.file (formal_number d.rule.formals)) e.1.producers ≡ o
          → option_map (alternative_with d.file e.0 (prec_by (meanings p ms).aliased (meanings p ms).level e.1.prec)) o ≡ Some a → All IsAppliedShallow a.producers
      go None f g = let bad : None ≡ Some a = g in cc
      go (Some ks) f g =
          subst (λ (v : JoinedAlternative). All IsAppliedShallow v.producers) (same_Some _ _ g)
          (all_kept (meant_by (meanings p ms) d.file (formal_number d.rule.formals)) e.1.producers ks f shallow)

  alternative_shallow : AreModulesReady ms → (i : ℕ) (r : JoinedRule) → slice_get j.rules i ≡ Some r → (a : JoinedAlternative) → In r.alternatives a → All IsAppliedShallow a.producers
  alternative_shallow filled i r at a h =
      let from = in_flat (alternatives_for (meanings p ms) i) (definitions p ms) (Some a) (subst (λ k. In k (Some a)) (joined.rules_are.alternatives_are i r at) (map_in Some r.alternatives a h)) in
      let d = from.0 in
      let there = from_definition i d (has_number i (rule_number p ms d.owner d.rule.name)) a refl from.2 in
      let one = in_map (alternative_by (meanings p ms) d.file (meant_by (meanings p ms) d.file (formal_number d.rule.formals))) (enumerate_from d.place d.rule.alternatives) (Some a) there.1 in
      let spelled =
      at_in (λ (b : Alternative). All IsActualShallow b.producers) d.rule.alternatives one.0.1 (recursion_from_All (λ (b : Alternative). All IsActualShallow b.producers) d.rule.alternatives (definition_shallow p ms filled d from.1))
      (number_from d.place d.rule.alternatives one.0 one.1).1 in
      producers_shallow d one.0 a one.2 spelled

  -- A rule has the alternatives of its first definition.
  rule_filled : AreModulesReady ms → (i : ℕ) (r : JoinedRule) → slice_get j.rules i ≡ Some r → 0 < length r.alternatives
  rule_filled filled i r at =
      let some = definition_filled p ms filled from.0 from.1 in
      let mine : length (alternatives_for (meanings p ms) i from.0) ≡ length from.0.rule.alternatives =
      ap (λ b. length (if b then alternatives_by (meanings p ms) from.0 else [])) (ap (has_number i) number ∙ (Decides-eqb i i).1 refl)
      ∙ length-map (enumerate_from from.0.place from.0.rule.alternatives) (alternative_by (meanings p ms) from.0.file (meant_by (meanings p ms) from.0.file (formal_number from.0.rule.formals)))
      ∙ length_numbered from.0.place from.0.rule.alternatives in
      let within = length_in (alternatives_for (meanings p ms) i) (definitions p ms) from.0 from.1 in
      let all : length r.alternatives ≡ length (flat_map (alternatives_for (meanings p ms) i) (definitions p ms)) = sym (length-map r.alternatives Some) ∙ ap length (joined.rules_are.alternatives_are i r at) in
      omega arith
    where
      length_numbered : {X : Type 0} (n : ℕ) (xs : List X) → length (enumerate_from n xs) ≡ length xs
      length_numbered n [] = refl
      length_numbered n (x ∷ xs) = ap suc (length_numbered (n + 1) xs)

      outline : (o : Outline) × (slice_get (rules p ms) i ≡ Some o) × (o.formals ≡ r.formals)
      outline = outline_at i r at

      from : (d : Definition) × In (definitions p ms) d × (outline_of d ≡ outline.0)
      from = in_map outline_of (definitions p ms) outline.0 (in_firsts same_rule rule_self (map outline_of (definitions p ms)) outline.0 (in_at (rules p ms) i outline.0 outline.1))

      number : rule_number p ms from.0.owner from.0.rule.name ≡ Some i
      number = ap (λ (o : Outline). position (is_rule o.owner o.name) (rules p ms)) from.2 ∙ firsts_first same_rule rule_self (map outline_of (definitions p ms)) i outline.0 outline.1

  rule_ready : AreModulesReady ms → (i : ℕ) (r : JoinedRule) → slice_get j.rules i ≡ Some r → IsRuleReady (length j.tokens) (length j.rules) r
  rule_ready filled i r at = record {
    has_some = rule_filled filled i r at;
    heads_below = all_in (λ (a : JoinedAlternative). All (IsAppliedBelow r.formals (length j.tokens) (length j.rules)) a.producers) r.alternatives (alternative_below i r at);
    shallow = all_in (λ (a : JoinedAlternative). All IsAppliedShallow a.producers) r.alternatives (alternative_shallow filled i r at);
  }

  -- START SYMBOLS

  -- Each start symbol has a name, and its number is the number of the rule with this name.
  start_at : (i s : ℕ) → slice_get j.starts i ≡ Some s → (x : Text) × (slice_get (start_names ms) i ≡ Some x) × (rule_number p ms None x ≡ Some s)
  start_at i s at = go (slice_get (start_names ms) i) refl
      (sym (slice_get-map (rule_number p ms None) (start_names ms) i) ∙ ap (λ k. slice_get k i) (sym joined.starts_are) ∙ slice_get-map Some j.starts i ∙ ap (option_map Some) at)
    where
      go : (o : Option Text) → slice_get (start_names ms) i ≡ o → option_map (rule_number p ms None) o ≡ Some (Some s) → (x : Text) × (slice_get (start_names ms) i ≡ Some x) × (rule_number p ms None x ≡ Some s)
      go None e f = let bad : None ≡ Some (Some s) = f in cc
      go (Some x) e f = (x, e, same_Some _ _ f)

  start_below : (i s : ℕ) → slice_get j.starts i ≡ Some s → s < length j.rules
  start_below i s at = let x = start_at i s at in subst (λ n. s < n) (sym rules_length) (position_below (is_rule None x.0) (rules p ms) s x.2)

  start_once : (i k s : ℕ) → slice_get j.starts i ≡ Some s → slice_get j.starts k ≡ Some s → i ≡ k
  start_once i k s at also =
      let x = start_at i s at in
      let y = start_at k s also in
      let one = at_position (is_rule None x.0) (rules p ms) s x.2 in
      let two = at_position (is_rule None y.0) (rules p ms) s y.2 in
      let name : x.0 ≡ y.0 =
      equal_from_same x.0 one.0.name (and_right (same_owner None one.0.owner) (same x.0 one.0.name) one.2) ∙ ap (λ (v : Outline). v.name) (same_Some _ _ (sym one.1 ∙ two.1))
      ∙ sym (equal_from_same y.0 two.0.name (and_right (same_owner None two.0.owner) (same y.0 two.0.name) two.2)) in
      same_Some _ _ (sym (firsts_first same same_refl (flat_map (λ (m : Module). m.starts) ms) i x.0 x.1) ∙ ap (λ z. position (same z) (start_names ms)) name ∙ firsts_first same same_refl (flat_map (λ (m : Module). m.starts) ms) k y.0 y.1)

  starts_distinct : AllPairs (λ a b. a ≢ b) j.starts
  starts_distinct i k d before within same_start =
      let first_is = slice_get-get_or j.starts i d (omega arith) in
      let then_is = slice_get-get_or j.starts k d within in
      let one = start_once i k (get_or j.starts i d) first_is (then_is ∙ ap Some (sym same_start)) in omega arith

  actuals_below : (ks : List Applied) → In j.on_error ks → All (IsAppliedBelow 0 (length j.tokens) (length j.rules)) ks
  actuals_below ks h =
      let f = in_flat (on_error_in (meanings p ms)) (files ms) (Some ks) (subst (λ k. In k (Some ks)) joined.on_error_is (map_in Some j.on_error ks h)) in
      let one = in_map (all_resolved (meant_by (meanings p ms) f.0.0 (formal_number []))) f.0.1.on_error (Some ks) f.2 in
      below f.0.0 [] one.0 ks one.2

  actuals_shallow : AreModulesReady ms → (ks : List Applied) → In j.on_error ks → All IsAppliedShallow ks
  actuals_shallow filled ks h =
      let f = in_flat (on_error_in (meanings p ms)) (files ms) (Some ks) (subst (λ k. In k (Some ks)) joined.on_error_is (map_in Some j.on_error ks h)) in
      let one = in_map (all_resolved (meant_by (meanings p ms) f.0.0 (formal_number []))) f.0.1.on_error (Some ks) f.2 in
      let module_ready = at_in IsModuleReady ms f.0.1 (recursion_from_All IsModuleReady ms filled) (number_from 1 ms f.0 f.1).1 in
      let spelled = at_in (All IsActualShallow) f.0.1.on_error one.0 (recursion_from_All (All IsActualShallow) f.0.1.on_error module_ready.on_error_shallow) one.1 in
      all_kept (meant_by (meanings p ms) f.0.0 (formal_number [])) one.0 ks one.2 spelled

-- If the modules are ready, the result of joining them is ready.
pub ready : (p : Bool) (ms : List Module) (j : Joined) → AreModulesReady ms → Joins p ms (Ok j) → IsJoinedReady j
ready p ms j filled (none, joined) = record {
  few_tokens = subst (λ n. n ≤ max_tokens) (sym (tokens_length p ms j none joined)) (tokens_few p ms none);
  costs = tokens_costed p ms j filled joined;
  starts_below = All-from_recursion (λ s. s < length j.rules) j.starts (all_at (λ s. s < length j.rules) j.starts (start_below p ms j none joined));
  starts_distinct = starts_distinct p ms j none joined;
  on_error_below = all_in (λ actuals. All (IsAppliedBelow 0 (length j.tokens) (length j.rules)) actuals) j.on_error (actuals_below p ms j none joined);
  on_error_shallow = all_in (All IsAppliedShallow) j.on_error (actuals_shallow p ms j none joined filled);
  rules_ready = All-from_recursion (IsRuleReady (length j.tokens) (length j.rules)) j.rules (all_at (IsRuleReady (length j.tokens) (length j.rules)) j.rules (rule_ready p ms j none joined filled));
}

pub ready_if_joined : (p : Bool) (ms : List Module) (r : Result Joined JoinFault) → Joins p ms r → AreModulesReady ms → IfOk r IsJoinedReady
ready_if_joined p ms (Ok j) joins filled = ready p ms j filled joins
ready_if_joined p ms (Err e) joins filled = tt

-- UNIQUENESS

somes_one : {X : Type 0} (xs ys : List X) → map Some xs ≡ map Some ys → xs ≡ ys
somes_one [] [] e = refl
somes_one [] (y ∷ ys) e = let bad : [] ≡ Some y ∷ map Some ys = e in cc
somes_one (x ∷ xs) [] e = let bad : Some x ∷ map Some xs ≡ [] = e in cc
somes_one (x ∷ xs) (y ∷ ys) e =
    let here : x ≡ y = cc in
    let rest : map Some xs ≡ map Some ys = cc in
    ap (λ v. v ∷ xs) here ∙ ap (λ vs. y ∷ vs) (somes_one xs ys rest)

rules_one : (rs qs : List JoinedRule) → map without_alternatives rs ≡ map without_alternatives qs → ((i : ℕ) (r q : JoinedRule) → slice_get rs i ≡ Some r → slice_get qs i ≡ Some q → r.alternatives ≡ q.alternatives) → rs ≡ qs
rules_one [] [] e h = refl
rules_one [] (q ∷ qs) e h = let bad : [] ≡ without_alternatives q ∷ map without_alternatives qs = e in cc
rules_one (r ∷ rs) [] e h = let bad : without_alternatives r ∷ map without_alternatives rs ≡ [] = e in cc
rules_one (r ∷ rs) (q ∷ qs) e h =
    let bare : without_alternatives r ≡ without_alternatives q = cc in
    let rest : map without_alternatives rs ≡ map without_alternatives qs = cc in
    let alternatives = h 0 r q refl refl in
    let here : r ≡ q = λ i. record { name = (bare i).name; inlined = (bare i).inlined; formals = (bare i).formals; alternatives = alternatives i } in
    ap (λ v. v ∷ rs) here ∙ ap (λ vs. q ∷ vs) (rules_one rs qs rest (λ i. h (suc i)))

-- Two results of joining the same files are equal.
pub one_joined : (p : Bool) (ms : List Module) (j k : Joined) → Joins p ms (Ok j) → Joins p ms (Ok k) → j ≡ k
one_joined p ms j k (_, a) (_, b) =
    let tokens = a.tokens_are ∙ sym b.tokens_are in
    let starts = somes_one j.starts k.starts (a.starts_are ∙ sym b.starts_are) in
    let on_error = somes_one j.on_error k.on_error (a.on_error_is ∙ sym b.on_error_is) in
    let rules_are = rules_one j.rules k.rules (a.rules_are.outlines_are ∙ sym b.rules_are.outlines_are)
    (λ i r q at also. somes_one r.alternatives q.alternatives (a.rules_are.alternatives_are i r at ∙ sym (b.rules_are.alternatives_are i q also))) in
    λ i. record { tokens = tokens i; starts = starts i; on_error = on_error i; rules = rules_are i }

-- If files can be joined, then the only fault that joining may report is that memory ran out.
pub joined_or_fault : (p : Bool) (ms : List Module) (j : Joined) (e : JoinFault) → Joins p ms (Ok j) → Joins p ms (Err e) → e ≡ faults.Memory
joined_or_fault p ms j e a (inl memory) = memory
joined_or_fault p ms j e a (inr fault) = let bad : None ≡ Some e = ap first (sym a.0) ∙ fault in cc

-- Two faults of the same files are equal, unless one of them reports that memory ran out.
pub one_fault : (p : Bool) (ms : List Module) (e f : JoinFault) → Joins p ms (Err e) → Joins p ms (Err f) → e ≢ faults.Memory → f ≢ faults.Memory → e ≡ f
one_fault p ms e f (inl memory) b here there = absurd (here memory)
one_fault p ms e f (inr a) (inl memory) here there = absurd (there memory)
one_fault p ms e f (inr a) (inr b) here there = same_Some _ _ (sym a ∙ b)
