-- Lemmas on the index by core: its use and its invariant.
use Rattle.std.proofs.Common.{◌≡◌, ◌⊎◌, ◌+◌, ◌<◌, ℕ, List, [], ◌∷◌, ◌++◌, Bool, true, false, cond, None, Some, Decides, set, length, refl, sym, ap, ◌∙◌, arith, inl, inr}
use Rattle.std.specs.List.{slice_get, Contains, All}
use Rattle.std.specs.List.Sorted.{IsPermutation}
use Rattle.std.specs.Map.{lookup}
use Rattle.std.proofs.lemmas.Bool.{cases_eq}
use Rattle.std.proofs.lemmas.List.{length-set, length_push}
use Rattle.std.proofs.lemmas.Option.{slice_get_within}
use Rattle.std.proofs.lemmas.List.Sorted.{Contains-permutation, IsPermutation-sym}
use Rattle.std.proofs.lemmas.List.Elements.{All-contains, All-push, All-weaker, Contains-append_left, Contains-append_right}
use Rattle.mh_grammar.specs.Plain.{PlainGrammar}
use Rattle.mh_grammar.proofs.Lists.{get_left, get_last, get_cases, contains_here, contains_there, contains_cases, contains_none, contains_push, get_within, set_here, set_elsewhere, set_cases, rising-push}
use Rattle.mh_items_kernels.specs.KernelTypes.{Kernel}
use Rattle.mh_items_kernels.specs.Kernels.{Holds, IsItemList}
use Rattle.mh_pager.specs.WeakCompatibility.{HaveSameCore, IsJoin}
use Rattle.mh_pager.proofs.PlacesMove.{join_extends}
use Rattle.mh_pager.specs.code.Cores.{core_of, IsBefore, AreCandidates}
use Rattle.mh_pager.specs.code.CoreIndex.{GroupNumbers, AreGroupsOfCores, HasGroupNumber, IsCoreIndex}
use Rattle.mh_pager.proofs.HaveSameCore.{core_same}

-- A join has the core of its parts.
pub joined_core : (g : PlainGrammar) (k move joined : Kernel) → IsItemList g k → IsItemList g joined → HaveSameCore (Holds k) (Holds move) → IsJoin (Holds k) (Holds move) (Holds joined) → core_of joined ≡ core_of k
joined_core g k move joined of_k of_joined core join = sym (core_same g k joined of_k of_joined (join_extends (Holds k) (Holds move) (Holds joined) core join).0.0)

pub AreGroupsOfCores-none : AreGroupsOfCores [] []
AreGroupsOfCores-none = record { within = λ core c h. absurd (contains_none (core, c) h); one_place = λ core c d h. absurd (contains_none (core, c) h); one_core = λ left right c h. absurd (contains_none (left, c) h) }

pub IsCoreIndex-none : IsCoreIndex [] [] []
IsCoreIndex-none = record {
  placed = AreGroupsOfCores-none;
  rising = λ c group e. cc;
  within = λ c group e. cc;
  all = λ n k e. cc;
  only = λ c n group k e h f. cc;
}

module _ (kernels : List Kernel) (places : GroupNumbers) (groups : List (List ℕ)) (x : IsCoreIndex kernels places groups) where
  -- The group of a core holds the candidates for a move with this core.
  pub candidates_of : (move : Kernel) (c : ℕ) (group : List ℕ) → Contains places (core_of move, c) → slice_get groups c ≡ Some group → AreCandidates kernels move group
  candidates_of move c group at of = record {
    rising = x.rising c group of;
    within = x.within c group of;
    all = λ n k e same.
        let s = x.all n k e in
        let one : s.group_number ≡ c = x.placed.one_place (core_of move) s.group_number c (rw same at s.at) at in
        let both : Some s.group ≡ Some group = sym s.of_core ∙ ap (slice_get groups) one ∙ of in
        let is : s.group ≡ group = cc in
        rw is at s.in_group;
    only = λ n k has e. x.placed.one_core (core_of k) (core_of move) c (x.only c n group k of has e) at;
  }

  -- A join keeps the core, so the index stays correct.
  pub indexed_join : (n : ℕ) (k j : Kernel) → slice_get kernels n ≡ Some k → core_of j ≡ core_of k → IsCoreIndex (set kernels n j) places groups
  indexed_join n k j at same = record {
    placed = x.placed;
    rising = x.rising;
    within = λ c group e. rw (length-set kernels n j) (x.within c group e);
    all = λ m h e. elim (set_cases kernels n j m h e) [
      | inl s ↦ (
          let was = x.all n k at in
          let is : core_of k ≡ core_of h = sym same ∙ ap core_of s.1 in
          record { group_number = was.group_number; group = was.group; at = rw is at was.at; of_core = was.of_core; in_group = rw s.0 was.in_group })
      | inr s ↦ x.all m h s.1
    ];
    only = λ c m group h of has e. elim (set_cases kernels n j m h e) [
      | inl s ↦ (
          let is : core_of k ≡ core_of h = sym same ∙ ap core_of s.1 in
          rw is at (x.only c n group k of (rw s.0 at has) at))
      | inr s ↦ x.only c m group h of has s.1
    ];
  }

  grown : (group : List ℕ) → All (λ n. n < length kernels) group → (move : Kernel) → All (λ n. n < length (kernels ++ move ∷ [])) group
  grown group a move = All-weaker (λ n. n < length kernels) (λ n. n < length (kernels ++ move ∷ [])) (λ n l. omega (arith, length_push kernels move)) group a

  -- A new state is appended to the group of its core.
  pub indexed_append : (move : Kernel) (c : ℕ) (group : List ℕ) → Contains places (core_of move, c) → slice_get groups c ≡ Some group → IsCoreIndex (kernels ++ move ∷ []) places (set groups c (group ++ length kernels ∷ []))
  indexed_append move c group at of = record {
    placed = record { within = λ core d h. rw (length-set groups c (group ++ length kernels ∷ [])) (x.placed.within core d h); one_place = x.placed.one_place; one_core = x.placed.one_core };
    rising = λ d other e. elim (set_cases groups c (group ++ length kernels ∷ []) d other e) [
      | inl s ↦ rw (← s.1) (rising-push IsBefore group (length kernels) (x.rising c group of) (λ m h. All-contains (λ n. n < length kernels) group m (x.within c group of) h))
      | inr s ↦ x.rising d other s.1
    ];
    within = λ d other e. elim (set_cases groups c (group ++ length kernels ∷ []) d other e) [
      | inl s ↦ rw (← s.1) (All-push (λ n. n < length (kernels ++ move ∷ [])) group (length kernels) (grown group (x.within c group of) move) (omega (arith, length_push kernels move)))
      | inr s ↦ grown other (x.within d other s.1) move
    ];
    all = λ n k e. elim (get_cases kernels move n k e) [
      | inl s ↦ (
          let was = x.all n k s in
          elim (cases_eq was.group_number c) [
            | inl t ↦ (
                let both : Some was.group ≡ Some group = sym was.of_core ∙ ap (slice_get groups) t ∙ of in
                let is : was.group ≡ group = cc in
                record { group_number = c; group = group ++ length kernels ∷ []; at = rw t at was.at; of_core = set_here groups c (group ++ length kernels ∷ []) (slice_get_within groups c group of); in_group = Contains-append_left group (length kernels ∷ []) n (rw is at was.in_group) })
            | inr t ↦ record { group_number = was.group_number; group = was.group; at = was.at; of_core = set_elsewhere groups c (group ++ length kernels ∷ []) was.group_number t ∙ was.of_core; in_group = was.in_group }
          ])
      | inr s ↦ record {
        group_number = c;
        group = group ++ length kernels ∷ [];
        at = rw s.1 at;
        of_core = set_here groups c (group ++ length kernels ∷ []) (slice_get_within groups c group of);
        in_group = rw s.0 (Contains-append_right group (length kernels ∷ []) (length kernels) (contains_here (length kernels) []));
      }
    ];
    only = λ d n other k e has f. elim (set_cases groups c (group ++ length kernels ∷ []) d other e) [
      | inl s ↦ rw s.0 (in_group n k (rw (← s.1) at has) f)
      | inr s ↦ elim (get_cases kernels move n k f) [
        | inl t ↦ x.only d n other k s.1 has t
        | inr t ↦ absurd (let l = All-contains (λ m. m < length kernels) other n (x.within d other s.1) has in omega (arith, l, t.0))
      ]
    ];
  }
    where
      in_group : (n : ℕ) (k : Kernel) → Contains (group ++ length kernels ∷ []) n → slice_get (kernels ++ move ∷ []) n ≡ Some k → Contains places (core_of k, c)
      in_group n k has f = elim (get_cases kernels move n k f) [
        | inl t ↦ elim (contains_push group (length kernels) n has) [
          | inl s ↦ x.only c n group k of s t
          | inr s ↦ absurd (let l = slice_get_within kernels n k t in omega (arith, l, s))
        ]
        | inr t ↦ rw t.1 at
      ]

-- A core that the search finds is in the map, and a core that the search does not find is not.
module _ (core : Kernel) (test : Kernel → Bool) where
  pub found_is_placed : (places : GroupNumbers) (c : ℕ) → lookup test places ≡ Some c → ((k : Kernel) → Decides (test k) (core ≡ k)) → Contains places (core, c)
  found_is_placed [] c e decides = cc
  found_is_placed (p ∷ ps) c e decides = one p ps c (test p.0) (decides p.0).0 (λ h. found_is_placed ps c h decides) e
    where
      one : (p : Kernel × ℕ) (ps : GroupNumbers) (c : ℕ) (b : Bool) → (b ≡ true → core ≡ p.0) → (lookup test ps ≡ Some c → Contains ps (core, c)) → cond b (Some p.1) (lookup test ps) ≡ Some c → Contains (p ∷ ps) (core, c)
      one p ps c true is later h =
          let number : p.1 ≡ c = cc in
          rw (is refl, ← number) (contains_here p ps)
      one p ps c false is later h = contains_there p ps (core, c) (later h)

  pub absent_not_placed : (places : GroupNumbers) (c : ℕ) → lookup test places ≡ None → ((k : Kernel) → Decides (test k) (core ≡ k)) → Contains places (core, c) → ⊥
  absent_not_placed [] c e decides h = contains_none (core, c) h
  absent_not_placed (p ∷ ps) c e decides h = one p ps c (test p.0) (decides p.0).1 (λ n. absent_not_placed ps c n decides) e (contains_cases p ps (core, c) h)
    where
      one : (p : Kernel × ℕ) (ps : GroupNumbers) (c : ℕ) (b : Bool) → (core ≡ p.0 → b ≡ true) → (lookup test ps ≡ None → Contains ps (core, c) → ⊥) → cond b (Some p.1) (lookup test ps) ≡ None → (p ≡ (core, c)) ⊎ Contains ps (core, c) → ⊥
      one p ps c true is later n h = cc
      one p ps c false is later n (inl e) = (let t = is (ap (λ (q : Kernel × ℕ). q.0) (sym e)) in cc)
      one p ps c false is later n (inr there) = later n there

-- A core without a group gets a new one.
module _ (places new : GroupNumbers) (groups : List (List ℕ)) (core : Kernel) (placed : AreGroupsOfCores places groups) (absent : (c : ℕ) → Contains places (core, c) → ⊥) (put : IsPermutation ((core, length groups) ∷ places) new) where
  was : (k : Kernel) (c : ℕ) → Contains new (k, c) → ((k ≡ core) × (c ≡ length groups)) ⊎ Contains places (k, c)
  was k c h = elim (contains_cases (core, length groups) places (k, c) (Contains-permutation new ((core, length groups) ∷ places) (k, c) (IsPermutation-sym ((core, length groups) ∷ places) new put) h)) [ inl e ↦ inl (ap (λ (q : Kernel × ℕ). q.0) (sym e), ap (λ (q : Kernel × ℕ). q.1) (sym e)) | inr there ↦ inr there ]

  stays : (k : Kernel) (c : ℕ) → Contains places (k, c) → Contains new (k, c)
  stays k c h = Contains-permutation ((core, length groups) ∷ places) new (k, c) put (contains_there (core, length groups) places (k, c) h)

  longer : length (groups ++ [] ∷ []) ≡ length groups + 1
  longer = length_push groups []

  pub placed_new : AreGroupsOfCores new (groups ++ [] ∷ [])
  placed_new = record {
    within = λ k c h. elim (was k c h) [
      | inl e ↦ omega (arith, e.1, longer)
      | inr there ↦ (let l = placed.within k c there in omega (arith, l, longer))
    ];
    one_place = λ k c d h i. elim (was k c h) [
      | inl e ↦ elim (was k d i) [
        | inl f ↦ e.1 ∙ sym f.1
        | inr there ↦ absurd (absent d (rw e.0 at there))
      ]
      | inr here ↦ elim (was k d i) [
        | inl f ↦ absurd (absent c (rw f.0 at here))
        | inr there ↦ placed.one_place k c d here there
      ]
    ];
    one_core = λ left right c h i. elim (was left c h) [
      | inl e ↦ elim (was right c i) [
        | inl f ↦ e.0 ∙ sym f.0
        | inr there ↦ absurd (let l = placed.within right c there in omega (arith, e.1, l))
      ]
      | inr here ↦ elim (was right c i) [
        | inl f ↦ absurd (let l = placed.within left c here in omega (arith, f.1, l))
        | inr there ↦ placed.one_core left right c here there
      ]
    ];
  }

  -- The new group is empty.
  pub group_new : HasGroupNumber new (groups ++ [] ∷ []) core (length groups)
  group_new = record { group = []; at = Contains-permutation ((core, length groups) ∷ places) new (core, length groups) put (contains_here (core, length groups) places); group_is = get_last groups [] (length groups) refl }

  pub indexed_new : (kernels : List Kernel) → IsCoreIndex kernels places groups → IsCoreIndex kernels new (groups ++ [] ∷ [])
  indexed_new kernels x = record {
    placed = placed_new;
    rising = λ c group e. elim (get_cases groups [] c group e) [ inl s ↦ x.rising c group s | inr s ↦ rw s.1 tt ];
    within = λ c group e. elim (get_cases groups [] c group e) [ inl s ↦ x.within c group s | inr s ↦ rw s.1 (λ k d l. absurd (omega arith)) ];
    all = λ n k e. let s = x.all n k e in record { group_number = s.group_number; group = s.group; at = stays (core_of k) s.group_number s.at; of_core = get_left groups ([] ∷ []) s.group_number s.group s.of_core; in_group = s.in_group };
    only = λ c n group k of has e. elim (get_cases groups [] c group of) [
      | inl s ↦ stays (core_of k) c (x.only c n group k s has e)
      | inr s ↦ absurd (contains_none n (rw s.1 at has))
    ];
  }

-- A core in the map has a group.
pub group_known : (places : GroupNumbers) (groups : List (List ℕ)) (core : Kernel) (c : ℕ) → AreGroupsOfCores places groups → Contains places (core, c) → HasGroupNumber places groups core c
group_known places groups core c placed at = let g = get_within groups c (placed.within core c at) in record { group = g.0; at = at; group_is = g.1 }
