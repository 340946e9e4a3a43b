-- The first mention of a kind, in one file and in all files.
use Rattle.std.proofs.Common.{◌≡◌, ℕ, suc, ◌+◌, ◌<◌, ◌≤◌, List, [], ◌∷◌, ◌++◌, Option, None, Some, take, drop, length, get_or, map, refl, sym, ap, subst, ◌∙◌, inl, inr, arith}
use Rattle.std.specs.List.{Contains, slice_get}
use Rattle.std.proofs.lemmas.List.Elements.{Contains-append_left, Contains-append_right}
use Rattle.std.proofs.lemmas.Option.{same_Some}
use Rattle.mh_grammar.proofs.Lists.{below_next, contains_here, split_at, take_step_cases}
use Rattle.mh_reader_places.specs.declared.mentions.Mention.{Mention}
use Rattle.mh_reader_places.specs.declared.reading.PlacedModule.{PlacedModule}
use Rattle.mh_lint_faults.specs.Stages.{Mentions}
use Rattle.mh_lint_faults.specs.code.FirstMentions.{IsFirstWith}
use Rattle.mh_lint_faults.specs.code.FirstMentions as first

-- A mention is among the mentions of its file, and the mentions before it, too.
pub contains_middle : (before : List Mention) (x : Mention) (after : List Mention) → Contains (before ++ x ∷ after) x
contains_middle before x after = Contains-append_right before (x ∷ after) x (contains_here x after)

-- ---- One file.

module _ (Is : Mention → Type 0) where
  pub none_more : (xs : List Mention) (i : ℕ) (x : Mention) → i < length xs → x ≡ get_or xs i x → ((y : Mention) → Contains (take i xs) y → Is y → ⊥) → (Is x → ⊥) → (y : Mention) → Contains (take (i + 1) xs) y → Is y → ⊥
  none_more xs i x l at before here y c is = elim (take_step_cases xs i x l at y c) [ inl d ↦ before y d is | inr e ↦ here (subst Is (sym e) is) ]

  pub first_at : (xs : List Mention) (i : ℕ) (x : Mention) → i < length xs → x ≡ get_or xs i x → ((y : Mention) → Contains (take i xs) y → Is y → ⊥) → Is x → IsFirstWith Is xs (Some x.start)
  first_at xs i x l at before is = first.IsFirstWith.first (take i xs) (drop (suc i) xs) x (split_at xs i x l at) before is

  pub none_of : (xs : List Mention) → ((y : Mention) → Contains xs y → Is y → ⊥) → IsFirstWith Is xs None
  none_of xs none = first.IsFirstWith.none none

  -- What is known of the first mention.
  pub record IsFirstAt (xs : List Mention) (start : ℕ) : Type 0 where
    pub before : List Mention
    pub after : List Mention
    pub mention : Mention
    pub split : xs ≡ before ++ mention ∷ after
    pub none : (y : Mention) → Contains before y → Is y → ⊥
    pub is : Is mention
    pub start_is : start ≡ mention.start

  pub first_known : (xs : List Mention) (start : ℕ) → IsFirstWith Is xs (Some start) → IsFirstAt xs start
  first_known xs start (first.IsFirstWith.first before after x split none is) = record { before = before; after = after; mention = x; split = split; none = none; is = is; start_is = refl }

  pub none_known : (xs : List Mention) → IsFirstWith Is xs None → (y : Mention) → Contains xs y → Is y → ⊥
  none_known xs (first.IsFirstWith.none none) = none

-- ---- All files.

module _ (found : List PlacedModule) (Of : ℕ → PlacedModule → Mention → Type 0) where
  pub record IsMention (file : ℕ) (before : List Mention) (x : Mention) : Type 0 where
    pub of_file : Mentions found file before x
    pub is : Of file of_file.placed x

  -- The first n files have no such mention.
  abbrev pub NoneIn : ℕ → Type 0
  NoneIn n = (file : ℕ) (before : List Mention) (x : Mention) → file < n → IsMention file before x → ⊥

  pub record IsFirst (file : ℕ) (before : List Mention) (x : Mention) : Type 0 where
    pub here : IsMention file before x
    pub none_here : (y : Mention) → Contains before y → Of file here.of_file.placed y → ⊥
    pub first_here : (earlier : List Mention) (y : Mention) (later : List Mention) → before ≡ earlier ++ y ∷ later → IsMention file earlier y → ⊥
    pub first_file : NoneIn file

  -- A mention of file n is one of the mentions of its module.
  of_module : (n : ℕ) (p : PlacedModule) (before : List Mention) (x : Mention) → slice_get found n ≡ Some p → IsMention n before x → Contains p.mentions x × Of n p x
  of_module n p before x at m =
      let same : m.of_file.placed ≡ p = same_Some _ _ (sym m.of_file.of_files ∙ at) in (
        subst (λ (q : PlacedModule). Contains q.mentions x) same (subst (λ xs. Contains xs x) (sym m.of_file.split) (contains_middle before x m.of_file.after)),
        subst (λ (q : PlacedModule). Of n q x) same m.is,
      )

  pub none_in_more : (n : ℕ) (p : PlacedModule) → slice_get found n ≡ Some p → NoneIn n → IsFirstWith (Of n p) p.mentions None → NoneIn (n + 1)
  none_in_more n p at before lacking file others x l m = elim (below_next file n l) [
    | inl less ↦ before file others x less m
    | inr same ↦ (let here = of_module n p others x at (subst (λ k. IsMention k others x) same m) in none_known (Of n p) p.mentions lacking x here.0 here.1)
  ]

  pub first_in : (n : ℕ) (p : PlacedModule) (start : ℕ) → slice_get found n ≡ Some p → NoneIn n → IsFirstWith (Of n p) p.mentions (Some start) → (before : List Mention) × (x : Mention) × IsFirst n before x × (start ≡ x.start)
  first_in n p start at before is =
      let known = first_known (Of n p) p.mentions start is in
      let here : IsMention n known.before known.mention = record { of_file = record { placed = p; after = known.after; of_files = at; split = known.split }; is = known.is } in (
        known.before,
        known.mention,
        record {
          here = here;
          none_here = known.none;
          first_here = λ earlier y later e m.
              (let one = of_module n p earlier y at m in
              known.none y (subst (λ xs. Contains xs y) (sym e) (contains_middle earlier y later)) one.1);
          first_file = before;
        },
        known.start_is,
      )
