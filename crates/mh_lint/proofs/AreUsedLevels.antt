-- The names and the alternatives whose levels are compared: those of marked tokens, of marked sources, and after
-- `%prec`.
use Rattle.std.proofs.Common.{◌≡◌, ◌↔◌, ◌⊎◌, ℕ, ◌+◌, ◌≤◌, Bool, true, List, Option, Some, length, refl, sym, subst, ◌∙◌, arith, inl, inr}
use Rattle.std.specs.List.{Contains, slice_get}
use Rattle.std.specs.HashSet.{contains}
use Rattle.std.proofs.lemmas.Option.{same_Some, slice_get_within}
use Rattle.mh_grammar.specs.Text.{Text}
use Rattle.mh_join_names.specs.Names.{same}
use Rattle.mh_reader_places.specs.declared.mentions.Mention.{Mention}
use Rattle.mh_lint_faults.specs.declared.reading.ReadFiles.{ReadFiles}
use Rattle.mh_lint.specs.code.LevelUses.{AddsUses, AreUsedLevels, IsMarkedSource, IsMarkedToken, IsNameUsed, IsPrecNameOf, IsPrecSource, IsTokenSource, IsUsedPrecName, NoPlace}
use Rattle.mh_lint.specs.code.LevelUses as levels
use Rattle.mh_lint.specs.declared.alternatives.AlternativeOf.{AlternativeOf}
use Rattle.mh_lint.specs.declared.levels.UsedLevels.{UsedLevels}
use Rattle.mh_lint.specs.declared.sources.LevelSource.{LevelSource}
use Rattle.mh_lint.specs.declared.sources.LevelSource.TheVariants as sources
use Rattle.mh_lint.proofs.AddsUses.{AddsBelow, HasAlternative, HasName, adds_none, adds_same, all_below, more_below, place_added, skipped_below}
use Rattle.mh_lint.proofs.UsedPrecNames.{names_same, same_places}

-- ---- One source.

module _ (tokens : List Text) where
  pub no_source : (u : UsedLevels) → AddsUses (IsTokenSource tokens sources.None) (IsPrecSource sources.None) u u
  no_source u = adds_none (IsTokenSource tokens sources.None) (IsPrecSource sources.None) u (λ x h. (let bad : sources.None ≡ sources.Token h.0 = h.1 in cc)) (λ file n e. cc)

  pub token_source_added : (z : ℕ) (a b : UsedLevels) → AddsUses (λ x. slice_get tokens z ≡ Some x) NoPlace a b → AddsUses (IsTokenSource tokens (sources.Token z)) (IsPrecSource (sources.Token z)) a b
  token_source_added z a b = adds_same (λ x. slice_get tokens z ≡ Some x) (IsTokenSource tokens (sources.Token z)) NoPlace (IsPrecSource (sources.Token z)) a b (λ x e. (z, refl, e)) from (λ file n p. absurd p) (λ file n e. cc)
    where
      from : (x : Text) → IsTokenSource tokens (sources.Token z) x → slice_get tokens z ≡ Some x
      from x h = (let e : sources.Token z ≡ sources.Token h.0 = h.1 in let number : h.0 ≡ z = cc in subst (λ k. slice_get tokens k ≡ Some x) number h.2)

  pub prec_source_added : (file n : ℕ) (a b : UsedLevels) → ((x : Text) → contains same b.names x ≡ contains same a.names x) → ((x : AlternativeOf) → Contains b.alternatives.keys x ↔ (Contains a.alternatives.keys x ⊎ (x ≡ record { file = file; index = n }))) → AddsUses (IsTokenSource tokens (sources.Prec file n)) (IsPrecSource (sources.Prec file n)) a b
  prec_source_added file n a b names keys = place_added (IsTokenSource tokens (sources.Prec file n)) (IsPrecSource (sources.Prec file n)) a b file n names keys refl only (λ x h. (let bad : sources.Prec file n ≡ sources.Token h.0 = h.1 in cc))
    where
      only : (k m : ℕ) → sources.Prec file n ≡ sources.Prec k m → (k ≡ file) × (m ≡ n)
      only k m e = (let first : k ≡ file = cc in first, let second : m ≡ n = cc in second)

-- ---- Marked tokens and marked sources.

module _ (tokens : List Text) (compared : List Bool) where
  abbrev pub TokenAt : ℕ → Text → Type 0
  TokenAt z x = (slice_get compared z ≡ Some true) × (slice_get tokens z ≡ Some x)

  pub all_tokens : (i : ℕ) (a b : UsedLevels) → length compared ≤ i → AddsBelow TokenAt (λ z. NoPlace) i a b → AddsUses (IsMarkedToken tokens compared) NoPlace a b
  all_tokens i a b past = all_below TokenAt (λ z. NoPlace) i (IsMarkedToken tokens compared) NoPlace a b (λ z x h. (let l = slice_get_within compared z true h.0 in omega (arith, l, past))) (λ z file n p. absurd p) (λ z x h. (z, h.0, h.1)) (λ x m. (m.0, (m.1, m.2))) (λ z file n p. p) (λ file n p. absurd p)

  pub token_more : (i : ℕ) (a b c : UsedLevels) → slice_get compared i ≡ Some true → AddsBelow TokenAt (λ z. NoPlace) i a b → AddsUses (λ x. slice_get tokens i ≡ Some x) NoPlace b c → AddsBelow TokenAt (λ z. NoPlace) (i + 1) a c
  token_more i a b c flag g h = more_below TokenAt (λ z. NoPlace) i a b c g (adds_same (λ x. slice_get tokens i ≡ Some x) (TokenAt i) NoPlace NoPlace b c (λ x e. (flag, e)) (λ x e. e.1) (λ file n p. p) (λ file n p. p) h)

  pub token_skipped : (i : ℕ) (a b : UsedLevels) → (slice_get compared i ≡ Some true → ⊥) → AddsBelow TokenAt (λ z. NoPlace) i a b → AddsBelow TokenAt (λ z. NoPlace) (i + 1) a b
  token_skipped i a b unset = skipped_below TokenAt (λ z. NoPlace) i a b (λ x h. unset h.0) (λ file n p. p)

module _ (tokens : List Text) (all : List LevelSource) (compared : List Bool) where
  -- The source of a marked production.
  abbrev pub SourceAt : ℕ → LevelSource → Type 0
  SourceAt z source = (slice_get compared z ≡ Some true) × (slice_get all z ≡ Some source)

  abbrev pub SourceNameAt : ℕ → Text → Type 0
  SourceNameAt z x = (source : LevelSource) × SourceAt z source × IsTokenSource tokens source x

  abbrev pub SourcePlaceAt : ℕ → ℕ → ℕ → Type 0
  SourcePlaceAt z file n = (source : LevelSource) × SourceAt z source × IsPrecSource source file n

  abbrev pub SourceName : Text → Type 0
  SourceName x = (source : LevelSource) × IsMarkedSource all compared source × IsTokenSource tokens source x

  abbrev pub SourcePlace : ℕ → ℕ → Type 0
  SourcePlace file n = (source : LevelSource) × IsMarkedSource all compared source × IsPrecSource source file n

  pub all_sources : (i : ℕ) (a b : UsedLevels) → length all ≤ i → AddsBelow SourceNameAt SourcePlaceAt i a b → AddsUses SourceName SourcePlace a b
  all_sources i a b past = all_below SourceNameAt SourcePlaceAt i SourceName SourcePlace a b
      (λ z x h. (let l = slice_get_within all z h.0 (h.1).1 in omega (arith, l, past)))
      (λ z file n h. (let l = slice_get_within all z h.0 (h.1).1 in omega (arith, l, past)))
      (λ z x h. (h.0, (z, (h.1).0, (h.1).1), h.2))
      (λ x m. ((m.1).0, (m.0, ((m.1).1, (m.1).2), m.2)))
      (λ z file n h. (h.0, (z, (h.1).0, (h.1).1), h.2))
      (λ file n m. ((m.1).0, (m.0, ((m.1).1, (m.1).2), m.2)))

  pub source_more : (i : ℕ) (source : LevelSource) (a b c : UsedLevels) → slice_get all i ≡ Some source → slice_get compared i ≡ Some true → AddsBelow SourceNameAt SourcePlaceAt i a b → AddsUses (IsTokenSource tokens source) (IsPrecSource source) b c → AddsBelow SourceNameAt SourcePlaceAt (i + 1) a c
  source_more i source a b c at flag g h = more_below SourceNameAt SourcePlaceAt i a b c g (adds_same (IsTokenSource tokens source) (SourceNameAt i) (IsPrecSource source) (SourcePlaceAt i) b c (λ x t. (source, (flag, at), t)) (λ x k. subst (λ s. IsTokenSource tokens s x) (same_Some k.0 source (sym (k.1).1 ∙ at)) k.2) (λ file n e. (source, (flag, at), e)) (λ file n k. subst (λ s. IsPrecSource s file n) (same_Some k.0 source (sym (k.1).1 ∙ at)) k.2) h)

  pub source_skipped : (i : ℕ) (a b : UsedLevels) → (slice_get compared i ≡ Some true → ⊥) → AddsBelow SourceNameAt SourcePlaceAt i a b → AddsBelow SourceNameAt SourcePlaceAt (i + 1) a b
  source_skipped i a b unset = skipped_below SourceNameAt SourcePlaceAt i a b (λ x h. unset (h.1).0) (λ file n h. unset (h.1).0)

-- ---- Names after `%prec`, file by file.

module _ (aliased : Text → Option Text) (read : ReadFiles) where
  pub more_files : (at : ℕ) (mentions : List Mention) (a b c : UsedLevels) → slice_get read.mentions.items at ≡ Some mentions → AddsBelow (IsPrecNameOf aliased read a.alternatives.keys) (λ z. NoPlace) at a b → AddsUses (IsUsedPrecName aliased b.alternatives.keys (at + 1) mentions) NoPlace b c → AddsBelow (IsPrecNameOf aliased read a.alternatives.keys) (λ z. NoPlace) (at + 1) a c
  more_files at mentions a b c is g h = more_below (IsPrecNameOf aliased read a.alternatives.keys) (λ z. NoPlace) at a b c g (adds_same (IsUsedPrecName aliased b.alternatives.keys (at + 1) mentions) (IsPrecNameOf aliased read a.alternatives.keys at) NoPlace NoPlace b c to from (λ file n p. p) (λ file n p. p) h)
    where
      places : (n : ℕ) → HasAlternative b (at + 1) n ↔ HasAlternative a (at + 1) n
      places n = same_places _ _ a b (λ k m p. p.2) g (at + 1) n

      to : (x : Text) → IsUsedPrecName aliased b.alternatives.keys (at + 1) mentions x → IsPrecNameOf aliased read a.alternatives.keys at x
      to x u = (mentions, is, names_same aliased (at + 1) b.alternatives.keys a.alternatives.keys mentions x (λ n p. (places n).0 p) u)

      from : (x : Text) → IsPrecNameOf aliased read a.alternatives.keys at x → IsUsedPrecName aliased b.alternatives.keys (at + 1) mentions x
      from x k = names_same aliased (at + 1) a.alternatives.keys b.alternatives.keys mentions x (λ n p. (places n).1 p) (subst (λ ms. IsUsedPrecName aliased a.alternatives.keys (at + 1) ms x) (same_Some k.0 mentions (sym k.1 ∙ is)) k.2)

  pub all_files : (at : ℕ) (a b : UsedLevels) → length read.mentions.items ≤ at → AddsBelow (IsPrecNameOf aliased read a.alternatives.keys) (λ z. NoPlace) at a b → AddsUses (λ x. (k : ℕ) × IsPrecNameOf aliased read a.alternatives.keys k x) NoPlace a b
  all_files at a b past g = all_below (IsPrecNameOf aliased read a.alternatives.keys) (λ z. NoPlace) at (λ x. (k : ℕ) × IsPrecNameOf aliased read a.alternatives.keys k x) NoPlace a b (λ z x h. (let l = slice_get_within read.mentions.items z h.0 h.1 in omega (arith, l, past))) (λ z file n p. absurd p) (λ z x h. (z, h)) (λ x m. (m.0, m.1)) (λ z file n p. p) (λ file n p. absurd p) g

  pub are_used : (tokens : List Text) (all : List LevelSource) (token_flags production_flags : List Bool) (a b c d : UsedLevels) → ((x : Text) → HasName a x → ⊥) → ((file n : ℕ) → HasAlternative a file n → ⊥)
      → AddsUses (IsMarkedToken tokens token_flags) NoPlace a b → AddsUses (SourceName tokens all production_flags) (SourcePlace tokens all production_flags) b c → AddsUses (λ x. (k : ℕ) × IsPrecNameOf aliased read c.alternatives.keys k x) NoPlace c d → AreUsedLevels tokens aliased read all token_flags production_flags d
  are_used tokens all token_flags production_flags a b c d no_name no_place by_token by_source by_prec = record { names = λ x. (names_to x, names_from x); alternatives = λ file n. (places_to file n, places_from file n) }
    where
      Used : Text → Type 0
      Used x = IsNameUsed tokens aliased read all token_flags production_flags d.alternatives.keys x

      places : (file n : ℕ) → HasAlternative d file n ↔ HasAlternative c file n
      places file n = same_places _ _ c d (λ k m p. p) by_prec file n

      names_to : (x : Text) → HasName d x → Used x
      names_to x e = elim ((by_prec.names x).0 e) [
        | inl earlier ↦ elim ((by_source.names x).0 earlier) [
          | inl first ↦ elim ((by_token.names x).0 first) [ inl had ↦ absurd (no_name x had) | inr marked ↦ levels.IsNameUsed.of_token marked ]
          | inr h ↦ levels.IsNameUsed.of_source h.0 h.1 h.2
        ]
        | inr h ↦ levels.IsNameUsed.of_prec h.0 (h.1).0 (h.1).1 (names_same aliased (h.0 + 1) c.alternatives.keys d.alternatives.keys (h.1).0 x (λ n p. (places (h.0 + 1) n).1 p) (h.1).2)
      ]

      names_from : (x : Text) → Used x → HasName d x
      names_from x (levels.IsNameUsed.of_token marked) = (by_prec.names x).1 (inl ((by_source.names x).1 (inl ((by_token.names x).1 (inr marked)))))
      names_from x (levels.IsNameUsed.of_source source marked is) = (by_prec.names x).1 (inl ((by_source.names x).1 (inr (source, marked, is))))
      names_from x (levels.IsNameUsed.of_prec k mentions is u) = (by_prec.names x).1 (inr (k, (mentions, is, names_same aliased (k + 1) d.alternatives.keys c.alternatives.keys mentions x (λ n p. (places (k + 1) n).0 p) u)))

      places_to : (file n : ℕ) → HasAlternative d file n → SourcePlace tokens all production_flags file n
      places_to file n h = elim ((by_source.alternatives file n).0 ((places file n).0 h)) [
        | inl earlier ↦ elim ((by_token.alternatives file n).0 earlier) [ inl had ↦ absurd (no_place file n had) | inr p ↦ absurd p ]
        | inr place ↦ place
      ]

      places_from : (file n : ℕ) → SourcePlace tokens all production_flags file n → HasAlternative d file n
      places_from file n place = (places file n).1 ((by_source.alternatives file n).1 (inr place))
