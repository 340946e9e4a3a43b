-- What the names are used for before a file: after all mentions of the file before, and before the first file.
use Rattle.std.proofs.Common.{◌≡◌, ℕ, suc, ◌+◌, ◌≤◌, Bool, true, false, List, [], ◌∷◌, ◌++◌, Some, length, get_or, take, drop, flat_map, arith, sym, ap, subst, ◌∙◌, inl, inr, length-append}
use Rattle.std.specs.List.{Contains, slice_get}
use Rattle.std.specs.HashSet.{contains}
use Rattle.std.proofs.lemmas.Bool.{cases_lt}
use Rattle.std.proofs.lemmas.Grind.{flat_map-append}
use Rattle.std.proofs.lemmas.List.{append-nil, get_or_past}
use Rattle.std.proofs.lemmas.List.Elements.{Contains-append_right}
use Rattle.std.proofs.lemmas.List.Folds.{length-flat_map-take}
use Rattle.std.proofs.lemmas.Option.{get_or_from_slice_get, same_Some, slice_get-get_or, slice_get_within}
use Rattle.mh_grammar.specs.Text.{Text}
use Rattle.mh_grammar.proofs.Lists.{at_contains, below_next, contains_here, contains_none, split_at, take_step}
use Rattle.mh_join_names.specs.Names.{same}
use Rattle.mh_join_names.specs.Faults.{Meanings}
use Rattle.mh_reader_places.specs.declared.mentions.Mention.{Mention}
use Rattle.mh_reader_places.specs.declared.reading.PlacedModule.{PlacedModule}
use Rattle.mh_lint_faults.specs.FaultLines.{IsDefinition}
use Rattle.mh_lint_faults.specs.Stages.{Mentions, Stages}
use Rattle.mh_lint.specs.Built.{Built}
use Rattle.mh_lint.specs.MentionWarnings.{declarations_before}
use Rattle.mh_lint.specs.code.Declarations.{declared}
use Rattle.mh_lint.specs.code.MentionUses.{AreUsesBut, IsRuleBefore, IsTokenBefore}
use Rattle.mh_lint.specs.code.MentionUses as uses
use Rattle.mh_lint.specs.code.Uses.{HasPlace}
use Rattle.mh_lint.specs.declared.levels.UsedLevels.{UsedLevels}
use Rattle.mh_lint.specs.declared.warning_walk.Uses.{Uses}

-- ---- Flags.

pub flag_set : (flags : List Bool) (n : ℕ) → slice_get flags n ≡ Some true → get_or flags n false ≡ true
flag_set flags n e = get_or_from_slice_get flags n true false e

pub set_flag : (flags : List Bool) (n : ℕ) → get_or flags n false ≡ true → slice_get flags n ≡ Some true
set_flag flags n e = elim (cases_lt n (length flags)) [
  | inl l ↦ slice_get-get_or flags n false l ∙ ap Some e
  | inr past ↦ (let bad : false ≡ true = sym (get_or_past flags n false past) ∙ e in cc)
]

-- ---- The mentions of a file.

mention_in : (found : List PlacedModule) (file : ℕ) (p : PlacedModule) (before : List Mention) (x : Mention) → slice_get found file ≡ Some p → Mentions found file before x → Contains p.mentions x
mention_in found file p before x at m =
    let same : m.placed ≡ p = same_Some _ _ (sym m.of_files ∙ at) in
    subst (λ (q : PlacedModule). Contains q.mentions x) same (subst (λ ms. Contains ms x) (sym m.split) (Contains-append_right before (x ∷ m.after) x (contains_here x m.after)))

mention_at : (found : List PlacedModule) (file : ℕ) (p : PlacedModule) (i : ℕ) (x : Mention) → slice_get found file ≡ Some p → slice_get p.mentions i ≡ Some x → Mentions found file (take i p.mentions) x
mention_at found file p i x at is = record {
  placed = p;
  after = drop (suc i) p.mentions;
  of_files = at;
  split = split_at p.mentions i x (slice_get_within p.mentions i x is) (sym (get_or_from_slice_get p.mentions i x x is));
}

-- ---- After a file.

module _ (s : Stages) (b : Built) (w : Meanings) (file : ℕ) (p : PlacedModule) (at : slice_get s.found file ≡ Some p) where
  -- The number of declarations of one more file.
  pub declarations_next : declarations_before s.found (file + 1) ≡ declarations_before s.found file + length p.module.on_error
  declarations_next =
      ap (λ ps. length (flat_map (λ (q : PlacedModule). q.module.on_error) ps)) (take_step s.found file p (slice_get_within s.found file p at) (sym (get_or_from_slice_get s.found file p p at)))
      ∙ ap length (flat_map-append (λ (q : PlacedModule). q.module.on_error) (take file s.found) (p ∷ []))
      ∙ length-append (flat_map (λ (q : PlacedModule). q.module.on_error) (take file s.found)) (p.module.on_error ++ [])
      ∙ ap (λ ds. declarations_before s.found file + length ds) (append-nil p.module.on_error)

  pub declarations_within : declarations_before s.found file + length p.module.on_error ≤ length (flat_map (λ (q : PlacedModule). q.module.on_error) s.found)
  declarations_within =
      let l = slice_get_within s.found file p at in
      let same = ap (λ (q : PlacedModule). length q.module.on_error) (get_or_from_slice_get s.found file p p at) in
      let h = length-flat_map-take (λ (q : PlacedModule). q.module.on_error) s.found file p l in
      omega (arith, h, same)

  token_next : (name : Text) → IsTokenBefore s file p.mentions name → IsTokenBefore s (file + 1) [] name
  token_next name (uses.IsTokenBefore.here y c role is) =
      let one = at_contains p.mentions y c in
      uses.IsTokenBefore.earlier file (take one.0 p.mentions) y (omega arith) (mention_at s.found file p one.0 y at one.1) role is
  token_next name (uses.IsTokenBefore.earlier other others y l m role is) = uses.IsTokenBefore.earlier other others y (omega (arith, l)) m role is

  token_back : (name : Text) → IsTokenBefore s (file + 1) [] name → IsTokenBefore s file p.mentions name
  token_back name (uses.IsTokenBefore.here y c role is) = absurd (contains_none y c)
  token_back name (uses.IsTokenBefore.earlier other others y l m role is) = elim (below_next other file l) [
    | inl less ↦ uses.IsTokenBefore.earlier other others y less m role is
    | inr here ↦ uses.IsTokenBefore.here y (mention_in s.found file p others y at (subst (λ k. Mentions s.found k others y) here m)) role is
  ]

  rule_next : (n : ℕ) → IsRuleBefore s w file p.mentions n → IsRuleBefore s w (file + 1) [] n
  rule_next n (uses.IsRuleBefore.here earlier y later e d) = uses.IsRuleBefore.earlier file earlier y (omega arith) d
  rule_next n (uses.IsRuleBefore.earlier other others y l d) = uses.IsRuleBefore.earlier other others y (omega (arith, l)) d

  rule_back : (n : ℕ) → IsRuleBefore s w (file + 1) [] n → IsRuleBefore s w file p.mentions n
  rule_back n (uses.IsRuleBefore.here earlier y later e d) = absurd (contains_none y (subst (λ ms. Contains ms y) (sym e) (Contains-append_right earlier (y ∷ later) y (contains_here y later))))
  rule_back n (uses.IsRuleBefore.earlier other others y l d) = elim (below_next other file l) [
    | inl less ↦ uses.IsRuleBefore.earlier other others y less d
    | inr here ↦ by_file (subst (λ k. IsDefinition w s.found k others y n) here d)
  ]
    where
      by_file : IsDefinition w s.found file others y n → IsRuleBefore s w file p.mentions n
      by_file is =
          let placed : is.of_file.placed ≡ p = same_Some _ _ (sym is.of_file.of_files ∙ at) in
          uses.IsRuleBefore.here others y is.of_file.after (ap (λ (q : PlacedModule). q.mentions) (sym placed) ∙ is.of_file.split) is

  -- The uses before the next file: only the number of declarations changes.
  pub uses_next : (old new : Uses) → AreUsesBut s b w file p.mentions old → new.tokens.items ≡ old.tokens.items → new.rules.items ≡ old.rules.items → new.levels ≡ old.levels → new.declarations.keys ≡ old.declarations.keys → new.declarations_before ≡ declarations_before s.found (file + 1) → AreUsesBut s b w (file + 1) [] new
  uses_next old new h tokens rules levels declarations count = record {
    token_flags = ap length tokens ∙ h.token_flags;
    tokens = λ z name is. (
      λ e. elim ((h.tokens z name is).0 (ap (λ fs. get_or fs z false) (sym tokens) ∙ e)) [ inl t ↦ inl t | inr other ↦ elim other [ inl q ↦ inr (inl q) | inr d ↦ inr (inr (token_next name d)) ] ],
      λ e. ap (λ fs. get_or fs z false) tokens ∙ (h.tokens z name is).1 (elim e [ inl t ↦ inl t | inr other ↦ elim other [ inl q ↦ inr (inl q) | inr d ↦ inr (inr (token_back name d)) ] ]),
    );
    rule_flags = ap length rules ∙ h.rule_flags;
    rules = λ n r is. (
      λ e. elim ((h.rules n r is).0 (ap (λ fs. get_or fs n false) (sym rules) ∙ e)) [ inl i ↦ inl i | inr d ↦ inr (rule_next n d) ],
      λ e. ap (λ fs. get_or fs n false) rules ∙ (h.rules n r is).1 (elim e [ inl i ↦ inl i | inr d ↦ inr (rule_back n d) ]),
    );
    names = λ y. (λ e. (h.names y).0 (ap (λ (v : UsedLevels). contains same v.names y) (sym levels) ∙ e), λ is. ap (λ (v : UsedLevels). contains same v.names y) levels ∙ (h.names y).1 is);
    alternatives = λ k n. (λ e. (h.alternatives k n).0 (subst (λ (v : UsedLevels). HasPlace v.alternatives.keys (k + 1) n) levels e), λ is. subst (λ (v : UsedLevels). HasPlace v.alternatives.keys (k + 1) n) (sym levels) ((h.alternatives k n).1 is));
    declarations = λ n name. (λ e. (h.declarations n name).0 (subst (λ ks. Contains ks (declared n name)) declarations e), λ is. subst (λ ks. Contains ks (declared n name)) (sym declarations) ((h.declarations n name).1 is));
    declarations_are = count;
  }
