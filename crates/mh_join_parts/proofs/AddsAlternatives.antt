-- Lemmas on appending the alternatives of definitions to their rules.
use Rattle.std.proofs.Common.{◌≡◌, ℕ, zero, suc, ◌+◌, ◌<◌, ◌≤◌, Bool, true, false, List, [], ◌∷◌, ◌++◌, Option, Some, None, length, get_or, set, take, map, refl, sym, ap, subst, ◌∙◌, inl, inr, arith, append_assoc}
use Rattle.std.specs.Prelude.{◌==◌, if◌then◌else◌, slice_get}
use Rattle.std.specs.List.{flat_map, enumerate_from}
use Rattle.std.proofs.lemmas.Bool.{cases_eq}
use Rattle.std.proofs.lemmas.Bool.Decides.{Decides-eqb}
use Rattle.std.proofs.lemmas.List.{append-nil, length-map}
use Rattle.std.proofs.lemmas.List.Concat.{flat_map-append}
use Rattle.std.proofs.lemmas.Option.{slice_get-get_or, slice_get_within, same_Some}
use Rattle.mh_grammar.proofs.Lists.{take_step, set_here, set_elsewhere}
use Rattle.mh_rules.specs.declared.modules.Rule.{Rule}
use Rattle.mh_rules.specs.declared.joined.JoinedAlternative.{JoinedAlternative}
use Rattle.mh_rules.specs.declared.joined.JoinedRule.{JoinedRule}
use Rattle.mh_join_names.specs.declared.outlines.Outline.{Outline}
use Rattle.mh_grammar.specs.Text.{Text}
use Rattle.mh_join_names.specs.Names.{Definition, definitions_from}
use Rattle.mh_join_names.specs.Faults.{Meanings}
use Rattle.mh_join_names.specs.Joining.{alternatives_by, alternatives_for, has_number, rule_of_outline, without_alternatives, AreRules}
use Rattle.mh_join_parts.specs.code.CanJoin.{AddsAlternatives}
use Rattle.mh_join_names.proofs.Lists.{enumerate-push, length-take_in}

eqb_self : (n : ℕ) → (n == n) ≡ true
eqb_self n = (Decides-eqb n n).1 refl

pub eqb_apart : (m n : ℕ) → (m ≡ n → ⊥) → (m == n) ≡ false
eqb_apart m n apart = go (m == n) refl
  where
    go : (b : Bool) → (m == n) ≡ b → (m == n) ≡ false
    go true e = absurd (apart ((Decides-eqb m n).0 e))
    go false e = e

module _ (w : Meanings) where
  pub AddsAlternatives-nothing : (rs : List JoinedRule) → AddsAlternatives w [] rs rs
  AddsAlternatives-nothing rs = record {
    outlines = refl;
    alternatives = λ i s r p q. ap (λ (k : JoinedRule). map Some k.alternatives) (same_Some _ _ (sym q ∙ p)) ∙ sym (append-nil (map Some s.alternatives));
  }

  pub AddsAlternatives-append : (ds es : List Definition) (a b c : List JoinedRule) → AddsAlternatives w ds a b → AddsAlternatives w es b c → AddsAlternatives w (ds ++ es) a c
  AddsAlternatives-append ds es a b c p q = record {
    outlines = q.outlines ∙ p.outlines;
    alternatives = λ i s r at_a at_c.
        let len : i < length b = omega (arith, slice_get_within c i r at_c, sym (length-map c without_alternatives) ∙ ap length q.outlines ∙ length-map b without_alternatives) in
        let t = get_or b i r in
        let at_b : slice_get b i ≡ Some t = slice_get-get_or b i r len in
        q.alternatives i t r at_b at_c ∙ ap (λ k. k ++ flat_map (alternatives_for w i) es) (p.alternatives i s t at_a at_b)
        ∙ append_assoc (map Some s.alternatives) (flat_map (alternatives_for w i) ds) (flat_map (alternatives_for w i) es)
        ∙ ap (λ k. map Some s.alternatives ++ k) (sym (flat_map-append (alternatives_for w i) ds es));
  }

  -- A definition whose rule is not in the list adds no alternative.
  pub AddsAlternatives-none : (d : Definition) (rs : List JoinedRule) → ((i : ℕ) → i < length rs → has_number i (w.numbers.rule d.owner d.rule.name) ≡ false) → AddsAlternatives w (d ∷ []) rs rs
  AddsAlternatives-none d rs none = record {
    outlines = refl;
    alternatives = λ i s r p q.
        ap (λ (k : JoinedRule). map Some k.alternatives) (same_Some _ _ (sym q ∙ p)) ∙ sym (append-nil (map Some s.alternatives))
        ∙ ap (λ b. map Some s.alternatives ++ ((if b then alternatives_by w d else []) ++ [])) (sym (none i (slice_get_within rs i s p)));
  }

  -- A definition whose rule has no number adds no alternative.
  pub AddsAlternatives-unnumbered : (d : Definition) (rs : List JoinedRule) → w.numbers.rule d.owner d.rule.name ≡ None → AddsAlternatives w (d ∷ []) rs rs
  AddsAlternatives-unnumbered d rs e = AddsAlternatives-none d rs (λ i h. ap (has_number i) e)

  -- A definition whose rule has a number past the end of the list adds no alternative.
  pub AddsAlternatives-out_of_range : (d : Definition) (rs : List JoinedRule) (n : ℕ) → w.numbers.rule d.owner d.rule.name ≡ Some n → length rs ≤ n → AddsAlternatives w (d ∷ []) rs rs
  AddsAlternatives-out_of_range d rs n e past = AddsAlternatives-none d rs (λ i h. ap (has_number i) e ∙ eqb_apart i n (λ same. omega (arith, same, h, past)))

  pub AddsAlternatives-at : (d : Definition) (old new : List JoinedRule) (n : ℕ) (s : JoinedRule) (more : List JoinedAlternative) → w.numbers.rule d.owner d.rule.name ≡ Some n → n < length old → s ≡ get_or old n s
      → map Some more ≡ map Some s.alternatives ++ alternatives_by w d → new ≡ set old n (record s { alternatives = more }) → AddsAlternatives w (d ∷ []) old new
  AddsAlternatives-at d old new n s more number within at added put = record {
    outlines = ap (map without_alternatives) put ∙ kept old n within at;
    alternatives = λ i t r p q. elim (cases_eq i n) [
      | inl e ↦
          let r_is : record s { alternatives = more } ≡ r = same_Some _ _ (sym (set_here old n (record s { alternatives = more }) within) ∙ ap (slice_get (set old n (record s { alternatives = more }))) (sym e) ∙ ap (λ k. slice_get k i) (sym put) ∙ q) in
          let t_is : s ≡ t = same_Some _ _ (ap Some at ∙ sym (slice_get-get_or old n s within) ∙ ap (slice_get old) (sym e) ∙ p) in
          ap (λ (k : JoinedRule). map Some k.alternatives) (sym r_is) ∙ added ∙ ap (λ (k : JoinedRule). map Some k.alternatives ++ alternatives_by w d) t_is
          ∙ ap (λ k. map Some t.alternatives ++ k) (sym (append-nil (alternatives_by w d)))
          ∙ ap (λ b. map Some t.alternatives ++ ((if b then alternatives_by w d else []) ++ [])) (sym (ap (has_number i) number ∙ ap (λ k. k == n) e ∙ eqb_self n))
      | inr apart ↦
          let r_is : t ≡ r = same_Some _ _ (sym p ∙ sym (set_elsewhere old n (record s { alternatives = more }) i apart) ∙ ap (λ k. slice_get k i) (sym put) ∙ q) in
          ap (λ (k : JoinedRule). map Some k.alternatives) (sym r_is) ∙ sym (append-nil (map Some t.alternatives))
          ∙ ap (λ b. map Some t.alternatives ++ ((if b then alternatives_by w d else []) ++ [])) (sym (ap (has_number i) number ∙ eqb_apart i n apart))
    ];
  }
    where
      kept : (xs : List JoinedRule) (k : ℕ) → k < length xs → s ≡ get_or xs k s → map without_alternatives (set xs k (record s { alternatives = more })) ≡ map without_alternatives xs
      kept [] k h e = refl
      kept (x ∷ xs) zero h e = ap (λ (v : JoinedRule). without_alternatives v ∷ map without_alternatives xs) e
      kept (x ∷ xs) (suc k) h e = ap (λ vs. without_alternatives x ∷ vs) (kept xs k (omega (arith, h)) e)

-- POSITIONS

-- The position after the alternatives of these rules, counted from n.
pub place_after : ℕ → List Rule → ℕ
place_after n [] = n
place_after n (r ∷ rs) = place_after (n + length r.alternatives) rs

pub place_after-push : (n : ℕ) (rs : List Rule) (r : Rule) → place_after n (rs ++ r ∷ []) ≡ place_after n rs + length r.alternatives
unfolding place_after
place_after-push n [] r = refl
place_after-push n (s ∷ rs) r = place_after-push (n + length s.alternatives) rs r

pub definitions_from-push : (owner : Text → Option ℕ) (k n : ℕ) (rs : List Rule) (r : Rule) → definitions_from owner k n (rs ++ r ∷ []) ≡ definitions_from owner k n rs ++ record { file = k; owner = owner r.name; place = place_after n rs; rule = r } ∷ []
unfolding place_after
definitions_from-push owner k n [] r = refl
definitions_from-push owner k n (s ∷ rs) r = ap (λ ds. record { file = k; owner = owner s.name; place = n; rule = s } ∷ ds) (definitions_from-push owner k (n + length s.alternatives) rs r)

-- The alternatives of these rules have been appended, and the position is the one after them.
pub record AddsRules (w : Meanings) (owner : Text → Option ℕ) (k : ℕ) (rs : List Rule) (old new : List JoinedRule) (place : ℕ) : Type 0 where
  pub added : AddsAlternatives w (definitions_from owner k 0 rs) old new
  pub place_is : place ≡ place_after 0 rs

pub AddsRules-none : (w : Meanings) (owner : Text → Option ℕ) (k : ℕ) (old : List JoinedRule) → AddsRules w owner k [] old old 0
unfolding place_after
AddsRules-none w owner k old = record { added = AddsAlternatives-nothing w old; place_is = refl }

pub AddsRules-more : (w : Meanings) (owner : Text → Option ℕ) (k : ℕ) (rs : List Rule) (i : ℕ) (r : Rule) (old mid new : List JoinedRule) (place next : ℕ) → i < length rs → r ≡ get_or rs i r → AddsRules w owner k (take i rs) old mid place
    → AddsAlternatives w (record { file = k; owner = owner r.name; place = place; rule = r } ∷ []) mid new → next ≡ place + length r.alternatives → AddsRules w owner k (take (i + 1) rs) old new next
AddsRules-more w owner k rs i r old mid new place next h at before adds is =
    subst (λ xs. AddsRules w owner k xs old new next) (sym (take_step rs i r h at)) (record {
      added = subst (λ ds. AddsAlternatives w ds old new) (sym (definitions_from-push owner k 0 (take i rs) r))
          (AddsAlternatives-append w (definitions_from owner k 0 (take i rs)) (record { file = k; owner = owner r.name; place = place_after 0 (take i rs); rule = r } ∷ []) old mid new before.added
          (subst (λ n. AddsAlternatives w (record { file = k; owner = owner r.name; place = n; rule = r } ∷ []) mid new) before.place_is adds));
      place_is = is ∙ ap (λ n. n + length r.alternatives) before.place_is ∙ sym (place_after-push 0 (take i rs) r);
    })

-- FILES

pub AddsAlternatives-enum_more : {A : Type 0} (w : Meanings) (f : ℕ × A → List Definition) (a b c : List JoinedRule) (n : ℕ) (xs : List A) (i j : ℕ) (x : A) → i < length xs → x ≡ get_or xs i x → n + i ≡ j → AddsAlternatives w (flat_map f (enumerate_from n (take i xs))) a b → AddsAlternatives w (f (j, x)) b c → AddsAlternatives w (flat_map f (enumerate_from n (take (i + 1) xs))) a c
AddsAlternatives-enum_more w f a b c n xs i j x h e at p q =
    rw (take_step xs i x h e, enumerate-push n (take i xs) x, length-take_in xs i h, at, flat_map-append f (enumerate_from n (take i xs)) ((j, x) ∷ []), append-nil (f (j, x)))
    (AddsAlternatives-append w (flat_map f (enumerate_from n (take i xs))) (f (j, x)) a b c p q)

-- RULES

bare : (elsewhere : ℕ → Text → Bool) (os : List Outline) → map without_alternatives (map (rule_of_outline elsewhere) os) ≡ map (rule_of_outline elsewhere) os
bare elsewhere [] = refl
bare elsewhere (o ∷ os) = ap (λ rs. rule_of_outline elsewhere o ∷ rs) (bare elsewhere os)

no_alternatives : (elsewhere : ℕ → Text → Bool) (os : List Outline) (i : ℕ) (s : JoinedRule) → slice_get (map (rule_of_outline elsewhere) os) i ≡ Some s → s.alternatives ≡ []
no_alternatives elsewhere [] i s e = let bad : None ≡ Some s = e in cc
no_alternatives elsewhere (o ∷ os) zero s e = ap (λ (k : JoinedRule). k.alternatives) (sym (same_Some _ _ e))
no_alternatives elsewhere (o ∷ os) (suc i) s e = no_alternatives elsewhere os i s e

pub AreRules-from : (w : Meanings) (elsewhere : ℕ → Text → Bool) (os : List Outline) (ds : List Definition) (start rs : List JoinedRule) → start ≡ map (rule_of_outline elsewhere) os → AddsAlternatives w ds start rs → AreRules w elsewhere os ds rs
AreRules-from w elsewhere os ds start rs is adds = record {
  outlines_are = adds.outlines ∙ ap (map without_alternatives) is ∙ bare elsewhere os;
  alternatives_are = λ i r at.
      let len : i < length start = omega (arith, slice_get_within rs i r at, sym (length-map rs without_alternatives) ∙ ap length adds.outlines ∙ length-map start without_alternatives) in
      let s = get_or start i r in
      let there : slice_get start i ≡ Some s = slice_get-get_or start i r len in
      let none : s.alternatives ≡ [] = no_alternatives elsewhere os i s (ap (λ k. slice_get k i) (sym is) ∙ there) in
      adds.alternatives i s r there at ∙ ap (λ k. map Some k ++ flat_map (alternatives_for w i) ds) none;
}
