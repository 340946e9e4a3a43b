-- Lemmas on the last uses of inline instances and on dropping their unfoldings.
use Rattle.std.proofs.Common.{◌≡◌, ℕ, ◌+◌, ◌<◌, ◌≤◌, false, List, [], Some, take, set, length, get_or, refl, sym, ap, ◌∙◌, arith, inl, inr, length-set, subst}
use Rattle.std.specs.List.{slice_get, Contains}
use Rattle.std.proofs.lemmas.Bool.{cases_eq}
use Rattle.std.proofs.lemmas.List.{take_more, take_all, get_or-set_other}
use Rattle.std.proofs.lemmas.Grind.{get_or-set_at}
use Rattle.std.proofs.lemmas.List.Elements.{Contains-push_cases}
use Rattle.std.proofs.lemmas.Option.{same_Some, slice_get_within, slice_get-get_or}
use Rattle.mh_grammar.proofs.Lists.{contains_none, set_here, set_elsewhere}
use Rattle.mh_rules.specs.declared.instances.Part.TheVariants.{Instance as Applied}
use Rattle.mh_rules.specs.declared.instances.Instance.{Instance}
use Rattle.mh_inline_unfold.specs.declared.unfolding.Unfolding.{Unfolding}
use Rattle.mh_inline_unfold.specs.declared.sizes.SizeTable.{SizeTable}
use Rattle.mh_inline_unfold.specs.Instances.{is_inlined}
use Rattle.mh_inline_unfold.specs.Unfoldings.{UnfoldsPart}
use Rattle.mh_inline_unfold.specs.code.Sizes.{AreSmall, IsSizeTable}
use Rattle.mh_inline_unfold.specs.code.UsedInstances.{UsesInline}
use Rattle.mh_inline.specs.code.LastUses.{NoninlineUses, RaisesLastUse, AreLastUses, DropsUnneeded, KnowsNeeded, KnowsUsed}
use Rattle.mh_inline_unfold.proofs.InlineProducers.{inline_instance}

-- Each element of the list `order` of the size table is the number of an instance.
pub order_within-slice_get : (is : List Instance) (s : SizeTable) → IsSizeTable is s → (k n : ℕ) → slice_get s.order.items k ≡ Some n → n < length is
order_within-slice_get is s z k n at = (inline_instance is n (z.ordered k n at).inlined).within

pub order_within-get_or : (is : List Instance) (s : SizeTable) (order : List ℕ) → order ≡ s.order.items → IsSizeTable is s → (k d : ℕ) → k < length order → get_or order k d < length is
order_within-get_or is s order e z k d l = order_within-slice_get is s z k (get_or order k d) (ap (λ x. slice_get x k) (sym e) ∙ slice_get-get_or order k d l)

-- Raising one last use makes no last use smaller.
set_later : (last : List ℕ) (n value m : ℕ) → n < length last → get_or last n 0 ≤ value → get_or last m 0 ≤ get_or (set last n value) m 0
set_later last n value m within grows = elim (cases_eq m n) [
  | inl same ↦ (let here = get_or-set_at last n m value 0 same within in let before : get_or last m 0 ≡ get_or last n 0 = ap (λ k. get_or last k 0) same in omega arith)
  | inr other ↦ (let here = get_or-set_other last n m value 0 other in omega arith)
]

pub RaisesLastUse-none : (place : ℕ) (old : List ℕ) → RaisesLastUse (Contains []) place old old
RaisesLastUse-none place old = record { len = refl; later = λ m. omega arith; reached = λ m x. absurd (contains_none m x) }

pub RaisesLastUse-more : (numbers : List ℕ) (i n place value : ℕ) (old last : List ℕ) → i < length numbers → n ≡ get_or numbers i 0 → n < length last → get_or last n 0 ≤ value → place ≤ value → RaisesLastUse (Contains (take i numbers)) place old last → RaisesLastUse (Contains (take (i + 1) numbers)) place old (set last n value)
RaisesLastUse-more numbers i n place value old last lt at within grows reaches p = record {
  len = length-set last n value ∙ p.len;
  later = λ m. let r = p.later m in let s = set_later last n value m within grows in omega arith;
  reached = λ m x. elim (Contains-push_cases (take i numbers) (get_or numbers i 0) m (rw (take_more numbers i 0 lt) at x)) [
    | inl before ↦ (let r = p.reached m before in let s = set_later last n value m within grows in omega arith)
    | inr same ↦ (let here = get_or-set_at last n m value 0 (sym same ∙ sym at) within in omega arith)
  ];
}

module _ (is : List Instance) (order : List ℕ) where
  -- The conditions of `AreLastUses` hold for the uses by the first `done` elements of the order, and for the uses by
  -- the noninline instances below `number`.
  pub record AreLastUsesTo (done number : ℕ) (last : List ℕ) : Type 0 where
    pub len : length last ≡ length is
    pub inline : (i n m : ℕ) → i < done → slice_get order i ≡ Some n → UsesInline is n m → i ≤ get_or last m 0
    pub kept : (n m : ℕ) → n < number → is_inlined is n ≡ false → UsesInline is n m → length order ≤ get_or last m 0

  pub AreLastUsesTo-none : (last : List ℕ) → length last ≡ length is → AreLastUsesTo 0 0 last
  AreLastUsesTo-none last len = record { len = len; inline = λ i n m l at x. absurd (omega arith); kept = λ n m l k x. absurd (omega arith) }

  pub AreLastUsesTo-inline : (done n : ℕ) (old new : List ℕ) → slice_get order done ≡ Some n → RaisesLastUse (UsesInline is n) done old new → AreLastUsesTo done 0 old → AreLastUsesTo (done + 1) 0 new
  AreLastUsesTo-inline done n old new at p h = record {
    len = p.len ∙ h.len;
    inline = λ i k m l e x. elim (cases_eq i done) [
      | inl same ↦ (let one : k ≡ n = same_Some k n (sym e ∙ ap (slice_get order) same ∙ at) in let r = p.reached m (subst (λ y. UsesInline is y m) one x) in omega arith)
      | inr other ↦ (let r = h.inline i k m (omega arith) e x in let s = p.later m in omega arith)
    ];
    kept = λ k m l e x. absurd (omega arith);
  }

  pub AreLastUsesTo-kept : (done number : ℕ) (old new : List ℕ) → RaisesLastUse (NoninlineUses is number) (length order) old new → AreLastUsesTo done number old → AreLastUsesTo done (number + 1) new
  AreLastUsesTo-kept done number old new p h = record {
    len = p.len ∙ h.len;
    inline = λ i k m l e x. let r = h.inline i k m l e x in let s = p.later m in omega arith;
    kept = λ k m l e x. elim (cases_eq k number) [
      | inl same ↦ p.reached m (rw (← same) e, subst (λ y. UsesInline is y m) same x)
      | inr other ↦ (let r = h.kept k m (omega arith) e x in let s = p.later m in omega arith)
    ];
  }

  pub AreLastUsesTo-all : (done number : ℕ) (last : List ℕ) → length order ≤ done → length is ≤ number → AreLastUsesTo done number last → AreLastUses is order last
  AreLastUsesTo-all done number last all every h = record {
    len = h.len;
    inline = λ i n m e x. let w = slice_get_within order i n e in h.inline i n m (omega arith) e x;
    kept = λ m u. let w = slice_get_within is u.user u.uses.alternative.instance u.uses.alternative.at in h.kept u.user m (omega arith) u.kept u.uses;
  }

  pub KnowsNeeded-start : (last : List ℕ) (known : List (List Unfolding)) → length known ≡ length is → KnowsNeeded is order last 0 known
  KnowsNeeded-start last known len = record { len = len; each = λ n us l c u s. absurd (contains_none n c) }

  pub KnowsNeeded-more : (last : List ℕ) (known new : List (List Unfolding)) (i n : ℕ) (us : List Unfolding) → i < length order → n ≡ get_or order i 0 → n < length known → ((vs : List Unfolding) → UnfoldsPart is (Applied n) vs → AreSmall vs → us ≡ vs) → DropsUnneeded last i (set known n us) new → KnowsNeeded is order last i known → KnowsNeeded is order last (i + 1) new
  KnowsNeeded-more last known new i n us l at within new_is f k = record {
    len = f.len ∙ length-set known n us ∙ k.len;
    each = λ m vs needed c u small. f.kept m (omega arith) ∙ elim (cases_eq m n) [
      | inl same ↦ (rw same (set_here known n us within ∙ ap Some (new_is vs (rw same at u) small)))
      | inr other ↦ set_elsewhere known n us m other ∙ elim (Contains-push_cases (take i order) (get_or order i 0) m (rw (take_more order i 0 l) at c)) [
        | inl before ↦ k.each m vs (omega arith) before u small
        | inr same ↦ absurd (other (sym same ∙ sym at))
      ]
    ];
  }

  pub KnowsNeeded-all : (last : List ℕ) (known : List (List Unfolding)) (i : ℕ) → i ≡ length order → AreLastUses is order last → KnowsNeeded is order last i known → KnowsUsed is order known
  KnowsNeeded-all last known i all a k = record {
    len = k.len;
    each = λ n us used c u small. k.each n us (let r = a.kept n used in omega arith) (rw (take_all i order (omega arith)) c) u small;
  }
