-- Lemmas on grammars within and beyond the limits.
use Rattle.std.proofs.Common.{◌≡◌, ℕ, zero, suc, ◌<◌, ◌≤◌, List, [], ◌∷◌, Some, map, filter, length, get_or, refl, sym, ap, ◌∙◌, arith, inl, inr, subst, length-append}
use Rattle.std.specs.List.{slice_get, All, Any}
use Rattle.std.proofs.lemmas.Bool.{cases_lt}
use Rattle.std.proofs.lemmas.List.{length-map}
use Rattle.std.proofs.lemmas.List.Elements.{All-nil, All-cons, Contains-get_or}
use Rattle.std.proofs.lemmas.Option.{none-some, same_Some, slice_get-get_or}
use Rattle.mh_grammar.specs.declared.types.TokenInfo.{TokenInfo}
use Rattle.mh_grammar.specs.declared.types.Production.{Production}
use Rattle.mh_grammar.specs.declared.types.Grammar.{Grammar}
use Rattle.mh_rules.specs.declared.instances.Part.TheVariants.{Instance as Applied}
use Rattle.mh_rules.specs.declared.instances.InstanceProduction.{InstanceProduction}
use Rattle.mh_rules.specs.declared.instances.Instance.{Instance}
use Rattle.mh_rules.specs.declared.instances.Expanded.{Expanded}
use Rattle.mh_inline_unfold.specs.declared.unfolding.Unfolding.{Unfolding}
use Rattle.mh_inline.specs.declared.origins.Origin.{Origin}
use Rattle.mh_inline_unfold.specs.declared.sizes.Size.{Size}
use Rattle.mh_inline_unfold.specs.declared.sizes.SizeTable.{SizeTable}
use Rattle.mh_inline_unfold.specs.Instances.{IsAlternative}
use Rattle.mh_rules.specs.Ready.{IsExpandedReady}
use Rattle.mh_inline_unfold.specs.Unfoldings.{with_own_prec, Unfolds}
use Rattle.mh_inline_unfold.specs.code.Sizes.{longest, AreSmall, AreAllSized, IsSizeTable, IsSmallSize}
use Rattle.mh_inline.specs.code.LastUses.{KnowsUsed}
use Rattle.mh_inline.specs.Inlined as inlined
use Rattle.mh_inline.specs.Kept.{is_kept, nonterminal_of, nonterminal_number, IsOrigin, AreOrigins}
use Rattle.mh_inline.specs.Inlined.{production_of, AreProductions, IsInlined}
use Rattle.mh_inline.specs.code.ProductionParts.{longest_side, IsOriginKnown, IsOriginsSize, AreOriginsSmall}
use Rattle.mh_inline.specs.GrammarOfInstances.{IsWithinLimits}
use Rattle.mh_inline.specs.Faults.{ExceedsLimits}
use Rattle.mh_inline_unfold.proofs.Monoid.{append_same}
use Rattle.mh_inline_unfold.proofs.UniqueUnfoldings.{unfolds_same, small_part, some_ready}
use Rattle.mh_inline.proofs.MadeProductions.{longest_side-append, longest_side-made}

pub alternative_unique : (is : List Instance) (n k : ℕ) (p q : InstanceProduction) → IsAlternative is n k p → IsAlternative is n k q → p ≡ q
alternative_unique is n k p q a b =
    let one : a.instance ≡ b.instance = same_Some _ _ (sym a.at ∙ b.at) in
    same_Some p q (sym a.alternative ∙ ap (λ (i : Instance). slice_get i.productions k) one ∙ b.alternative)

module _ (tokens : List TokenInfo) (is : List Instance) where
  -- The productions of a list of origins are unique.
  pub productions_unique : (origins : List Origin) (ps qs : List Production) → AreProductions tokens is origins ps → AreProductions tokens is origins qs → ps ≡ qs
  productions_unique origins ps qs inlined.AreProductions.none inlined.AreProductions.none = refl
  productions_unique origins ps qs (inlined.AreProductions.more {s = s} {p = p} {us = us} a f e r) (inlined.AreProductions.more {p = q} {us = vs} a' f' e' r') =
      let one = alternative_unique is s.instance s.alternative p q a a' in
      let again : Unfolds is p.rhs vs = subst (λ (x : InstanceProduction). Unfolds is x.rhs vs) (sym one) f' in
      let same : us ≡ vs = unfolds_same is p.rhs us vs f again in
      e ∙ append_same _ _ _ _ (λ i. map (λ u. production_of tokens is s.instance (with_own_prec (one i).prec u)) (same i)) (productions_unique _ _ _ r r') ∙ sym e'

  -- The unfoldings of an origin.
  pub record HasUnfoldings (s : Origin) (ps : List Production) : Type 0 where
    pub production : InstanceProduction
    pub alternative : IsAlternative is s.instance s.alternative production
    pub unfoldings : List Unfolding
    pub unfolds : Unfolds is production.rhs unfoldings
    pub few : length unfoldings ≤ length ps
    pub short : longest unfoldings ≤ longest_side ps

  pub origin_unfoldings : (origins : List Origin) (ps : List Production) → AreProductions tokens is origins ps → (j : ℕ) (s : Origin) → slice_get origins j ≡ Some s → HasUnfoldings s ps
  origin_unfoldings origins ps inlined.AreProductions.none j s at = absurd (none-some s at)
  origin_unfoldings origins ps (inlined.AreProductions.more {s = t} {p = p} {us = us} {ps = rest} a f e r) zero s at =
      let one : t ≡ s = same_Some t s at in
      let len = ap length e ∙ length-append (map (λ u. production_of tokens is t.instance (with_own_prec p.prec u)) us) rest in
      let same = length-map us (λ u. production_of tokens is t.instance (with_own_prec p.prec u)) in
      let long = ap longest_side e ∙ longest_side-append tokens is (map (λ u. production_of tokens is t.instance (with_own_prec p.prec u)) us) rest in
      let long' = longest_side-made tokens is t.instance p.prec us in
      record { production = p; alternative = subst (λ (x : Origin). IsAlternative is x.instance x.alternative p) one a; unfoldings = us; unfolds = f; few = omega arith; short = omega arith }
  origin_unfoldings origins ps (inlined.AreProductions.more {s = t} {p = p} {us = us} {ps = rest} a f e r) (suc j) s at =
      let h = origin_unfoldings _ rest r j s at in
      let len = ap length e ∙ length-append (map (λ u. production_of tokens is t.instance (with_own_prec p.prec u)) us) rest in
      let long = ap longest_side e ∙ longest_side-append tokens is (map (λ u. production_of tokens is t.instance (with_own_prec p.prec u)) us) rest in
      let few = h.few in
      let short = h.short in
      record { production = h.production; alternative = h.alternative; unfoldings = h.unfoldings; unfolds = h.unfolds; few = omega arith; short = omega arith }

pub all_origins : (is : List Instance) (origins : List Origin) → AreOrigins is origins → All (IsOrigin is) origins
all_origins is origins a k d l = (a.exact (get_or origins k d)).0 (Contains-get_or origins k d l)

-- The unfoldings of the inline producers in the origins have been computed.
pub origins_known : (e : Expanded) (s : SizeTable) (known : List (List Unfolding)) (origins : List Origin) → IsExpandedReady e → IsSizeTable e.instances s → AreAllSized e.instances s.sizes.items → KnowsUsed e.instances s.order.items known → All (IsOrigin e.instances) origins → AreOriginsSmall e.tokens e.instances origins → All (IsOriginKnown e.instances known) origins
origins_known e s known origins ready z all k are small i d l =
    let x = get_or origins i d in
    let h = origin_unfoldings e.tokens e.instances origins small.productions small.are_productions i x (slice_get-get_or origins i d l) in
    let few = h.few in
    let short = h.short in
    let few' = small.few in
    let short' = small.short in
    let within : AreSmall h.unfoldings = record { few = omega arith; short = omega arith } in
    record {
      each = λ p a.
          let one = alternative_unique e.instances x.instance x.alternative h.production p h.alternative a in
          let f : Unfolds e.instances p.rhs h.unfoldings = subst (λ (q : InstanceProduction). Unfolds e.instances q.rhs h.unfoldings) one h.unfolds in
          record {
            each = λ j m at inline.
                let size = all m inline in
                let right = z.are_sizes.sound m size.0 size.1 in
                let listed = z.listed m size.0 size.1 in
                let part_small = small_part e.instances (some_ready e ready) p.rhs h.unfoldings f within j (Applied m) right.unfoldings at right.unfolds in
                record { unfoldings = right.unfoldings; unfolds = right.unfolds; at = k.each m right.unfoldings (record { user = x.instance; kept = (are i d l).kept; uses = record { place = x.alternative; production = p; alternative = a; among = record { producer = j; at = at; used = inline } } }) listed right.unfolds part_small };
          };
    }

-- LIMITS

all_short : (n : ℕ) (ps : List Production) → longest_side ps ≤ n → All (λ (p : Production). length p.rhs ≤ n) ps
all_short n [] l = All-nil (λ (p : Production). length p.rhs ≤ n)
all_short n (p ∷ ps) l = All-cons (λ (q : Production). length q.rhs ≤ n) p ps (omega arith) (all_short n ps (omega arith))

any_long : (n : ℕ) (ps : List Production) → n < longest_side ps → Any (λ (p : Production). n < length p.rhs) ps
any_long n [] l = absurd (omega arith)
any_long n (p ∷ ps) l = elim (cases_lt n (length p.rhs)) [
  | inl long ↦ (zero, p, omega arith, refl, long)
  | inr short ↦ (let a = any_long n ps (omega arith) in let w = a.2 in (suc a.0, a.1, omega arith, a.3, a.4))
]

pub small_grammar : (tokens : List TokenInfo) (is : List Instance) (origins : List Origin) (g : Grammar) → AreOriginsSmall tokens is origins → AreProductions tokens is origins g.productions → IsWithinLimits g
small_grammar tokens is origins g s m =
    let one = productions_unique tokens is origins s.productions g.productions s.are_productions m in
    let few = s.few in
    let short = s.short in
    let len = ap length one in
    let long = ap longest_side one in
    record { few = omega arith; short = all_short 10000 g.productions (omega arith) }

pub small_origins : (tokens : List TokenInfo) (is : List Instance) (origins : List Origin) (z : Size) → IsOriginsSize tokens is origins z → IsSmallSize (Some z) → AreOriginsSmall tokens is origins
small_origins tokens is origins z s w =
    let a = s.count in
    let b = s.longest in
    let l = w.0 in
    let m = w.1 in
    record { productions = s.productions; are_productions = s.are_productions; few = omega arith; short = omega arith }

grammar_with : Expanded → List Production → Grammar
grammar_with e ps = record { tokens = e.tokens; nonterminals = map nonterminal_of (filter is_kept e.instances); productions = ps; starts = map (nonterminal_number e.instances) e.starts }

pub over_origins : (e : Expanded) (origins : List Origin) (z : Size) → AreOrigins e.instances origins → IsOriginsSize e.tokens e.instances origins z → (IsSmallSize (Some z) → ⊥) → (g : Grammar) × IsInlined e g × ExceedsLimits g
unfolding grammar_with
over_origins e origins z o s w =
    let a = s.count in
    let b = s.longest in (
      grammar_with e s.productions,
      record { tokens = refl; nonterminals = refl; starts = refl; origins = origins; ordered = o; productions = s.are_productions },
      (elim (cases_lt 20000 (length s.productions)) [
        | inl many ↦ inl many
        | inr few ↦ elim (cases_lt 10000 (longest_side s.productions)) [
          | inl long ↦ inr (any_long 10000 s.productions long)
          | inr short ↦ absurd (w (omega arith, omega arith))
        ]
      ]),
    )
