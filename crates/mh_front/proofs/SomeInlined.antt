-- Proves the double negation (`NotLacking`) of: an expansion has a grammar or a first fault.
use Rattle.mh_inline.specs.Kept.{IsOrigin, is_kept, nonterminal_of, nonterminal_number}
use Rattle.std.proofs.Common.{◌≡◌, ℕ, zero, suc, ◌+◌, ◌<◌, ◌≤◌, ◌⊎◌, inl, inr, Bool, true, false, List, [], ◌∷◌, ◌++◌, Some, length, map, refl, sym, ap, subst, ◌∙◌, arith}
use Rattle.std.specs.Prelude.{filter}
use Rattle.std.specs.List.{slice_get, All, Any, Contains, AllByRecursion}
use Rattle.std.proofs.lemmas.Bool.{cases_lt, false≢true}
use Rattle.std.proofs.lemmas.Option.{slice_get_within, same_Some, get_or_from_slice_get}
use Rattle.std.proofs.lemmas.List.Elements.{All-from_recursion, All-contains}
use Rattle.mh_grammar.specs.Plain.{plain_of, IsProductive}
use Rattle.mh_grammar.specs.declared.types.Grammar.{Grammar}
use Rattle.mh_grammar.specs.declared.types.Production.{Production}
use Rattle.mh_grammar.proofs.Lists.{at_contains, contains_at, contains_here, contains_there, get_within, map_contains, recursion-from}
use Rattle.mh_rules.specs.declared.instances.Expanded.{Expanded}
use Rattle.mh_rules.specs.declared.instances.Instance.{Instance}
use Rattle.mh_rules.specs.Ready.{IsExpandedReady}
use Rattle.mh_inline.specs.declared.origins.Origin.{Origin}
use Rattle.mh_inline_unfold.specs.Instances.{is_inlined}
use Rattle.mh_inline_unfold.specs.Limits.{max_productions, max_symbols}
use Rattle.mh_inline_unfold.proofs.InlineProducers.{inline_instance}
use Rattle.mh_inline.specs.Cycles.{IsCyclic, HasNoCycle}
use Rattle.mh_inline.proofs.IsCyclic.{reaches_user}
use Rattle.mh_inline.specs.declared.fault.InlineFault.{InlineFault}
use Rattle.mh_inline.specs.declared.fault.InlineFault.TheVariants.{InlineCycle, InlineStart, TooManyProductions, EmptyLanguage}
use Rattle.mh_inline.specs.Inlined as inlined
use Rattle.mh_inline.specs.Inlined.{production_of, AreProductions, IsInlined}
use Rattle.mh_inline_unfold.specs.Unfoldings.{with_own_prec}
use Rattle.mh_inline.specs.GrammarOfInstances.{HasNoInlineStart, IsWithinLimits, IsGrammarOf}
use Rattle.mh_inline.specs.Faults.{ExceedsLimits, IsFault, IsNotMemory}
use Rattle.mh_grammar.specs.NotLacking.{NotLacking}
use Rattle.mh_grammar.proofs.NotLacking.{given, chain, decided, Lacks, lacks_or}
use Rattle.mh_front.proofs.InlineOrder.{origins}
use Rattle.mh_front.proofs.SomeUnfoldings.{right_side_has_unfoldings}

module _ (e : Expanded) (ready : IsExpandedReady e) where
  abbrev is : List Instance
  is = e.instances

  -- A grammar that the expansion gives, or its first fault.
  abbrev InlinedOrFault : Type 0
  InlinedOrFault = ((g : Grammar) × IsGrammarOf e g) ⊎ ((fault : InlineFault) × IsNotMemory fault × IsFault e fault)

  productions : HasNoCycle e → (os : List Origin) → ((s : Origin) → Contains os s → IsOrigin is s) → NotLacking ((ps : List Production) × AreProductions e.tokens is os ps)
  productions acyclic [] each = given ([], inlined.AreProductions.none)
  productions acyclic (s ∷ os) each =
      let o = each s (contains_here s os) in
      chain (right_side_has_unfoldings is acyclic o.production.rhs) (λ us. chain (productions acyclic os (λ t c. each t (contains_there s os t c))) (λ ps. given (
        map (λ u. production_of e.tokens is s.instance (with_own_prec o.production.prec u)) us.0 ++ ps.0,
        inlined.AreProductions.more o.alternative us.1 refl ps.1,
      )))

  module _ (acyclic : HasNoCycle e) (kept : HasNoInlineStart e) (g : Grammar) (is_of : IsInlined e g) where
    abbrev Live : ℕ → Type 0
    Live k = (m : ℕ) → slice_get e.starts k ≡ Some m → IsProductive (plain_of g) (nonterminal_number is m)

    empty : IsWithinLimits g → Lacks Live (length e.starts) → InlinedOrFault
    empty small w =
        let m = get_within e.starts w.at w.within in
        let below : m.0 < length is = All-contains (λ s. s < length is) e.starts m.0 ready.starts_below (contains_at e.starts w.at m.0 m.1) in
        let i = get_within is m.0 below in
        inr (
          EmptyLanguage i.0.name,
          tt,
          (
            acyclic,
            kept,
            g,
            is_of,
            small,
            record {
              number = m.0;
              named = record { instance = i.0; at = i.1; name_is = refl };
              first = record {
                place = w.at;
                at = m.1;
                not_productive = λ p. w.not (λ n f. subst (λ (x : ℕ). IsProductive (plain_of g) (nonterminal_number is x)) (same_Some m.0 n (sym m.1 ∙ f)) p);
                first = λ k n l f. w.before k l n f;
              };
            },
          ),
        )

    live : IsWithinLimits g → ((k : ℕ) → k < length e.starts → Live k) → InlinedOrFault
    live small all = inl (
      g,
      record {
        acyclic = acyclic;
        kept = kept;
        inlined = is_of;
        within_limits = small;
        productive = All-from_recursion (IsProductive (plain_of g)) g.starts (recursion-from (IsProductive (plain_of g)) g.starts (λ n c.
            let from = map_contains (nonterminal_number is) e.starts n (subst (λ (ns : List ℕ). Contains ns n) is_of.starts c) in
            let at = at_contains e.starts from.0 from.1 in
            subst (IsProductive (plain_of g)) from.2 (all at.0 (slice_get_within e.starts at.0 from.0 at.1) from.0 at.1)));
      },
    )

    sized : IsWithinLimits g → NotLacking InlinedOrFault
    sized small = chain (lacks_or Live (length e.starts)) (λ r. elim r [ inl w ↦ given (empty small w) | inr all ↦ given (live small all) ])

    short : (Any (λ (p : Production). max_symbols < length p.rhs) g.productions → ⊥) → All (λ (p : Production). length p.rhs ≤ max_symbols) g.productions
    short none = All-from_recursion (λ (p : Production). length p.rhs ≤ max_symbols) g.productions (recursion-from (λ (p : Production). length p.rhs ≤ max_symbols) g.productions (λ p c. elim (cases_lt max_symbols (length p.rhs)) [
      | inl long ↦ absurd (let at = at_contains g.productions p c in none (at.0, p, slice_get_within g.productions at.0 p at.1, get_or_from_slice_get g.productions at.0 p p at.1, long))
      | inr m ↦ m
    ]))

    measured : NotLacking InlinedOrFault
    measured = chain (decided (ExceedsLimits g)) (λ d. elim d [
      | inl over ↦ given (inr (TooManyProductions, tt, (acyclic, kept, g, is_of, over)))
      | inr not ↦ sized (record { few = elim (cases_lt max_productions (length g.productions)) [ inl l ↦ absurd (not (inl l)) | inr m ↦ m ]; short = short (λ a. not (inr a)) })
    ])

  with_starts : HasNoCycle e → HasNoInlineStart e → NotLacking InlinedOrFault
  with_starts acyclic kept =
      let os = origins is in
      chain (productions acyclic os.0 (λ s c. (os.1.exact s).0 c)) (λ ps.
      let g : Grammar = record { tokens = e.tokens; nonterminals = map nonterminal_of (filter is_kept is); starts = map (nonterminal_number is) e.starts; productions = ps.0 } in
      measured acyclic kept g (record { tokens = refl; nonterminals = refl; starts = refl; origins = os.0; ordered = os.1; productions = ps.1 }))

  abbrev Stays : ℕ → Type 0
  Stays k = (m : ℕ) → slice_get e.starts k ≡ Some m → is_inlined is m ≡ false

  inline_start : HasNoCycle e → Lacks Stays (length e.starts) → InlinedOrFault
  inline_start acyclic w = let m = get_within e.starts w.at w.within in by m.0 m.1 (is_inlined is m.0) refl
    where
      by : (m : ℕ) → slice_get e.starts w.at ≡ Some m → (b : Bool) → is_inlined is m ≡ b → InlinedOrFault
      by m at true inline =
          let i = inline_instance is m inline in
          inr (InlineStart i.instance.name, tt, (acyclic, record { number = m; named = record { instance = i.instance; at = i.at; name_is = refl }; first = record { place = w.at; at = at; inlined = inline; first = λ k n l f. w.before k l n f } }))
      by m at false stays = absurd (w.not (λ n f. subst (λ (x : ℕ). is_inlined is x ≡ false) (same_Some m n (sym at ∙ f)) stays))

  with_no_cycle : HasNoCycle e → NotLacking InlinedOrFault
  with_no_cycle acyclic = chain (lacks_or Stays (length e.starts)) (λ r. elim r [
    | inl w ↦ given (inline_start acyclic w)
    | inr all ↦ with_starts acyclic (All-from_recursion (λ s. is_inlined is s ≡ false) e.starts (recursion-from (λ s. is_inlined is s ≡ false) e.starts (λ s c. let at = at_contains e.starts s c in all at.0 (slice_get_within e.starts at.0 s at.1) s at.1)))
  ])

  abbrev Straight : ℕ → Type 0
  Straight n = IsCyclic e n → ⊥

  cycle : (w : Lacks Straight (length is)) → IsCyclic e w.at → InlinedOrFault
  cycle w c =
      let i = get_within is w.at w.within in
      inr (InlineCycle i.0.name, tt, record { number = w.at; named = record { instance = i.0; at = i.1; name_is = refl }; first = record { cyclic = c; first = w.before } })

  pub inlined_or_fault : NotLacking InlinedOrFault
  inlined_or_fault = chain (lacks_or Straight (length is)) (λ r. elim r [
    | inl w ↦ chain (decided (IsCyclic e w.at)) (λ d. elim d [ inl c ↦ given (cycle w c) | inr not ↦ absurd (w.not not) ])
    | inr all ↦ with_no_cycle (λ n c. all n (inline_instance is n (reaches_user is n n c)).within c)
  ])
