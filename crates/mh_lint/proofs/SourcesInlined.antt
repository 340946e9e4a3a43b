-- Inlining treats all levels alike: if instances have a grammar, then the instances with the sources of levels in
-- place of the levels have the same grammar but for the levels, and each source gives the level of its production.
use Rattle.std.proofs.Common.{◌≡◌, ℕ, zero, suc, ◌+◌, ◌-◌, ◌<◌, ◌≤◌, Bool, true, false, cond, List, [], ◌∷◌, ◌++◌, Option, None, Some, length, take, map, arith, refl, sym, ap, subst, ◌∙◌}
use Rattle.std.specs.Prelude.{fold, if◌then◌else◌, not, nat_lt, slice_index, unwrap_or}
use Rattle.std.specs.List.{All, AllByRecursion, AllZip, count_by, enumerate_from, filter, slice_get}
use Rattle.std.specs.Option.{option_and_then, option_map}
use Rattle.std.proofs.lemmas.List.Elements.{All-from_recursion, recursion_from_All}
use Rattle.std.proofs.lemmas.Option.{same_Some, slice_get-map}
use Rattle.mh_grammar.specs.Derivations as derivations
use Rattle.mh_grammar.specs.Derivations.{Derivation, Derivations}
use Rattle.mh_grammar.specs.Plain.{IsProductive, IsToken, PlainGrammar, Produces, lhs_of, plain_of, rhs_of}
use Rattle.mh_grammar.specs.declared.types.Grammar.{Grammar}
use Rattle.mh_grammar.specs.declared.types.Production.{Production}
use Rattle.mh_grammar.specs.declared.types.Symbol.{Symbol}
use Rattle.mh_grammar.specs.declared.types.Symbol.TheVariants as symbols
use Rattle.mh_grammar.specs.declared.types.TokenInfo.{TokenInfo}
use Rattle.mh_grammar.proofs.Lists.{get_within, zip_left, zip_length}
use Rattle.mh_rules.specs.declared.joined.Prec.{Prec}
use Rattle.mh_rules.specs.declared.instances.Expanded.{Expanded}
use Rattle.mh_rules.specs.declared.instances.Instance.{Instance}
use Rattle.mh_rules.specs.declared.instances.InstanceProduction.{InstanceProduction}
use Rattle.mh_rules.specs.declared.instances.Part.{Part}
use Rattle.mh_rules.specs.declared.instances.Part.TheVariants as parts
use Rattle.mh_inline_unfold.specs.FileRanks.{rank_of}
use Rattle.mh_inline_unfold.specs.Limits.{max_productions, max_symbols}
use Rattle.mh_inline_unfold.specs.Unfoldings.{with_own_prec}
use Rattle.mh_inline_unfold.specs.declared.unfolding.Unfolding.{Unfolding}
use Rattle.mh_inline.specs.GrammarOfInstances.{IsGrammarOf}
use Rattle.mh_inline.specs.Inlined.{AreProductions, IsInlined, last_token, level_of, production_of, symbol_of, token_level}
use Rattle.mh_inline.specs.Inlined as inlined
use Rattle.mh_inline.specs.Kept.{AreOrigins, IsOrigin, is_kept, nonterminal_number, nonterminal_of}
use Rattle.mh_inline.specs.declared.origins.Origin.{Origin}
use Rattle.mh_inline.proofs.UniqueGrammar.{one_grammar}
use Rattle.mh_lint.specs.LevelSources.{GivesLevel, HasSource, source_in, source_instance, source_production, source_token, sources_in, with_sources}
use Rattle.mh_lint.specs.declared.sources.LevelSource.{LevelSource}
use Rattle.mh_lint.proofs.SourcedUnfoldings.{IsSourceOf, IsSourceOfPrec, Sourced, alternative_from, alternative_to, inlined_same, own_prec_source, own_source, parts_to, production_at, reaches_from, zip_append, zip_map}

-- ---- Origins and numbers of nonterminals.

module _ (is : List Instance) where
  origin_to : (s : Origin) → IsOrigin is s → IsOrigin (Sourced is) s
  origin_to s h = record {
    kept = inlined_same is s.instance ∙ h.kept;
    production = source_production h.production;
    alternative = alternative_to is s.instance s.alternative h.production h.alternative;
    rank = h.rank;
    place = h.place;
  }

  origin_from : (s : Origin) → IsOrigin (Sourced is) s → IsOrigin is s
  origin_from s h =
      let one = alternative_from is s.instance s.alternative h.production h.alternative in
      record {
        kept = sym (inlined_same is s.instance) ∙ h.kept;
        production = one.0;
        alternative = one.1;
        rank = h.rank ∙ sym (ap (λ (p : InstanceProduction). rank_of p.file) one.2);
        place = h.place ∙ sym (ap (λ (p : InstanceProduction). p.place) one.2);
      }

  origins_to : (origins : List Origin) → AreOrigins is origins → AreOrigins (Sourced is) origins
  origins_to origins o = record { rising = o.rising; exact = λ s. (λ c. origin_to s ((o.exact s).0 c), λ h. (o.exact s).1 (origin_from s h)) }

take_sourced : (n : ℕ) (is : List Instance) → take n (map source_instance is) ≡ map source_instance (take n is)
take_sourced zero is = refl
take_sourced (suc n) [] = refl
take_sourced (suc n) (i ∷ is) = λ j. source_instance i ∷ take_sourced n is j

sum_same : (sum : ℕ) (is : List Instance) → fold (λ a i. a + cond (is_kept i) 1 0) sum (map source_instance is) ≡ fold (λ a i. a + cond (is_kept i) 1 0) sum is
sum_same sum [] = refl
sum_same sum (i ∷ is) = sum_same (sum + cond (not i.inlined) 1 0) is

count_same : (n : ℕ) (is : List Instance) → count_by is_kept (take n (map source_instance is)) ≡ count_by is_kept (take n is)
count_same n is = ap (count_by is_kept) (take_sourced n is) ∙ sum_same 0 (take n is)

kept_same : (is : List Instance) → map nonterminal_of (filter is_kept (map source_instance is)) ≡ map nonterminal_of (filter is_kept is)
kept_same [] = refl
kept_same (i ∷ is) = pick (not i.inlined) (filter is_kept (map source_instance is)) (filter is_kept is) (kept_same is)
  where
    pick : (b : Bool) (xs ys : List Instance) → map nonterminal_of xs ≡ map nonterminal_of ys → map nonterminal_of (cond b (source_instance i ∷ xs) xs) ≡ map nonterminal_of (cond b (i ∷ ys) ys)
    pick true xs ys e = λ j. nonterminal_of i ∷ e j
    pick false xs ys e = e

module _ (is : List Instance) where
  number_same : nonterminal_number (Sourced is) ≡ nonterminal_number is
  number_same = λ i n. count_same n is i

  symbol_same : (X : Part) → symbol_of (Sourced is) X ≡ symbol_of is X
  symbol_same (parts.Token a) = refl
  symbol_same (parts.Instance n) = λ i. symbols.N (number_same i n)

-- ---- Levels and their sources.

source_token_at : (n : ℕ) (ts : List TokenInfo) (z : ℕ) → slice_get (map source_token (enumerate_from n ts)) z ≡ option_map (λ (t : TokenInfo). source_token (n + z, t)) (slice_get ts z)
source_token_at n [] z = refl
source_token_at n (t ∷ ts) zero = ap (λ k. Some (source_token (k, t))) (let same : n ≡ n + 0 = omega arith in same)
source_token_at n (t ∷ ts) (suc z) = source_token_at (n + 1) ts z ∙ ap (λ k. option_map (λ (u : TokenInfo). source_token (k, u)) (slice_get ts z)) (let same : n + 1 + z ≡ n + suc z = omega arith in same)

first_token_at : (ts : List TokenInfo) (z : ℕ) → slice_get (map source_token (enumerate_from 0 ts)) z ≡ option_map (λ (t : TokenInfo). source_token (z, t)) (slice_get ts z)
first_token_at ts z = source_token_at 0 ts z ∙ ap (λ k. option_map (λ (t : TokenInfo). source_token (k, t)) (slice_get ts z)) (let same : 0 + z ≡ z = omega arith in same)

module _ (e : Expanded) where
  -- The level of the second production represents the source of that of the first.
  pub record IsSourceOfProduction (p q : Production) : Type 0 where
    pub lhs : q.lhs ≡ p.lhs
    pub rhs : q.rhs ≡ p.rhs
    pub gives : GivesLevel e (source_in q.level) p.level

  -- The source of the level of a token that may be absent.
  token_gives : (z : ℕ) (found : Option TokenInfo) → slice_get e.tokens z ≡ found → GivesLevel e (source_in (option_and_then (λ (t : TokenInfo). t.level) (option_map (λ (t : TokenInfo). source_token (z, t)) found))) (option_and_then (λ (t : TokenInfo). t.level) found)
  token_gives z None at = GivesLevel.nothing
  token_gives z (Some t) at = GivesLevel.token z t at

  last_gives : (last : Option ℕ) → GivesLevel e (source_in (option_and_then (token_level (with_sources e).tokens) last)) (option_and_then (token_level e.tokens) last)
  last_gives None = GivesLevel.nothing
  last_gives (Some z) = subst (λ found. GivesLevel e (source_in (option_and_then (λ (t : TokenInfo). t.level) found)) (token_level e.tokens z)) (sym (first_token_at e.tokens z)) (token_gives z (slice_get e.tokens z) refl)

  level_gives : (p q : Prec) (rhs : List Part) → IsSourceOfPrec e.instances p q → GivesLevel e (source_in (level_of (with_sources e).tokens q rhs)) (level_of e.tokens p rhs)
  level_gives p q rhs IsSourceOfPrec.absent = last_gives (last_token rhs)
  level_gives p q rhs (IsSourceOfPrec.given alternative level of is) = GivesLevel.prec of.0 alternative level of.1 of.2 is

  production_source : (n : ℕ) (u v : Unfolding) → IsSourceOf e.instances u v → IsSourceOfProduction (production_of e.tokens e.instances n u) (production_of (with_sources e).tokens (Sourced e.instances) n v)
  production_source n u v s = record {
    lhs = λ i. number_same e.instances i n;
    rhs = (λ i. map (λ X. symbol_same e.instances X i) (s.rhs i));
    gives = subst (λ rhs. GivesLevel e (source_in (level_of (with_sources e).tokens v.prec rhs)) (level_of e.tokens u.prec u.rhs)) (sym s.rhs) (level_gives u.prec v.prec u.rhs s.prec);
  }

  productions_to : (origins : List Origin) (ps : List Production) → AreProductions e.tokens e.instances origins ps → (qs : List Production) × AreProductions (with_sources e).tokens (Sourced e.instances) origins qs × AllZip IsSourceOfProduction ps qs
  productions_to origins ps inlined.AreProductions.none = ([], inlined.AreProductions.none, tt)
  productions_to origins ps (inlined.AreProductions.more {s = s} {origins = rest} {p = p} {us = us} {ps = later} a f is r) =
      let one = parts_to e.instances p.rhs us f in
      let more = productions_to rest later r in
      let prec = (source_production p).prec in
      let own = own_source e.instances p p.prec (production_at e.instances s.instance s.alternative p a) refl in
      let had = map (λ (u : Unfolding). production_of e.tokens e.instances s.instance (with_own_prec p.prec u)) us in
      let made = map (λ (v : Unfolding). production_of (with_sources e).tokens (Sourced e.instances) s.instance (with_own_prec prec v)) one.0 in
      let front : AllZip IsSourceOfProduction had made = zip_map (IsSourceOf e.instances) IsSourceOfProduction (λ (u : Unfolding). production_of e.tokens e.instances s.instance (with_own_prec p.prec u)) (λ (v : Unfolding). production_of (with_sources e).tokens (Sourced e.instances) s.instance (with_own_prec prec v))
      (λ u v h. production_source s.instance (with_own_prec p.prec u) (with_own_prec prec v) (own_prec_source e.instances p.prec prec u v own h)) us one.0 one.2 in (
        made ++ more.0,
        inlined.AreProductions.more (alternative_to e.instances s.instance s.alternative p a) one.1 refl more.1,
        subst (λ qs. AllZip IsSourceOfProduction qs (made ++ more.0)) (sym is) (zip_append IsSourceOfProduction had made later more.0 front more.2),
      )

-- ---- Productions but for their levels.

zip_maps : {A B C : Type 0} (R : A → B → Type 0) (f : A → C) (g : B → C) → ((x : A) (y : B) → R x y → g y ≡ f x) → (xs : List A) (ys : List B) → AllZip R xs ys → map g ys ≡ map f xs
zip_maps R f g same [] [] z = refl
zip_maps R f g same [] (y ∷ ys) z = absurd z
zip_maps R f g same (x ∷ xs) [] z = absurd z
zip_maps R f g same (x ∷ xs) (y ∷ ys) z = let here = same x y z.0 in let rest = zip_maps R f g same xs ys z.1 in λ i. here i ∷ rest i

module _ (e : Expanded) (ps qs : List Production) (z : AllZip (IsSourceOfProduction e) ps qs) where
  same_length : length qs ≡ length ps
  same_length = sym (zip_length (IsSourceOfProduction e) ps qs z)

  same_at : {X : Type 0} (f : Production → X) → ((p q : Production) → IsSourceOfProduction e p q → f q ≡ f p) → (k : ℕ) → option_map f (slice_get qs k) ≡ option_map f (slice_get ps k)
  same_at f each k = sym (slice_get-map f qs k) ∙ ap (λ xs. slice_get xs k) (zip_maps (IsSourceOfProduction e) f f each ps qs z) ∙ slice_get-map f ps k

  same_rhs : (k : ℕ) → option_map (λ (p : Production). p.rhs) (slice_get qs k) ≡ option_map (λ (p : Production). p.rhs) (slice_get ps k)
  same_rhs k = same_at (λ (p : Production). p.rhs) (λ p q s. s.rhs) k

  same_lhs : (k : ℕ) → option_map (λ (p : Production). p.lhs) (slice_get qs k) ≡ option_map (λ (p : Production). p.lhs) (slice_get ps k)
  same_lhs k = same_at (λ (p : Production). p.lhs) (λ p q s. s.lhs) k

short_from : (e : Expanded) (n : ℕ) (ps qs : List Production) → AllZip (IsSourceOfProduction e) ps qs → AllByRecursion (λ (p : Production). length p.rhs ≤ n) ps → AllByRecursion (λ (p : Production). length p.rhs ≤ n) qs
short_from e n [] [] z h = tt
short_from e n [] (q ∷ qs) z h = absurd z
short_from e n (p ∷ ps) [] z h = absurd z
short_from e n (p ∷ ps) (q ∷ qs) z h = (subst (λ (r : List Symbol). length r ≤ n) (sym z.0.rhs) h.0, short_from e n ps qs z.1 h.1)

short_same : (e : Expanded) (n : ℕ) (ps qs : List Production) → AllZip (IsSourceOfProduction e) ps qs → All (λ (p : Production). length p.rhs ≤ n) ps → All (λ (p : Production). length p.rhs ≤ n) qs
short_same e n ps qs z all = All-from_recursion (λ (p : Production). length p.rhs ≤ n) qs (short_from e n ps qs z (recursion_from_All (λ (p : Production). length p.rhs ≤ n) ps all))

-- The grammar with other tokens and other productions.
abbrev pub grammar_with : Grammar → List TokenInfo → List Production → Grammar
grammar_with g tokens ps = record { tokens = tokens; nonterminals = g.nonterminals; productions = ps; starts = g.starts }

module _ (e : Expanded) (g : Grammar) (tokens : List TokenInfo) (qs : List Production) (z : AllZip (IsSourceOfProduction e) g.productions qs) where
  abbrev Old : PlainGrammar
  Old = plain_of g

  abbrev New : PlainGrammar
  New = plain_of (grammar_with g tokens qs)

  rhs_same : (p : ℕ) → rhs_of New p ≡ rhs_of Old p
  unfolding rhs_of
  rhs_same p = ap (λ o. if nat_lt p (length g.starts) then symbols.N (slice_index g.starts p) ∷ [] else unwrap_or o []) (same_rhs e g.productions qs z (p - length g.starts))

  lhs_same : (p : ℕ) → lhs_of New p ≡ lhs_of Old p
  unfolding lhs_of
  lhs_same p = ap (λ o. unwrap_or o 0) (same_lhs e g.productions qs z (p - length g.starts))

  produces_to : (X : Symbol) (rhs : List Symbol) → Produces Old X rhs → Produces New X rhs
  produces_to (symbols.T a) rhs h = h
  produces_to (symbols.N n) rhs h = (
    h.0,
    record {
      ordinary = h.1.ordinary;
      known = subst (λ k. h.0 < length g.starts + k) (sym (same_length e g.productions qs z)) h.1.known;
      lhs = lhs_same h.0 ∙ h.1.lhs;
    },
    rhs_same h.0 ∙ h.2,
  )

  mutual
    derives_to : (X : Symbol) (w : List ℕ) → Derivation IsToken (Produces Old) X w → Derivation IsToken (Produces New) X w
    derives_to X w (derivations.Derivation.leaf t) = derivations.Derivation.leaf t
    derives_to X w (derivations.Derivation.node {rhs = rhs} p ds) = derivations.Derivation.node (produces_to X rhs p) (all_derive rhs w ds)

    all_derive : (Xs : List Symbol) (w : List ℕ) → Derivations IsToken (Produces Old) Xs w → Derivations IsToken (Produces New) Xs w
    all_derive Xs w derivations.Derivations.none = derivations.Derivations.none
    all_derive Xs w (derivations.Derivations.more {X = X} {Xs = Ys} {u = u} {v = v} e d ds) = derivations.Derivations.more e (derives_to X u d) (all_derive Ys v ds)

  productive_to : (n : ℕ) → IsProductive Old n → IsProductive New n
  productive_to n h = (h.0, derives_to (symbols.N n) h.0 h.1)

-- ---- The grammar of the instances with the sources of levels.

module _ (e : Expanded) where
  -- The productions of that grammar.
  abbrev MadeOf : (g : Grammar) → IsInlined e g → List Production
  MadeOf g o = (productions_to e o.origins g.productions o.productions).0

  inlined_sources : (g : Grammar) (o : IsInlined e g) → IsInlined (with_sources e) (grammar_with g (with_sources e).tokens (MadeOf g o))
  inlined_sources g o = record {
    tokens = refl;
    nonterminals = o.nonterminals ∙ sym (kept_same e.instances);
    starts = o.starts ∙ sym (ap (λ (number : ℕ → ℕ). map number e.starts) (number_same e.instances));
    origins = o.origins;
    ordered = origins_to e.instances o.origins o.ordered;
    productions = (productions_to e o.origins g.productions o.productions).1;
  }

  -- Production p of that grammar has the source of the level of production p.
  source_made : (g : Grammar) (o : IsInlined e g) (p : ℕ) (production : Production) → slice_get g.productions p ≡ Some production → (q : Production) × (slice_get (MadeOf g o) p ≡ Some q) × IsSourceOfProduction e production q
  source_made g o p production at = zip_left (IsSourceOfProduction e) g.productions (MadeOf g o) (productions_to e o.origins g.productions o.productions).2 p production at

  source_at_made : (qs : List Production) (p : ℕ) (q : Production) → slice_get qs p ≡ Some q → slice_get (map (λ (r : Production). source_in r.level) qs) p ≡ Some (source_in q.level)
  source_at_made qs p q at = slice_get-map (λ (r : Production). source_in r.level) qs p ∙ ap (option_map (λ (r : Production). source_in r.level)) at

  pub has_source : (g : Grammar) → IsInlined e g → (p : ℕ) → p < length g.productions → (source : LevelSource) × HasSource e p source
  has_source g o p l =
      let here = get_within g.productions p l in
      let one = source_made g o p here.0 here.1 in
      (source_in (one.0).level, record { grammar = grammar_with g (with_sources e).tokens (MadeOf g o); inlined = inlined_sources g o; is = source_at_made (MadeOf g o) p one.0 one.1 })

  pub one_source : (p : ℕ) (a b : LevelSource) → HasSource e p a → HasSource e p b → a ≡ b
  one_source p a b h k = same_Some a b (sym h.is ∙ ap (λ (g : Grammar). slice_get (sources_in g) p) (one_grammar (with_sources e) h.grammar k.grammar h.inlined k.inlined) ∙ k.is)

  pub level_given : (g : Grammar) → IsInlined e g → (p : ℕ) (production : Production) (source : LevelSource) → slice_get g.productions p ≡ Some production → HasSource e p source → GivesLevel e source production.level
  level_given g o p production source at h =
      let one = source_made g o p production at in
      let made : HasSource e p (source_in (one.0).level) = record { grammar = grammar_with g (with_sources e).tokens (MadeOf g o); inlined = inlined_sources g o; is = source_at_made (MadeOf g o) p one.0 one.1 } in
      subst (λ s. GivesLevel e s production.level) (one_source p (source_in (one.0).level) source made h) (one.2).gives

  pub grammar_of_sources : (g : Grammar) → IsGrammarOf e g → (h : Grammar) × IsGrammarOf (with_sources e) h
  grammar_of_sources g o =
      let qs = MadeOf g o.inlined in
      let zipped : AllZip (IsSourceOfProduction e) g.productions qs = (productions_to e (o.inlined).origins g.productions (o.inlined).productions).2 in
      let h = grammar_with g (with_sources e).tokens qs in (
        h,
        record {
          acyclic = λ n r. o.acyclic n (reaches_from e.instances n n r);
          kept = subst (λ (test : ℕ → Bool). All (λ s. test s ≡ false) e.starts) (λ i n. sym (inlined_same e.instances n) i) o.kept;
          inlined = inlined_sources g o.inlined;
          within_limits = record {
            few = subst (λ n. n ≤ max_productions) (sym (same_length e g.productions qs zipped)) (o.within_limits).few;
            short = short_same e max_symbols g.productions qs zipped (o.within_limits).short;
          };
          productive = All-from_recursion (IsProductive (plain_of h)) g.starts (starts_to (plain_of g) (plain_of h) (productive_to e g (with_sources e).tokens qs zipped) g.starts (recursion_from_All (IsProductive (plain_of g)) g.starts o.productive));
        },
      )
    where
      starts_to : (a b : PlainGrammar) → ((n : ℕ) → IsProductive a n → IsProductive b n) → (starts : List ℕ) → AllByRecursion (IsProductive a) starts → AllByRecursion (IsProductive b) starts
      starts_to a b step [] all = tt
      starts_to a b step (s ∷ ss) all = (step s all.0, starts_to a b step ss all.1)
