-- Proves that a grammar made from modules whose names are words has names as grammar files spell them: its tokens have
-- the names that the modules declare, its start symbols the names of their rules, and its nonterminals the texts of
-- terms.
use Rattle.std.proofs.Common.{◌≡◌, ◌<◌, ◌+◌, ◌∙◌, ℕ, zero, suc, Bool, true, false, not, cond, List, [], ◌∷◌, drop, filter, get_or, length, map, take, Option, None, Some, unwrap_or, option_map, refl, sym, ap, subst}
use Rattle.std.specs.Prelude.{slice_get}
use Rattle.std.specs.List.{All, AllByRecursion, enumerate_from, flat_map, list_all, position}
use Rattle.std.proofs.lemmas.Bool.{and_parts}
use Rattle.std.proofs.lemmas.List.{length-map}
use Rattle.std.proofs.lemmas.List.Elements.{All-append, All-contains, All-filter, All-from_recursion, All-head, All-map, All-nil, All-tail, All-weaker, recursion_from_All}
use Rattle.std.proofs.lemmas.List.Quantifiers.{position-Some}
use Rattle.std.proofs.lemmas.List.Sums.{AllPass-from_list_all, length-filter}
use Rattle.std.proofs.lemmas.Option.{slice_get-get_or, slice_get-map}
use Rattle.mh_grammar.proofs.Lists.{contains_at, first_same, get_within, option_map_some, recursion-append, zip_left}
use Rattle.mh_grammar.proofs.TextEquality.{equal_from_same}
use Rattle.mh_grammar.specs.Names.{nonterminal_name, start_name, token_name}
use Rattle.mh_grammar.specs.Text.{Text}
use Rattle.mh_grammar.specs.declared.types.Grammar.{Grammar}
use Rattle.mh_grammar.specs.declared.types.NontermInfo.{NontermInfo}
use Rattle.mh_grammar.specs.declared.types.TokenInfo.{TokenInfo}
use Rattle.mh_lex_bytes.specs.Words.{is_word}
use Rattle.mh_msgfile.specs.FileTexts.{HasReadableNames}
use Rattle.mh_rules.specs.declared.instances.Expanded.{Expanded}
use Rattle.mh_rules.specs.declared.instances.Instance.{Instance}
use Rattle.mh_rules.specs.declared.joined.Joined.{Joined}
use Rattle.mh_rules.specs.declared.joined.JoinedRule.{JoinedRule}
use Rattle.mh_rules.specs.declared.modules.Module.{Module}
use Rattle.mh_rules.specs.declared.modules.Rule.{Rule}
use Rattle.mh_rules.specs.declared.modules.TokenDecl.{TokenDecl}
use Rattle.mh_join_names.specs.declared.outlines.Outline.{Outline}
use Rattle.mh_join_names.specs.Prelude.{prelude_rules}
use Rattle.mh_join_names.specs.Names.{Definition, definitions, definitions_from, definitions_in, files, is_elsewhere, is_rule, outline_of, owner_in, prelude_definitions, rule_number, rules, same, same_owner, same_rule, start_names, token_names, tokens_in}
use Rattle.mh_join_names.specs.Faults.{meanings}
use Rattle.mh_join_names.specs.Joining.{IsJoined, printed_name, rule_of_outline, token_info, without_alternatives}
use Rattle.mh_expand.specs.Terms.{Term, text}
use Rattle.mh_expand.specs.Expansion.{IsExpanded, IsInstanceOf, start_term, start_terms}
use Rattle.mh_inline_unfold.specs.Instances.{is_inlined}
use Rattle.mh_inline.specs.GrammarOfInstances.{HasNoInlineStart}
use Rattle.mh_inline.specs.Inlined.{IsInlined}
use Rattle.mh_inline.specs.Kept.{is_kept, nonterminal_number, nonterminal_of}
use Rattle.mh_front.specs.Stages.{IsGrammarOfModules}
use Rattle.mh_validate_valid.specs.Valid.{AreTokenNamesDistinct}
use Rattle.mh_top_load.specs.GrammarNames.{HasFileNames, IsInstanceName}
use Rattle.mh_top_load.specs.code.CapitalTokens.{HasCapitalTokens}
use Rattle.mh_top_load.specs.code.ModuleNames.{HasWordsAsNames}
use Rattle.mh_top_load.proofs.AreNamesApart.{firsts_all, firsts_distinct, name_is, named, names_apart, none_distinct}
use Rattle.mh_top_load.proofs.InstanceNames.{HasNameBytes, instances_named, printed_named, word_named}

abbrev IsWord : Text → Type 0
IsWord x = is_word x ≡ true

-- ---- The names of joined rules.

abbrev IsNamedRule : Rule → Type 0
IsNamedRule r = IsWord r.name

abbrev IsNamedDefinition : Definition → Type 0
IsNamedDefinition d = IsWord d.rule.name

abbrev IsNamedOutline : Outline → Type 0
IsNamedOutline o = IsWord o.name

prelude_passes : (p : Bool) → list_all (λ (r : Rule). is_word r.name) (prelude_rules p) ≡ true
unfolding prelude_rules
prelude_passes true = refl
prelude_passes false = refl

prelude_named : (p : Bool) → AllByRecursion IsNamedRule (prelude_rules p)
prelude_named p = recursion_from_All IsNamedRule (prelude_rules p) (AllPass-from_list_all (λ (r : Rule). is_word r.name) (prelude_rules p) (prelude_passes p))

rules_defined : (owner : Text → Option ℕ) (k n : ℕ) (rs : List Rule) → AllByRecursion IsNamedRule rs → AllByRecursion IsNamedDefinition (definitions_from owner k n rs)
rules_defined owner k n [] all = tt
rules_defined owner k n (r ∷ rs) all = (all.0, rules_defined owner k (n + length r.alternatives) rs all.1)

files_defined : (starts : List Text) (k : ℕ) (ms : List Module) → All HasWordsAsNames ms → AllByRecursion IsNamedDefinition (flat_map (definitions_in starts) (enumerate_from k ms))
files_defined starts k [] all = tt
files_defined starts k (m ∷ ms) all =
    let of_file = recursion_from_All IsNamedRule m.rules (All-head HasWordsAsNames m ms all).rules in
    recursion-append IsNamedDefinition (definitions_in starts (k, m)) (flat_map (definitions_in starts) (enumerate_from (k + 1) ms)) (rules_defined (owner_in starts k m.rules) k 0 m.rules of_file)
    (files_defined starts (k + 1) ms (All-tail HasWordsAsNames m ms all))

definitions_named : (p : Bool) (ms : List Module) → All HasWordsAsNames ms → All IsNamedDefinition (definitions p ms)
definitions_named p ms all =
    All-from_recursion IsNamedDefinition (definitions p ms)
    (recursion-append IsNamedDefinition (flat_map (definitions_in (start_names ms)) (files ms)) (prelude_definitions (prelude_rules p)) (files_defined (start_names ms) 1 ms all)
    (rules_defined (λ x. Some 0) 0 0 (prelude_rules p) (prelude_named p)))

outlines_named : (p : Bool) (ms : List Module) → All HasWordsAsNames ms → AllByRecursion IsNamedOutline (rules p ms)
outlines_named p ms all =
    recursion_from_All IsNamedOutline (rules p ms)
    (firsts_all same_rule IsNamedOutline [] (map outline_of (definitions p ms)) (All-nil IsNamedOutline) (All-map IsNamedOutline outline_of (definitions p ms) (definitions_named p ms all)))

rules_named : (elsewhere : ℕ → Text → Bool) (rs : List JoinedRule) (os : List Outline) → map without_alternatives rs ≡ map (rule_of_outline elsewhere) os → AllByRecursion IsNamedOutline os
    → AllByRecursion (λ (r : JoinedRule). IsInstanceName r.name) rs
rules_named elsewhere [] os are all = tt
rules_named elsewhere (r ∷ rs) [] are all = absurd (cc)
rules_named elsewhere (r ∷ rs) (o ∷ os) are all =
    let here : without_alternatives r ≡ rule_of_outline elsewhere o = first_same (without_alternatives r) (rule_of_outline elsewhere o) (map without_alternatives rs) (map (rule_of_outline elsewhere) os) are in
    let rest : map without_alternatives rs ≡ map (rule_of_outline elsewhere) os = ap (drop 1) are in
    let name : r.name ≡ printed_name elsewhere o.name o.owner = ap (λ (q : JoinedRule). q.name) here in
    (subst IsInstanceName (sym name) (printed_named elsewhere o.name o.owner all.0), rules_named elsewhere rs os rest all.1)

-- ---- The name of a kept instance.

passed_by : {X : Type 0} (b : Bool) (y x : X) (all before : List X) → slice_get all (length before) ≡ Some x → slice_get (cond b (y ∷ all) all) (length (cond b (y ∷ before) before)) ≡ Some x
passed_by true y x all before at = at
passed_by false y x all before at = at

-- An element that passes a test has, among those that pass, the number of those before it as its index.
filtered_at : {X : Type 0} (p : X → Bool) (xs : List X) (n : ℕ) (x : X) → slice_get xs n ≡ Some x → p x ≡ true → slice_get (filter p xs) (length (filter p (take n xs))) ≡ Some x
filtered_at p [] n x at passes = let none : None ≡ Some x = at in absurd (cc)
filtered_at p (y ∷ xs) zero x at passes =
    let same : y ≡ x = cc in
    let first : p y ≡ true = ap p same ∙ passes in
    ap (λ (b : Bool). slice_get (cond b (y ∷ filter p xs) (filter p xs)) 0) first ∙ at
filtered_at p (y ∷ xs) (suc n) x at passes = passed_by (p y) y x (filter p xs) (filter p (take n xs)) (filtered_at p xs n x at passes)

kept_name : (e : Expanded) (g : Grammar) → IsInlined e g → (n : ℕ) (i : Instance) → slice_get e.instances n ≡ Some i → is_kept i ≡ true → nonterminal_name g (nonterminal_number e.instances n) ≡ i.name
unfolding nonterminal_name
kept_name e g is n i at kept =
    let number : ℕ = nonterminal_number e.instances n in
    let here : slice_get (filter is_kept e.instances) number ≡ Some i =
    subst (λ (k : ℕ). slice_get (filter is_kept e.instances) k ≡ Some i) (length-filter is_kept (take n e.instances)) (filtered_at is_kept e.instances n i at kept) in
    let there : slice_get g.nonterminals number ≡ Some (nonterminal_of i) =
    ap (λ (ks : List NontermInfo). slice_get ks number) is.nonterminals ∙ slice_get-map nonterminal_of (filter is_kept e.instances) number ∙ ap (option_map nonterminal_of) here in
    ap (λ (o : Option NontermInfo). unwrap_or (option_map (λ (k : NontermInfo). k.name) o) []) there

start_kept : (e : Expanded) → HasNoInlineStart e → (k n : ℕ) (i : Instance) → slice_get e.starts k ≡ Some n → slice_get e.instances n ≡ Some i → is_kept i ≡ true
start_kept e none k n i of_start at =
    let not_inlined : is_inlined e.instances n ≡ false = All-contains (λ s. is_inlined e.instances s ≡ false) e.starts n none (contains_at e.starts k n of_start) in
    ap not (sym (ap (λ (o : Option Instance). unwrap_or (option_map (λ (x : Instance). x.inlined) o) false) at) ∙ not_inlined)

-- ---- The names of start symbols.

no_owner : (owner : Option ℕ) → same_owner None owner ≡ true → owner ≡ None
no_owner None is = refl
no_owner (Some k) is = let never : false ≡ true = is in absurd (cc)

at_position : {X : Type 0} (p : X → Bool) (xs : List X) (i : ℕ) → position p xs ≡ Some i → (x : X) × (slice_get xs i ≡ Some x) × (p x ≡ true)
at_position p [] i e = let none : None ≡ Some i = e in absurd (cc)
at_position p (y ∷ ys) i e = let found = position-Some p (y ∷ ys) i y e in (get_or (y ∷ ys) i y, slice_get-get_or (y ∷ ys) i y found.0, found.1)

module _ (p : Bool) (ms : List Module) where
  -- The joined rule of a public rule has the name of this rule.
  public_name : (j : Joined) → IsJoined p ms j → (x : Text) (r : ℕ) → rule_number p ms None x ≡ Some r → (q : JoinedRule) × (slice_get j.rules r ≡ Some q) × (q.name ≡ x)
  public_name j is x r number =
      let outline = at_position (is_rule None x) (rules p ms) r number in
      let parts = and_parts (same_owner None outline.0.owner) (same x outline.0.name) outline.2 in
      let there : option_map without_alternatives (slice_get j.rules r) ≡ Some (rule_of_outline (is_elsewhere ms) outline.0) =
      sym (slice_get-map without_alternatives j.rules r) ∙ ap (λ (qs : List JoinedRule). slice_get qs r) is.rules_are.outlines_are ∙ slice_get-map (rule_of_outline (is_elsewhere ms)) (rules p ms) r
      ∙ ap (option_map (rule_of_outline (is_elsewhere ms))) outline.1 in
      let rule = option_map_some without_alternatives (slice_get j.rules r) (rule_of_outline (is_elsewhere ms) outline.0) there in
      let printed : rule.0.name ≡ printed_name (is_elsewhere ms) outline.0.name outline.0.owner = ap (λ (q : JoinedRule). q.name) rule.2 in
      (rule.0, rule.1, printed ∙ ap (printed_name (is_elsewhere ms) outline.0.name) (no_owner outline.0.owner parts.0) ∙ sym (equal_from_same x outline.0.name parts.1))

  -- Looking up the name of a start symbol gives the number of the start symbol's rule.
  start_rule : (j : Joined) → IsJoined p ms j → (i r : ℕ) → slice_get j.starts i ≡ Some r → (x : Text) × (slice_get (start_names ms) i ≡ Some x) × (rule_number p ms None x ≡ Some r)
  start_rule j is i r at =
      option_map_some (rule_number p ms None) (slice_get (start_names ms) i) (Some r)
      (sym (slice_get-map (rule_number p ms None) (start_names ms) i) ∙ ap (λ (ns : List (Option ℕ)). slice_get ns i) (sym is.starts_are) ∙ slice_get-map Some j.starts i ∙ ap (option_map Some) at)

  -- The name of a start symbol's instance is the text of the term that consists of the start symbol's rule.
  start_instance : (j : Joined) (e : Expanded) → IsExpanded j e → (k n : ℕ) → slice_get e.starts k ≡ Some n
      → (r : ℕ) × (slice_get j.starts k ≡ Some r) × (i : Instance) × (slice_get e.instances n ≡ Some i) × (i.name ≡ text j (start_term r))
  start_instance j e is k n at =
      let term = zip_left (λ (m : ℕ) (t : Term). slice_get is.terms m ≡ Some t) e.starts (start_terms j) is.starts k n at in
      let rule = option_map_some start_term (slice_get j.starts k) term.0 (sym (slice_get-map start_term j.starts k) ∙ term.1) in
      let instance = zip_left (IsInstanceOf j is.terms) is.terms e.instances is.each n term.0 term.2 in
      (rule.0, rule.1, instance.0, instance.1, instance.2.name ∙ ap (text j) (sym rule.2))

  starts_named : (ns : List Module) → All HasWordsAsNames ns → All IsWord (flat_map (λ (m : Module). m.starts) ns)
  starts_named [] all = All-nil IsWord
  starts_named (m ∷ ns) all = All-append IsWord m.starts (flat_map (λ (n : Module). n.starts) ns) (All-head HasWordsAsNames m ns all).starts (starts_named ns (All-tail HasWordsAsNames m ns all))

  tokens_named : (ns : List Module) → All HasWordsAsNames ns → All IsWord (flat_map tokens_in ns)
  tokens_named [] all = All-nil IsWord
  tokens_named (m ∷ ns) all =
      All-append IsWord (tokens_in m) (flat_map tokens_in ns) (All-map IsWord (λ (t : TokenDecl). t.name) m.tokens (All-head HasWordsAsNames m ns all).tokens) (tokens_named ns (All-tail HasWordsAsNames m ns all))

  module _ (g : Grammar) (o : IsGrammarOfModules p ms g) where
    -- The name of a start symbol is the one that the modules declare.
    start_at : (i : ℕ) → i < length g.starts → (x : Text) × (slice_get (start_names ms) i ≡ Some x) × (start_name g i ≡ x)
    unfolding start_name
    start_at i lt =
        let j = o.joined in
        let e = o.grammar.expanded in
        let inlined = o.grammar.grammar.inlined in
        let lengths : length g.starts ≡ length e.starts = ap length inlined.starts ∙ length-map e.starts (nonterminal_number e.instances) in
        let number = get_within e.starts i (rw lengths at lt) in
        let made = start_instance j e o.grammar.expands i number.0 number.1 in
        let declared = start_rule j o.joins.1 i made.0 made.1 in
        let rule = public_name j o.joins.1 declared.0 made.0 declared.2 in
        let kept = start_kept e o.grammar.grammar.kept i number.0 made.2 number.1 made.3 in
        let nonterminal : nonterminal_name g (nonterminal_number e.instances number.0) ≡ declared.0 =
        kept_name e g inlined number.0 made.2 made.3 kept ∙ made.4 ∙ ap (λ (q : Option JoinedRule). unwrap_or (option_map (λ (r : JoinedRule). r.name) q) []) rule.1 ∙ rule.2 in
        let start : slice_get g.starts i ≡ Some (nonterminal_number e.instances number.0) =
        ap (λ (ns : List ℕ). slice_get ns i) inlined.starts ∙ slice_get-map (nonterminal_number e.instances) e.starts i ∙ ap (option_map (nonterminal_number e.instances)) number.1 in
        (declared.0, declared.1, ap (λ (n : Option ℕ). unwrap_or (option_map (nonterminal_name g) n) []) start ∙ nonterminal)

    module _ (all : All HasWordsAsNames ms) where
      declared_tokens : All IsWord (token_names ms)
      declared_tokens = firsts_all same IsWord [] (flat_map tokens_in ms) (All-nil IsWord) (tokens_named ms all)

      declared_starts : All IsWord (start_names ms)
      declared_starts = firsts_all same IsWord [] (flat_map (λ (m : Module). m.starts) ms) (All-nil IsWord) (starts_named ms all)

      tokens_are : g.tokens ≡ map (token_info (meanings p ms)) (token_names ms)
      tokens_are = o.grammar.grammar.inlined.tokens ∙ o.grammar.expands.tokens ∙ o.joins.1.tokens_are

      readable : AreTokenNamesDistinct g → HasReadableNames g
      readable apart = record {
        token_words = λ z lt.
            let declared = named (meanings p ms) (token_names ms) g tokens_are z lt in
            subst IsWord (sym (name_is (meanings p ms) (token_names ms) g tokens_are z declared.0 declared.1)) (All-contains IsWord (token_names ms) declared.0 declared_tokens (contains_at (token_names ms) z declared.0 declared.1));
        start_words = λ i lt.
            let declared = start_at i lt in
            subst IsWord (sym declared.2) (All-contains IsWord (start_names ms) declared.0 declared_starts (contains_at (start_names ms) i declared.0 declared.1));
        tokens_differ = apart.distinct;
        starts_differ = λ i j less below e.
            let one = start_at i less in
            let other = start_at j below in
            let name : one.0 ≡ other.0 = sym one.2 ∙ e ∙ other.2 in
            (firsts_distinct [] (flat_map (λ (m : Module). m.starts) ms) none_distinct).same i j one.0 one.1 (other.1 ∙ ap Some (sym name));
      }

      joined_tokens : AllByRecursion (λ (t : TokenInfo). HasNameBytes t.name) o.joined.tokens
      joined_tokens =
          recursion_from_All (λ (t : TokenInfo). HasNameBytes t.name) o.joined.tokens
          (subst (All (λ (t : TokenInfo). HasNameBytes t.name)) (sym o.joins.1.tokens_are)
          (All-map (λ (t : TokenInfo). HasNameBytes t.name) (token_info (meanings p ms)) (token_names ms) (All-weaker IsWord HasNameBytes (λ x is. (word_named x is).1) (token_names ms) declared_tokens)))

      joined_rules : AllByRecursion (λ (r : JoinedRule). IsInstanceName r.name) o.joined.rules
      joined_rules = rules_named (is_elsewhere ms) o.joined.rules (rules p ms) o.joins.1.rules_are.outlines_are (outlines_named p ms all)

      nonterminals_named : All (λ (n : NontermInfo). IsInstanceName n.name) g.nonterminals
      nonterminals_named =
          let x = o.grammar.expands in
          let instances = o.grammar.expanded.instances in
          let named_instances : All (λ (i : Instance). IsInstanceName i.name) instances =
          All-from_recursion (λ (i : Instance). IsInstanceName i.name) instances (instances_named o.joined joined_tokens joined_rules x.terms x.terms instances x.each) in
          subst (All (λ (n : NontermInfo). IsInstanceName n.name)) (sym o.grammar.grammar.inlined.nonterminals)
          (All-map (λ (n : NontermInfo). IsInstanceName n.name) nonterminal_of (filter is_kept instances) (All-filter is_kept (λ (i : Instance). IsInstanceName i.name) instances named_instances))

-- The tokens too have names of instances, since words are such names.
module _ (g : Grammar) (names : HasFileNames g) where
  token_at : (z : ℕ) (d : TokenInfo) → z < length g.tokens → token_name g z ≡ (get_or g.tokens z d).name
  unfolding token_name
  token_at z d lt = ap (λ (o : Option TokenInfo). unwrap_or (option_map (λ (t : TokenInfo). t.name) o) []) (slice_get-get_or g.tokens z d lt)

  pub token_names_named : All (λ (t : TokenInfo). IsInstanceName t.name) g.tokens
  token_names_named z d lt = word_named (get_or g.tokens z d).name (subst IsWord (token_at z d lt) (names.readable.token_words z lt))

pub has_file_names : (prelude : Bool) (ms : List Module) (g : Grammar) → All HasCapitalTokens ms → All HasWordsAsNames ms → IsGrammarOfModules prelude ms g → HasFileNames g
has_file_names prelude ms g capitals words o = record {
  readable = readable prelude ms g o words (names_apart prelude ms g capitals o);
  nonterminals = nonterminals_named prelude ms g o words;
}
