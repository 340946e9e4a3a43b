-- Proves, as a double negation, that grammar files are accepted or have lines on their faults.
use Rattle.std.proofs.Common.{◌≡◌, ◌⊎◌, ◌+◌, ◌++◌, ◌<◌, inl, inr, ℕ, Bool, List, [], ◌∷◌, length, Some, refl, ap, arith}
use Rattle.std.specs.List.{enumerate_from}
use Rattle.std.proofs.lemmas.List.{length-append}
use Rattle.mh_expand.proofs.InstancesInRange.{IsExpandedReady-expanded}
use Rattle.mh_expand.proofs.MaxInstances.{few_instances}
use Rattle.mh_expand.specs.Expansion.{IsExpanded, IsFault}
use Rattle.mh_expand.specs.Expansion as expansion
use Rattle.mh_expand.specs.Terms.{Term}
use Rattle.mh_expand.specs.declared.fault.ExpandFault.{ExpandFault}
use Rattle.mh_front.proofs.ExpandedOrFault.{expanded_or_fault}
use Rattle.mh_front.proofs.JoinedOrFault.{joined_or_fault}
use Rattle.mh_front.proofs.SomeInlined.{inlined_or_fault}
use Rattle.mh_front.specs.Stages.{IsJoinedFault}
use Rattle.mh_front.specs.declared.fault.GrammarFault.{GrammarFault}
use Rattle.mh_front.specs.declared.fault.GrammarFault.TheVariants as front
use Rattle.mh_grammar.proofs.NotLacking.{chain, decided, given}
use Rattle.mh_grammar.specs.NotLacking.{NotLacking}
use Rattle.mh_inline.specs.declared.fault.InlineFault.TheVariants as inlining
use Rattle.mh_join.proofs.JoinedReady as joins
use Rattle.mh_join_names.specs.Faults.{Meanings, meanings}
use Rattle.mh_lex.proofs.LexesTotal.{lexes_always}
use Rattle.mh_lex.proofs.LexesUnique.{LexesFrom-unique}
use Rattle.mh_lint_faults.specs.FaultLines.{AreFaultLines, AreSyntaxLines, HasWrongTerm, IsDefinition, IsFaultAt, IsFirstNamed, IsRuleNamed, IsRulePosition, IsWrongTerm, named_instance}
use Rattle.mh_lint_faults.specs.FaultLines as faults
use Rattle.mh_lint_faults.specs.Stages.{AreAccepted, AreJoined, AreRead, Stages, modules_of}
use Rattle.mh_lint_findings.specs.Lines.{Line}
use Rattle.mh_lint_findings.specs.LinesInOrder.{AreInOrder}
use Rattle.mh_lint_findings.specs.LinesInOrder as order
use Rattle.mh_lint_findings.specs.declared.findings.GrammarFile.{GrammarFile}
use Rattle.mh_lint_findings.specs.declared.findings.Position.{Position}
use Rattle.mh_lint_findings.specs.declared.findings.Position.TheVariants.{InFile, OfFile}
use Rattle.mh_reader.proofs.SpellsOrSyntaxLine.{read_always}
use Rattle.mh_reader_parser.specs.Faults.{IsSyntaxLine, IsSyntaxPlace}
use Rattle.mh_reader_parser.specs.Spelling.{Spells}
use Rattle.mh_reader_places.specs.Places.{ReadsPlaced}
use Rattle.mh_reader_places.specs.declared.mentions.Mention.{Mention}
use Rattle.mh_reader_places.specs.declared.reading.PlacedModule.{PlacedModule}
use Rattle.mh_rules.specs.declared.joined.Joined.{Joined}
use Rattle.mh_rules.specs.declared.modules.Module.{Module}
use Rattle.mh_top_check.proofs.AcceptedGrammar.{modules_ready}
use Rattle.mh_top_outcomes.proofs.LeastExample.{Least, least_number}

-- ---- The first mention with a property.

record IsFirst (P : ℕ → List Mention → Mention → Type 0) : Type 0 where
  file : ℕ
  before : List Mention
  x : Mention
  holds : P file before x
  first_here : (earlier : List Mention) (y : Mention) (later : List Mention) → before ≡ earlier ++ y ∷ later → P file earlier y → ⊥
  first_file : (other : ℕ) (others : List Mention) (y : Mention) → other < file → P other others y → ⊥

module _ (P : ℕ → List Mention → Mention → Type 0) where
  abbrev HasIn : ℕ → Type 0
  HasIn file = (before : List Mention) × (x : Mention) × P file before x

  abbrev HasAfter : ℕ → ℕ → Type 0
  HasAfter file n = (before : List Mention) × (x : Mention) × (length before ≡ n) × P file before x

  first_mention : (file : ℕ) (before : List Mention) (x : Mention) → P file before x → NotLacking (IsFirst P)
  first_mention file before x holds =
      chain (least_number HasIn file (before, x, holds)) (λ f.
      chain (least_number (HasAfter f.number) (length f.holds.0) (f.holds.0, f.holds.1, refl, f.holds.2)) (λ n. given (record {
        file = f.number;
        before = n.holds.0;
        x = n.holds.1;
        holds = n.holds.3;
        first_here = λ earlier y later split is. (
            let least = n.first (length earlier) (earlier, y, refl, is) in
            let long = ap length split in
            let count = length-append earlier (y ∷ later) in
            let same = n.holds.2 in
            let never : ⊥ = omega (arith, least, long, count, same) in
            never);
        first_file = λ other others y below is. (let least = f.first other (others, y, is) in let never : ⊥ = omega (arith, least, below) in never);
      })))

-- ---- The position of a fault of instances.

-- A fault of expansion has a printed name.
has_name : (j : Joined) (before : List Term) (t : Term) (e : ExpandFault) → IsFault j before t e → (printed : List ℕ) × (named_instance (front.Expand e) ≡ Some printed)
has_name j before t e (expansion.IsFault.count wrong) = (_, refl)
has_name j before t e (expansion.IsFault.long right new long) = (_, refl)
has_name j before t e (expansion.IsFault.full right new full) = (_, refl)

module _ (w : Meanings) (found : List PlacedModule) (joined : Joined) where
  -- Rule `number` begins the printed name, and a file defines the rule.
  abbrev IsDefinedRule : List ℕ → ℕ → Type 0
  IsDefinedRule printed number = (file : ℕ) × (before : List Mention) × (x : Mention) × IsRuleNamed joined printed number × IsDefinition w found file before x number

  abbrev HasDefinition : List ℕ → Type 0
  HasDefinition printed = (number : ℕ) × IsDefinedRule printed number

  first_rule_position : (printed : List ℕ) (n : Least (IsDefinedRule printed)) → NotLacking ((at : Position) × IsRulePosition w found joined printed at)
  first_rule_position printed n =
      let number : ℕ = n.number in
      let first : IsFirstNamed w found joined printed number = λ file other before x below named is. (let least = n.first other (file, before, x, named, is) in let never : ⊥ = omega (arith, least, below) in never) in
      chain (first_mention (λ file before x. IsDefinition w found file before x number) n.holds.0 n.holds.1 n.holds.2 n.holds.4) (λ f. given (
        InFile f.file f.x.start,
        faults.IsRulePosition.at_definition f.file number f.before f.x n.holds.3 first (record { is = f.holds; first_here = f.first_here; first_file = f.first_file }),
      ))

  some_rule_position : (printed : List ℕ) → NotLacking ((at : Position) × IsRulePosition w found joined printed at)
  some_rule_position printed = chain (decided (HasDefinition printed)) (λ d. elim d [
    | inl has ↦ chain (least_number (IsDefinedRule printed) has.0 has.1) (first_rule_position printed)
    | inr none ↦ given (OfFile 0, faults.IsRulePosition.of_all (λ file number before x named is. none (number, (file, before, x, named, is))))
  ])

  abbrev HasPosition : GrammarFault → Type 0
  HasPosition fault = (at : Position) × IsFaultAt w found joined fault at

  some_named : (fault : GrammarFault) (printed : List ℕ) → named_instance fault ≡ Some printed → NotLacking (HasPosition fault)
  some_named fault printed named = chain (decided (HasWrongTerm found joined fault)) (λ d. elim d [
    | inl has ↦ chain (first_mention (λ file before x. IsWrongTerm found joined file before x has.0) has.2 has.3 has.4 has.5) (λ f. given (
      InFile f.file f.x.start,
      faults.IsFaultAt.at_term f.file f.before f.x has.0 has.1 (record { is = f.holds; first_here = f.first_here; first_file = f.first_file }),
    ))
    | inr none ↦ chain (some_rule_position printed) (λ at. given (at.0, faults.IsFaultAt.at_rule printed at.0 none named at.1))
  ])

  some_position : (fault : GrammarFault) → IsJoinedFault joined fault → NotLacking (HasPosition fault)
  some_position (front.Join fault) is = absurd is
  some_position front.Memory is = absurd is
  some_position (front.Expand fault) is =
      let name = has_name joined _ _ fault is.fails.fault in some_named (front.Expand fault) name.0 name.1
  some_position (front.Inline (inlining.InlineCycle name)) is = some_named (front.Inline (inlining.InlineCycle name)) name refl
  some_position (front.Inline (inlining.InlineStart name)) is = some_named (front.Inline (inlining.InlineStart name)) name refl
  some_position (front.Inline (inlining.EmptyLanguage name)) is = some_named (front.Inline (inlining.EmptyLanguage name)) name refl
  some_position (front.Inline inlining.TooManyProductions) is = given (OfFile 0, faults.IsFaultAt.of_grammar refl)
  some_position (front.Inline inlining.Memory) is = absurd is.not_memory

-- ---- The files are read, or have syntax faults.

place_of : (bytes : List ℕ) (line : ℕ) → IsSyntaxLine bytes line → (start : ℕ) × IsSyntaxPlace bytes start
place_of bytes line (IsSyntaxLine.lexical {place = place} lexes is) = (place, IsSyntaxPlace.lexical lexes)
place_of bytes line (IsSyntaxLine.syntactic lexes is) = (is.0, IsSyntaxPlace.syntactic lexes is.1)

placed_of : (bytes : List ℕ) (m : Module) → Spells bytes m → (p : PlacedModule) × ReadsPlaced bytes p
placed_of bytes m s = (record { «module» = m; mentions = _; bad_costs = _ }, record { lexemes = s.0; lexes = s.1; file = s.2; mentions = refl; bad = refl })

some_placed : (bytes : List ℕ) → ((p : PlacedModule) × ReadsPlaced bytes p) ⊎ ((start : ℕ) × IsSyntaxPlace bytes start)
some_placed bytes = elim (read_always (λ b. lexes_always b) (λ b one two f g x y. LexesFrom-unique x y) bytes) [
  | inl m ↦ inl (placed_of bytes m.0 m.1)
  | inr line ↦ inr (place_of bytes line.0 line.1)
]

-- The files from number n on are all read, or have lines.
abbrev AreReadOrFaulty : ℕ → List GrammarFile → Type 0
AreReadOrFaulty n files =
    ((found : List PlacedModule) × AreRead files found × AreInOrder AreSyntaxLines (enumerate_from n files) []) ⊎ ((x : Line) × (lines : List Line) × AreInOrder AreSyntaxLines (enumerate_from n files) (x ∷ lines))

one_more : (n : ℕ) (f : GrammarFile) (files : List GrammarFile) → ((p : PlacedModule) × ReadsPlaced f.bytes p) ⊎ ((start : ℕ) × IsSyntaxPlace f.bytes start) → AreReadOrFaulty (n + 1) files → AreReadOrFaulty n (f ∷ files)
one_more n f files (inl p) (inl rest) = inl (p.0 ∷ rest.0, (p.1, rest.1), order.AreInOrder.more (faults.AreSyntaxLines.spelled p.0 p.1) rest.2 refl)
one_more n f files (inl p) (inr rest) = inr (rest.0, rest.1, order.AreInOrder.more (faults.AreSyntaxLines.spelled p.0 p.1) rest.2 refl)
one_more n f files (inr place) (inl rest) = inr (_, [], order.AreInOrder.more (faults.AreSyntaxLines.faulty place.0 place.1) rest.2 refl)
one_more n f files (inr place) (inr rest) = inr (_, rest.0 ∷ rest.1, order.AreInOrder.more (faults.AreSyntaxLines.faulty place.0 place.1) rest.2 refl)

read_or_faulty : (n : ℕ) (files : List GrammarFile) → AreReadOrFaulty n files
read_or_faulty n [] = inl ([], tt, order.AreInOrder.none)
read_or_faulty n (f ∷ files) = one_more n f files (some_placed f.bytes) (read_or_faulty (n + 1) files)

-- ---- The files are accepted, or have lines on their faults.

module _ (prelude : Bool) (files : List GrammarFile) where
  abbrev pub AreFaultyOrAccepted : Type 0
  AreFaultyOrAccepted = ((lines : List Line) × AreFaultLines prelude files lines) ⊎ ((s : Stages) × AreAccepted prelude files s)

  module _ (found : List PlacedModule) (j : Joined) (joined : AreJoined prelude files found j) where
    with_fault : (fault : GrammarFault) → IsJoinedFault j fault → NotLacking AreFaultyOrAccepted
    with_fault fault is =
        chain (some_position (meanings prelude (modules_of found)) found j fault is) (λ at. given (inl (_, faults.AreFaultLines.instances found j fault at.0 joined is at.1)))

    with_joined : NotLacking AreFaultyOrAccepted
    with_joined = elim (expanded_or_fault j) [
      | inl e ↦ chain (inlined_or_fault e.0 (IsExpandedReady-expanded j e.0 e.1 (joins.ready prelude (modules_of found) j (modules_ready files found joined.read) joined.joins) (few_instances j e.0 e.1))) (λ r. elim r [
        | inl g ↦ given (inr (record { found = found; joined = j; expanded = e.0; grammar = g.0 }, record { joined = joined; expanded = e.1; grammar = g.1 }))
        | inr fault ↦ with_fault (front.Inline fault.0) (record { expanded = e.0; expands = e.1; is_fault = fault.2; not_memory = fault.1 })
      ])
      | inr fault ↦ with_fault (front.Expand fault.0) fault.1
    ]

  with_read : (found : List PlacedModule) → AreRead files found → NotLacking AreFaultyOrAccepted
  with_read found read = elim (joined_or_fault prelude (modules_of found)) [
    | inl j ↦ with_joined found j.0 (record { read = read; joins = j.1 })
    | inr fault ↦ given (inl (_, faults.AreFaultLines.names found fault.0 read fault.1))
  ]

  pub faulty_or_accepted : NotLacking AreFaultyOrAccepted
  faulty_or_accepted = elim (read_or_faulty 0 files) [
    | inl read ↦ with_read read.0 read.1
    | inr lines ↦ given (inl (_, faults.AreFaultLines.syntax lines.0 lines.1 lines.2))
  ]
