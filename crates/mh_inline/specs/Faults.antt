-- The faults for which instances have no grammar, in the order in which they are reported (Menhir manual, `%inline`;
-- the order and the limits are this project's own).
use Rattle.std.specs.Prelude.{◌≡◌, ◌<◌, ◌⊎◌, ℕ, true, false, List, Some, length, slice_get}
use Rattle.std.specs.List.{Any}
use Rattle.mh_grammar.specs.declared.types.Production.{Production}
use Rattle.mh_grammar.specs.declared.types.Grammar.{Grammar}
use Rattle.mh_grammar.specs.Plain.{plain_of, IsProductive}
use Rattle.mh_rules.specs.declared.instances.Instance.{Instance}
use Rattle.mh_rules.specs.declared.instances.Expanded.{Expanded}
use Rattle.mh_inline.specs.declared.fault.InlineFault.{InlineFault}
use Rattle.mh_inline.specs.declared.fault.InlineFault.TheVariants.{InlineCycle, InlineStart, TooManyProductions, EmptyLanguage, Memory}
use Rattle.mh_inline_unfold.specs.Limits.{max_productions, max_symbols}
use Rattle.mh_inline_unfold.specs.Instances.{is_inlined}
use Rattle.mh_inline.specs.Cycles.{IsFirstCyclicAt, HasNoCycle}
use Rattle.mh_inline.specs.Kept.{nonterminal_number}
use Rattle.mh_inline.specs.Inlined.{IsInlined}
use Rattle.mh_inline.specs.GrammarOfInstances.{HasNoInlineStart, IsWithinLimits}

-- The instance n has this name.
pub record IsInstanceNamed (e : Expanded) (n : ℕ) (name : List ℕ) : Type 0 where
  pub instance : Instance
  pub at : slice_get e.instances n ≡ Some instance
  pub name_is : instance.name ≡ name

-- The name is that of the first instance that reaches itself.
pub record IsFirstCyclic (e : Expanded) (name : List ℕ) : Type 0 where
  pub number : ℕ
  pub named : IsInstanceNamed e number name
  pub first : IsFirstCyclicAt e number

-- The first start symbol that is inline is the instance n.
pub record IsFirstInlineStartAt (e : Expanded) (n : ℕ) : Type 0 where
  pub place : ℕ
  pub at : slice_get e.starts place ≡ Some n
  pub inlined : is_inlined e.instances n ≡ true
  pub first : (k m : ℕ) → k < place → slice_get e.starts k ≡ Some m → is_inlined e.instances m ≡ false

pub record IsFirstInlineStart (e : Expanded) (name : List ℕ) : Type 0 where
  pub number : ℕ
  pub named : IsInstanceNamed e number name
  pub first : IsFirstInlineStartAt e number

-- The grammar exceeds a limit.
abbrev pub ExceedsLimits : Grammar → Type 0
ExceedsLimits g = (max_productions < length g.productions) ⊎ Any (λ (p : Production). max_symbols < length p.rhs) g.productions

-- The first start symbol without a finite tree is the instance n.
pub record IsFirstEmptyAt (e : Expanded) (g : Grammar) (n : ℕ) : Type 0 where
  pub place : ℕ
  pub at : slice_get e.starts place ≡ Some n
  pub not_productive : IsProductive (plain_of g) (nonterminal_number e.instances n) → ⊥
  pub first : (k m : ℕ) → k < place → slice_get e.starts k ≡ Some m → IsProductive (plain_of g) (nonterminal_number e.instances m)

pub record IsFirstEmpty (e : Expanded) (g : Grammar) (name : List ℕ) : Type 0 where
  pub number : ℕ
  pub named : IsInstanceNamed e number name
  pub first : IsFirstEmptyAt e g number

-- The first fault of the instances: each case requires that no earlier case holds; `Memory` is always allowed.
abbrev pub IsFault : Expanded → InlineFault → Type 0
IsFault e (InlineCycle name) = IsFirstCyclic e name
IsFault e (InlineStart name) = HasNoCycle e × IsFirstInlineStart e name
IsFault e TooManyProductions = HasNoCycle e × HasNoInlineStart e × (g : Grammar) × IsInlined e g × ExceedsLimits g
IsFault e (EmptyLanguage name) = HasNoCycle e × HasNoInlineStart e × (g : Grammar) × IsInlined e g × IsWithinLimits g × IsFirstEmpty e g name
IsFault e Memory = Unit {0}

-- The fault is not that memory ran out.
abbrev pub IsNotMemory : InlineFault → Type 0
IsNotMemory (InlineCycle name) = Unit {0}
IsNotMemory (InlineStart name) = Unit {0}
IsNotMemory TooManyProductions = Unit {0}
IsNotMemory (EmptyLanguage name) = Unit {0}
IsNotMemory Memory = ⊥
