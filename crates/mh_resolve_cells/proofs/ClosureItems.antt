-- Lemmas on the items of the closures of an automaton's states.
use Rattle.std.proofs.Common.{◌≡◌, ℕ, suc, ◌<◌, ◌≤◌, ◌⊎◌, List, ◌∷◌, length, drop, Some, refl, arith, inl, inr}
use Rattle.std.proofs.lemmas.Bool.{cases_lt}
use Rattle.std.proofs.lemmas.List.{get_or_past}
use Rattle.mh_grammar.specs.declared.types.Symbol.{Symbol}
use Rattle.mh_grammar.specs.declared.types.Symbol.TheVariants.{N}
use Rattle.mh_grammar.specs.declared.types.Look.{Look}
use Rattle.mh_grammar.specs.declared.types.Look.TheVariants.{End}
use Rattle.mh_grammar.specs.Plain.{PlainGrammar, production_count, rhs_of, lhs_of}
use Rattle.mh_grammar.specs.ItemSets.{ItemSet, Close, given, added, Moved, moved}
use Rattle.mh_items_kernels.specs.KernelTypes.{Kernel}
use Rattle.mh_items_kernels.specs.KernelTypes.{Automaton}
use Rattle.mh_items_kernels.specs.Kernels.{Holds, HasCoreItem, IsKernelItem, IsItemList}
use Rattle.mh_items_kernels.specs.Collection.{HasItem}
use Rattle.mh_items_kernels.specs.Automaton.{IsAutomaton, no_kernel, kernel_at, kernel_of, closure_of, leads_to}
use Rattle.mh_grammar.proofs.Lists.{recursion_contains}

-- The properties of each item of a closure.
pub record IsClosureItem (g : PlainGrammar) (p d : ℕ) (look : Look) : Type 0 where
  pub production : p < production_count g
  pub dot : d ≤ length (rhs_of g p)
  pub start : p < length g.starts → look ≡ End

held_is_item : (g : PlainGrammar) (k : Kernel) → IsItemList g k → ((p d : ℕ) (look : Look) → Holds k p d look → p < length g.starts → look ≡ End) → (p d : ℕ) (look : Look) → Holds k p d look → IsClosureItem g p d look
held_is_item g k h at_end p d look held =
    let item = held.0 in
    let is = recursion_contains (IsKernelItem g) k.items h.items item held.1 in
    let same : item.production ≡ p = held.2 in
    let dot : item.dot ≡ d = held.3 in
    record {
      production = rw (← same) is.production;
      dot = rw (← same) (rw (← dot) is.dot);
      start = at_end p d look held;
    }

closed_is_item : (g : PlainGrammar) (I : ItemSet) → ((p d : ℕ) (look : Look) → I p d look → IsClosureItem g p d look) → (p d : ℕ) (look : Look) → Close g I p d look → IsClosureItem g p d look
closed_is_item g I h p d look (given c) = h p d look c
closed_is_item g I h p d look (added c e is b) = record {
  production = is.known;
  dot = omega arith;
  start = λ lt. absurd (let ge = is.ordinary in omega arith);
}

-- If a closure has an item, its kernel has one.
closed_from : (g : PlainGrammar) (I : ItemSet) (p d : ℕ) (look : Look) → Close g I p d look → HasItem I
closed_from g I p d look (given c) = record { production = p; dot = d; look = look; holds = c }
closed_from g I p d look (added {p = q} {d = e} {a = l} c s is b) = closed_from g I q e l c

-- An item of a closure is in the kernel, or has dot 0 in a production of a nonterminal at a dot.
record IsBegun (g : PlainGrammar) (I : ItemSet) (p d : ℕ) : Type 0 where
  dot : d ≡ 0
  ordinary : length g.starts ≤ p
  from : HasItem (Close g I)
  rest : List Symbol
  before : drop from.dot (rhs_of g from.production) ≡ N (lhs_of g p) ∷ rest

closed_cases : (g : PlainGrammar) (I : ItemSet) (p d : ℕ) (look : Look) → Close g I p d look → I p d look ⊎ IsBegun g I p d
closed_cases g I p d look (given c) = inl c
closed_cases g I p d look (added {p = q} {d = e} {y = y} {a = l} c s is b) = inr (record {
  dot = refl;
  ordinary = is.ordinary;
  from = record { production = q; dot = e; look = l; holds = c };
  rest = y;
  before = rw is.lhs s;
})

-- The kernel of a number that is not that of a state is empty.
pub kernel_past : (a : Automaton) (s : ℕ) → length a.kernels ≤ s → kernel_at a s ≡ no_kernel
unfolding kernel_at
kernel_past a s h = get_or_past a.kernels s no_kernel h

held_within : (a : Automaton) (s p d : ℕ) (look : Look) → kernel_of a s p d look → s < length a.kernels
held_within a s p d look h =
    elim (cases_lt s (length a.kernels)) [
      | inl lt ↦ lt
      | inr ge ↦ (let past = kernel_past a s ge in let c = rw past at h.1 in absurd (omega (arith, c.1)))
    ]

pub closure_within : (g : PlainGrammar) (a : Automaton) (s p d : ℕ) (look : Look) → closure_of g a s p d look → s < length a.kernels
closure_within g a s p d look c = let from = closed_from g (kernel_of a s) p d look c in held_within a s from.production from.dot from.look from.holds

-- An item of a state's closure has the properties of closure items.
pub closure_is_item : (g : PlainGrammar) (a : Automaton) → IsAutomaton g a → (s p d : ℕ) (look : Look) → closure_of g a s p d look → IsClosureItem g p d look
closure_is_item g a h s p d look c = closed_is_item g (kernel_of a s) (held_is_item g (kernel_at a s) (h.each s (closure_within g a s p d look c)) (h.at_end s)) p d look c

-- If an item of the closure has its dot before X, the state has an edge on X.
edge_from : (g : PlainGrammar) (a : Automaton) → IsAutomaton g a → (s p d : ℕ) (look : Look) (X : Symbol) (rest : List Symbol) → closure_of g a s p d look → drop d (rhs_of g p) ≡ X ∷ rest → (u : ℕ) × (leads_to a s X ≡ Some u)
edge_from g a h s p d look X rest c before =
    h.edge s X (closure_within g a s p d look c) (record { production = p; dot = suc d; look = look; moves = moved c before })

-- An item of a state's closure is in its kernel, or has dot 0 and the state has an edge on its left side.
pub record Begins (g : PlainGrammar) (a : Automaton) (s : ℕ) (p : ℕ) : Type 0 where
  pub ordinary : length g.starts ≤ p
  pub target : ℕ
  pub goto : leads_to a s (N (lhs_of g p)) ≡ Some target

pub core_item_or_begins : (g : PlainGrammar) (a : Automaton) → IsAutomaton g a → (s p d : ℕ) (look : Look) → closure_of g a s p d look → HasCoreItem (kernel_at a s) p d ⊎ ((d ≡ 0) × Begins g a s p)
core_item_or_begins g a h s p d look c =
    elim (closed_cases g (kernel_of a s) p d look c) [
      | inl held ↦ inl (held.0, held.1, held.2, held.3)
      | inr begun ↦ (
          let found = edge_from g a h s begun.from.production begun.from.dot begun.from.look (N (lhs_of g p)) begun.rest begun.from.holds begun.before in
          inr (begun.dot, record { ordinary = begun.ordinary; target = found.0; goto = found.1 }))
    ]

-- A moved item, by the item from which it comes.
pub record IsMoveOfItem (g : PlainGrammar) (I : ItemSet) (X : Symbol) (p d : ℕ) (look : Look) : Type 0 where
  pub place : ℕ
  pub rest : List Symbol
  pub dot : d ≡ suc place
  pub in_set : I p place look
  pub before : drop place (rhs_of g p) ≡ X ∷ rest

pub move_origin : (g : PlainGrammar) (I : ItemSet) (X : Symbol) (p d : ℕ) (look : Look) → Moved g I X p d look → IsMoveOfItem g I X p d look
move_origin g I X p d look (moved {d = e} {y = y} c s) = record { place = e; rest = y; dot = refl; in_set = c; before = s }
