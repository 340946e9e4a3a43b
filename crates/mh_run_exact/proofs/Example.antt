-- Proves that the example satisfies the premises of the laws on exact verdicts.
use Rattle.std.proofs.Common.{◌≡◌, ℕ, zero, suc, ◌<◌, ◌≤◌, List, [], ◌∷◌, length, drop, map, get_or, Some, None, false, refl, ap, sym, subst, arith, ◌∙◌, inl, inr, rules}
use Rattle.std.proofs.lemmas.Bool.Decides.{nat_tests}
use Rattle.std.proofs.lemmas.List.{get_or_past}
use Rattle.std.proofs.lemmas.List.Elements.{All-cons, All-nil}
use Rattle.mh_grammar.specs.declared.types.Symbol.{Symbol}
use Rattle.mh_grammar.specs.declared.types.Symbol.TheVariants.{T, N}
use Rattle.mh_grammar.specs.declared.types.Look.{Look}
use Rattle.mh_grammar.specs.declared.types.Look.TheVariants.{Token, End}
use Rattle.mh_grammar.specs.declared.types.TokenInfo.{TokenInfo}
use Rattle.mh_grammar.specs.declared.edges.Edge.{Edge}
use Rattle.mh_grammar.specs.Costs.{IsCost, HaveCosts}
use Rattle.mh_grammar.specs.Derivations as trees
use Rattle.mh_grammar.specs.Edges.{IsRising, IsEdgeBefore, find_edge, same_symbol}
use Rattle.mh_grammar.specs.First.{FirstOf}
use Rattle.mh_grammar.specs.ItemSets as items
use Rattle.mh_grammar.specs.ItemSets.{Close, given, added, Moved, moved, MayBegin}
use Rattle.mh_grammar.specs.Plain.{PlainGrammar, plain_of, rhs_of, lhs_of, IsProductionFor, Derives, IsInRange}
use Rattle.mh_items_kernels.specs.KernelTypes.{Kernel}
use Rattle.mh_items_kernels.specs.Kernels.{Holds, HasCoreItem, IsItemList}
use Rattle.mh_items_kernels.specs.Automaton.{IsAutomaton, HasMove, IsTarget, kernel_at, edges_at, kernel_of, closure_of, move_of, leads_to, no_kernel, start_kernel}
use Rattle.mh_tables_core.specs.declared.parts.Action.{Action}
use Rattle.mh_tables_core.specs.declared.parts.Action.TheVariants.{Shift, Reduce, Refuse}
use Rattle.mh_tables_core.specs.Table.{no_state}
use Rattle.mh_resolve_cells.specs.declared.kinds.Mode.TheVariants.{Canonical}
use Rattle.mh_resolve_cells.specs.States.{State, state_of, Raw, IsKeptOn, HasDefault, IsCell, IsResolved, AreResolved, core_item_of}
use Rattle.mh_resolve_cells.specs.NoConflicts.{IsConflictFreeState}
use Rattle.mh_resolve_cells.proofs.ActsCompletely.{kept_raw}
use Rattle.mh_resolve_cells.proofs.ClosureItems.{move_origin, closure_within}
use Rattle.mh_resolve_cells.proofs.OneResolution.{raw_is_chosen}
use Rattle.mh_resolve_cells.proofs.IsResolved.{chosen_is_raw, chosen_remains}
use Rattle.mh_resolve_cells.proofs.TableFacts.{facts}
use Rattle.mh_run_exact.specs.Exactness.{AllProductive}
use Rattle.mh_run_exact.specs.Example.{one_grammar, one_automaton, one_states, one_table, MeetsPremises}
use Rattle.mh_run_exact.proofs.TableEdges.{IsSingleItem, kernel_with, Holds-kernel_with, HasCoreItem-kernel_with, Holds-kernel_with_only}

abbrev g : PlainGrammar
g = plain_of one_grammar

rhs_0 : rhs_of g 0 ≡ N 0 ∷ []
unfolding rhs_of
rhs_0 = refl

rhs_1 : rhs_of g 1 ≡ T 0 ∷ []
unfolding rhs_of
rhs_1 = refl

lhs_1 : lhs_of g 1 ≡ 0
unfolding lhs_of
lhs_1 = refl

kernel_0 : kernel_at one_automaton 0 ≡ kernel_with 0 0
unfolding kernel_at
kernel_0 = refl

kernel_1 : kernel_at one_automaton 1 ≡ kernel_with 1 1
unfolding kernel_at
kernel_1 = refl

kernel_2 : kernel_at one_automaton 2 ≡ kernel_with 0 1
unfolding kernel_at
kernel_2 = refl

kernel_past : (s : ℕ) → kernel_at one_automaton (suc (suc (suc s))) ≡ no_kernel
unfolding kernel_at
kernel_past s = get_or_past one_automaton.kernels (suc (suc (suc s))) no_kernel (omega arith)

abbrev first_edges : List Edge
first_edges = record { symbol = T 0; target = 1 } ∷ record { symbol = N 0; target = 2 } ∷ []

edges_0 : edges_at one_automaton 0 ≡ first_edges
unfolding edges_at
edges_0 = refl

edges_1 : edges_at one_automaton 1 ≡ []
unfolding edges_at
edges_1 = refl

edges_2 : edges_at one_automaton 2 ≡ []
unfolding edges_at
edges_2 = refl

edges_past : (s : ℕ) → edges_at one_automaton (suc (suc (suc s))) ≡ []
unfolding edges_at
edges_past s = get_or_past one_automaton.edges (suc (suc (suc s))) [] (omega arith)

-- The closure of the start state.
data InFirst : ℕ → ℕ → Look → Type 0 where
  begin : InFirst 0 0 End
  next : InFirst 1 0 End

no_first : (z : ℕ) → FirstOf g [] z → ⊥
no_first z h = elim h [ ]

empty_begins : (y : List Symbol) (look : Look) → y ≡ [] → MayBegin g y End look → look ≡ End
empty_begins y look none (items.MayBegin.begins {z} f) = absurd (no_first z (rw none at f))
empty_begins y look none (items.MayBegin.passes d) = refl

ordinary_one : (n q : ℕ) → IsProductionFor g n q → q ≡ 1
ordinary_one n q i = let low = i.ordinary in let high = i.known in omega arith

first_adds : (p d n q : ℕ) (y : List Symbol) (from look : Look) → InFirst p d from → drop d (rhs_of g p) ≡ N n ∷ y → IsProductionFor g n q → MayBegin g y from look → InFirst q 0 look
first_adds p d n q y from look begin e i b =
    let rest : N 0 ∷ [] ≡ N n ∷ y = sym rhs_0 ∙ e in
    let none : y ≡ [] = cc in
    let same : q ≡ 1 = ordinary_one n q i in
    let end : look ≡ End = empty_begins y look none b in
    rw (same, end) next
first_adds p d n q y from look next e i b = let rest : T 0 ∷ [] ≡ N n ∷ y = sym rhs_1 ∙ e in cc

first_closed : (p d : ℕ) (look : Look) → Close g (Holds (kernel_with 0 0)) p d look → InFirst p d look
first_closed p d look (given k) = let x = Holds-kernel_with_only 0 0 p d look k in rw (x.production, x.dot, x.at_end) begin
first_closed p d look (added {p = p'} {d = d'} {n} {y = y} {a = from} c e i b) = first_adds p' d' n p y from look (first_closed p' d' from c) e i b

in_first : (p d : ℕ) (look : Look) → closure_of g one_automaton 0 p d look → InFirst p d look
in_first p d look c = first_closed p d look (subst (λ (k : Kernel). Close g (Holds k) p d look) kernel_0 c)

has_begin : closure_of g one_automaton 0 0 0 End
has_begin = given (subst (λ (k : Kernel). Holds k 0 0 End) (sym kernel_0) (Holds-kernel_with 0 0))

one_is_for : IsProductionFor g 0 1
one_is_for = record { ordinary = omega arith; known = omega arith; lhs = lhs_1 }

has_next : closure_of g one_automaton 0 1 0 End
has_next = added has_begin rhs_0 one_is_for (items.MayBegin.passes trees.Derivations.none)

-- The closures of the other states add no items.
done_closed : (q : ℕ) → drop 1 (rhs_of g q) ≡ [] → (p d : ℕ) (look : Look) → Close g (Holds (kernel_with q 1)) p d look → IsSingleItem q 1 p d look
done_closed q h p d look (given k) = Holds-kernel_with_only q 1 p d look k
done_closed q h p d look (added {p = p'} {d = d'} {n} {y = y} {a = from} c e i b) =
    let x = done_closed q h p' d' from c in
    let before : drop 1 (rhs_of g q) ≡ N n ∷ y = rw (x.production, x.dot) at e in
    absurd (let no : [] ≡ N n ∷ y = sym h ∙ before in cc)

done_0 : drop 1 (rhs_of g 0) ≡ []
done_0 = ap (drop 1) rhs_0

done_1 : drop 1 (rhs_of g 1) ≡ []
done_1 = ap (drop 1) rhs_1

in_done : (s q : ℕ) → kernel_at one_automaton s ≡ kernel_with q 1 → drop 1 (rhs_of g q) ≡ [] → (p d : ℕ) (look : Look) → closure_of g one_automaton s p d look → IsSingleItem q 1 p d look
in_done s q k h p d look c = done_closed q h p d look (subst (λ (i : Kernel). Close g (Holds i) p d look) k c)

-- The state has only this raw action, on this look.
abbrev OnlyRaw : State → Look → Action → Type 0
OnlyRaw s look a = (l : Look) (b : Action) → Raw s l b → (l ≡ look) × (b ≡ a)

later_token : (z : ℕ) → same_symbol (T 0) (T (suc z)) ≡ false
later_token z = grind (arith, nat_tests)

later_nonterminal : (n : ℕ) → same_symbol (N 0) (N (suc n)) ≡ false
later_nonterminal n = grind (arith, nat_tests)

no_shift : (z : ℕ) → find_edge first_edges (T (suc z)) ≡ None
no_shift z = rw (later_token z) refl

no_goto : (n : ℕ) → find_edge first_edges (N (suc n)) ≡ None
no_goto n = rw (later_nonterminal n) refl

first_shift : (z j : ℕ) → find_edge first_edges (T z) ≡ Some j → (z ≡ 0) × (j ≡ 1)
first_shift zero j e = (refl, cc)
first_shift (suc z) j e = absurd (let no : None ≡ Some j = sym (no_shift z) ∙ e in cc)

first_goto : (n j : ℕ) → find_edge first_edges (N n) ≡ Some j → (n ≡ 0) × (j ≡ 2)
first_goto zero j e = (refl, cc)
first_goto (suc n) j e = absurd (let no : None ≡ Some j = sym (no_goto n) ∙ e in cc)

none_complete : (p d : ℕ) (look : Look) → length (rhs_of g p) ≡ d → InFirst p d look → ⊥
none_complete p d look e begin = let l = ap length rhs_0 in omega arith
none_complete p d look e next = let l = ap length rhs_1 in omega arith

raw_0 : OnlyRaw (state_of one_grammar one_automaton 0) (Token 0) (Shift 1)
raw_0 look (Reduce p) r = absurd (none_complete p (length (rhs_of g p)) look refl (in_first p (length (rhs_of g p)) look r))
raw_0 (Token z) (Shift j) r = let x = first_shift z j (ap (λ (es : List Edge). find_edge es (T z)) (sym edges_0) ∙ r) in (ap Token x.0, ap Shift x.1)
raw_0 End (Shift j) r = absurd (let e : None ≡ Some j = r in cc)
raw_0 look Refuse r = absurd r

raw_done : (s q : ℕ) → kernel_at one_automaton s ≡ kernel_with q 1 → edges_at one_automaton s ≡ [] → drop 1 (rhs_of g q) ≡ [] → OnlyRaw (state_of one_grammar one_automaton s) End (Reduce q)
raw_done s q k es h look (Reduce p) r = let x = in_done s q k h p (length (rhs_of g p)) look r in (x.at_end, ap Reduce x.production)
raw_done s q k es h (Token z) (Shift j) r = absurd (let e : None ≡ Some j = ap (λ (l : List Edge). find_edge l (T z)) (sym es) ∙ r in cc)
raw_done s q k es h End (Shift j) r = absurd (let e : None ≡ Some j = r in cc)
raw_done s q k es h look Refuse r = absurd r

conflict_free_by : (s : State) (look : Look) (a : Action) → OnlyRaw s look a → IsConflictFreeState s
conflict_free_by s look a h = record {
  no_conflict = λ l c. c.differ ((h l c.one c.raw_one).1 ∙ sym (h l c.other c.raw_other).1);
  no_stream_conflict = λ x. (let no : End ≡ Token x.token = (h End x.last (chosen_is_raw s End x.last x.takes_last)).0 ∙ sym (h (Token x.token) x.other (chosen_is_raw s (Token x.token) x.other x.takes_other)).0 in cc);
}

-- The state reduces p by default.
module _ (s : State) (p : ℕ) (h : OnlyRaw s End (Reduce p)) (r : Raw s End (Reduce p)) where
  keeps : IsKeptOn s End (Reduce p)
  keeps = let clear = conflict_free_by s End (Reduce p) h in (raw_is_chosen s End (clear.no_conflict End) (Reduce p) r, clear.no_stream_conflict)

  defaults : HasDefault Canonical s p
  defaults =
      let clear = conflict_free_by s End (Reduce p) h in
      record {
        look = End;
        some = keeps;
        all = λ l a k. (h l a (kept_raw s l a k)).1;
        no_hole = λ l x. x.none_remains x.action (chosen_remains s l x.action (raw_is_chosen s l (clear.no_conflict l) x.action x.raw));
        canonical = λ e. keeps;
      }

  refuses : (z : ℕ) → IsCell Canonical s z Refuse
  refuses z = inr (refl, λ b f. elim f [ inl t ↦ (let no : Token z ≡ End = (h (Token z) b (chosen_is_raw s (Token z) b t)).0 in cc) | inr x ↦ x.1 p defaults ])

refuse_at : (P : Action → Type 0) (z : ℕ) → P Refuse → P (get_or (Refuse ∷ []) z Refuse)
refuse_at P zero h = h
refuse_at P (suc z) h = h

abbrev s_0 : State
s_0 = state_of one_grammar one_automaton 0

abbrev s_1 : State
s_1 = state_of one_grammar one_automaton 1

abbrev s_2 : State
s_2 = state_of one_grammar one_automaton 2

only_1 : OnlyRaw s_1 End (Reduce 1)
only_1 = raw_done 1 1 kernel_1 edges_1 done_1

only_2 : OnlyRaw s_2 End (Reduce 0)
only_2 = raw_done 2 0 kernel_2 edges_2 done_0

reduce_1 : Raw s_1 End (Reduce 1)
reduce_1 = let l : 1 ≡ length (rhs_of g 1) = ap length (sym rhs_1) in
    subst (λ (d : ℕ). closure_of g one_automaton 1 1 d End) l (given (subst (λ (k : Kernel). Holds k 1 1 End) (sym kernel_1) (Holds-kernel_with 1 1)))

reduce_2 : Raw s_2 End (Reduce 0)
reduce_2 = let l : 1 ≡ length (rhs_of g 0) = ap length (sym rhs_0) in
    subst (λ (d : ℕ). closure_of g one_automaton 2 0 d End) l (given (subst (λ (k : Kernel). Holds k 0 1 End) (sym kernel_2) (Holds-kernel_with 0 1)))

shift_0 : Raw s_0 (Token 0) (Shift 1)
shift_0 = ap (λ (es : List Edge). find_edge es (T 0)) edges_0

cell_0 : (z : ℕ) → z < 1 → IsCell Canonical s_0 z (get_or (Shift 1 ∷ []) z Refuse)
cell_0 zero lt = inl (inl (raw_is_chosen s_0 (Token 0) ((conflict_free_by s_0 (Token 0) (Shift 1) raw_0).no_conflict (Token 0)) (Shift 1) shift_0))
cell_0 (suc z) lt = absurd (omega arith)

no_default_0 : (p : ℕ) → HasDefault Canonical s_0 p → ⊥
no_default_0 p d = let no : Reduce p ≡ Shift 1 = (raw_0 d.look (Reduce p) (kept_raw s_0 d.look (Reduce p) d.some)).1 in cc

resolved_0 : IsResolved Canonical s_0 (kernel_at one_automaton 0) (get_or one_states 0 no_state)
resolved_0 = record {
  width = refl;
  cells = cell_0;
  fallback = no_default_0;
  edges = sym edges_0;
  core = sym (ap (λ (k : Kernel). map core_item_of k.items) kernel_0);
}

resolved_1 : IsResolved Canonical s_1 (kernel_at one_automaton 1) (get_or one_states 1 no_state)
resolved_1 = record {
  width = refl;
  cells = λ z lt. refuse_at (IsCell Canonical s_1 z) z (refuses s_1 1 only_1 reduce_1 z);
  fallback = (omega arith, defaults s_1 1 only_1 reduce_1);
  edges = sym edges_1;
  core = sym (ap (λ (k : Kernel). map core_item_of k.items) kernel_1);
}

resolved_2 : IsResolved Canonical s_2 (kernel_at one_automaton 2) (get_or one_states 2 no_state)
resolved_2 = record {
  width = refl;
  cells = λ z lt. refuse_at (IsCell Canonical s_2 z) z (refuses s_2 0 only_2 reduce_2 z);
  fallback = (0, omega arith, defaults s_2 0 only_2 reduce_2);
  edges = sym edges_2;
  core = sym (ap (λ (k : Kernel). map core_item_of k.items) kernel_2);
}

each_resolved : (s : ℕ) → s < 3 → IsResolved Canonical (state_of one_grammar one_automaton s) (kernel_at one_automaton s) (get_or one_states s no_state)
each_resolved zero lt = resolved_0
each_resolved (suc zero) lt = resolved_1
each_resolved (suc (suc zero)) lt = resolved_2
each_resolved (suc (suc (suc s))) lt = absurd (omega arith)

are_resolved : AreResolved one_grammar one_automaton Canonical one_states
are_resolved = record { count = refl; each = each_resolved }

each_conflict_free : (s : ℕ) → s < 3 → IsConflictFreeState (state_of one_grammar one_automaton s)
each_conflict_free zero lt = conflict_free_by s_0 (Token 0) (Shift 1) raw_0
each_conflict_free (suc zero) lt = conflict_free_by s_1 End (Reduce 1) only_1
each_conflict_free (suc (suc zero)) lt = conflict_free_by s_2 End (Reduce 0) only_2
each_conflict_free (suc (suc (suc s))) lt = absurd (omega arith)

-- The next lemmas prove that the automaton of the example satisfies `IsAutomaton` for its grammar.
is_kernel : (q e : ℕ) → q < 2 → e ≤ length (rhs_of g q) → IsItemList g (kernel_with q e)
is_kernel q e lt le = record {
  items = (record { production = omega arith; dot = omega arith; looks = (tt, tt); rising = (tt, tt); some = omega arith }, tt);
  rising = (tt, tt);
}

each_kernel : (s : ℕ) → s < 3 → IsItemList g (kernel_at one_automaton s)
each_kernel zero lt = subst (IsItemList g) (sym kernel_0) (is_kernel 0 0 (omega arith) (omega arith))
each_kernel (suc zero) lt = let l = ap length rhs_1 in subst (IsItemList g) (sym kernel_1) (is_kernel 1 1 (omega arith) (omega arith))
each_kernel (suc (suc zero)) lt = let l = ap length rhs_0 in subst (IsItemList g) (sym kernel_2) (is_kernel 0 1 (omega arith) (omega arith))
each_kernel (suc (suc (suc s))) lt = absurd (omega arith)

each_start : (i : ℕ) → i < 1 → kernel_at one_automaton i ≡ start_kernel i
each_start zero lt = kernel_0
each_start (suc i) lt = absurd (omega arith)

each_filled : (s : ℕ) → s < 3 → 0 < length (kernel_at one_automaton s).items
each_filled zero lt = subst (λ (k : Kernel). 0 < length k.items) (sym kernel_0) (omega arith)
each_filled (suc zero) lt = subst (λ (k : Kernel). 0 < length k.items) (sym kernel_1) (omega arith)
each_filled (suc (suc zero)) lt = subst (λ (k : Kernel). 0 < length k.items) (sym kernel_2) (omega arith)
each_filled (suc (suc (suc s))) lt = absurd (omega arith)

each_end : (s p d : ℕ) (look : Look) → s < 3 → kernel_of one_automaton s p d look → look ≡ End
each_end zero p d look lt h = (Holds-kernel_with_only 0 0 p d look (subst (λ (k : Kernel). Holds k p d look) kernel_0 h)).at_end
each_end (suc zero) p d look lt h = (Holds-kernel_with_only 1 1 p d look (subst (λ (k : Kernel). Holds k p d look) kernel_1 h)).at_end
each_end (suc (suc zero)) p d look lt h = (Holds-kernel_with_only 0 1 p d look (subst (λ (k : Kernel). Holds k p d look) kernel_2 h)).at_end
each_end (suc (suc (suc s))) p d look lt h = absurd (omega arith)

each_moved : (s p d : ℕ) → 1 ≤ s → HasCoreItem (kernel_at one_automaton s) p d → 0 < d
each_moved zero p d le h = absurd (omega arith)
each_moved (suc zero) p d le h = let x = (HasCoreItem-kernel_with 1 1 p d (subst (λ (k : Kernel). HasCoreItem k p d) kernel_1 h)).1 in omega arith
each_moved (suc (suc zero)) p d le h = let x = (HasCoreItem-kernel_with 0 1 p d (subst (λ (k : Kernel). HasCoreItem k p d) kernel_2 h)).1 in omega arith
each_moved (suc (suc (suc s))) p d le h = let x = subst (λ (k : Kernel). HasCoreItem k p d) (kernel_past s) h in absurd (omega (arith, x.1.1))

each_order : (s : ℕ) → s < 3 → IsRising IsEdgeBefore (edges_at one_automaton s)
each_order zero lt = subst (IsRising IsEdgeBefore) (sym edges_0) ((tt, tt), (tt, tt))
each_order (suc zero) lt = subst (IsRising IsEdgeBefore) (sym edges_1) tt
each_order (suc (suc zero)) lt = subst (IsRising IsEdgeBefore) (sym edges_2) tt
each_order (suc (suc (suc s))) lt = absurd (omega arith)

lead_T : leads_to one_automaton 0 (T 0) ≡ Some 1
lead_T = ap (λ (es : List Edge). find_edge es (T 0)) edges_0

lead_N : leads_to one_automaton 0 (N 0) ≡ Some 2
lead_N = ap (λ (es : List Edge). find_edge es (N 0)) edges_0

first_leads : (p d : ℕ) (look : Look) (X : Symbol) (rest : List Symbol) → InFirst p d look → drop d (rhs_of g p) ≡ X ∷ rest → (u : ℕ) × (leads_to one_automaton 0 X ≡ Some u)
first_leads p d look X rest begin e = let at : N 0 ∷ [] ≡ X ∷ rest = sym rhs_0 ∙ e in let same : X ≡ N 0 = cc in rw same (2, lead_N)
first_leads p d look X rest next e = let at : T 0 ∷ [] ≡ X ∷ rest = sym rhs_1 ∙ e in let same : X ≡ T 0 = cc in rw same (1, lead_T)

nothing_after_dot : (q : ℕ) → drop 1 (rhs_of g q) ≡ [] → (p d : ℕ) (look : Look) (X : Symbol) (rest : List Symbol) → IsSingleItem q 1 p d look → drop d (rhs_of g p) ≡ X ∷ rest → ⊥
nothing_after_dot q h p d look X rest x e =
    let before : drop 1 (rhs_of g q) ≡ X ∷ rest = rw (x.production, x.dot) at e in
    let no : [] ≡ X ∷ rest = sym h ∙ before in cc

done_still : (s q : ℕ) → kernel_at one_automaton s ≡ kernel_with q 1 → drop 1 (rhs_of g q) ≡ [] → (X : Symbol) → HasMove g one_automaton s X → ⊥
done_still s q k h X m =
    let c = move_origin g (closure_of g one_automaton s) X m.production m.dot m.look m.moves in
    nothing_after_dot q h m.production c.place m.look X c.rest (in_done s q k h m.production c.place m.look c.in_set) c.before

each_edge : (s : ℕ) (X : Symbol) → s < 3 → HasMove g one_automaton s X → (u : ℕ) × (leads_to one_automaton s X ≡ Some u)
each_edge zero X lt m =
    let c = move_origin g (closure_of g one_automaton 0) X m.production m.dot m.look m.moves in
    first_leads m.production c.place m.look X c.rest (in_first m.production c.place m.look c.in_set) c.before
each_edge (suc zero) X lt m = absurd (done_still 1 1 kernel_1 done_1 X m)
each_edge (suc (suc zero)) X lt m = absurd (done_still 2 0 kernel_2 done_0 X m)
each_edge (suc (suc (suc s))) X lt m = absurd (omega arith)

-- The edges of the start state move these items.
over_T : move_of g one_automaton 0 (T 0) 1 1 End
over_T = moved has_next rhs_1

over_N : move_of g one_automaton 0 (N 0) 0 1 End
over_N = moved has_begin rhs_0

first_over_T : (p d : ℕ) (look : Look) (rest : List Symbol) → InFirst p d look → drop d (rhs_of g p) ≡ T 0 ∷ rest → IsSingleItem 1 0 p d look
first_over_T p d look rest begin e = let at : N 0 ∷ [] ≡ T 0 ∷ rest = sym rhs_0 ∙ e in cc
first_over_T p d look rest next e = record { production = refl; dot = refl; at_end = refl }

first_over_N : (p d : ℕ) (look : Look) (rest : List Symbol) → InFirst p d look → drop d (rhs_of g p) ≡ N 0 ∷ rest → IsSingleItem 0 0 p d look
first_over_N p d look rest begin e = record { production = refl; dot = refl; at_end = refl }
first_over_N p d look rest next e = let at : T 0 ∷ [] ≡ N 0 ∷ rest = sym rhs_1 ∙ e in cc

holds_1 : (p d : ℕ) (look : Look) → IsSingleItem 1 1 p d look → kernel_of one_automaton 1 p d look
holds_1 p d look x = rw (x.production, x.dot, x.at_end) (subst (λ (k : Kernel). Holds k 1 1 End) (sym kernel_1) (Holds-kernel_with 1 1))

holds_2 : (p d : ℕ) (look : Look) → IsSingleItem 0 1 p d look → kernel_of one_automaton 2 p d look
holds_2 p d look x = rw (x.production, x.dot, x.at_end) (subst (λ (k : Kernel). Holds k 0 1 End) (sym kernel_2) (Holds-kernel_with 0 1))

carried_T : (p d : ℕ) (look : Look) → move_of g one_automaton 0 (T 0) p d look → IsSingleItem 1 1 p d look
carried_T p d look m =
    let c = move_origin g (closure_of g one_automaton 0) (T 0) p d look m in
    let x = first_over_T p c.place look c.rest (in_first p c.place look c.in_set) c.before in
    record { production = x.production; dot = c.dot ∙ ap suc x.dot; at_end = x.at_end }

carried_N : (p d : ℕ) (look : Look) → move_of g one_automaton 0 (N 0) p d look → IsSingleItem 0 1 p d look
carried_N p d look m =
    let c = move_origin g (closure_of g one_automaton 0) (N 0) p d look m in
    let x = first_over_N p c.place look c.rest (in_first p c.place look c.in_set) c.before in
    record { production = x.production; dot = c.dot ∙ ap suc x.dot; at_end = x.at_end }

target_T : IsTarget g one_automaton 0 (T 0) 1
target_T = record {
  known = omega arith;
  core = λ p d h. (let x = HasCoreItem-kernel_with 1 1 p d (subst (λ (k : Kernel). HasCoreItem k p d) kernel_1 h) in (End, rw (x.0, x.1) over_T));
  looks = λ p d look m. holds_1 p d look (carried_T p d look m);
}

target_N : IsTarget g one_automaton 0 (N 0) 2
target_N = record {
  known = omega arith;
  core = λ p d h. (let x = HasCoreItem-kernel_with 0 1 p d (subst (λ (k : Kernel). HasCoreItem k p d) kernel_2 h) in (End, rw (x.0, x.1) over_N));
  looks = λ p d look m. holds_2 p d look (carried_N p d look m);
}

abbrev Carries : ℕ → Symbol → ℕ → Type 0
Carries s X u = HasMove g one_automaton s X × IsTarget g one_automaton s X u

first_target : (X : Symbol) (u : ℕ) → find_edge first_edges X ≡ Some u → Carries 0 X u
first_target (T z) u e = let x = first_shift z u e in rw (x.0, x.1) (record { production = 1; dot = 1; look = End; moves = over_T }, target_T)
first_target (N n) u e = let x = first_goto n u e in rw (x.0, x.1) (record { production = 0; dot = 1; look = End; moves = over_N }, target_N)

none_leads : (s : ℕ) (X : Symbol) (u : ℕ) → edges_at one_automaton s ≡ [] → leads_to one_automaton s X ≡ Some u → ⊥
none_leads s X u es e = let no : None ≡ Some u = ap (λ (l : List Edge). find_edge l X) (sym es) ∙ e in cc

each_target : (s : ℕ) (X : Symbol) (u : ℕ) → leads_to one_automaton s X ≡ Some u → Carries s X u
each_target zero X u e = first_target X u (ap (λ (es : List Edge). find_edge es X) (sym edges_0) ∙ e)
each_target (suc zero) X u e = absurd (none_leads 1 X u edges_1 e)
each_target (suc (suc zero)) X u e = absurd (none_leads 2 X u edges_2 e)
each_target (suc (suc (suc s))) X u e = absurd (none_leads (suc (suc (suc s))) X u (edges_past s) e)

is_automaton : IsAutomaton g one_automaton
is_automaton = record {
  enough_states = omega arith;
  few = omega arith;
  rows = refl;
  each = each_kernel;
  starts = each_start;
  filled = each_filled;
  at_end = λ s p d look h lt. each_end s p d look (closure_within g one_automaton s p d look (given h)) h;
  moved = each_moved;
  order = each_order;
  edge = each_edge;
  target = each_target;
}

in_range : IsInRange g
in_range = search rules

have_costs : HaveCosts one_grammar.tokens
have_costs = All-cons (λ (token : TokenInfo). IsCost token.cost) (record { name = 65 ∷ []; level = None; cost = 1 }) [] (omega arith, omega arith) (All-nil (λ (token : TokenInfo). IsCost token.cost))

-- The word A is a sentence of the example.
one_sentence : Derives g (N 0) (0 ∷ [])
one_sentence = trees.Derivation.node (1, one_is_for, rhs_1) (trees.Derivations.more refl (trees.Derivation.leaf refl) trees.Derivations.none)

all_productive : AllProductive g
all_productive zero lt = (0 ∷ [], one_sentence)
all_productive (suc n) lt = absurd (omega arith)

pub example_meets_premises : MeetsPremises one_grammar one_automaton Canonical one_table
example_meets_premises = record {
  range = in_range;
  facts = facts one_grammar one_automaton Canonical one_states (record { range = in_range; costs = have_costs; automaton = is_automaton; resolved = are_resolved });
  automaton = is_automaton;
  table = record { grammar = refl; costs = refl; states = are_resolved };
  clear = each_conflict_free;
  productive = all_productive;
  sentence = one_sentence;
}
