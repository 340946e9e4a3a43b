-- Proves that a canonical automaton has the properties that all stages need of an automaton, and that no more item sets
-- are reached than it has states.
use Rattle.std.proofs.Common.{◌≡◌, ℕ, ◌<◌, ◌≤◌, List, [], ◌∷◌, length, refl, arith, inl, inr}
use Rattle.std.specs.List.{AllByRecursion, AllZip, Contains}
use Rattle.std.proofs.lemmas.Bool.{cases_lt}
use Rattle.std.proofs.lemmas.List.Elements.{recursion_from_All}
use Rattle.mh_grammar.specs.declared.types.Symbol.{Symbol}
use Rattle.mh_grammar.specs.declared.types.Look.{Look}
use Rattle.mh_grammar.specs.declared.types.Look.TheVariants.{End}
use Rattle.mh_grammar.specs.Plain.{PlainGrammar}
use Rattle.mh_grammar.specs.ItemSets as items
use Rattle.mh_grammar.specs.ItemSets.{ItemSet, AreSameItems, Close, Moved, StartItems, PathItems}
use Rattle.mh_grammar.specs.Numbering.{AreDistinct}
use Rattle.mh_grammar.proofs.NumberingInvariant.{contains_at, at_contains}
use Rattle.mh_grammar.proofs.Pigeonhole.{length-distinct_in}
use Rattle.mh_items_kernels.specs.KernelTypes.{Kernel}
use Rattle.mh_items_kernels.specs.KernelTypes.{Automaton}
use Rattle.mh_items_kernels.specs.Kernels.{Holds}
use Rattle.mh_items_kernels.specs.Automaton.{kernel_at, kernel_of, start_kernel, IsAutomaton}
use Rattle.mh_canon.specs.Limits.{max_states}
use Rattle.mh_canon.specs.Canonical.{IsCanonical, StartPath, items_of_path, ReachesItems, CanonicalExceeds}
use Rattle.mh_canon.proofs.PartialCollection.{IsItemList-start}
use Rattle.mh_canon.proofs.CollectionIsCanonical.{slice_get-kernel_at, items_within}
use Rattle.mh_items_kernels.proofs.UniqueItemList.{kernel_same}
use Rattle.mh_canon.proofs.ItemSets.{AreSameItems-sym, AreSameItems-trans, Holds-core_item, Moved-positive_dot, Holds-start}
use Rattle.mh_grammar.proofs.Lists.{zip_length, zip_right}

-- A start production has the end of the stream as its only look.
close_end : (g : PlainGrammar) (I : ItemSet) → ((p d : ℕ) (a : Look) → I p d a → p < length g.starts → a ≡ End) → (p d : ℕ) (a : Look) → Close g I p d a → p < length g.starts → a ≡ End
close_end g I h p d a (items.Close.given i) l = h p d a i l
close_end g I h q d b (items.Close.added c e f m) l = absurd (omega (arith, f.ordinary))

start_end : (i p d : ℕ) (a : Look) → StartItems i p d a → a ≡ End
start_end i p d a items.StartItems.begin = refl

reach_end : (g : PlainGrammar) (i : ℕ) (path : List Symbol) (p d : ℕ) (a : Look) → PathItems g i path p d a → p < length g.starts → a ≡ End
reach_end g i [] p d a r l = start_end i p d a r
reach_end g i (X ∷ path) p d a (items.Moved.moved {d = d'} c e) l = close_end g (PathItems g i path) (reach_end g i path) p d' a c l

module _ (g : PlainGrammar) (a : Automaton) (h : IsCanonical g a) where
  enough : length g.starts ≤ length a.kernels
  enough = elim (cases_lt (length a.kernels) (length g.starts)) [ inl l ↦ absurd (omega (arith, (h.starts (length a.kernels) l).0)) | inr l ↦ l ]

  starts : (i : ℕ) → i < length g.starts → kernel_at a i ≡ start_kernel i
  starts i l =
      let s = h.starts i l in
      kernel_same g (kernel_at a i) (start_kernel i) (h.each i s.0).0 (IsItemList-start g i l) (AreSameItems-trans (kernel_of a i) (StartItems i) (Holds (start_kernel i)) s.1 (AreSameItems-sym (Holds (start_kernel i)) (StartItems i) (Holds-start i)))

  at_end : (s p d : ℕ) (look : Look) → kernel_of a s p d look → p < length g.starts → look ≡ End
  at_end s p d look k l =
      let r = h.sound s (items_within a s p d (k.0, k.1, k.2, k.3)) in
      reach_end g r.start r.path p d look ((r.same p d look).0 k) l

  dot_moved : (s p d : ℕ) (look : Look) (i : ℕ) (path : List Symbol) → s < length a.kernels → length g.starts ≤ s → kernel_of a s p d look → i < length g.starts → AreSameItems (kernel_of a s) (PathItems g i path) → 0 < d
  dot_moved s p d look i [] within l k m same =
      let first = h.starts i m in
      let one = h.distinct s i within first.0 (AreSameItems-trans (kernel_of a s) (StartItems i) (kernel_of a i) same (AreSameItems-sym (kernel_of a i) (StartItems i) first.1)) in
      absurd (omega arith)
  dot_moved s p d look i (X ∷ path) within l k m same = Moved-positive_dot g (Close g (PathItems g i path)) X p d look ((same p d look).0 k)

  pub IsAutomaton-canonical : length a.kernels ≤ max_states → IsAutomaton g a
  IsAutomaton-canonical few = record {
    enough_states = enough;
    few = omega arith;
    rows = h.rows;
    each = λ s l. (h.each s l).0;
    starts = starts;
    filled = λ s l. let c = (h.each s l).1.holds.1 in omega (arith, c.1);
    at_end = at_end;
    moved = λ s p d l place.
        let within = items_within a s p d place in
        let look = Holds-core_item g (kernel_at a s) (h.each s within).0 p d place in
        let r = h.sound s within in
        dot_moved s p d look.0 r.start r.path within l look.1 r.known r.same;
    order = h.order;
    edge = h.edge;
    target = λ s X u e. let t = h.target s X u e in (
      t.0,
      record {
        known = t.1;
        core = λ p d place. let look = Holds-core_item g (kernel_at a u) (h.each u t.1).0 p d place in (look.0, (t.2 p d look.0).0 look.1);
        looks = λ p d look m. (t.2 p d look).1 m;
      },
    );
  }

  -- The path leads to the items of the kernel, which is a state.
  abbrev IsLed : StartPath → Kernel → Type 0
  IsLed w k = Contains a.kernels k × AreSameItems (Holds k) (items_of_path g w)

  -- Each of the paths leads to a state.
  led : (paths : List StartPath) → AllByRecursion (ReachesItems g) paths → (ks : List Kernel) × AllZip IsLed paths ks
  led [] w = ([], tt)
  led (v ∷ paths) w =
      let s = h.complete v.start v.path w.0.known w.0.has_item in
      let rest = led paths w.1 in
      (kernel_at a s.0 ∷ rest.0, ((contains_at a.kernels s.0 (kernel_at a s.0) (slice_get-kernel_at a s.0 s.1), s.2), rest.1))

  -- No more item sets are reached than the canonical automaton has states.
  pub canonical_within_limit : (limit : ℕ) → length a.kernels ≤ limit → CanonicalExceeds g limit → ⊥
  canonical_within_limit limit few o =
      let r = led o.paths (recursion_from_All (ReachesItems g) o.paths o.each) in
      let apart : AreDistinct r.0 = record {
        same = λ i j k e f.
            let v = zip_right IsLed o.paths r.0 r.1 i k e in
            let w = zip_right IsLed o.paths r.0 r.1 j k f in
            let one : IsLed v.0 k = v.2 in
            let two : IsLed w.0 k = w.2 in
            o.distinct i j v.0 w.0 v.1 w.1 (AreSameItems-trans (items_of_path g v.0) (Holds k) (items_of_path g w.0) (AreSameItems-sym (Holds k) (items_of_path g v.0) one.1) two.1);
      } in
      let le = length-distinct_in a.kernels r.0 apart (λ k c. let i = at_contains r.0 k c in let v = zip_right IsLed o.paths r.0 r.1 i.0 k i.1 in let one : IsLed v.0 k = v.2 in one.0) in
      omega (arith, o.exceeds, zip_length IsLed o.paths r.0 r.1)
