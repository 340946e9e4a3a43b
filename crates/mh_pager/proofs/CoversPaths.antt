-- Proves that each path of the canonical collection is a path of the automaton, to a state that contains the
-- collection's items.
use Rattle.std.proofs.Common.{[], ◌∷◌, refl, arith}
use Rattle.mh_grammar.specs.Plain.{PlainGrammar}
use Rattle.mh_grammar.specs.ItemSets.{Close, PathItems}
use Rattle.mh_items_kernels.specs.KernelTypes.{Automaton}
use Rattle.mh_items_kernels.specs.Automaton.{kernel_of, move_of, IsAutomaton}
use Rattle.mh_canon.proofs.ItemSets.{moved_within, Close-monotone, HasItem-path, Holds-start}
use Rattle.mh_pager.specs.WeakCompatibility.{Covers}
use Rattle.mh_pager.specs.CoversPaths.{CoversPaths}

module _ (g : PlainGrammar) (a : Automaton) (is : IsAutomaton g a) where
  pub covers_paths : CoversPaths g a
  covers_paths i [] l h = (i, omega (arith, is.enough_states), refl, rw (is.starts i l) (λ p d look s. (Holds-start i p d look).1 s))
  covers_paths i (X ∷ path) l h =
      let before = covers_paths i path l (HasItem-path g i X path h) in
      let within : Covers (move_of g a before.0 X) (PathItems g i (X ∷ path)) = moved_within g (Close g (PathItems g i path)) (Close g (kernel_of a before.0)) X (Close-monotone g (PathItems g i path) (kernel_of a before.0) before.3) in
      let u = is.edge before.0 X before.1 (record { production = h.production; dot = h.dot; look = h.look; moves = within h.production h.dot h.look h.holds }) in
      let to = (is.target before.0 X u.0 u.1).1 in
      (u.0, to.known, (before.0, before.2, u.1), λ p d look r. to.looks p d look (within p d look r))
