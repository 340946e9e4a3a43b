-- Lines for one more item.
use Rattle.std.proofs.Common.{◌≡◌, List, [], ◌∷◌, ◌++◌, refl, sym, ap, ◌∙◌, append_assoc}
use Rattle.std.proofs.lemmas.List.{append-nil}
use Rattle.mh_lint_findings.specs.Lines.{Line}
use Rattle.mh_lint_findings.specs.LinesInOrder.{AreInOrder}
use Rattle.mh_lint_findings.specs.LinesInOrder as order

module _ {A : Type 0} (Of : A → List Line → Type 0) where
  -- The lines of a list, and then those of one more item.
  pub in_order_more : (xs : List A) (x : A) (lines more : List Line) → AreInOrder Of xs lines → Of x more → AreInOrder Of (xs ++ x ∷ []) (lines ++ more)
  in_order_more [] x lines more order.AreInOrder.none o = order.AreInOrder.more o order.AreInOrder.none (sym (append-nil more))
  in_order_more (y ∷ ys) x lines more (order.AreInOrder.more {lines = first} {rest = rest} is others e) o =
      order.AreInOrder.more is (in_order_more ys x rest more others o) (ap (λ l. l ++ more) e ∙ append_assoc first rest more)

module _ {A : Type 0} (Of : A → List Line → Type 0) (once : (x : A) (lines more : List Line) → Of x lines → Of x more → lines ≡ more) where
  -- If each item has one list of lines, then so has a list of items.
  pub in_order_once : (xs : List A) (lines more : List Line) → AreInOrder Of xs lines → AreInOrder Of xs more → lines ≡ more
  in_order_once [] lines more order.AreInOrder.none order.AreInOrder.none = refl
  in_order_once (x ∷ xs) lines more (order.AreInOrder.more {lines = first} {rest = rest} is others e) (order.AreInOrder.more {lines = other} {rest = left} so ones f) =
      let here : first ≡ other = once x first other is so in
      let there : rest ≡ left = in_order_once xs rest left others ones in
      e ∙ ap (λ l. l ++ rest) here ∙ ap (λ l. other ++ l) there ∙ sym f
