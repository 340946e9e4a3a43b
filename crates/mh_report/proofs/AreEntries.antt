-- The text of the entries of rows is unique, and the texts of two lists of rows make the text of both.
use Rattle.std.proofs.Common.{◌≡◌, Bool, List, [], ◌∷◌, ◌++◌, sym, ◌∙◌, ap, ap₂, subst, append_assoc}
use Rattle.mh_grammar.specs.declared.types.Grammar.{Grammar}
use Rattle.mh_items_kernels.specs.KernelTypes.{Automaton}
use Rattle.mh_tables_core.specs.Table.{TableData}
use Rattle.mh_tables_core.specs.Failing.{CatalogueRow}
use Rattle.mh_report.specs.CatalogueTexts.{AreEntries}
use Rattle.mh_report.proofs.OneCommentText.{entry_once}
use Rattle.mh_grammar.specs.Text.{Text}

module _ (expected : Bool) (g : Grammar) (a : Automaton) (t : TableData) where
  pub entries_once : (rows : List CatalogueRow) (x y : Text) → AreEntries expected g a t rows x → AreEntries expected g a t rows y → x ≡ y
  entries_once [] x y p q = p ∙ sym q
  entries_once (row ∷ rows) x y p q =
      let first = entry_once g a t expected row.start row.sentence p.0 q.0 p.2 q.2 in
      let rest = entries_once rows p.1 q.1 p.3 q.3 in
      p.4 ∙ ap₂ (λ (u v : Text). u ++ v) first rest ∙ sym q.4

  pub entries_append : (rows more : List CatalogueRow) (x y : Text) → AreEntries expected g a t rows x → AreEntries expected g a t more y → AreEntries expected g a t (rows ++ more) (x ++ y)
  entries_append [] more x y none are = subst (λ (l : Text). AreEntries expected g a t more (l ++ y)) (sym none) are
  entries_append (row ∷ rows) more x y (first, rest, is, later, split) are =
      (first, rest ++ y, is, entries_append rows more rest y later are, ap (λ (l : Text). l ++ y) split ∙ append_assoc first rest y)
