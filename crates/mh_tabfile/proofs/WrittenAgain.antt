-- Proves that a valid file names one automaton with one table.
use Rattle.std.proofs.Common.{◌≡◌, subst}
use Rattle.mh_grammar.specs.declared.types.Grammar.{Grammar}
use Rattle.mh_items_kernels.specs.KernelTypes.{Automaton}
use Rattle.mh_tables_core.specs.Table.{TableData}
use Rattle.mh_resolve_cells.specs.declared.kinds.Mode.{Mode}
use Rattle.mh_resolve_cells.specs.States.{IsTableOf}
use Rattle.mh_resolve_cells.proofs.OneResolution.{one_table}
use Rattle.mh_tabfile_form.specs.declared.types.RawTable.{RawTable}
use Rattle.mh_validate_valid.specs.Valid.{IsValidFor, AreTokenNamesDistinct}
use Rattle.mh_validate_valid.proofs.ValidityUnique.{automaton_is_one}

pub one_content : (g : Grammar) → AreTokenNamesDistinct g → (raw : RawTable) (mode : Mode) (a b : Automaton) (t u : TableData) → IsValidFor g raw a t.states → IsTableOf g a mode t → IsValidFor g raw b u.states → IsTableOf g b mode u → (b ≡ a) × (u ≡ t)
one_content g distinct raw mode a b t u v of_a w of_b =
    let same : b ≡ a = automaton_is_one g distinct raw b a u.states t.states w v in
    (same, one_table g a mode u t (subst (λ (k : Automaton). IsTableOf g k mode u) same of_b) of_a)
