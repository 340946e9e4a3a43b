-- The result of the stages between the grammar and the warnings is unique over known files.
use Rattle.std.proofs.Common.{◌≡◌, ◌≤◌, ℕ, Bool, List, Option, None, Some, refl, sym, ◌∙◌, ap, subst, arith}
use Rattle.mh_grammar.specs.declared.types.Grammar.{Grammar}
use Rattle.mh_grammar.specs.Plain.{plain_of}
use Rattle.mh_items_kernels.specs.KernelTypes.{Automaton}
use Rattle.mh_canon.proofs.OneCanonical.{canonical_unique}
use Rattle.mh_pager.proofs.OneMerged.{merged_one}
use Rattle.mh_resolve_cells.proofs.OneResolution.{one_table, conflicts_once}
use Rattle.mh_resolve_cells.specs.declared.kinds.Mode.{Mode}
use Rattle.mh_tables_core.specs.Table.{TableData}
use Rattle.mh_tables_core.specs.Halting.{AlwaysHalts, IsFirstLoop}
use Rattle.mh_tables_core.proofs.OneLoop.{loop_unique}
use Rattle.mh_outside.specs.Shelf.{Files}
use Rattle.mh_msgfile.specs.Sentences.{token_names}
use Rattle.mh_grammar.specs.Text.{Text}
use Rattle.mh_top_drive.specs.StageResults.{Go, Halt, Gives}
use Rattle.mh_top_drive.specs.declared.stop.Cause.{Cause}
use Rattle.mh_top_drive.specs.declared.stop.Cause.TheVariants.{Refused}
use Rattle.mh_top_drive.proofs.Then.{IsOne, then_once}
use Rattle.mh_top_drive.specs.FileContents.{IsFileContent, IsLoaded}
use Rattle.mh_top_drive.proofs.LoadedUnique.{gives_once, loaded_once}
use Rattle.mh_top_drive.specs.declared.front.OrderAndGrammar.{OrderAndGrammar}
use Rattle.mh_tables_core.specs.declared.parts.StateParts.{StateParts}
use Rattle.mh_tabfile_form.specs.declared.types.RawTable.{RawTable}
use Rattle.mh_tabfile_read.specs.declared.reading.TabFault.{TabFault}
use Rattle.mh_tabfile_read.specs.declared.reading.TabFault.TheVariants.{Version, TabShape, Memory}
use Rattle.mh_tabfile_form.specs.Form.{IsFileOf}
use Rattle.mh_tabfile_read.proofs.BadLineUnique.{one_bad_line}
use Rattle.mh_tabfile_read.proofs.ReadingUnique.{no_bad, no_other, same_table}
use Rattle.mh_validate_valid.specs.declared.reason.Reason.{Reason}
use Rattle.mh_validate_valid.specs.Valid.{AreTokenNamesDistinct, IsValidFor}
use Rattle.mh_validate_valid.proofs.ValidFailsNone.{valid_not_invalid}
use Rattle.mh_validate_valid.proofs.ValidityUnique.{automaton_is_one, test_is_one}
use Rattle.mh_top_drive.specs.Shapes.{TabledAutomaton}
use Rattle.mh_top_prepare.specs.TableTexts.{invalid_line}
use Rattle.mh_top_prepare.specs.Loops.{loops_line}
use Rattle.mh_top_prepare.specs.InvalidTableFile.{IsInvalidTableFile}
use Rattle.mh_top_prepare.specs.ResolvedStage.{IsTabledAutomaton, IsResolvedStage, HasFirstLoop}
use Rattle.mh_top_prepare.specs.TableStage.{IsAutomatonStage, IsTableStage, mode_of}
use Rattle.mh_top_prepare.specs.TableFileTexts.{table_fault_line}
use Rattle.mh_top_prepare.specs.TableFileContent.{HasTableFault, IsTableFile}
use Rattle.mh_top_prepare.specs.AutomatonSources.{IsAutomatonSource, IsAutomatonSourceBy, source_to_build}
use Rattle.mh_top_prepare.specs.PreparedStage.{IsPreparedFromSource, IsPreparedFromFiles}
use Rattle.mh_top_prepare.specs.declared.sources.AutomatonSource.{AutomatonSource}
use Rattle.mh_top_prepare.specs.declared.sources.AutomatonSource.TheVariants.{Canonical, Merged, File}

-- ---- The table file.

-- Bytes that are a table file have no fault.
formed : (name bytes : Text) (raw : RawTable) (fault : TabFault) → IsFileOf bytes raw → HasTableFault bytes fault → ⊥
formed name bytes raw Version is has = no_other bytes raw is has
formed name bytes raw (TabShape line) is has = no_bad bytes raw line is has.1
formed name bytes raw Memory is has = has

table_fault_once : (bytes : Text) (f g : TabFault) → HasTableFault bytes f → HasTableFault bytes g → f ≡ g
table_fault_once bytes Version Version p q = refl
table_fault_once bytes Version (TabShape line) p q = absurd (q.0 p)
table_fault_once bytes (TabShape line) Version p q = absurd (p.0 q)
table_fault_once bytes (TabShape line) (TabShape other) p q = ap (λ (n : ℕ). TabShape n) (one_bad_line bytes line other p.1 q.1)
table_fault_once bytes Memory g p q = absurd p
table_fault_once bytes Version Memory p q = absurd q
table_fault_once bytes (TabShape line) Memory p q = absurd q

table_file_once : (name bytes : Text) → IsOne (IsTableFile name bytes)
table_file_once name bytes (Go raw) (Go other) p q = ap Go (same_table bytes raw other p q)
table_file_once name bytes (Go raw) (Halt cause) p q = absurd (formed name bytes raw q.fault p q.has_fault)
table_file_once name bytes (Halt cause) (Go raw) p q = absurd (formed name bytes raw p.fault q p.has_fault)
table_file_once name bytes (Halt cause) (Halt cause') p q =
    ap Halt (p.cause_is ∙ ap (λ (f : TabFault). Refused (table_fault_line name f)) (table_fault_once bytes p.fault q.fault p.has_fault q.has_fault) ∙ sym q.cause_is)

-- ---- The source of the automaton and the table are determined.

source_once : (files : Files) (tables : Option Text) (canonical : Bool) → IsOne (IsAutomatonSourceBy tables canonical (Some files))
source_once files None canonical = gives_once (source_to_build canonical)
source_once files (Some name) canonical =
    then_once (IsFileContent (Some files) IsTableFile name) (λ raw. Gives (File name raw))
    (then_once (IsLoaded (Some files) name) (IsTableFile name) (loaded_once files name) (table_file_once name)) (λ raw. gives_once (File name raw))

module _ (g : Grammar) (n : AreTokenNamesDistinct g) (name : Text) (raw : RawTable) where
  -- The refusal of a table file that is not valid is unique.
  invalid_once : (c d : Cause) → IsInvalidTableFile name g raw c → IsInvalidTableFile name g raw d → c ≡ d
  invalid_once c d p q =
      let one = test_is_one g n raw p.state q.state p.reason q.reason p.first q.first in
      p.cause_is ∙ ap (λ (s : Option ℕ). Refused (invalid_line name s p.reason)) one.0 ∙ ap (λ (r : Reason). Refused (invalid_line name q.state r)) one.1 ∙ sym q.cause_is

  valid_not : (a : Automaton) (parts : List StateParts) (cause : Cause) → IsValidFor g raw a parts → IsInvalidTableFile name g raw cause → ⊥
  valid_not a parts cause valid is = valid_not_invalid g n raw is.state is.reason (a, parts, valid) is.first

automaton_once : (source : AutomatonSource) (g : Grammar) → AreTokenNamesDistinct g → IsOne (IsAutomatonStage source g)
automaton_once Merged g n (Go a) (Go c) p q = ap Go (merged_one (plain_of g) a c p.1 q.1)
automaton_once Merged g n (Go a) (Halt cause) p q = absurd (p.0 q.0)
automaton_once Merged g n (Halt cause) (Go a) p q = absurd (q.0 p.0)
automaton_once Merged g n (Halt cause) (Halt cause') p q = ap Halt (p.1 ∙ sym q.1)
automaton_once Canonical g n (Go a) (Go c) p q = ap Go (canonical_unique (plain_of g) a c p.1 q.1)
automaton_once Canonical g n (Go a) (Halt cause) p q = absurd (p.0 q.0)
automaton_once Canonical g n (Halt cause) (Go a) p q = absurd (q.0 p.0)
automaton_once Canonical g n (Halt cause) (Halt cause') p q = ap Halt (p.1 ∙ sym q.1)
automaton_once (File name raw) g n (Go a) (Go c) p q = ap Go (automaton_is_one g n raw a c p.0 q.0 p.1 q.1)
automaton_once (File name raw) g n (Go a) (Halt cause) p q = absurd (valid_not g n name raw a p.0 cause p.1 q)
automaton_once (File name raw) g n (Halt cause) (Go a) p q = absurd (valid_not g n name raw a q.0 cause q.1 p)
automaton_once (File name raw) g n (Halt cause) (Halt cause') p q = ap Halt (invalid_once g n name raw cause cause' p q)

-- A table on which every run ends has no relative run that makes too many reductions.
no_loop : (t : TableData) (below : Option ℕ) (s : ℕ) (look : Option ℕ) → AlwaysHalts t → IsFirstLoop t below s look → ⊥
no_loop t below s look halts loops = let le : 10001 ≤ 10000 = halts below s look 10001 loops.begins loops.known loops.loops in omega arith

loops_not : (mode : Mode) (g : Grammar) (a : Automaton) (x : TabledAutomaton) (cause : Cause) → IsTabledAutomaton mode g a x → HasFirstLoop mode g a cause → ⊥
loops_not mode g a x cause is first =
    let same : first.found ≡ x.halting = one_table g a mode first.found x.halting first.table is.table in
    no_loop x.halting first.below first.state first.look is.halts (subst (λ (t : TableData). IsFirstLoop t first.below first.state first.look) same first.loops)

loop_once : (mode : Mode) (g : Grammar) (a : Automaton) (c d : Cause) → HasFirstLoop mode g a c → HasFirstLoop mode g a d → c ≡ d
loop_once mode g a c d p q =
    let same : q.found ≡ p.found = one_table g a mode q.found p.found q.table p.table in
    let one = loop_unique p.found p.below p.state p.look q.below q.state q.look p.loops (subst (λ (x : TableData). IsFirstLoop x q.below q.state q.look) same q.loops) in
    p.cause_is ∙ ap (λ (r : Option ℕ). Refused (loops_line (token_names g) r p.state p.look)) one.0 ∙ ap (λ (s : ℕ). Refused (loops_line (token_names g) q.below s p.look)) one.1
    ∙ ap (λ (z : Option ℕ). Refused (loops_line (token_names g) q.below q.state z)) one.2 ∙ sym q.cause_is

tabled_once : (mode : Mode) (g : Grammar) (a : Automaton) (x y : TabledAutomaton) → IsTabledAutomaton mode g a x → IsTabledAutomaton mode g a y → x ≡ y
tabled_once mode g a x y p q =
    let automaton : x.automaton ≡ y.automaton = p.automaton ∙ sym q.automaton in
    let halting : x.halting ≡ y.halting = one_table g a mode x.halting y.halting p.table q.table in
    let conflicts : x.conflicts ≡ y.conflicts = conflicts_once g a x.conflicts y.conflicts p.conflicts q.conflicts in
    let modes : x.mode ≡ y.mode = p.resolved_in ∙ sym q.resolved_in in
    λ i. record { automaton = automaton i; halting = halting i; conflicts = conflicts i; mode = modes i }

resolved_once : (mode : Mode) (g : Grammar) (a : Automaton) → IsOne (IsResolvedStage mode g a)
resolved_once mode g a (Go x) (Go y) p q = ap Go (tabled_once mode g a x y p q)
resolved_once mode g a (Go x) (Halt cause) p q = absurd (loops_not mode g a x cause p q)
resolved_once mode g a (Halt cause) (Go y) p q = absurd (loops_not mode g a y cause q p)
resolved_once mode g a (Halt cause) (Halt cause') p q = ap Halt (loop_once mode g a cause cause' p q)

table_once : (source : AutomatonSource) (g : Grammar) → AreTokenNamesDistinct g → IsOne (IsTableStage source g)
table_once source g n = then_once (IsAutomatonStage source g) (IsResolvedStage (mode_of source) g) (automaton_once source g n) (resolved_once (mode_of source) g)

-- ---- The result of all stages up to the warnings is determined.

from_once : (front : OrderAndGrammar) → AreTokenNamesDistinct front.grammar → (source : AutomatonSource) → IsOne (IsPreparedFromSource front source)
from_once front n source =
    then_once (IsTableStage source front.grammar) (λ tabled. Gives (record { order = front.order; grammar = front.grammar; tabled = tabled })) (table_once source front.grammar n)
    (λ tabled. gives_once (record { order = front.order; grammar = front.grammar; tabled = tabled }))

pub tabled_front_once : (files : Files) (front : OrderAndGrammar) → AreTokenNamesDistinct front.grammar → IsOne (IsPreparedFromFiles (Some files) front)
tabled_front_once files front n = then_once (IsAutomatonSource (Some files) front.order) (IsPreparedFromSource front) (source_once files front.order.tables front.order.canonical) (from_once front n)
