-- The lines on err for bytes that are no table file (the words are this project's own).
use Rattle.std.specs.Prelude.{◌++◌, codes, decimal}
use Rattle.mh_grammar.specs.Text.{Text}
use Rattle.mh_top_drive.specs.Text.{out_of_memory}
use Rattle.mh_tabfile_read.specs.declared.reading.TabFault.{TabFault}
use Rattle.mh_tabfile_read.specs.declared.reading.TabFault.TheVariants as tables

-- The line for a table file of another version or with a bad line. The case of lack of memory is never used.
abbrev pub table_fault_line : Text → TabFault → Text
table_fault_line name tables.Version = codes "menhir: " ++ (name ++ codes ": version\n")
table_fault_line name (tables.TabShape line) = codes "menhir: " ++ (name ++ (codes ":" ++ (decimal line ++ codes ": shape\n")))
table_fault_line name tables.Memory = out_of_memory
