-- A cursor that goes on over bytes.
use Rattle.std.proofs.Common.{◌≡◌, ◌==◌, ℕ, ◌+◌, ◌≤◌, List, ◌++◌, take, length, fold, cond, sym, ap, ◌∙◌, arith}
use Rattle.std.specs.List.{count_by}
use Rattle.std.proofs.lemmas.List.{length-append, length-take}
use Rattle.std.proofs.lemmas.List.Sums.{fold-append, sum_by-append}
use Rattle.mh_lex_bytes.specs.Lines.{line_at}
use Rattle.mh_lint_findings.specs.declared.cursor.Cursor.{Cursor}
use Rattle.mh_lint_findings.specs.Positions.{column_at, next_column}
use Rattle.mh_lint_findings.specs.code.Cursors.{IsAt}

count_append : (xs ys : List ℕ) → count_by (λ b. b == 10) (xs ++ ys) ≡ count_by (λ b. b == 10) xs + count_by (λ b. b == 10) ys
count_append xs ys = sum_by-append (λ (b : ℕ). cond (b == 10) 1 0) xs ys

module _ (bytes mid : List ℕ) (c r : Cursor) (start : ℕ) (here : IsAt bytes c) (whole : take c.at bytes ++ mid ≡ take start bytes) (within : start ≤ length bytes) where
  pub start_is : c.at + length mid ≡ start
  start_is = omega (arith, sym (length-append (take c.at bytes) mid), ap length whole, length-take c.at bytes, length-take start bytes, here.within)

  line_is : r.line ≡ c.line + count_by (λ b. b == 10) mid → r.line ≡ line_at bytes start
  line_is e = omega (arith, e, here.line, sym (count_append (take c.at bytes) mid), ap (count_by (λ b. b == 10)) whole)

  column_is : r.column ≡ fold next_column c.column mid → r.column ≡ column_at bytes start
  column_is e = e ∙ ap (λ n. fold next_column n mid) here.column ∙ sym (fold-append next_column 1 (take c.at bytes) mid) ∙ ap (fold next_column 1) whole

  pub moved : r.at ≡ c.at + length mid → r.line ≡ c.line + count_by (λ b. b == 10) mid → r.column ≡ fold next_column c.column mid → r.line ≤ c.line + length mid → r.column ≤ c.column + length mid → 1 ≤ r.column → IsAt bytes r
  moved at line column few_lines few_columns counted =
      let there : r.at ≡ start = at ∙ start_is in
      record {
        within = omega (arith, there, within);
        line = line_is line ∙ ap (line_at bytes) (sym there);
        column = column_is column ∙ ap (column_at bytes) (sym there);
        few_lines = omega (arith, few_lines, at, here.few_lines);
        few_columns = omega (arith, few_columns, at, here.few_columns);
        counted = counted;
      }
