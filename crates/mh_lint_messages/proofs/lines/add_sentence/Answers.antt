use Rattle.std.proofs.Common.{◌<◌, ◌^◌, ℕ, List, Option, length, refl, subst, sym, arith, rules}
use Rattle.std.specs.List.{All}
use Rattle.std.proofs.lemmas.Result.{on_ok_weaker}
use Rattle.mh_grammar.specs.Plain.{PlainGrammar}
use Rattle.mh_tables_core.specs.Run.{VerdictOf}
use Rattle.mh_run.specs.Verdicts.{ending_for}
use Rattle.mh_rebase.specs.code.Reasons.{IsStateToKeep, IsReasonOfVerdict}
use Rattle.mh_lint_messages.proofs.DecidesLine.{Judged, state_below, adds_kept, adds_dropped}
use Rattle.mh_lint_messages.proofs.lines.add_sentence.Goals as goal

pub verdict-requires : goal.verdict-requires
verdict-requires c = record {
  start = subst (λ (h : PlainGrammar). c.args.sentence.now.start < length h.starts) (sym c.args.to.now.same) c.requires.start;
  tokens = subst (λ (ts : List ℕ). All (λ z. z < c.args.to.now.table.now.grammar.tokens) ts) (sym c.as_slice.ensures)
      (subst (λ (h : PlainGrammar). All (λ z. z < h.tokens) c.args.sentence.now.tokens) (sym c.args.to.now.same) c.requires.tokens);
  few = subst (λ (ts : List ℕ). length ts < 2 ^ 32) (sym c.as_slice.ensures) c.requires.few;
}

pub index_mut-requires : goal.index_mut-requires
index_mut-requires c =
    let to = c.args.to.now in
    let x = c.args.sentence.now in
    let verdict = c.in_ok-ending.ending in
    let run : Judged to.grammar.now to.table.now x verdict = record {
      start = c.requires.start;
      tokens = c.requires.tokens;
      ends = subst (λ (ts : List ℕ). VerdictOf to.table.now x.start ts (ending_for verdict)) c.as_slice.ensures c.in_ok-ending.ensures;
    } in
    let below : c.in-Ok.state < length to.table.now.states = state_below to.grammar.now to.table.now c.table-facts.ensures.facts.facts to.same x verdict run _ _ c.in-Ok.state c.in-Ok.ensures in
    omega (arith, below, c.requires.size)

pub returns-in-Ok-clause-line : goal.returns-in-Ok-clause-line
returns-in-Ok-clause-line c =
    let to = c.args.to.now in
    let x = c.args.sentence.now in
    let old = c.args.found.now in
    let verdict = c.in_ok-ending.ending in
    let state = c.in-Ok.state in
    let run : Judged to.grammar.now to.table.now x verdict = record {
      start = c.requires.start;
      tokens = c.requires.tokens;
      ends = subst (λ (ts : List ℕ). VerdictOf to.table.now x.start ts (ending_for verdict)) c.as_slice.ensures c.in_ok-ending.ensures;
    } in
    let keep : IsStateToKeep verdict (length x.tokens) old.kept_lines.items state =
    subst (λ (n : ℕ). IsStateToKeep verdict n old.kept_lines.items state) c.len-tokens.ensures (subst (λ (kept : List (Option ℕ)). IsStateToKeep verdict c.len-tokens.result kept state) c.as_slice-2.ensures.value c.in-Ok.ensures) in
    let below : state < length to.table.now.states = state_below to.grammar.now to.table.now c.table-facts.ensures.facts.facts to.same x verdict run _ _ state keep in
    adds_kept to.grammar.now to.table.now c.table-facts.ensures.facts.facts to.same x verdict run to.name.now c.args.line state old _ keep (omega (arith, below, c.requires.size)) refl (search rules)

pub returns-in-Err-clause-line : goal.returns-in-Err-clause-line
returns-in-Err-clause-line c =
    let to = c.args.to.now in
    let x = c.args.sentence.now in
    let old = c.args.found.now in
    let verdict = c.in_ok-ending.ending in
    let reason = c.in-Err.reason in
    let run : Judged to.grammar.now to.table.now x verdict = record {
      start = c.requires.start;
      tokens = c.requires.tokens;
      ends = subst (λ (ts : List ℕ). VerdictOf to.table.now x.start ts (ending_for verdict)) c.as_slice.ensures c.in_ok-ending.ensures;
    } in
    let why : IsReasonOfVerdict verdict (length x.tokens) old.kept_lines.items reason =
    subst (λ (n : ℕ). IsReasonOfVerdict verdict n old.kept_lines.items reason) c.len-tokens.ensures (subst (λ (kept : List (Option ℕ)). IsReasonOfVerdict verdict c.len-tokens.result kept reason) c.as_slice-2.ensures.value c.in-Err.ensures) in
    on_ok_weaker c.add_reason.result
    (λ written. adds_dropped to.grammar.now to.table.now c.table-facts.ensures.facts.facts to.same x verdict run to.name.now c.args.line reason old c.add_reason.new.found why c.add_reason.ensures.kept written) c.add_reason.ensures.text
