use Rattle.std.proofs.Common.{◌<◌, ◌^◌, ℕ, List, Option, length, refl, subst, sym, arith, rules}
use Rattle.std.specs.List.{All}
use Rattle.mh_grammar.specs.Plain.{PlainGrammar}
use Rattle.mh_run.specs.Trace.{TraceOf}
use Rattle.mh_run.specs.Verdicts.{ending_for}
use Rattle.mh_rebase.specs.code.Reasons.{IsStateToKeep, IsReasonOfVerdict}
use Rattle.mh_rebase.specs.code.Parts.{WritesKeptSentence}
use Rattle.mh_rebase.proofs.DecidesLine.{Traced, state_below, state_fails, adds_kept, adds_dropped}
use Rattle.mh_rebase.proofs.entries.add_sentence.Goals as goal

pub trace-requires : goal.trace-requires
trace-requires g c = record {
  start = subst (λ (h : PlainGrammar). c.args.sentence.now.start < length h.starts) (sym c.args.to.now.same) c.requires.start;
  tokens = subst (λ (ts : List ℕ). All (λ z. z < c.args.to.now.table.now.grammar.tokens) ts) (sym c.as_slice.ensures)
      (subst (λ (h : PlainGrammar). All (λ z. z < h.tokens) c.args.sentence.now.tokens) (sym c.args.to.now.same) c.requires.tokens);
  few = subst (λ (ts : List ℕ). length ts < 2 ^ 32) (sym c.as_slice.ensures) c.requires.few;
}

pub write_kept-requires : goal.write_kept-requires
write_kept-requires g c =
    let to = c.args.to.now in
    let x = c.args.sentence.now in
    let run : Traced to.grammar.now to.table.now x c.in_ok-verdict.verdict c.in_ok-verdict.reduced.items = record {
      start = c.requires.start;
      tokens = c.requires.tokens;
      traced = subst (λ (ts : List ℕ). TraceOf to.table.now x.start ts (ending_for c.in_ok-verdict.verdict) c.in_ok-verdict.reduced.items) c.as_slice.ensures c.in_ok-verdict.ensures;
    } in
    let old = c.args.parts.now in
    let verdict = c.in_ok-verdict.verdict in
    let keep : IsStateToKeep verdict (length x.tokens) old.kept_lines.items c.in-Ok.state =
    subst (λ (n : ℕ). IsStateToKeep verdict n old.kept_lines.items c.in-Ok.state) c.len-tokens.ensures (subst (λ (kept : List (Option ℕ)). IsStateToKeep verdict c.len-tokens.result kept c.in-Ok.state) c.as_slice-2.ensures.value c.in-Ok.ensures) in
    let facts = c.table-facts.ensures.facts.facts in (
      search rules,
      (
        c.requires.fits,
        (
          state_below to.expected to.grammar.now to.automaton.now to.table.now facts to.same x verdict c.in_ok-verdict.reduced.items run _ _ c.in-Ok.state keep,
          (state_fails to.expected to.grammar.now to.automaton.now to.table.now facts to.same x verdict c.in_ok-verdict.reduced.items run _ c.in-Ok.state keep, c.requires.few),
        ),
      ),
    )

pub index_mut-requires : goal.index_mut-requires
index_mut-requires g c =
    let to = c.args.to.now in
    let x = c.args.sentence.now in
    let run : Traced to.grammar.now to.table.now x c.in_ok-verdict.verdict c.in_ok-verdict.reduced.items = record {
      start = c.requires.start;
      tokens = c.requires.tokens;
      traced = subst (λ (ts : List ℕ). TraceOf to.table.now x.start ts (ending_for c.in_ok-verdict.verdict) c.in_ok-verdict.reduced.items) c.as_slice.ensures c.in_ok-verdict.ensures;
    } in
    let below : c.in-Ok.state < length to.table.now.states =
    state_below to.expected to.grammar.now to.automaton.now to.table.now c.table-facts.ensures.facts.facts to.same x c.in_ok-verdict.verdict c.in_ok-verdict.reduced.items run _ _ c.in-Ok.state c.in-Ok.ensures in
    omega (arith, below, c.requires.size)

pub returns-in-Ok-clause-line : goal.returns-in-Ok-clause-line
returns-in-Ok-clause-line g c =
    let to = c.args.to.now in
    let x = c.args.sentence.now in
    let old = c.args.parts.now in
    let verdict = c.in_ok-verdict.verdict in
    let reduced = c.in_ok-verdict.reduced.items in
    let state = c.in-Ok.state in
    let run : Traced to.grammar.now to.table.now x verdict reduced = record {
      start = c.requires.start;
      tokens = c.requires.tokens;
      traced = subst (λ (ts : List ℕ). TraceOf to.table.now x.start ts (ending_for verdict) reduced) c.as_slice.ensures c.in_ok-verdict.ensures;
    } in
    let keep : IsStateToKeep verdict (length x.tokens) old.kept_lines.items state =
    subst (λ (n : ℕ). IsStateToKeep verdict n old.kept_lines.items state) c.len-tokens.ensures (subst (λ (kept : List (Option ℕ)). IsStateToKeep verdict c.len-tokens.result kept state) c.as_slice-2.ensures.value c.in-Ok.ensures) in
    let below : state < length to.table.now.states = state_below to.expected to.grammar.now to.automaton.now to.table.now c.table-facts.ensures.facts.facts to.same x verdict reduced run _ _ state keep in
    adds_kept to.expected to.grammar.now to.automaton.now to.table.now c.table-facts.ensures.facts.facts to.same x verdict reduced run c.args.line state old _ keep (omega (arith, below, c.requires.size))
    (subst (λ (ps : List ℕ). WritesKeptSentence to.expected to.grammar.now to.automaton.now to.table.now x state ps old.kept.items c.write_kept.new.text.items) c.as_slice-in-Ok.ensures.value c.in_ok-write_kept-in-Ok.ensures) refl (search rules)

pub returns-clause-line : goal.returns-clause-line
returns-clause-line g c =
    let to = c.args.to.now in
    let x = c.args.sentence.now in
    let old = c.args.parts.now in
    let verdict = c.in_ok-verdict.verdict in
    let reduced = c.in_ok-verdict.reduced.items in
    let reason = c.in-Err.reason in
    let run : Traced to.grammar.now to.table.now x verdict reduced = record {
      start = c.requires.start;
      tokens = c.requires.tokens;
      traced = subst (λ (ts : List ℕ). TraceOf to.table.now x.start ts (ending_for verdict) reduced) c.as_slice.ensures c.in_ok-verdict.ensures;
    } in
    adds_dropped to.expected to.grammar.now to.automaton.now to.table.now c.table-facts.ensures.facts.facts to.same x verdict reduced run c.args.line reason old _
    (subst (λ (n : ℕ). IsReasonOfVerdict verdict n old.kept_lines.items reason) c.len-tokens.ensures (subst (λ (kept : List (Option ℕ)). IsReasonOfVerdict verdict c.len-tokens.result kept reason) c.as_slice-2.ensures.value c.in-Err.ensures)) refl refl
    c.in_ok-write_dropped-in-Err.ensures
