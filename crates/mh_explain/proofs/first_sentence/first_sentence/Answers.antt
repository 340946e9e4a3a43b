use Rattle.std.proofs.Common.{◌≡◌, ◌∙◌, ap, arith, subst}
use Rattle.mh_tables_core.specs.Table.{TableData}
use Rattle.mh_explain.specs.FirstSentences.{IsShownWith}
use Rattle.mh_explain.proofs.FirstWith.{found_all, found_none, none_shown}
use Rattle.mh_explain.proofs.first_sentence.first_sentence.Goals.{then-is_shown_with+in_ok-add_token, else-is_shown_with}
use Rattle.mh_explain.proofs.first_sentence.first_sentence.Goals as goal

pub loop-token-init : goal.loop-token-init
loop-token-init c = found_none c.args.reach.now c.args.state c.args.look

pub loop-token-preserved : goal.loop-token-preserved
loop-token-preserved c =
    let same : c.table-table.result.now ≡ c.args.reach.now = c.table-table.ensures.table ∙ c.table.ensures in
    elim c.if-is_shown_with.branch [
      | then-is_shown_with+in_ok-add_token w ↦ rw w.best-is (w.in_ok-add_token.ensures c.args.look (subst (λ (t : TableData). IsShownWith t c.args.state c.args.look c.loop-token.token) same w.if-is_shown_with.ensures) c.loop-token.invariant)
      | else-is_shown_with w ↦ rw w.best-is (none_shown c.args.reach.now c.args.state c.args.look c.loop-token.token (subst (λ (t : TableData). IsShownWith t c.args.state c.args.look c.loop-token.token → ⊥) same w.if-is_shown_with.ensures) c.loop-token.best c.loop-token.invariant)
    ]

pub returns : goal.returns
returns c =
    let t = c.args.reach.now in
    let all : c.loop-token.token ≡ t.grammar.tokens = (let e = ap (λ (x : TableData). x.grammar.tokens) (c.table-table.ensures.table ∙ c.table.ensures) in omega (arith, c.loop-token-test.false, c.loop-token.auto.token-end, c.tokens-token-end.ensures, e)) in
    found_all t c.args.state c.args.look c.loop-token.token c.loop-token.best all c.loop-token.invariant
