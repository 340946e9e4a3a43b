use Rattle.std.proofs.Common.{ℕ, ◌↔◌, List, take, get_or, sym, subst}
use Rattle.std.specs.List.{Contains}
use Rattle.std.proofs.lemmas.List.{take_all, take_more}
use Rattle.mh_grammar.specs.declared.types.Look.{Look}
use Rattle.mh_items.specs.code.Links.{IsTokenOf}
use Rattle.mh_items.proofs.AreFirsts.{token_step}
use Rattle.mh_items.proofs.gathering.set_of.Goals as goal

pub loop-token-preserved : goal.loop-token-preserved
loop-token-preserved _ c =
    let xs = c.args.tokens.now in
    let i = c.loop-token.token-index in
    let t = get_or xs i 0 in
    let more = take_more xs i 0 c.loop-token-test.true in
    let P : List ℕ → Type 0 = λ ys. (b : Look) → Contains c.insert.new.self b ↔ IsTokenOf ys b in
    subst P (sym more) (token_step (take i xs) t c.loop-token.set c.insert.new.self c.loop-token.invariant c.insert.ensures.members)

pub returns : goal.returns
returns _ c = let P : List ℕ → Type 0 = λ ys. (b : Look) → Contains c.loop-token.set b ↔ IsTokenOf ys b in subst P (take_all c.loop-token.token-index c.args.tokens.now c.loop-token-test.false) c.loop-token.invariant
