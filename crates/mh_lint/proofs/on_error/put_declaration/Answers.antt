use Rattle.std.proofs.Common.{◌≡◌, ◌↔◌, ◌⊎◌, subst}
use Rattle.std.specs.List.{Contains}
use Rattle.mh_grammar.specs.Text.{Text}
use Rattle.mh_lint.specs.code.Declarations.{declared}
use Rattle.mh_lint.proofs.UsedDeclarations.{rank_added}
use Rattle.mh_lint.proofs.on_error.put_declaration.Goals as goal

pub returns : goal.returns
returns c =
    let old = c.args.used.now.keys in
    let new = c.put_key.new.set.keys in
    let n = c.in-Some.declaration in
    rank_added c.args.nonterminal.now old new n c.in-Some.is (λ x. subst (λ (name : Text). Contains new x ↔ (Contains old x ⊎ (x ≡ declared n name))) c.in_ok-clone.ensures.cases (c.in_ok-put_key.ensures.keys x))
