use Rattle.std.proofs.Common.{◌≡◌, Some}
use Rattle.std.specs.HashMap.{get}
use Rattle.std.proofs.lemmas.Result.{on_ok_weaker}
use Rattle.mh_grammar.specs.Text.{Text}
use Rattle.mh_join_names.specs.Names.{name_by, same}
use Rattle.mh_lint.specs.code.LevelUses.{NoPlace}
use Rattle.mh_lint.proofs.AddsUses.{adds_none, adds_same}
use Rattle.mh_lint.proofs.UsedPrecNames.{IsNamed}
use Rattle.mh_lint.proofs.levels.UsedLevels.put_prec.Goals as goal

pub returns-then-not-has_prec : goal.returns-then-not-has_prec
returns-then-not-has_prec c = adds_none (IsNamed (λ a. get same c.args.aliases.now a) c.args.file c.args.self.now.alternatives.keys c.args.own.now.keys c.args.mention.now) NoPlace c.args.self.now (λ x h. (let used = c.has_prec.ensures.1 h.0 in let not = c.if-not-has_prec.true in absurd cc)) (λ file n p. p)

pub returns : goal.returns
returns c =
    let aliased = λ (a : Text). get same c.args.aliases.now a in
    let used = c.has_prec.ensures.0 c.if-not-has_prec.false in
    on_ok_weaker c.put_reference.result (λ g. adds_same (λ x. name_by aliased c.args.mention.now.name ≡ Some x) (IsNamed aliased c.args.file c.args.self.now.alternatives.keys c.args.own.now.keys c.args.mention.now) NoPlace NoPlace c.args.self.now c.put_reference.new.self (λ x e. (used, e)) (λ x h. h.1) (λ file n p. p) (λ file n p. p) g) c.put_reference.ensures
