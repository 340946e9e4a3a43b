use Rattle.std.proofs.Common.{◌≡◌, None, Some, ap, sym, ◌∙◌}
use Rattle.std.specs.HashMap.{get}
use Rattle.std.specs.Option.{option_copied}
use Rattle.std.proofs.lemmas.Option.{same_Some}
use Rattle.std.proofs.lemmas.Result.{on_ok_weaker}
use Rattle.mh_join_names.specs.Names.{name_by, same}
use Rattle.mh_lint.specs.code.LevelUses.{NoPlace}
use Rattle.mh_lint.proofs.AddsUses.{adds_none, adds_same}
use Rattle.mh_lint.proofs.levels.UsedLevels.put_reference.Goals as goal

pub returns-in-Some : goal.returns-in-Some
returns-in-Some c =
    let name = c.in-Some.name.now in
    let at : name_by (λ a. get same c.args.aliases.now a) c.args.reference.now ≡ Some name = sym c.name_by.ensures ∙ ap option_copied c.in-Some.is in
    on_ok_weaker c.put_name.result (λ g. adds_same (λ x. x ≡ name) (λ x. name_by (λ a. get same c.args.aliases.now a) c.args.reference.now ≡ Some x) NoPlace NoPlace c.args.self.now c.put_name.new.self (λ x e. at ∙ ap Some (sym e)) (λ x e. same_Some x name (sym e ∙ at)) (λ file n p. p) (λ file n p. p) g) c.put_name.ensures

pub returns-in-None : goal.returns-in-None
returns-in-None c =
    let at : name_by (λ a. get same c.args.aliases.now a) c.args.reference.now ≡ None = sym c.name_by.ensures ∙ ap option_copied c.in-None.is in
    adds_none (λ x. name_by (λ a. get same c.args.aliases.now a) c.args.reference.now ≡ Some x) NoPlace c.args.self.now (λ x e. (let bad : None ≡ Some x = sym at ∙ e in cc)) (λ file n p. p)
