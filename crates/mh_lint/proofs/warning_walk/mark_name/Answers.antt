use Rattle.std.proofs.Common.{◌≡◌, false, true, refl, sym, ◌∙◌}
use Rattle.std.specs.HashSet.{contains}
use Rattle.mh_join_names.specs.Names.{same}
use Rattle.mh_lint_states.proofs.MarkedFlags.{marks_none, marks_one}
use Rattle.mh_lint.proofs.warning_walk.mark_name.Goals as goal

pub returns-then-contains : goal.returns-then-contains
returns-then-contains c = marks_one (λ z. (z ≡ c.args.token) × (contains same c.args.names.now c.args.name.now ≡ true)) c.args.used.now c.args.token c.requires (refl, sym c.contains.ensures ∙ c.if-contains.true) (λ z h. h.0)

pub returns-else-contains : goal.returns-else-contains
returns-else-contains c = marks_none (λ z. (z ≡ c.args.token) × (contains same c.args.names.now c.args.name.now ≡ true)) c.args.used.now (λ z h. (let bad : false ≡ true = sym c.if-contains.false ∙ c.contains.ensures ∙ h.1 in cc))
