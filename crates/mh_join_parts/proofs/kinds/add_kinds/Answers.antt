use Rattle.std.proofs.Common.{◌∷◌, []}
use Rattle.std.specs.List.{flat_map}
use Rattle.mh_rules.specs.declared.modules.TokenDecl.{TokenDecl}
use Rattle.mh_rules.specs.declared.modules.Rule.{Rule}
use Rattle.mh_join_names.specs.declared.kinds.NameKind.TheVariants as kinds
use Rattle.mh_join_names.proofs.Lists.{InsertsNew-append}
use Rattle.mh_join_parts.proofs.kinds.add_kinds.Goals as goal

pub returns : goal.returns
returns c = InsertsNew-append c.args.kinds.now c.add_token_kinds.new.kinds c.add_rule_kinds.new.kinds (flat_map (λ (t : TokenDecl). (t.name, kinds.Token) ∷ []) c.args.file.now.tokens) (flat_map (λ (r : Rule). (r.name, kinds.Rule) ∷ []) c.args.file.now.rules)
    (rw c.as_slice.ensures at c.in_ok-add_token_kinds.ensures) (rw c.as_slice-2.ensures at c.in_ok-add_rule_kinds.ensures)
