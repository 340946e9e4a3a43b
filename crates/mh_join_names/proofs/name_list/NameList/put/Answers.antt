use Rattle.std.proofs.Common.{◌≡◌, ◌∷◌, ◌++◌, [], List, true, false, sym, ap, subst, ◌∙◌}
use Rattle.std.specs.Prelude.{OnOk}
use Rattle.mh_grammar.specs.Text.{Text}
use Rattle.mh_join_names.specs.code.KeyLists.{KeyList}
use Rattle.mh_join_names.proofs.IsPositionMap.{placed_has, puts_name}
use Rattle.mh_join_names.proofs.name_list.NameList.put.Goals as goal

pub returns-then-contains_key : goal.returns-then-contains_key
returns-then-contains_key c =
    sym (puts_name c.args.self.now.keys c.args.name.now true (placed_has c.self.inside.names.items c.self.inside.places c.args.self.now c.args.name.now c.contains_key.result c.self.view_is c.self.invariant c.contains_key.ensures ∙ c.if-contains_key.true))

pub returns : goal.returns
returns c =
    let lacks = placed_has c.self.inside.names.items c.self.inside.places c.args.self.now c.args.name.now c.contains_key.result c.self.view_is c.self.invariant c.contains_key.ensures ∙ c.if-contains_key.false in
    subst (λ (k : List Text). OnOk c.put_new.result (c.put_new.new.names.items ≡ k))
    (ap (λ (l : KeyList). l.keys ++ c.args.name.now ∷ []) c.self.view_is ∙ sym (puts_name c.args.self.now.keys c.args.name.now false lacks)) c.put_new.ensures.names
