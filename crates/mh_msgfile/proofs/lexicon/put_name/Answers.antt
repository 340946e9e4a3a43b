use Rattle.std.proofs.Common.{◌∙◌, sym}
use Rattle.mh_msgfile.proofs.AreNumbers.{name_put, copied_none}
use Rattle.mh_msgfile.proofs.lexicon.put_name.Goals as goal

pub returns : goal.returns
returns c =
    let none = sym c.get.ensures.value ∙ copied_none c.get.result (sym c.is_some.ensures ∙ c.if-is_some.false) in
    name_put c.args.numbers.now c.insert.new.self c.args.name.now c.in_ok-key.key c.args.number c.in_ok-insert.ensures.updates c.in_ok-key.ensures.items none
