use Rattle.std.proofs.Common.{sym}
use Rattle.mh_join_names.proofs.IsPositionMap.{placed_has}
use Rattle.mh_join_names.proofs.name_list.NameList.contains.Goals as goal

pub returns : goal.returns
returns c = sym (placed_has c.self.inside.names.items c.self.inside.places c.args.self.now c.args.name.now c.contains_key.result c.self.view_is c.self.invariant c.contains_key.ensures)
