use Rattle.std.proofs.Common.{◌≡◌, sym, ◌∙◌, Some, None}
use Rattle.mh_reach_classes.proofs.RowOfClasses.{class_own, class_follows}
use Rattle.mh_reach_classes.proofs.token_classes.class_for.Goals as goal

pub returns-in-Some : goal.returns-in-Some
returns-in-Some c = class_follows c.args.row.now c.args.given.now c.args.token c.args.count.now c.in-Some.class c.requires (rw c.in-Some.is at c.followed.ensures.at_representative) (λ none. (let n : c.followed.result ≡ None = c.followed.ensures.nothing none in let y : None ≡ Some c.in-Some.class = sym n ∙ c.in-Some.is in cc))

pub returns-in-None : goal.returns-in-None
returns-in-None c = class_own c.args.row.now c.args.given.now c.args.token c.args.count.now c.next_place.new.count c.next_place.result c.next_place.ensures.grows c.next_place.ensures.within
