use Rattle.std.proofs.Common.{List, ℕ, map}
use Rattle.std.specs.String.{string_bytes}
use Rattle.std.specs.declared.alloc.Global.{Global}
use Rattle.mh_top_claims.proofs.Promises.{keeps_promises}
use Rattle.mh_top.proofs.top.menhir.Goals as goal

pub returns : goal.returns
returns g c =
    let words : List (List ℕ) = map (string_bytes {Z = Global}) c.args.words.now in
    let ran = c.run.ensures.ran in
    record {
      ran = ran;
      promises = keeps_promises words _ _ _ ran;
      files = c.run.ensures.kept;
    }
