use Rattle.std.proofs.Common.{refl, ap, ◌++◌, ◌∷◌, [], ◌∙◌}
use Rattle.std.specs.Global.{Vec}
use Rattle.std.proofs.Common.{ℕ}
use Rattle.mh_facts.proofs.QueueRows.{adds_to_row}
use Rattle.mh_reach_rests.proofs.FiledEdges.{files_one}
use Rattle.mh_reach_rests.proofs.sources.file_edge.Goals as goal

pub returns : goal.returns
returns c = files_one c.args.edge c.args.state c.args.rows.now.items _ (adds_to_row c.args.rows.now.items _ c.args.edge.target _ c.push.new.self c.requires refl c.args.state (c.in_ok-push.ensures.items ∙ ap (λ (v : Vec ℕ). v.items ++ c.args.state ∷ []) c.index_mut.ensures.value))
